-- Whether a table of manifests fits a table of natives.
use Rattle.std.specs.Prelude.{◌≡◌, Bool, false, ◌&&◌, List}
use Rattle.std.specs.Bool.{beq}
use Rattle.std.specs.List.{list_all}
use Rattle.std.specs.Option.{option_map_or}
use Rattle.rhd_value.specs.Same.{types_eq}
use Rattle.rhd_func.specs.Natives.{NativeInfo, info_of}
use Rattle.rhd_manifest.specs.Entry.{Entry}
use Rattle.rhd_manifest.specs.Manifest.{ManifestLists}

-- the entry's types, and whether it is a method, are those of a native
abbrev pub native_fits : NativeInfo → Entry → Bool
native_fits n e = types_eq e.param_types n.types && beq e.is_method n.is_method

-- the native of the entry's number is held, and the entry fits it
abbrev pub entry_fits : List NativeInfo → Entry → Bool
entry_fits natives e = option_map_or (λ n. native_fits n e) (info_of natives e.func) false

abbrev pub manifest_fits : List NativeInfo → ManifestLists → Bool
manifest_fits natives m = list_all (entry_fits natives) m.entries

-- each entry of each manifest fits
abbrev pub fits : List NativeInfo → List ManifestLists → Bool
fits natives table = list_all (manifest_fits natives) table

-- one table fits exactly the natives that another one fits
abbrev pub FitsAlike : List ManifestLists → List ManifestLists → Type 0
FitsAlike old new = (natives : List NativeInfo) → fits natives new ≡ fits natives old
