-- Under which keys modules declare functions, and what a key finds in each module of a tree.
use Rattle.std.specs.Prelude.{◌≡◌, List, Option, None, ⊤}
use Rattle.std.specs.List.{AllByRecursion, IsDistinct}
use Rattle.std.specs.Map.{keys_of}
use Rattle.std.specs.Option.{option_map}
use Rattle.rhd_value.specs.Tree.{Bytes}
use Rattle.rhd_hash.specs.declared.key.Key.{Key}
use Rattle.rhd_hash.specs.declared.key.Key.TheVariants.{Script, Typed, Native}
use Rattle.rhd_hash.specs.Keys.{key_eq}
use Rattle.rhd_decl.specs.declared.declaration.Declaration.{Declaration}
use Rattle.rhd_module.specs.Tree.{ModuleTree, Lists, Subs, no_subs, sub}
use Rattle.rhd_module.specs.Shown.{own_decl}
use Rattle.rhd_module.specs.Below.{module_at}

-- the path of a key
abbrev pub key_path : Key → Option (List Bytes)
key_path (Script path name params) = path
key_path (Typed path name params this_type) = path
key_path (Native path name types) = path

-- no two of a module's declarations have the same key, and none has a key with a path
abbrev pub DeclaresOwn : Lists → Type 0
DeclaresOwn own = IsDistinct key_eq (keys_of own.eager) × AllByRecursion (λ k. key_path k ≡ None) (keys_of own.eager)

-- so it is in these modules and in all below them
abbrev pub HaveOwnKeys : Subs → Type 0
HaveOwnKeys no_subs = ⊤
HaveOwnKeys (sub name own subs later) = DeclaresOwn own × HaveOwnKeys subs × HaveOwnKeys later

-- and in a module and in all below it
abbrev pub HasOwnKeys : ModuleTree → Type 0
HasOwnKeys m = DeclaresOwn m.own × HaveOwnKeys m.subs

-- what the module under these names has for a key
abbrev pub own_at : List Bytes → Key → ModuleTree → Option (Option Declaration)
own_at path key m = option_map (λ at. own_decl at key) (module_at path m)
