-- Under which keys declarations are found at a path.
use Rattle.std.specs.Prelude.{not, ◌&&◌, ◌||◌, List, [], ◌∷◌, ◌++◌, if◌then◌else◌}
use Rattle.std.specs.List.{flat_map}
use Rattle.rhd_value.specs.Tree.{Bytes}
use Rattle.rhd_hash.specs.declared.key.Key.{Key}
use Rattle.rhd_hash.specs.Keys.{with_path, is_typed_key}
use Rattle.rhd_func.specs.Access.{is_private, is_global_namespace}
use Rattle.rhd_decl.specs.declared.declaration.Declaration.{Declaration}
use Rattle.rhd_table.specs.Pairs.{Pairs}

-- where it is global and isn't private: under its key without a path; a private typed script method too
abbrev pub unpathed : Key × Declaration → Pairs
unpathed p = if is_global_namespace p.1.metadata.namespace && (not (is_private p.1.metadata.access) || is_typed_key p.0) then p ∷ [] else []

-- where it isn't private: under its key with the path of its module
abbrev pub pathed : List Bytes → Key × Declaration → Pairs
pathed path p = if is_private p.1.metadata.access then [] else (with_path path p.0, p.1) ∷ []

-- the pairs of one module at a path
abbrev pub pairs_at : List Bytes → Pairs → Pairs
pairs_at path declared = flat_map (λ p. unpathed p ++ pathed path p) declared
