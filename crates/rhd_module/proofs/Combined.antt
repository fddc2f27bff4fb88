-- Variables and custom types that are put in one after the other.
use Rattle.std.proofs.Common.{◌≡◌, List, [], ◌∷◌, ◌++◌, refl}
use Rattle.rhd_value.specs.Tree.{Bytes, Tree}
use Rattle.rhd_value.specs.Entries.{put as put_var}
use Rattle.rhd_decl.specs.CustomTypes.{CustomTypes, type_info, put_type}
use Rattle.rhd_module.specs.Manifests.{put_vars, put_types}

pub vars_append : (xs ys es : List (Bytes × Tree)) → put_vars (xs ++ ys) es ≡ put_vars ys (put_vars xs es)
vars_append [] ys es = refl
vars_append (x ∷ xs) ys es = vars_append xs ys (put_var x.0 x.1 es)

pub types_append : (xs ys : List (Bytes × Bytes)) (types : CustomTypes) → put_types (xs ++ ys) types ≡ put_types ys (put_types xs types)
types_append [] ys types = refl
types_append (x ∷ xs) ys types = types_append xs ys (put_type x.0 (type_info x.0 x.1 []) types)
