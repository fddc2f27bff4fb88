-- What a script leaves is put in one after the other.
use Rattle.std.proofs.Common.{◌≡◌, List, [], ◌∷◌, ◌++◌, refl, ap, append-nil, ◌∙◌}
use Rattle.std.proofs.lemmas.List.Concat.{flat_map-append}
use Rattle.rhd_value.specs.Tree.{Bytes, Tree}
use Rattle.rhd_module.specs.Contents.{put_sub}
use Rattle.rhd_module.specs.Manifests.{with_contents}
use Rattle.rhd_module.specs.Tree.{ModuleTree, Subs}
use Rattle.rhd_module.proofs.Combined.{vars_append}
use Rattle.rhd_layers.specs.Lists.{Imports}
use Rattle.rhd_resolve.specs.declared.loaded.ScopeEntry.{ScopeEntry}
use Rattle.rhd_resolve.specs.Loading.{value_named, named_values, imported}

pub imported_last : (front : Imports) (i : Bytes × ModuleTree) (held : Subs) → imported (front ++ i ∷ []) held ≡ put_sub i.0 i.1 (imported front held)
imported_last [] i held = refl
imported_last (j ∷ front) i held = imported_last front i (put_sub j.0 j.1 held)

pub values_last : (front : List ScopeEntry) (e : ScopeEntry) → named_values (front ++ e ∷ []) ≡ named_values front ++ value_named e
values_last front e = flat_map-append value_named front (e ∷ []) ∙ ap (λ vs. named_values front ++ vs) (append-nil (value_named e))

pub contents_append : (xs ys : List (Bytes × Tree)) (m : ModuleTree) → with_contents (xs ++ ys) [] m ≡ with_contents ys [] (with_contents xs [] m)
contents_append xs ys m = ap (λ (vs : List (Bytes × Tree)). record m { own = record m.own { vars = vs } }) (vars_append xs ys m.own.vars)
