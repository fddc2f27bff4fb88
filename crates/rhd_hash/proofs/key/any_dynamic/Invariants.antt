use Rattle.std.proofs.Common.{◌≡◌, drop}
use Rattle.std.specs.List.{list_any}
use Rattle.rhd_value.specs.Same.{tag_eq}
use Rattle.rhd_value.specs.declared.tag.TypeTag.TheVariants.{Dynamic}
use Rattle.rhd_hash.proofs.key.any_dynamic.Given as goal

abbrev pub invariant-loop-tag : goal.invariant-loop-tag
invariant-loop-tag l = list_any (λ t. tag_eq t Dynamic) (drop l.tag-index l.types) ≡ list_any (λ t. tag_eq t Dynamic) l.types
