-- Entries put into a map by name, and what stood there before.
use Rattle.std.specs.Prelude.{◌≡◌, List, [], ◌∷◌, Option}
use Rattle.std.specs.BTreeMap.{insert_entry, is_at}
use Rattle.std.specs.Cmp.Lexicographic.{slice_cmp}
use Rattle.std.specs.List.Sorted.{IsStrictlySortedBy}
use Rattle.std.specs.Map.{keys_of, lookup}
use Rattle.std.specs.Ordering.{nat_cmp}
use Rattle.rhd_value.specs.Tree.{Bytes}

module _ {V : Type 0} where
  -- entries put in one after the other, each in the place of that of an equal name
  abbrev pub put_entries : List (Bytes × V) → List (Bytes × V) → List (Bytes × V)
  put_entries [] es = es
  put_entries (p ∷ ps) es = put_entries ps (insert_entry (slice_cmp nat_cmp) es p.0 p.1)

  -- what stands under a name
  abbrev pub at_name : Bytes → List (Bytes × V) → Option V
  at_name name es = lookup (is_at (slice_cmp nat_cmp name)) es

  -- a map came of another one as something was put under each of these names, the latest of which stands first, each with what stood under it before
  abbrev pub IsPut : List (Bytes × Option V) → List (Bytes × V) → List (Bytes × V) → Type 0
  IsPut [] before after = after ≡ before
  IsPut (p ∷ ps) before after = (es : List (Bytes × V)) × (value : V) × IsPut ps before es
      × (after ≡ insert_entry (slice_cmp nat_cmp) es p.0 value) × (at_name p.0 es ≡ p.1) × IsStrictlySortedBy (slice_cmp nat_cmp) (keys_of es)
