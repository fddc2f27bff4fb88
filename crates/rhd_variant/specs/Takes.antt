-- Each type takes its own kind, and no other.
use Rattle.std.specs.Prelude.{◌≡◌, ◌↔◌, ◌⊎◌, Some, IsSome, List, [], ◌∷◌}
use Rattle.std.proofs.Common.{refl, ap, rules}
use Rattle.rhd_value.specs.declared.tag.TypeTag.TheVariants as tags
use Rattle.rhd_value.specs.Tree.{Tree, Pointer, Kind, unit, boolean, integer, character, text, array, object, pointer, items_of, members_of, list_of, entries_of, Bytes}
use Rattle.rhd_value.specs.Kinds.{tag_of_kind, int_in, bool_in, text_in, plain}
use Rattle.rhd_variant.specs.Variant.{IsTaken, list_in, entries_in, char_in, unit_in, pointer_in}

pub takes_int : (t : Tree) → IsSome (int_in t.kind) ↔ IsTaken tags.Int t
takes_int t = go t.kind
  where
    go : (k : Kind) → IsSome (int_in k) ↔ ((tags.Int ≡ tags.Dynamic) ⊎ (tag_of_kind k ≡ tags.Int))
    go (integer z) = grind rules
    go _ = grind rules

pub takes_bool : (t : Tree) → IsSome (bool_in t.kind) ↔ IsTaken tags.Bool t
takes_bool t = go t.kind
  where
    go : (k : Kind) → IsSome (bool_in k) ↔ ((tags.Bool ≡ tags.Dynamic) ⊎ (tag_of_kind k ≡ tags.Bool))
    go (boolean b) = grind rules
    go _ = grind rules

pub takes_text : (t : Tree) → IsSome (text_in t.kind) ↔ IsTaken tags.Text t
takes_text t = go t.kind
  where
    go : (k : Kind) → IsSome (text_in k) ↔ ((tags.Text ≡ tags.Dynamic) ⊎ (tag_of_kind k ≡ tags.Text))
    go (text s) = grind rules
    go _ = grind rules

pub takes_list : (t : Tree) → IsSome (list_in t.kind) ↔ IsTaken tags.Array t
takes_list t = go t.kind
  where
    go : (k : Kind) → IsSome (list_in k) ↔ ((tags.Array ≡ tags.Dynamic) ⊎ (tag_of_kind k ≡ tags.Array))
    go (array ts) = grind rules
    go _ = grind rules

pub takes_entries : (t : Tree) → IsSome (entries_in t.kind) ↔ IsTaken tags.Map t
takes_entries t = go t.kind
  where
    go : (k : Kind) → IsSome (entries_in k) ↔ ((tags.Map ≡ tags.Dynamic) ⊎ (tag_of_kind k ≡ tags.Map))
    go (object es) = grind rules
    go _ = grind rules

pub takes_char : (t : Tree) → IsSome (char_in t.kind) ↔ IsTaken tags.Char t
takes_char t = go t.kind
  where
    go : (k : Kind) → IsSome (char_in k) ↔ ((tags.Char ≡ tags.Dynamic) ⊎ (tag_of_kind k ≡ tags.Char))
    go (character c) = grind rules
    go _ = grind rules

pub takes_unit : (t : Tree) → IsSome (unit_in t.kind) ↔ IsTaken tags.Unit t
takes_unit t = go t.kind
  where
    go : (k : Kind) → IsSome (unit_in k) ↔ ((tags.Unit ≡ tags.Dynamic) ⊎ (tag_of_kind k ≡ tags.Unit))
    go unit = grind rules
    go _ = grind rules

pub takes_all : (t : Tree) → IsSome (Some t) ↔ IsTaken tags.Dynamic t
takes_all t = grind rules

pub list_back : (ts : List Tree) → list_of (items_of ts) ≡ ts
list_back [] = refl
list_back (t ∷ ts) = ap (λ us. t ∷ us) (list_back ts)

pub list_returns : (ts : List Tree) → list_in (plain (array (items_of ts))).kind ≡ Some ts
list_returns ts = ap Some (list_back ts)

pub entries_back : (es : List (Bytes × Tree)) → entries_of (members_of es) ≡ es
entries_back [] = refl
entries_back (e ∷ es) = ap (λ us. e ∷ us) (entries_back es)

pub entries_return : (es : List (Bytes × Tree)) → entries_in (plain (object (members_of es))).kind ≡ Some es
entries_return es = ap Some (entries_back es)

pub takes_pointer : (t : Tree) → IsSome (pointer_in t.kind) ↔ IsTaken tags.FnPtr t
takes_pointer t = go t.kind
  where
    go : (k : Kind) → IsSome (pointer_in k) ↔ ((tags.FnPtr ≡ tags.Dynamic) ⊎ (tag_of_kind k ≡ tags.FnPtr))
    go (pointer n ts p) = grind rules
    go _ = grind rules

pub pointer_returns : (p : Pointer) → pointer_in (plain (pointer p.name (items_of p.curry) p.typ)).kind ≡ Some p
pointer_returns p = ap (λ ts. Some (record { name = p.name; curry = ts; typ = p.typ })) (list_back p.curry)
