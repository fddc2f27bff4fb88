-- WHICH TREES ARE VALUES: their numbers, characters, texts and maps are what the program's types hold. And how deep a tree is.
use Rattle.std.specs.Prelude.{◌≡◌, ◌<◌, ◌+◌, ◌^◌, ℕ, ℤ, pos, negsuc, true, max}
use Rattle.std.specs.Char.{IsScalar}
use Rattle.std.specs.Str.{is_utf8}
use Rattle.std.specs.Ordering.{nat_cmp}
use Rattle.std.specs.Cmp.Lexicographic.{slice_cmp}
use Rattle.std.specs.List.Sorted.{IsStrictlySortedBy}
use Rattle.std.specs.Map.{keys_of}
use Rattle.rhd_value.specs.declared.tag.FnPtrType.{FnPtrType}
use Rattle.rhd_value.specs.declared.tag.FnPtrType.TheVariants.{Normal, Script, Native}
use Rattle.rhd_value.specs.Tree.{Kind, unit, boolean, integer, character, text, array, object, pointer, custom, Items, no_items, item, Members, no_members, member, Tree, entries_of}

-- an integer of 64 bits
abbrev pub IsInt : ℤ → Type 0
IsInt (pos n) = n < 2 ^ 63
IsInt (negsuc n) = n < 2 ^ 63

abbrev pub IsType : FnPtrType → Type 0
IsType Normal = Unit {0}
IsType (Script n) = n < 2 ^ 64
IsType (Native id) = id.0 < 2 ^ 32

abbrev mutual
  pub IsProper : Kind → Type 0
  IsProper unit = Unit {0}
  IsProper (boolean b) = Unit {0}
  IsProper (integer z) = IsInt z
  IsProper (character c) = IsScalar c
  IsProper (text s) = is_utf8 s ≡ true
  IsProper (array ts) = AreProper ts
  IsProper (object es) = IsStrictlySortedBy (slice_cmp nat_cmp) (keys_of (entries_of es)) × HasProper es
  IsProper (pointer f ts p) = (is_utf8 f ≡ true) × AreProper ts × IsType p
  IsProper (custom n z) = (n < 2 ^ 32) × IsInt z

  pub AreProper : Items → Type 0
  AreProper no_items = Unit {0}
  AreProper (item k m ts) = IsProper k × AreProper ts

  pub HasProper : Members → Type 0
  HasProper no_members = Unit {0}
  HasProper (member n k m es) = (is_utf8 n ≡ true) × IsProper k × HasProper es

-- how deep a value is: one deeper than the deepest value inside it, and 1 where there is none
abbrev mutual
  pub depth_kind : Kind → ℕ
  depth_kind unit = 1
  depth_kind (boolean b) = 1
  depth_kind (integer z) = 1
  depth_kind (character c) = 1
  depth_kind (text s) = 1
  depth_kind (array ts) = depth_items ts + 1
  depth_kind (object es) = depth_members es + 1
  depth_kind (pointer f ts p) = depth_items ts + 1
  depth_kind (custom n z) = 1

  pub depth_items : Items → ℕ
  depth_items no_items = 0
  depth_items (item k m ts) = max (depth_kind k) (depth_items ts)

  pub depth_members : Members → ℕ
  depth_members no_members = 0
  depth_members (member n k m es) = max (depth_kind k) (depth_members es)

abbrev pub depth : Tree → ℕ
depth t = depth_kind t.kind
