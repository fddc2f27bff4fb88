-- How a value is written.
use Rattle.std.specs.Prelude.{ℕ, List, [], ◌++◌, if◌then◌else◌, codes}
use Rattle.std.specs.Fmt.{decimal, signed_decimal}
use Rattle.rhd_value.specs.declared.tag.Marks.{Marks}
use Rattle.rhd_value.specs.declared.tag.FnPtrType.{FnPtrType}
use Rattle.rhd_value.specs.declared.tag.FnPtrType.TheVariants.{Normal, Script, Native}
use Rattle.rhd_value.specs.Tree.{Kind, unit, boolean, integer, character, text, array, object, pointer, custom, Items, no_items, item, Members, no_members, member, Tree}
use Rattle.rhd_print.specs.PrintedTexts.{quoted, quoted_char}

-- the marks: ! read-only, % shared, ~ locked
unfoldable pub mark_signs : Marks → List ℕ
mark_signs m =
    (if m.read_only then codes "!" else [])
    ++ (if m.shared then codes "%" else [])
    ++ (if m.locked then codes "~" else [])

-- which sort of pointer it is
abbrev pub pointer_head : FnPtrType → List ℕ
pointer_head Normal = codes "fn("
pointer_head (Script n) = codes "fn*("
pointer_head (Native id) = codes "fn#("

-- the number of parameters or of the native, after a space
abbrev pub spelled_type : FnPtrType → List ℕ
spelled_type Normal = []
spelled_type (Script n) = codes " " ++ decimal n
spelled_type (Native id) = codes " " ++ decimal id.0

abbrev mutual
  -- a value without its marks
  pub spelled_kind : Kind → List ℕ
  spelled_kind unit = codes "()"
  spelled_kind (boolean b) = if b then codes "true" else codes "false"
  spelled_kind (integer z) = signed_decimal z
  spelled_kind (character c) = quoted_char c
  spelled_kind (text s) = quoted s
  spelled_kind (array ts) = codes "[" ++ spelled_items ts ++ codes "]"
  spelled_kind (object es) = codes "{" ++ spelled_members es ++ codes "}"
  spelled_kind (pointer name ts typ) = pointer_head typ ++ quoted name ++ spelled_type typ ++ spaced_items ts ++ codes ")"
  spelled_kind (custom n z) = codes "custom(" ++ decimal n ++ codes " " ++ signed_decimal z ++ codes ")"

  -- values with a space between two
  pub spelled_items : Items → List ℕ
  spelled_items no_items = []
  spelled_items (item k m ts) = (mark_signs m ++ spelled_kind k) ++ spaced_items ts

  -- values with a space before each
  pub spaced_items : Items → List ℕ
  spaced_items no_items = []
  spaced_items (item k m ts) = codes " " ++ (mark_signs m ++ spelled_kind k) ++ spaced_items ts

  -- names with their values, with a space between two
  pub spelled_members : Members → List ℕ
  spelled_members no_members = []
  spelled_members (member n k m es) = quoted n ++ codes " " ++ (mark_signs m ++ spelled_kind k) ++ spaced_members es

  -- names with their values, with a space before each
  pub spaced_members : Members → List ℕ
  spaced_members no_members = []
  spaced_members (member n k m es) = codes " " ++ quoted n ++ codes " " ++ (mark_signs m ++ spelled_kind k) ++ spaced_members es

-- a value with its marks before it
abbrev pub spelled : Tree → List ℕ
spelled t = mark_signs t.marks ++ spelled_kind t.kind
