-- What a read may answer.
use Rattle.std.specs.Prelude.{◌≡◌, ℕ, ◌+◌, ◌-◌, ◌^◌, ◌<◌, ◌⊎◌, ◌==◌, ◌&&◌, Bool, List, Option, Some, None, IsSome, is_some, min, if◌then◌else◌}
use Rattle.std.specs.BTreeMap.{insert_entry, is_at}
use Rattle.std.specs.Cmp.Lexicographic.{slice_cmp}
use Rattle.std.specs.List.{list_any}
use Rattle.std.specs.List.Sorted.{IsStrictlySortedBy}
use Rattle.std.specs.Map.{lookup, keys_of}
use Rattle.std.specs.Ordering.{nat_cmp}
use Rattle.rhd_value.specs.Tree.{Bytes}
use Rattle.rhd_files.specs.declared.files.FileAnswer.{FileAnswer}
use Rattle.rhd_files.specs.declared.files.FileAnswer.TheVariants.{Found, NoFile, Failed}
use Rattle.rhd_files.specs.MemState.{MemState}

-- the paths ascend, so no two entries have one path
abbrev pub IsAscending : List (Bytes × Bytes) → Type 0
IsAscending texts = IsStrictlySortedBy (slice_cmp nat_cmp) (keys_of texts)

-- the text at a path
abbrev pub at_path : Bytes → List (Bytes × Bytes) → Option Bytes
at_path path texts = lookup (is_at (slice_cmp nat_cmp path)) texts

-- the texts with this one at the path
abbrev pub with_text : Bytes → Bytes → List (Bytes × Bytes) → List (Bytes × Bytes)
with_text path text texts = insert_entry (slice_cmp nat_cmp) texts path text

-- a count rose, or stands at its greatest
abbrev pub Rose : ℕ → ℕ → Type 0
Rose before after = (before < after) ⊎ (after ≡ 2 ^ 64 - 1)

-- the text of the path; no file exactly where there is none; a failure only where there is one; the count of faults rises there alone
pub data Reads (texts : List (Bytes × Bytes)) (before after : ℕ) (path : Bytes) : FileAnswer → Type 0 where
  found : {text : Bytes} → at_path path texts ≡ Some text → after ≡ before → Reads texts before after path (Found text)
  no_file : at_path path texts ≡ None → after ≡ before → Reads texts before after path NoFile
  failed : IsSome (at_path path texts) → Rose before after → Reads texts before after path Failed

-- one more, up to the greatest number of 64 bits
abbrev pub one_more : ℕ → ℕ
one_more n = min (n + 1) (2 ^ 64 - 1)

-- the next call is in the list of those that are to fail; its number is the count of calls so far and one
abbrev pub is_to_fail : MemState → Bool
is_to_fail m = list_any (λ n. n == one_more m.calls) m.fails

-- no file where the path has no text; else a failure where this call is to fail, and else the text
abbrev pub answer_of : Bool → Option Bytes → FileAnswer
answer_of fails None = NoFile
answer_of fails (Some text) = if fails then Failed else Found text

-- what the next call answers of a path
abbrev pub next_answer : MemState → Bytes → FileAnswer
next_answer m path = answer_of (is_to_fail m) (at_path path m.texts)

-- the files after it: one more call, and one more fault where it failed
abbrev pub after_read : MemState → Bytes → MemState
after_read m path = record m {
  calls = one_more m.calls;
  faults = if is_to_fail m && is_some (at_path path m.texts) then one_more m.faults else m.faults;
}
