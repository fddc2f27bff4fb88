-- Paths: texts in which `/` stands between the parts, and `.` before an extension.
use Rattle.std.specs.Prelude.{ℕ, ◌-◌, ◌==◌, Bool, ◌&&◌, ◌||◌, [], ◌++◌, length, take, Option, unwrap_or, codes, nat_eq, if◌then◌else◌}
use Rattle.std.specs.List.{starts_with, ends_with, before_last, after_last}
use Rattle.rhd_value.specs.Tree.{Bytes}

abbrev pub is_empty : Bytes → Bool
is_empty text = length text == 0

-- `/`
abbrev pub is_slash : ℕ → Bool
is_slash b = b == 47

-- `.`
abbrev pub is_dot : ℕ → Bool
is_dot b = b == 46

-- it begins with `/`
abbrev pub is_absolute : Bytes → Bool
is_absolute path = starts_with nat_eq path (codes "/")

-- the base and the path; a `/` between them where the base is neither empty nor ends with one
abbrev pub join : Bytes → Bytes → Bytes
join base path = if is_empty base || ends_with nat_eq base (codes "/") then base ++ path else base ++ codes "/" ++ path

-- what stands before the last `/`, or nothing where there is none; `/` where that is the first byte
abbrev pub parent : Bytes → Bytes
parent path = if is_empty (before_last is_slash path) && is_absolute path then codes "/" else before_last is_slash path

-- what follows the last `/`, or the whole path where there is none
abbrev pub last_part : Bytes → Bytes
last_part path = after_last is_slash path

-- what stands before the last part
abbrev pub folder : Bytes → Bytes
folder path = take (length path - length (last_part path)) path

-- a last part without its extension: what stands before its last `.`, or the whole where nothing does
abbrev pub stem : Bytes → Bytes
stem name = if is_empty (before_last is_dot name) then name else before_last is_dot name

-- an extension with its `.`, or nothing for an empty one
abbrev pub dotted : Bytes → Bytes
dotted extension = if is_empty extension then [] else codes "." ++ extension

-- the path with this extension in the place of its own; as it is where its last part is empty
abbrev pub with_extension : Bytes → Bytes → Bytes
with_extension path extension = if is_empty (last_part path) then path else folder path ++ stem (last_part path) ++ dotted extension

-- an absolute path itself; another one in the base, else in the source's folder, else in none
abbrev pub place : Bytes → Option Bytes → Option Bytes → Bytes
place path base source_path = if is_absolute path then path else join (unwrap_or base (unwrap_or source_path [])) path

-- the path of the file that a path names
abbrev pub file_path : Bytes → Option Bytes → Option Bytes → Bytes → Bytes
file_path path base source_path extension = with_extension (place path base source_path) extension
