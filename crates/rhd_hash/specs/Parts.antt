-- The rows of bytes that the parts of a key are mixed from, and the hash of a key.
use Rattle.std.specs.Prelude.{ℕ, ◌+◌, List, [], ◌∷◌, ◌++◌, length, bit_xor, if◌then◌else◌, Option, None, Some}
use Rattle.std.proofs.Common.{w32, w64}
use Rattle.std.specs.List.{flat_map}
use Rattle.std.specs.Int.{to_le_bytes}
use Rattle.rhd_value.specs.declared.tag.TypeTag.{TypeTag}
use Rattle.rhd_value.specs.declared.tag.TypeTag.TheVariants as tag
use Rattle.rhd_hash.specs.declared.mixer.Seeds.{Seeds}
use Rattle.rhd_hash.specs.declared.key.Key.{Key}
use Rattle.rhd_hash.specs.declared.key.Key.TheVariants.{Script, Typed, Native}
use Rattle.rhd_hash.specs.Keys.{key_name, key_params, has_dynamic}
use Rattle.rhd_hash.specs.Mix.{mix}

-- a number in eight bytes, and in four, the lowest first
unfoldable pub count_bytes : ℕ → List ℕ
count_bytes n = to_le_bytes w64 n

unfoldable pub four_bytes : ℕ → List ℕ
four_bytes n = to_le_bytes w32 n

-- a text is its length, then its bytes
abbrev pub text_bytes : List ℕ → List ℕ
text_bytes t = count_bytes (length t) ++ t

abbrev pub texts_bytes : List (List ℕ) → List ℕ
texts_bytes ts = flat_map text_bytes ts

-- a type is one byte, and behind it the number of a custom type
abbrev pub tag_bytes : TypeTag → List ℕ
tag_bytes tag.Unit = 0 ∷ []
tag_bytes tag.Bool = 1 ∷ []
tag_bytes tag.Int = 2 ∷ []
tag_bytes tag.Char = 3 ∷ []
tag_bytes tag.Text = 4 ∷ []
tag_bytes tag.Array = 5 ∷ []
tag_bytes tag.Map = 6 ∷ []
tag_bytes tag.FnPtr = 7 ∷ []
tag_bytes (tag.Custom n) = 8 ∷ four_bytes n
tag_bytes tag.Dynamic = 9 ∷ []
tag_bytes tag.Str = 10 ∷ []
tag_bytes tag.StdString = 11 ∷ []

-- A key has no path for an empty one, else the names behind the first.
abbrev pub path_of : List (List ℕ) → Option (List (List ℕ))
path_of [] = None
path_of (first ∷ names) = Some names

-- the names that a key keeps of its path, and how many names the whole path has
abbrev pub path_names : Option (List (List ℕ)) → List (List ℕ)
path_names None = []
path_names (Some names) = names

abbrev pub path_count : Option (List (List ℕ)) → ℕ
path_count None = 0
path_count (Some names) = length names + 1

-- the names behind the first, then the number of all
unfoldable pub path_bytes : List (List ℕ) → ℕ → List ℕ
path_bytes names count = texts_bytes names ++ count_bytes count

-- a function by its path, name and number of parameters
unfoldable pub fn_bytes : List (List ℕ) → ℕ → List ℕ → ℕ → List ℕ
fn_bytes names count name num = 0x46 ∷ (path_bytes names count ++ (text_bytes name ++ count_bytes num))

abbrev pub fn_part : Option (List (List ℕ)) → List ℕ → ℕ → List ℕ
fn_part path name num = fn_bytes (path_names path) (path_count path) name num

-- a variable by its path and name
unfoldable pub var_bytes : List (List ℕ) → ℕ → List ℕ → List ℕ
var_bytes names count name = 0x56 ∷ (path_bytes names count ++ text_bytes name)

abbrev pub var_part : Option (List (List ℕ)) → List ℕ → List ℕ
var_part path name = var_bytes (path_names path) (path_count path) name

-- the types of a native's parameters, and the type of a method's object
unfoldable pub types_part : List TypeTag → List ℕ
types_part types = 0x41 ∷ (flat_map tag_bytes types ++ count_bytes (length types))

unfoldable pub this_part : List ℕ → List ℕ
this_part this_type = 0x54 ∷ text_bytes this_type

-- the hash of a key
unfoldable pub mixed : Seeds → Key → ℕ
mixed s (Script path name params) = mix s (fn_part path name params)
mixed s (Typed path name params this_type) = bit_xor (mix s (this_part this_type)) (mix s (fn_part path name params))
mixed s (Native path name types) = bit_xor (mix s (types_part types)) (mix s (fn_part path name (length types)))

-- the hash of a name and a number of parameters alone
unfoldable pub untyped : Seeds → List ℕ → ℕ → ℕ
untyped s name params = mix s (fn_part None name params)

-- the same of a key, whatever its path and its types
abbrev pub untyped_key : Seeds → Key → ℕ
untyped_key s k = untyped s (key_name k) (key_params k)

-- that hash, where a key has a parameter of any type
abbrev pub dynamic_hash : Seeds → Key → Option ℕ
dynamic_hash s k = if has_dynamic k then Some (untyped_key s k) else None
