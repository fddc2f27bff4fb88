-- What is found among declarations beside what a key finds, and their comments.
use Rattle.std.specs.Prelude.{ℕ, Bool, false, List, [], ◌∷◌, ◌==◌, ◌&&◌, if◌then◌else◌, Option, None}
use Rattle.std.specs.Option.{option_or}
use Rattle.rhd_value.specs.Tree.{Bytes}
use Rattle.rhd_value.specs.Same.{text_eq}
use Rattle.rhd_value.specs.Firsts.{first_of}
use Rattle.rhd_hash.specs.declared.key.Key.{Key}
use Rattle.rhd_hash.specs.declared.key.Key.TheVariants.{Script, Typed, Native}
use Rattle.rhd_hash.specs.Keys.{key_eq}
use Rattle.rhd_func.specs.declared.func.ScriptFuncDef.{ScriptFuncDef}
use Rattle.rhd_func.specs.Funcs.{script_def_of}
use Rattle.rhd_decl.specs.declared.declaration.Declaration.{Declaration}
use Rattle.rhd_table.specs.Pairs.{Pairs}

-- a typed script's key of this name and number of parameters
abbrev pub is_typed_of : Bytes → ℕ → Key → Bool
is_typed_of name params (Script path n c) = false
is_typed_of name params (Typed path n c this_type) = text_eq n name && (c == params)
is_typed_of name params (Native path n types) = false

-- the script of a name and number of parameters: the untyped one, else the first typed one in order
abbrev pub script_in : Bytes → ℕ → Pairs → Option ScriptFuncDef
script_in name params ps =
    option_or (first_of (λ p. if key_eq (Script None name params) p.0 then script_def_of p.1.func else None) ps)
    (first_of (λ p. if is_typed_of name params p.0 then script_def_of p.1.func else None) ps)

-- the comments of the declaration under a key, if there is one
abbrev pub commented : List Bytes → Declaration → Declaration
commented comments d = record d { metadata = record d.metadata { comments = comments } }

abbrev pub comment_on : Key → List Bytes → Pairs → Pairs
comment_on key comments [] = []
comment_on key comments (p ∷ ps) = if key_eq key p.0 then (p.0, commented comments p.1) ∷ ps else p ∷ comment_on key comments ps
