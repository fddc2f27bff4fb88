-- What the calls on a module's contents change and find.
use Rattle.std.specs.Prelude.{ℕ, Bool, true, false, List, [], ◌∷◌, ◌&&◌, length, if◌then◌else◌, Option, None, Some, is_none}
use Rattle.std.specs.Ordering.{match_ordering, nat_cmp}
use Rattle.std.specs.Cmp.Lexicographic.{slice_cmp}
use Rattle.rhd_value.specs.Tree.{Bytes, Tree}
use Rattle.rhd_value.specs.Entries.{put}
use Rattle.rhd_value.specs.Same.{text_eq}
use Rattle.rhd_hash.specs.declared.key.Key.{Key}
use Rattle.rhd_func.specs.declared.func.ScriptFuncDef.{ScriptFuncDef}
use Rattle.rhd_decl.specs.CustomTypes.{type_info, put_type}
use Rattle.rhd_manifest.specs.Listing.{is_none_of}
use Rattle.rhd_module.specs.Tree.{ModuleTree, Subs, no_subs, sub}
use Rattle.rhd_table.specs.Found.{script_in, comment_on}

-- an empty id clears
abbrev pub id_of : Bytes → Option Bytes
id_of [] = None
id_of (b ∷ bs) = Some (b ∷ bs)

abbrev pub with_id : Bytes → ModuleTree → ModuleTree
with_id id m = record m { own = record m.own { id = id_of id } }

-- an id is set where none is
abbrev pub named : Bytes → ModuleTree → ModuleTree
named id m = if is_none m.own.id then with_id id m else m

abbrev pub with_doc : Bytes → ModuleTree → ModuleTree
with_doc doc m = record m { own = record m.own { doc = doc } }

abbrev pub with_var : Bytes → Tree → ModuleTree → ModuleTree
with_var name value m = record m { own = record m.own { vars = put name value m.own.vars } }

-- a custom type of this type name is shown by this name
abbrev pub with_type : Bytes → Bytes → List Bytes → ModuleTree → ModuleTree
with_type type_name display comments m = record m { own = record m.own { types = put_type type_name (type_info type_name display comments) m.own.types } }

-- all goes but the id, the seeds and the own flags; the module isn't indexed any more
abbrev pub cleared : ModuleTree → ModuleTree
cleared m = record { own = record m.own { doc = []; types = []; vars = []; eager = []; manifests = []; listed = []; iterators = []; indexed = false }; subs = no_subs }

-- sub-modules with one more, which replaces one of its name and else goes to its place in the order of names
abbrev pub put_sub : Bytes → ModuleTree → Subs → Subs
put_sub name m no_subs = sub name m.own m.subs no_subs
put_sub name m (sub n own below later) = match_ordering (slice_cmp nat_cmp name n) (sub name m.own m.subs (sub n own below later)) (sub n m.own m.subs later) (sub n own below (put_sub name m later))

abbrev pub with_sub : Bytes → ModuleTree → ModuleTree → ModuleTree
with_sub name child m = record { own = record m.own { indexed = false }; subs = put_sub name child m.subs }

-- the sub-module of a name
abbrev pub find_sub : Bytes → Subs → Option ModuleTree
find_sub name no_subs = None
find_sub name (sub n own below later) = if text_eq name n then Some (record { own = own; subs = below }) else find_sub name later

abbrev pub has_no_subs : Subs → Bool
has_no_subs no_subs = true
has_no_subs (sub name own below later) = false

-- no variable, sub-module, declaration, iterator or manifest
abbrev pub is_empty : ModuleTree → Bool
is_empty m = is_none_of m.own.vars && (has_no_subs m.subs && (is_none_of m.own.eager && (is_none_of m.own.iterators && is_none_of m.own.manifests)))

-- variables, declarations and iterators
abbrev pub counts : ModuleTree → ℕ × (ℕ × ℕ)
counts m = (length m.own.vars, (length m.own.eager, length m.own.iterators))

-- the script of a name and number of parameters
abbrev pub script_of : Bytes → ℕ → ModuleTree → Option ScriptFuncDef
script_of name params m = script_in name params m.own.eager

-- the module with comments of the declaration under a key, if there is one
abbrev pub with_comments : Key → List Bytes → ModuleTree → ModuleTree
with_comments key comments m = record m { own = record m.own { eager = comment_on key comments m.own.eager } }
