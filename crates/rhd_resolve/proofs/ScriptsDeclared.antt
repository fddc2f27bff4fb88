-- Scripts that are declared one after the other.
use Rattle.std.proofs.Common.{◌≡◌, ℕ, ◌+◌, take, drop, true, false, cond, List, [], ◌∷◌, ◌++◌, map, Option, None, Some, refl, sym, ap, subst, append_assoc, append-nil, ◌∙◌, Err}
use Rattle.std.specs.Map.{keys_of}
use Rattle.std.proofs.lemmas.List.{take-append-drop}
use Rattle.std.proofs.lemmas.List.Elements.{filter-append}
use Rattle.rhd_value.specs.Tree.{Bytes}
use Rattle.rhd_hash.specs.declared.mixer.Seeds.{Seeds}
use Rattle.rhd_func.specs.declared.access.EnvId.{EnvId}
use Rattle.rhd_func.specs.declared.func.ScriptFuncDef.{ScriptFuncDef}
use Rattle.rhd_decl.specs.declared.fault.DeclFault.{DeclFault}
use Rattle.rhd_decl.specs.declared.fault.DeclFault.TheVariants.{HashCollision, IndexerNotAllowed, NotCallable, UnknownNumber, OutOfMemory}
use Rattle.rhd_table.specs.Indexed.{IsClash}
use Rattle.rhd_module.specs.Index.{Indexes, indexed}
use Rattle.rhd_table.specs.Pairs.{put_all, Pairs}
use Rattle.rhd_module.specs.Registered.{with_decl}
use Rattle.rhd_decl.specs.Registration.{script_key, script_decl}
use Rattle.rhd_module.specs.Tree.{ModuleTree}
use Rattle.rhd_module.specs.Walk.{tree}
use Rattle.rhd_table.proofs.Registers.{clash_all}
use Rattle.rhd_resolve.specs.Loading.{with_scripts, is_public, public_functions, of_source}

abbrev script_pairs : Seeds → Option EnvId → List ScriptFuncDef → Pairs
script_pairs s env defs = map (λ d. (script_key d, script_decl s d env)) defs

module _ (env : Option EnvId) where
  pub scripts_seeds : (defs : List ScriptFuncDef) (m : ModuleTree) → (with_scripts env defs m).own.seeds ≡ m.own.seeds
  scripts_seeds [] m = refl
  scripts_seeds (d ∷ defs) m = scripts_seeds defs (with_decl (script_key d) (script_decl m.own.seeds d env) m)

  scripts_put : (defs : List ScriptFuncDef) (m : ModuleTree) → (with_scripts env defs m).own.eager ≡ put_all (script_pairs m.own.seeds env defs) m.own.eager
  scripts_put [] m = refl
  scripts_put (d ∷ defs) m = scripts_put defs (with_decl (script_key d) (script_decl m.own.seeds d env) m)

  pub scripts_append : (xs ys : List ScriptFuncDef) (m : ModuleTree) → with_scripts env (xs ++ ys) m ≡ with_scripts env ys (with_scripts env xs m)
  scripts_append [] ys m = refl
  scripts_append (d ∷ xs) ys m = scripts_append xs ys (with_decl (script_key d) (script_decl m.own.seeds d env) m)

  -- a clash of one more is a clash of all
  pub clash_script : (front later all : List ScriptFuncDef) (d : ScriptFuncDef) (m : ModuleTree) (fault : DeclFault) → all ≡ front ++ d ∷ later
      → IsClash (with_scripts env front m).own.seeds (keys_of (with_scripts env (d ∷ []) (with_scripts env front m)).own.eager) fault → IsClash m.own.seeds (keys_of (with_scripts env all m).own.eager) fault
  clash_script front later all d m fault is clash =
      let here : ModuleTree = with_scripts env front m in
      let one : ModuleTree = with_scripts env (d ∷ []) here in
      let whole : with_scripts env all m ≡ with_scripts env later one = (λ i. with_scripts env (is i) m) ∙ scripts_append front (d ∷ later) m in
      let at : IsClash m.own.seeds (keys_of one.own.eager) fault = subst (λ (s : Seeds). IsClash s (keys_of one.own.eager) fault) (scripts_seeds front m) clash in
      let eager : put_all (script_pairs one.own.seeds env later) one.own.eager ≡ (with_scripts env all m).own.eager = sym (scripts_put later one) ∙ ap (λ (t : ModuleTree). t.own.eager) (sym whole) in
      subst (λ (ps : Pairs). IsClash m.own.seeds (keys_of ps) fault) eager (clash_all m.own.seeds (script_pairs one.own.seeds env later) one.own.eager fault at)

-- one more that is public, and one that isn't
pub public_more : (front : List ScriptFuncDef) (d : ScriptFuncDef) → is_public d.access ≡ true → public_functions (front ++ d ∷ []) ≡ public_functions front ++ d ∷ []
public_more front d is = filter-append (λ def. is_public def.access) front (d ∷ []) ∙ (λ i. public_functions front ++ cond (is i) (d ∷ []) [])

pub public_less : (front : List ScriptFuncDef) (d : ScriptFuncDef) → is_public d.access ≡ false → public_functions (front ++ d ∷ []) ≡ public_functions front
public_less front d is = filter-append (λ def. is_public def.access) front (d ∷ []) ∙ (λ i. public_functions front ++ cond (is i) (d ∷ []) []) ∙ append-nil (public_functions front)

pub public_all : (front later all : List ScriptFuncDef) (d : ScriptFuncDef) → is_public d.access ≡ true → all ≡ front ++ d ∷ later → public_functions all ≡ public_functions front ++ d ∷ public_functions later
public_all front later all d is whole =
    ap public_functions whole ∙ filter-append (λ def. is_public def.access) front (d ∷ later) ∙ (λ i. public_functions front ++ cond (is i) (d ∷ public_functions later) (public_functions later))

-- a list up to a place, the element there, and what is behind it
pub parted : {X : Type 0} (xs : List X) (i : ℕ) (x : X) → take (i + 1) xs ≡ take i xs ++ x ∷ [] → xs ≡ take i xs ++ x ∷ drop (i + 1) xs
parted xs i x next = sym (take-append-drop (i + 1) xs) ∙ ap (λ ys. ys ++ drop (i + 1) xs) next ∙ append_assoc (take i xs) (x ∷ []) (drop (i + 1) xs)

-- what a module is once it is indexed doesn't depend on whether it was before
scripts_flag : (env : Option EnvId) (defs : List ScriptFuncDef) (m : ModuleTree) → indexed (with_scripts env defs m) ≡ indexed (with_scripts env defs (indexed m))
scripts_flag env [] m = refl
scripts_flag env (d ∷ defs) m = refl

pub scripts_same : (env : Option EnvId) (defs : List ScriptFuncDef) (m n : ModuleTree) → indexed m ≡ indexed n → indexed (with_scripts env defs m) ≡ indexed (with_scripts env defs n)
scripts_same env defs m n same = scripts_flag env defs m ∙ ap (λ (t : ModuleTree). indexed (with_scripts env defs t)) same ∙ sym (scripts_flag env defs n)

pub source_seeds : (seeds : Seeds) (source : Option Bytes) → (of_source seeds source).own.seeds ≡ seeds
source_seeds seeds None = refl
source_seeds seeds (Some id) = refl

-- what refuses an index is a clash of the tree's keys
pub index_clash : (A : Type 0) (old new : ModuleTree) (fault : DeclFault) → Indexes {A = A} old (Err fault) new → IsClash old.own.seeds (keys_of (tree old)) fault
index_clash A old new OutOfMemory h = tt
index_clash A old new (HashCollision held other) h = h.0
index_clash A old new (IndexerNotAllowed key) h = h
index_clash A old new NotCallable h = h
index_clash A old new (UnknownNumber n l) h = h
