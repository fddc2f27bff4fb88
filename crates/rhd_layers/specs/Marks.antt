-- What filters tell of the modules of a list; nothing here has to be believed.
use Rattle.std.specs.Prelude.{◌≡◌, ℕ, Bool, true, false, not, ◌||◌, ◌&&◌, List, Option, None, Some, is_none}
use Rattle.std.specs.List.{list_all}
use Rattle.rhd_value.specs.Tree.{Bytes}
use Rattle.rhd_hash.specs.declared.key.Key.{Key}
use Rattle.rhd_hash.specs.declared.mixer.Seeds.{Seeds}
use Rattle.rhd_hash.specs.Filter.{is_marked}
use Rattle.rhd_hash.specs.Keys.{is_script_key}
use Rattle.rhd_hash.specs.Parts.{mixed, untyped}
use Rattle.rhd_module.specs.Below.{may_contain}
use Rattle.rhd_module.specs.Shown.{own_decl}
use Rattle.rhd_module.specs.Tree.{ModuleTree}
use Rattle.rhd_module.specs.Walk.{qualified}
use Rattle.rhd_layers.specs.declared.marks.Marks.{Marks}

-- a test of the seeds, if there are any
abbrev pub under : Option Seeds → (Seeds → Bool) → Bool
under None test = false
under (Some seeds) test = test seeds

-- some module may have a key, by a filter of keys
abbrev pub may_have : ℕ → Marks → List ℕ → Key → Bool
may_have size marks keys key = (not (is_script_key key) || marks.scripts) && ((marks.other_seeds || marks.lists) || under marks.seeds (λ seeds. is_marked size keys (mixed seeds key)))

-- some module may have a native of this name with so many parameters, one of which is of any type
abbrev pub may_have_dynamic : Marks → Bytes → ℕ → Bool
may_have_dynamic marks name params = marks.other_seeds || under marks.seeds (λ seeds. is_marked 8 marks.dynamic (untyped seeds name params))

-- a module has nothing under a key: itself, or in its tree
abbrev pub lacks : Key → ModuleTree → Bool
lacks key m = is_none (own_decl m key)

abbrev pub lacks_below : Key → ModuleTree → Bool
lacks_below key m = is_none (qualified m key)

-- it has no native of this name with so many parameters, one of which is of any type, by its own filter
abbrev pub lacks_dynamic : Bytes → ℕ → ModuleTree → Bool
lacks_dynamic name params m = not (may_contain m (untyped m.own.seeds name params))

-- what the new marks tell, the old ones told
pub record Grows (size : ℕ) (old : Marks) (old_keys : List ℕ) (new : Marks) (new_keys : List ℕ) : Type 0 where
  pub keys : (key : Key) → may_have size new new_keys key ≡ false → may_have size old old_keys key ≡ false
  pub dynamic : (name : Bytes) (params : ℕ) → may_have_dynamic new name params ≡ false → may_have_dynamic old name params ≡ false

-- the marks of modules after one of these seeds came: unless others came, the seeds are these
pub record Meets (seeds : Seeds) (old new : Marks) : Type 0 where
  pub lists : new.lists ≡ old.lists
  pub scripts : new.scripts ≡ old.scripts
  pub dynamic : new.dynamic ≡ old.dynamic
  pub still : new.other_seeds ≡ false → old.other_seeds ≡ false
  pub met : new.other_seeds ≡ false → new.seeds ≡ Some seeds
  pub same : (test : Seeds → Bool) → new.other_seeds ≡ false → under old.seeds test ≡ true → under new.seeds test ≡ true

-- what marks tell holds of each of these modules
pub record Tells {A : Type 0} (of : A → ModuleTree) (lack : Key → ModuleTree → Bool) (size : ℕ) (marks : Marks) (keys : List ℕ) (items : List A) : Type 0 where
  pub under_keys : (key : Key) → may_have size marks keys key ≡ false → list_all (λ a. lack key (of a)) items ≡ true
  pub under_names : (name : Bytes) (params : ℕ) → may_have_dynamic marks name params ≡ false → list_all (λ a. lacks_dynamic name params (of a)) items ≡ true

abbrev pub itself : ModuleTree → ModuleTree
itself m = m

abbrev pub named_one : Bytes × ModuleTree → ModuleTree
named_one e = e.1
