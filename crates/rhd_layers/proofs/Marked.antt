-- Marks of modules: what they tell, and that more of them tell no more.
use Rattle.std.proofs.Common.{◌≡◌, ℕ, Bool, true, false, not, ◌||◌, ◌&&◌, List, Option, None, Some, refl, sym, ap, ◌∙◌, true≢false}
use Rattle.std.specs.Map.{lookup}
use Rattle.rhd_value.specs.Tree.{Bytes}
use Rattle.rhd_hash.specs.declared.key.Key.{Key}
use Rattle.rhd_hash.specs.declared.mixer.Seeds.{Seeds}
use Rattle.rhd_hash.specs.Covers.{Covers, HasNoScript}
use Rattle.rhd_hash.specs.Filter.{is_marked, Joins}
use Rattle.rhd_hash.specs.Keys.{key_eq, is_script_key}
use Rattle.rhd_hash.specs.Parts.{mixed, untyped}
use Rattle.rhd_module.specs.Below.{may_contain}
use Rattle.rhd_module.specs.Tree.{ModuleTree}
use Rattle.rhd_layers.specs.declared.marks.Marks.{Marks}
use Rattle.rhd_layers.specs.Marks.{under, may_have, may_have_dynamic, lacks_dynamic, Grows, Meets}

pub neither : (a b : Bool) → (a || b) ≡ false → (a ≡ false) × (b ≡ false)
neither true b e = absurd (true≢false e)
neither false b e = (refl, e)

pub both_false : (a b : Bool) → a ≡ false → b ≡ false → (a || b) ≡ false
both_false true b e f = e
both_false false b e f = f

and_false : (a b : Bool) → b ≡ false → (a && b) ≡ false
and_false true b e = e
and_false false b e = refl

left_and_false : (a b : Bool) → a ≡ false → (a && b) ≡ false
left_and_false true b e = absurd (true≢false e)
left_and_false false b e = refl

is_false : (b : Bool) → (b ≡ true → ⊥) → b ≡ false
is_false true h = absurd (h refl)
is_false false h = refl

not_both : (b : Bool) → b ≡ true → b ≡ false → ⊥
not_both true t f = true≢false f
not_both false t f = true≢false (sym t)

not_true : (b : Bool) → not b ≡ false → b ≡ true
not_true true e = refl
not_true false e = absurd (true≢false e)

not_false : (b : Bool) → b ≡ false → not b ≡ true
not_false true e = absurd (true≢false e)
not_false false e = refl

-- a test of the seeds that another one follows from
under_more : (o : Option Seeds) (t u : Seeds → Bool) → ((s : Seeds) → t s ≡ true → u s ≡ true) → under o t ≡ true → under o u ≡ true
under_more None t u h e = absurd (true≢false (sym e))
under_more (Some s) t u h e = h s e

under_at : (o : Option Seeds) (s : Seeds) (t : Seeds → Bool) → o ≡ Some s → under o t ≡ false → t s ≡ false
under_at o s t is e = sym (ap (λ x. under x t) is) ∙ e

-- what isn't told of: of no script, or under no hash
pub told : {P : Type 0} (size : ℕ) (marks : Marks) (keys : List ℕ) (key : Key) → may_have size marks keys key ≡ false → (is_script_key key ≡ true → marks.scripts ≡ false → P)
    → (marks.other_seeds ≡ false → marks.lists ≡ false → under marks.seeds (λ seeds. is_marked size keys (mixed seeds key)) ≡ false → P) → P
told {P} size marks keys key e script plain = by (not (is_script_key key)) refl marks.scripts refl ((marks.other_seeds || marks.lists) || under marks.seeds (λ seeds. is_marked size keys (mixed seeds key))) refl e
  where
    rest : Bool
    rest = (marks.other_seeds || marks.lists) || under marks.seeds (λ seeds. is_marked size keys (mixed seeds key))

    from : rest ≡ false → P
    from e =
        let n = neither (marks.other_seeds || marks.lists) (under marks.seeds (λ seeds. is_marked size keys (mixed seeds key))) e in
        let m = neither marks.other_seeds marks.lists n.0 in
        plain m.0 m.1 n.1

    by : (native : Bool) → not (is_script_key key) ≡ native → (scripts : Bool) → marks.scripts ≡ scripts → (r : Bool) → rest ≡ r → ((native || scripts) && r) ≡ false → P
    by native n scripts s false r e = from r
    by true n scripts s true r e = absurd (true≢false e)
    by false n true s true r e = absurd (true≢false e)
    by false n false s true r e = script (not_true (is_script_key key) n) s

pub no_script_false : (size : ℕ) (marks : Marks) (keys : List ℕ) (key : Key) → is_script_key key ≡ true → marks.scripts ≡ false → may_have size marks keys key ≡ false
no_script_false size marks keys key script none =
    left_and_false (not (is_script_key key) || marks.scripts) ((marks.other_seeds || marks.lists) || under marks.seeds (λ seeds. is_marked size keys (mixed seeds key))) (both_false (not (is_script_key key)) marks.scripts (ap not script) none)

pub unmarked_false : (size : ℕ) (marks : Marks) (keys : List ℕ) (key : Key) → marks.other_seeds ≡ false → marks.lists ≡ false → under marks.seeds (λ seeds. is_marked size keys (mixed seeds key)) ≡ false → may_have size marks keys key ≡ false
unmarked_false size marks keys key other lists none =
    and_false (not (is_script_key key) || marks.scripts) ((marks.other_seeds || marks.lists) || under marks.seeds (λ seeds. is_marked size keys (mixed seeds key)))
    (both_false (marks.other_seeds || marks.lists) (under marks.seeds (λ seeds. is_marked size keys (mixed seeds key))) (both_false marks.other_seeds marks.lists other lists) none)

-- A filter that has the marks of another one.
abbrev pub Keeps : ℕ → List ℕ → List ℕ → Type 0
Keeps size old new = (v : ℕ) → is_marked size old v ≡ true → is_marked size new v ≡ true

or_left : (a b : Bool) → a ≡ true → (a || b) ≡ true
or_left true b e = refl
or_left false b e = absurd (true≢false (sym e))

pub joined_keeps : (size : ℕ) (a b sum : List ℕ) → Joins size a b sum → Keeps size a sum
joined_keeps size a b sum joins v e = joins v ∙ or_left (is_marked size a v) (is_marked size b v) e

pub told_keeps : (size : ℕ) (old new : List ℕ) → ((v : ℕ) → is_marked size new v ≡ false → is_marked size old v ≡ false) → Keeps size old new
told_keeps size old new h v e = by (is_marked size new v) refl
  where
    by : (b : Bool) → is_marked size new v ≡ b → b ≡ true
    by true s = refl
    by false s = absurd (not_both (is_marked size old v) e (h v s))

pub joined_covers : {V : Type 0} (size : ℕ) (a b sum : List ℕ) (seeds : Seeds) (ps : List (Key × V)) → Joins size a b sum → Covers size b seeds ps → Covers size sum seeds ps
unfolding Covers
joined_covers size a b sum seeds ps joins covers = λ key absent. covers key (neither (is_marked size a (mixed seeds key)) (is_marked size b (mixed seeds key)) (sym (joins (mixed seeds key)) ∙ absent)).1

pub grows_by : (size : ℕ) (old : Marks) (old_keys : List ℕ) (new : Marks) (new_keys : List ℕ) → (new.other_seeds ≡ false → old.other_seeds ≡ false) → (new.lists ≡ false → old.lists ≡ false) → (new.scripts ≡ false → old.scripts ≡ false)
    → Keeps size old_keys new_keys → Keeps 8 old.dynamic new.dynamic → ((test : Seeds → Bool) → new.other_seeds ≡ false → under old.seeds test ≡ true → under new.seeds test ≡ true) → Grows size old old_keys new new_keys
grows_by size old old_keys new new_keys others lists scripts keys dynamic same = record {
  keys = λ key e. told size new new_keys key e
      (λ script none. no_script_false size old old_keys key script (scripts none))
      (λ other plain none. unmarked_false size old old_keys key (others other) (lists plain)
      (is_false (under old.seeds (λ seeds. is_marked size old_keys (mixed seeds key)))
      (λ some. not_both (under new.seeds (λ seeds. is_marked size new_keys (mixed seeds key)))
      (under_more new.seeds (λ seeds. is_marked size old_keys (mixed seeds key)) (λ seeds. is_marked size new_keys (mixed seeds key)) (λ seeds. keys (mixed seeds key)) (same (λ seeds. is_marked size old_keys (mixed seeds key)) other some))
      none)));
  dynamic = λ name params e.
      let n = neither new.other_seeds (under new.seeds (λ seeds. is_marked 8 new.dynamic (untyped seeds name params))) e in
      both_false old.other_seeds (under old.seeds (λ seeds. is_marked 8 old.dynamic (untyped seeds name params))) (others n.0)
      (is_false (under old.seeds (λ seeds. is_marked 8 old.dynamic (untyped seeds name params)))
      (λ some. not_both (under new.seeds (λ seeds. is_marked 8 new.dynamic (untyped seeds name params)))
      (under_more new.seeds (λ seeds. is_marked 8 old.dynamic (untyped seeds name params)) (λ seeds. is_marked 8 new.dynamic (untyped seeds name params)) (λ seeds. dynamic (untyped seeds name params)) (same (λ seeds. is_marked 8 old.dynamic (untyped seeds name params)) n.0 some))
      n.1));
}

-- what marks tell of pairs whose keys they cover
pub missing : {V : Type 0} (size : ℕ) (marks : Marks) (keys : List ℕ) (seeds : Seeds) (ps : List (Key × V)) (key : Key) → (marks.other_seeds ≡ false → marks.seeds ≡ Some seeds) → (marks.lists ≡ false → Covers size keys seeds ps) → (marks.scripts ≡ false → HasNoScript ps)
    → may_have size marks keys key ≡ false → lookup (key_eq key) ps ≡ None
unfolding Covers HasNoScript
missing size marks keys seeds ps key met covers scripts e = told size marks keys key e
    (λ script none. scripts none key script)
    (λ other plain none. covers plain key (under_at marks.seeds seeds (λ seeds. is_marked size keys (mixed seeds key)) (met other) none))

-- and of natives with a parameter of any type
pub missing_dynamic : (marks : Marks) (old own : List ℕ) (m : ModuleTree) (name : Bytes) (params : ℕ) → (marks.other_seeds ≡ false → marks.seeds ≡ Some m.own.seeds) → Joins 8 old own marks.dynamic → ((hash : ℕ) → is_marked 8 own hash ≡ may_contain m hash)
    → may_have_dynamic marks name params ≡ false → lacks_dynamic name params m ≡ true
missing_dynamic marks old own m name params met joins is e =
    let hash = untyped m.own.seeds name params in
    let n = neither marks.other_seeds (under marks.seeds (λ seeds. is_marked 8 marks.dynamic (untyped seeds name params))) e in
    let absent = under_at marks.seeds m.own.seeds (λ seeds. is_marked 8 marks.dynamic (untyped seeds name params)) (met n.0) n.1 in
    not_false (may_contain m hash) (sym (is hash) ∙ (neither (is_marked 8 old hash) (is_marked 8 own hash) (sym (joins hash) ∙ absent)).1)

-- Marks after a module came: those after its seeds, and what it has itself.
abbrev pub with_more : Marks → Bool → Bool → List ℕ → Marks
with_more met lists script dynamic = record met { lists = lists; scripts = met.scripts || script; dynamic = dynamic }

pub added_grows : (size : ℕ) (old met : Marks) (seeds : Seeds) (lists script : Bool) (own dynamic old_keys new_keys : List ℕ) → Meets seeds old met → (lists ≡ false → met.lists ≡ false) → Joins 8 met.dynamic own dynamic → Keeps size old_keys new_keys
    → Grows size old old_keys (with_more met lists script dynamic) new_keys
added_grows size old met seeds lists script own dynamic old_keys new_keys meets plain joins keeps = grows_by size old old_keys (with_more met lists script dynamic) new_keys meets.still (λ e. sym meets.lists ∙ plain e) (λ e. sym meets.scripts ∙ (neither met.scripts script e).0) keeps
    (λ v e. joined_keeps 8 met.dynamic own dynamic joins v (ap (λ marks. is_marked 8 marks v) meets.dynamic ∙ e)) meets.same

pub added_missing : {V : Type 0} (size : ℕ) (old met : Marks) (given seeds : Seeds) (lists script : Bool) (dynamic keys : List ℕ) (ps : List (Key × V)) (key : Key) → Meets given old met → given ≡ seeds → (lists ≡ false → Covers size keys seeds ps) → (script ≡ false → HasNoScript ps)
    → may_have size (with_more met lists script dynamic) keys key ≡ false → lookup (key_eq key) ps ≡ None
added_missing size old met given seeds lists script dynamic keys ps key meets is covers scripts e =
    missing size (with_more met lists script dynamic) keys seeds ps key (λ other. meets.met other ∙ ap Some is) covers (λ none. scripts (neither met.scripts script none).1) e

pub added_dynamic : (old met : Marks) (given : Seeds) (lists script : Bool) (own dynamic : List ℕ) (m : ModuleTree) (name : Bytes) (params : ℕ) → Meets given old met → given ≡ m.own.seeds → Joins 8 met.dynamic own dynamic → ((hash : ℕ) → is_marked 8 own hash ≡ may_contain m hash)
    → may_have_dynamic (with_more met lists script dynamic) name params ≡ false → lacks_dynamic name params m ≡ true
added_dynamic old met given lists script own dynamic m name params meets is joins tells e =
    missing_dynamic (with_more met lists script dynamic) met.dynamic own m name params (λ other. meets.met other ∙ ap Some is) joins tells e

pub joined_told : (size : ℕ) (a b sum : List ℕ) → Joins size a b sum → (v : ℕ) → is_marked size sum v ≡ false → is_marked size a v ≡ false
joined_told size a b sum joins v e = (neither (is_marked size a v) (is_marked size b v) (sym (joins v) ∙ e)).0
