-- What was made in a session, or may be given in it, stays so when environments are added.
use Rattle.std.proofs.Common.{◌≡◌, ℕ, ◌<◌, ◌≤◌, Bool, true, ◌&&◌, List, [], ◌∷◌, refl, arith}
use Rattle.std.specs.Prelude.{Option, None, Some}
use Rattle.std.specs.List.{list_all}
use Rattle.std.proofs.lemmas.Bool.{lt-ltb, ltb-true}
use Rattle.rhd_func.specs.declared.access.EnvId.{EnvId}
use Rattle.rhd_func.specs.declared.func.RhaiFunc.{RhaiFunc}
use Rattle.rhd_func.specs.declared.func.RhaiFunc.TheVariants as funcs
use Rattle.rhd_module.specs.Tree.{ModuleTree, Lists, Subs, no_subs, sub}
use Rattle.rhd_layers.specs.Lists.{Imports}
use Rattle.rhd_layers.proofs.Bools.{both, parts}
use Rattle.rhd_engine.proofs.HeldTrees.{three}
use Rattle.rhd_resolve.specs.Held.{env_below, env_held, own_envs_held, envs_held_below, envs_held}
use Rattle.rhd_resolve.specs.Sessions.{Seen, with_envs, IsMade, IsGiven, AreGiven}

weaker : {A : Type 0} (p q : A → Bool) (xs : List A) → ((x : A) → p x ≡ true → q x ≡ true) → list_all p xs ≡ true → list_all q xs ≡ true
weaker p q [] step all = refl
weaker p q (x ∷ xs) step all =
    let h = parts (p x) (list_all p xs) all in both (q x) (list_all q xs) (step x h.0) (weaker p q xs step h.1)

below_more : (n k : ℕ) (env : Option EnvId) → n ≤ k → env_below n env ≡ true → env_below k env ≡ true
below_more n k None le h = refl
below_more n k (Some env) le h = let lt : env.0 < n = ltb-true env.0 n h in lt-ltb env.0 k (omega (arith, lt, le))

func_more : (n k : ℕ) (func : RhaiFunc) → n ≤ k → env_held n func ≡ true → env_held k func ≡ true
func_more n k (funcs.Pure id context pure volatile) le h = refl
func_more n k (funcs.Method id context pure volatile) le h = refl
func_more n k (funcs.Iterator id) le h = refl
func_more n k (funcs.Plugin id) le h = refl
func_more n k (funcs.StaticPlugin id) le h = refl
func_more n k (funcs.Script def env) le h = below_more n k env le h

own_more : (n k : ℕ) (own : Lists) → n ≤ k → own_envs_held n own ≡ true → own_envs_held k own ≡ true
own_more n k own le h = weaker (λ p. env_held n p.1.func) (λ p. env_held k p.1.func) own.eager (λ p. func_more n k p.1.func le) h

subs_more : (n k : ℕ) (subs : Subs) → n ≤ k → envs_held_below n subs ≡ true → envs_held_below k subs ≡ true
subs_more n k no_subs le h = refl
subs_more n k (sub name own inner later) le h =
    let p = parts (own_envs_held n own) (envs_held_below n inner && envs_held_below n later) h in
    let q = parts (envs_held_below n inner) (envs_held_below n later) p.1 in
    three (own_envs_held k own) (envs_held_below k inner) (envs_held_below k later) (own_more n k own le p.0) (subs_more n k inner le q.0) (subs_more n k later le q.1)

pub envs_more : (n k : ℕ) (m : ModuleTree) → n ≤ k → envs_held n m ≡ true → envs_held k m ≡ true
envs_more n k m le h =
    let p = parts (own_envs_held n m.own) (envs_held_below n m.subs) h in
    both (own_envs_held k m.own) (envs_held_below k m.subs) (own_more n k m.own le p.0) (subs_more n k m.subs le p.1)

pub IsMade-more : (s : Seen) (n : ℕ) (m : ModuleTree) → s.envs ≤ n → IsMade s m → IsMade (with_envs s n) m
IsMade-more s n m le h = record { natives = h.natives; envs = envs_more s.envs n m le h.envs; lists = h.lists }

pub IsGiven-more : (s : Seen) (n : ℕ) (m : ModuleTree) → s.envs ≤ n → IsGiven s m → IsGiven (with_envs s n) m
IsGiven-more s n m le h = record { made = IsMade-more s n m le h.made; indexed = h.indexed }

pub AreGiven-more : (s : Seen) (n : ℕ) (imports : Imports) → s.envs ≤ n → AreGiven s imports → AreGiven (with_envs s n) imports
AreGiven-more s n [] le h = tt
AreGiven-more s n (i ∷ imports) le h = (IsGiven-more s n i.1 le h.0, AreGiven-more s n imports le h.1)
