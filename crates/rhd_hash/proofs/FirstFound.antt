-- A search by a key gives the first value under it. The test of keys is any that decides whether two are the same.
use Rattle.std.proofs.Common.{◌≡◌, ◌≢◌, Bool, true, false, cond, List, [], ◌∷◌, ◌++◌, refl, sym, ap, ◌∙◌}
use Rattle.std.specs.Prelude.{Some, None}
use Rattle.std.specs.Bool.{Decides}
use Rattle.std.specs.Map.{lookup}
use Rattle.rhd_hash.specs.FirstPairs.{NoneWith, IsFirstWith}

abbrev pub IsTest : {K : Type 0} → (K → K → Bool) → Type 0
IsTest {K} eq = (a b : K) → Decides (eq a b) (a ≡ b)

not_both : (b : Bool) → b ≡ false → b ≡ true → ⊥
not_both b f t = cc

is_false : (b : Bool) → (b ≡ true → ⊥) → b ≡ false
is_false true h = absurd (h refl)
is_false false h = refl

-- a key is the same as itself, and as no other
pub same_key : {K : Type 0} (eq : K → K → Bool) → IsTest eq → (key : K) → eq key key ≡ true
same_key eq test key = (test key key).1 refl

pub other_key : {K : Type 0} (eq : K → K → Bool) → IsTest eq → (key k : K) → k ≢ key → eq key k ≡ false
other_key eq test key k other = is_false (eq key k) (λ e. other (sym ((test key k).0 e)))

pub is_other : {K : Type 0} (eq : K → K → Bool) → IsTest eq → (key k : K) → eq key k ≡ false → k ≢ key
is_other eq test key k e = λ same. not_both (eq key k) e ((test key k).1 (sym same))

found_step : {K V : Type 0} (eq : K → K → Bool) → IsTest eq → (key : K) (v : V) (p : K × V) (ps : List (K × V)) (same : Bool) → eq key p.0 ≡ same → (lookup (eq key) ps ≡ Some v → IsFirstWith key v ps)
    → cond same (Some p.1) (lookup (eq key) ps) ≡ Some v → IsFirstWith key v (p ∷ ps)
found_step eq test key v p ps true s ih e =
    let k : p.0 ≡ key = sym ((test key p.0).0 s) in
    let w : p.1 ≡ v = cc in
    record { front = []; others = ps; stands = λ i. (k i, w i) ∷ ps; before = tt }
found_step {K} {V} eq test key v p ps false s ih e =
    let r = ih e in
    record { front = p ∷ r.front; others = r.others; stands = ap (λ (qs : List (K × V)). p ∷ qs) r.stands; before = (is_other eq test key p.0 s, r.before) }

pub found_first : {K V : Type 0} (eq : K → K → Bool) → IsTest eq → (key : K) (v : V) (ps : List (K × V)) → lookup (eq key) ps ≡ Some v → IsFirstWith key v ps
found_first eq test key v [] e = absurd cc
found_first eq test key v (p ∷ ps) e = found_step eq test key v p ps (eq key p.0) refl (found_first eq test key v ps) e

behind : {K V : Type 0} (eq : K → K → Bool) → IsTest eq → (key : K) (v : V) (front others : List (K × V)) → NoneWith key front → lookup (eq key) (front ++ (key, v) ∷ others) ≡ Some v
behind eq test key v [] others before = rw (same_key eq test key) refl
behind eq test key v (p ∷ front) others before = rw (other_key eq test key p.0 before.0) (behind eq test key v front others before.1)

pub first_found : {K V : Type 0} (eq : K → K → Bool) → IsTest eq → (key : K) (v : V) (ps : List (K × V)) → IsFirstWith key v ps → lookup (eq key) ps ≡ Some v
first_found eq test key v ps r = ap (lookup (eq key)) r.stands ∙ behind eq test key v r.front r.others r.before

missing_step : {K V : Type 0} (eq : K → K → Bool) → IsTest eq → (key : K) (p : K × V) (ps : List (K × V)) (same : Bool) → eq key p.0 ≡ same → (lookup (eq key) ps ≡ None → NoneWith key ps)
    → cond same (Some p.1) (lookup (eq key) ps) ≡ None → NoneWith key (p ∷ ps)
missing_step eq test key p ps true s ih e = absurd cc
missing_step eq test key p ps false s ih e = (is_other eq test key p.0 s, ih e)

pub missing_none : {K V : Type 0} (eq : K → K → Bool) → IsTest eq → (key : K) (ps : List (K × V)) → lookup (eq key) ps ≡ None → NoneWith key ps
missing_none eq test key [] e = tt
missing_none eq test key (p ∷ ps) e = missing_step eq test key p ps (eq key p.0) refl (missing_none eq test key ps) e

pub none_missing : {K V : Type 0} (eq : K → K → Bool) → IsTest eq → (key : K) (ps : List (K × V)) → NoneWith key ps → lookup (eq key) ps ≡ None
none_missing eq test key [] n = refl
none_missing eq test key (p ∷ ps) n = rw (other_key eq test key p.0 n.0) (none_missing eq test key ps n.1)
