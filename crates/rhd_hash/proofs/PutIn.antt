-- A value that is put in is found by its key, and changes nothing else. The test of keys is any that decides whether two are the same.
use Rattle.std.proofs.Common.{◌≡◌, ◌≢◌, Bool, true, false, cond, List, [], ◌∷◌, refl, sym, ap, ◌∙◌}
use Rattle.std.specs.Prelude.{Option, Some}
use Rattle.std.specs.Map.{lookup}
use Rattle.rhd_hash.specs.PutIn.{put_in}
use Rattle.rhd_hash.specs.FirstPairs.{IsPut, in_place, last}
use Rattle.rhd_hash.proofs.FirstFound.{IsTest, same_key, other_key, is_other}

one_more : {K V : Type 0} (key : K) (v : V) (p : K × V) (old new : List (K × V)) → p.0 ≢ key → IsPut key v old new → IsPut key v (p ∷ old) (p ∷ new)
one_more {K} {V} key v p old new other (in_place front others was none o n) = in_place (p ∷ front) others was (other, none) (ap (λ (qs : List (K × V)). p ∷ qs) o) (ap (λ (qs : List (K × V)). p ∷ qs) n)
one_more {K} {V} key v p old new other (last none n) = last (other, none) (ap (λ (qs : List (K × V)). p ∷ qs) n)

put_step : {K V : Type 0} (eq : K → K → Bool) → IsTest eq → (key : K) (v : V) (p : K × V) (ps : List (K × V)) (same : Bool) → eq key p.0 ≡ same → IsPut key v ps (put_in eq key v ps)
    → IsPut key v (p ∷ ps) (cond same ((p.0, v) ∷ ps) (p ∷ put_in eq key v ps))
put_step eq test key v p ps true s ih =
    let k : p.0 ≡ key = sym ((test key p.0).0 s) in
    in_place [] ps p.1 tt (λ i. (k i, p.1) ∷ ps) (λ i. (k i, v) ∷ ps)
put_step eq test key v p ps false s ih = one_more key v p ps (put_in eq key v ps) (is_other eq test key p.0 s) ih

pub is_put : {K V : Type 0} (eq : K → K → Bool) → IsTest eq → (key : K) (v : V) (ps : List (K × V)) → IsPut key v ps (put_in eq key v ps)
is_put eq test key v [] = last tt refl
is_put eq test key v (p ∷ ps) = put_step eq test key v p ps (eq key p.0) refl (is_put eq test key v ps)

itself_step : {K V : Type 0} (eq : K → K → Bool) (key : K) (v : V) (p : K × V) (ps : List (K × V)) (same : Bool) → eq key p.0 ≡ same → lookup (eq key) (put_in eq key v ps) ≡ Some v
    → lookup (eq key) (cond same ((p.0, v) ∷ ps) (p ∷ put_in eq key v ps)) ≡ Some v
itself_step eq key v p ps true s ih = rw s refl
itself_step eq key v p ps false s ih = rw s ih

pub finds_itself : {K V : Type 0} (eq : K → K → Bool) → IsTest eq → (key : K) (v : V) (ps : List (K × V)) → lookup (eq key) (put_in eq key v ps) ≡ Some v
finds_itself eq test key v [] = rw (same_key eq test key) refl
finds_itself eq test key v (p ∷ ps) = itself_step eq key v p ps (eq key p.0) refl (finds_itself eq test key v ps)

others_step : {K V : Type 0} (eq : K → K → Bool) → IsTest eq → (key : K) (v : V) (other : K) (p : K × V) (ps : List (K × V)) (same : Bool) → eq key p.0 ≡ same → other ≢ key
    → lookup (eq other) (put_in eq key v ps) ≡ lookup (eq other) ps → lookup (eq other) (cond same ((p.0, v) ∷ ps) (p ∷ put_in eq key v ps)) ≡ lookup (eq other) (p ∷ ps)
others_step eq test key v other p ps true s apart ih =
    let k : key ≡ p.0 = (test key p.0).0 s in
    rw (other_key eq test other p.0 (λ same. apart (sym same ∙ sym k))) refl
others_step {K} {V} eq test key v other p ps false s apart ih = ap (λ (o : Option V). cond (eq other p.0) (Some p.1) o) ih

pub finds_others : {K V : Type 0} (eq : K → K → Bool) → IsTest eq → (key : K) (v : V) (other : K) (ps : List (K × V)) → other ≢ key → lookup (eq other) (put_in eq key v ps) ≡ lookup (eq other) ps
finds_others eq test key v other [] apart = rw (other_key eq test other key (λ same. apart (sym same))) refl
finds_others eq test key v other (p ∷ ps) apart = others_step eq test key v other p ps (eq key p.0) refl apart (finds_others eq test key v other ps apart)
