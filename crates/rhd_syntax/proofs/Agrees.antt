-- A reader and what it reads.
use Rattle.std.proofs.Common.{◌≡◌, ℕ, Bool, true, false, cond, ◌&&◌, List, Option, Some, None, refl, ap, not}
use Rattle.rhd_syntax.specs.Reading.{Parse, ◌>>=◌}
use Rattle.rhd_syntax.specs.Spans.{Span}

-- What is read is written so, and what is written so is read.
pub record Agrees (A : Type 0) (read : Parse A) (written : A → Span) : Type 0 where
  pub sound : (x : A) (bytes rest : List ℕ) → read bytes ≡ Some (x, rest) → written x bytes rest
  pub complete : (x : A) (bytes rest : List ℕ) → written x bytes rest → read bytes ≡ Some (x, rest)

pub bind_some : {A B : Type 0} (o : Option A) (f : A → Option B) (b : B) → (o >>= f) ≡ Some b → (a : A) × (o ≡ Some a) × (f a ≡ Some b)
bind_some (Some a) f b e = (a, refl, e)
bind_some None f b e = absurd cc

pub same_some : {A : Type 0} (a b : A) → Some a ≡ Some b → a ≡ b
same_some a b e = cc

pub some_pair : {A B : Type 0} (a c : A) (b d : B) → ◌≡◌ {A = Option (A × B)} (Some (a, b)) (Some (c, d)) → (a ≡ c) × (b ≡ d)
some_pair {A = A} {B = B} a c b d e = let p = same_some (a, b) (c, d) e in (ap (λ (q : A × B). q.0) p, ap (λ (q : A × B). q.1) p)

pub cond_some : {A : Type 0} (b : Bool) (a c : A) → cond b (Some a) None ≡ Some c → (b ≡ true) × (a ≡ c)
cond_some true a c e = (refl, cc)
cond_some false a c e = absurd cc

pub not_true : (b : Bool) → not b ≡ true → b ≡ false
not_true true e = absurd cc
not_true false e = refl

pub and_parts : (a b : Bool) → (a && b) ≡ true → (a ≡ true) × (b ≡ true)
and_parts true b e = (refl, e)
and_parts false b e = absurd cc
