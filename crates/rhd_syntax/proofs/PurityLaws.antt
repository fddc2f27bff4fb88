-- The word for purity: what is read is what is written.
use Rattle.std.proofs.Common.{◌≡◌, ℕ, Bool, true, false, cond, List, Option, Some, None, refl, ap, subst}
use Rattle.std.specs.Prelude.{codes}
use Rattle.rhd_syntax.specs.Spans.{bare, purity}
use Rattle.rhd_syntax.specs.Reading.{flag_at, purity_at}
use Rattle.rhd_syntax.proofs.Agrees.{some_pair}
use Rattle.rhd_syntax.proofs.FlagLaws.{not_word, flag_read, flag_there, flag_absent}

found : (p : Option Bool) (q : Option Bool) (bytes after rest : List ℕ) → purity p bytes after → ◌≡◌ {A = Option (Option Bool × List ℕ)} (Some (p, after)) (Some (q, rest)) → purity q bytes rest
found p q bytes after rest w e = let s = some_pair p q after rest e in subst (λ (x : Option Bool). purity x bytes rest) s.0 (subst (λ (r : List ℕ). purity p bytes r) s.1 w)

cases : (x y : Bool) (bytes a b rest : List ℕ) (q : Option Bool) → flag_at (codes "pure") bytes ≡ (x, a) → flag_at (codes "impure") bytes ≡ (y, b) → ◌≡◌ {A = Option (Option Bool × List ℕ)} (Some (cond x (Some true, a) (cond y (Some false, b) (None, bytes)))) (Some (q, rest)) → purity q bytes rest
cases true y bytes a b rest q h i e = found (Some true) q bytes a rest (flag_read (codes "pure") bytes a true (ap (λ (f : Bool × List ℕ). Some f) h)) e
cases false true bytes a b rest q h i e = found (Some false) q bytes b rest (flag_read (codes "impure") bytes b true (ap (λ (f : Bool × List ℕ). Some f) i)) e
cases false false bytes a b rest q h i e = found None q bytes bytes rest refl e

pub purity_sound : (q : Option Bool) (bytes rest : List ℕ) → ◌≡◌ {A = Option (Option Bool × List ℕ)} (Some (purity_at bytes)) (Some (q, rest)) → purity q bytes rest
unfolding purity_at
purity_sound q bytes rest e = cases (flag_at (codes "pure") bytes).0 (flag_at (codes "impure") bytes).0 bytes (flag_at (codes "pure") bytes).1 (flag_at (codes "impure") bytes).1 rest q refl refl e

pub purity_there : (pure : Bool) (bytes rest : List ℕ) → purity (Some pure) bytes rest → purity_at bytes ≡ (Some pure, rest)
unfolding purity_at
purity_there true bytes rest w = rw (flag_there (codes "pure") bytes rest w) refl
purity_there false bytes rest w =
    let n = flag_absent (codes "pure") bytes (λ after u. not_word (codes "pure") (codes "impure") after rest bytes refl w u) in
    rw (n, flag_there (codes "impure") bytes rest w) refl

pub purity_absent : (bytes : List ℕ) → ((after : List ℕ) → bare (codes "pure") bytes after → ⊥) → ((after : List ℕ) → bare (codes "impure") bytes after → ⊥) → purity_at bytes ≡ (None, bytes)
unfolding purity_at
purity_absent bytes n m = rw (flag_absent (codes "pure") bytes n, flag_absent (codes "impure") bytes m) refl
