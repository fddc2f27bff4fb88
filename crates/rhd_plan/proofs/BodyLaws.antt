-- The latest body.
use Rattle.std.proofs.Common.{◌≡◌, ℕ, ◌-◌, ◌<◌, List, length, get_or, slice_set, Option, Some, Result, Ok, Err, refl, sym, ap, ◌∙◌, subst, arith}
use Rattle.std.specs.List.{slice_get}
use Rattle.std.proofs.lemmas.List.{set-get_or}
use Rattle.std.proofs.lemmas.Option.{slice_get_read, get_or_from_slice_get}
use Rattle.rhd_plan.specs.declared.body.BodyPlan.{BodyPlan}
use Rattle.rhd_syntax.specs.declared.fault.Stop.{Stop}
use Rattle.rhd_syntax.specs.declared.fault.Stop.TheVariants as stops
use Rattle.rhd_plan.specs.Session.{in_latest}
use Rattle.rhd_syntax.specs.Answers.{StepGives}

-- what is put in its own place changes nothing
kept : (bodies : List BodyPlan) (i : ℕ) (b c : BodyPlan) → slice_get bodies i ≡ Some b → c ≡ b → slice_set bodies i c ≡ bodies
kept bodies i b c there same = ap (λ (x : BodyPlan). slice_set bodies i x) (same ∙ sym (get_or_from_slice_get bodies i b b there)) ∙ set-get_or bodies i b

changed : {U : Type 0} (bodies : List BodyPlan) (change : BodyPlan → Option BodyPlan) (b c : BodyPlan) (r : Result U Stop) → slice_get bodies (length bodies - 1) ≡ Some b → StepGives r b c (change b) → StepGives r bodies (slice_set bodies (length bodies - 1) c) (in_latest change bodies)
unfolding in_latest
changed bodies change b c (Ok u) there e = rw (there, e) refl
changed bodies change b c (Err stops.Bad) there e = (rw (there, e.0) refl, kept bodies (length bodies - 1) b c there e.1)
changed bodies change b c (Err stops.Memory) there e = (tt, kept bodies (length bodies - 1) b c there e.1)

pub latest_changed : {U : Type 0} (bodies : List BodyPlan) (n : ℕ) (change : BodyPlan → Option BodyPlan) (b c : BodyPlan) (r : Result U Stop) → n ≡ length bodies → 0 < n → b ≡ get_or bodies (n - 1) b → StepGives r b c (change b) → StepGives r bodies (slice_set bodies (n - 1) c) (in_latest change bodies)
latest_changed bodies n change b c r same some read e =
    let there : slice_get bodies (n - 1) ≡ Some b = slice_get_read bodies n (n - 1) b same (omega (arith, some)) read in
    subst (λ (k : ℕ). StepGives r bodies (slice_set bodies (k - 1) c) (in_latest change bodies)) (sym same)
    (changed bodies change b c r (sym (ap (λ (k : ℕ). slice_get bodies (k - 1)) same) ∙ there) e)
