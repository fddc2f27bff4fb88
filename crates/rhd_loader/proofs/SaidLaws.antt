-- What is read of a module text is what it says.
use Rattle.std.proofs.Common.{◌≡◌, ℕ, ◌+◌, List, [], ◌∷◌, Option, Some, None, Ok, Err, refl, sym, ap, ◌∙◌, inl, inr}
use Rattle.std.specs.Prelude.{Result}
use Rattle.rhd_value.specs.Tree.{Bytes}
use Rattle.rhd_loader.specs.declared.part.ModulePart.{ModulePart}
use Rattle.rhd_loader.specs.declared.said.Said.{Said}
use Rattle.rhd_loader.specs.Said.{with_line}
use Rattle.rhd_loader.specs.Says.{GoesOn, SaysFrom}
use Rattle.rhd_loader.specs.Reading.{module_line, said_with, next, said_from}
use Rattle.rhd_loader.proofs.PlanTable.{line_sound, line_complete, none_sound, none_complete}

abbrev Answer : Type 0
Answer = Result Said Bytes

goes_sound : (n : ℕ) (a : Answer) (more : List (List ℕ)) (r : Answer) → next a (λ t. said_from (n + 1) t more) ≡ r
    → ((t : Said) → said_from (n + 1) t more ≡ r → SaysFrom (n + 1) t more r) → GoesOn a (λ t. SaysFrom (n + 1) t more r) r
goes_sound n (Ok t) more r e ih = ih t e
goes_sound n (Err text) more r e ih = sym e

step_sound : (n : ℕ) (s : Said) (o : Option (Option ModulePart)) (line : List ℕ) (more : List (List ℕ)) (r : Answer) → module_line line ≡ o → next (said_with n s o) (λ t. said_from (n + 1) t more) ≡ r
    → ((t : Said) → said_from (n + 1) t more ≡ r → SaysFrom (n + 1) t more r) → SaysFrom n s (line ∷ more) r
step_sound n s None line more r h e ih = inr (none_sound line h, sym e)
step_sound n s (Some l) line more r h e ih = inl (l, line_sound l line h, goes_sound n (with_line l s) more r e ih)

pub says_sound : (n : ℕ) (s : Said) (ls : List (List ℕ)) (r : Answer) → said_from n s ls ≡ r → SaysFrom n s ls r
says_sound n s [] r e = sym e
says_sound n s (line ∷ more) r e = step_sound n s (module_line line) line more r refl e (λ t f. says_sound (n + 1) t more r f)

goes_complete : (n : ℕ) (a : Answer) (more : List (List ℕ)) (r : Answer) → GoesOn a (λ t. SaysFrom (n + 1) t more r) r
    → ((t : Said) → SaysFrom (n + 1) t more r → said_from (n + 1) t more ≡ r) → next a (λ t. said_from (n + 1) t more) ≡ r
goes_complete n (Ok t) more r w ih = ih t w
goes_complete n (Err text) more r w ih = sym w

says_complete : (n : ℕ) (s : Said) (ls : List (List ℕ)) (r : Answer) → SaysFrom n s ls r → said_from n s ls ≡ r
says_complete n s [] r w = sym w
says_complete n s (line ∷ more) r (inl w) =
    ap (λ (o : Option (Option ModulePart)). next (said_with n s o) (λ t. said_from (n + 1) t more)) (line_complete w.0 line w.1)
    ∙ goes_complete n (with_line w.0 s) more r w.2 (λ t x. says_complete (n + 1) t more r x)
says_complete n s (line ∷ more) r (inr w) = ap (λ (o : Option (Option ModulePart)). next (said_with n s o) (λ t. said_from (n + 1) t more)) (none_complete line w.0) ∙ sym w.1

-- lines say something, and one thing alone
pub says_some : (n : ℕ) (s : Said) (ls : List (List ℕ)) → (r : Answer) × SaysFrom n s ls r
says_some n s ls = (said_from n s ls, says_sound n s ls (said_from n s ls) refl)

pub says_one : (n : ℕ) (s : Said) (ls : List (List ℕ)) (q r : Answer) → SaysFrom n s ls q → SaysFrom n s ls r → q ≡ r
says_one n s ls q r v w = sym (says_complete n s ls q v) ∙ says_complete n s ls r w
