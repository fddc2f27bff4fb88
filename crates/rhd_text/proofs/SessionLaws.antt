-- Texts: what is read is what is written.
use Rattle.std.proofs.Common.{◌≡◌, ◌⊎◌, inl, inr, ℕ, ◌+◌, List, [], ◌∷◌, ◌++◌, length, Option, Some, None, Result, Ok, Err, refl, sym, ap, subst, ◌∙◌, arith}
use Rattle.rhd_func.specs.Natives.{NativeInfo}
use Rattle.rhd_text.specs.declared.fault.TextFault.{TextFault}
use Rattle.rhd_text.specs.declared.fault.TextFault.TheVariants.{BadLine, OutOfMemory}
use Rattle.rhd_plan.specs.declared.session.SessionText.{SessionText}
use Rattle.rhd_plan.specs.declared.part.Part.{Part}
use Rattle.rhd_text.specs.Grammar.{IsLine}
use Rattle.rhd_plan.specs.Session.{empty_text}
use Rattle.rhd_text.specs.Session.{with_line, IsText, IsSession, IsBadAfter, IsFirstBad, ReadsText, ReadsNoOther, NamesNoOther}
use Rattle.rhd_text.specs.ReadRows.{line_of}
use Rattle.rhd_text.specs.ReadSession.{after_line, next, text_from, session_of}
use Rattle.rhd_text.specs.Answers.{Reads}
use Rattle.rhd_syntax.proofs.Agrees.{bind_some}
use Rattle.rhd_text.proofs.TableLaws.{line_sound, line_complete}

abbrev Said : Type 0
Said = Result SessionText ℕ

same_ok : (t u : SessionText) → ◌≡◌ {A = Said} (Ok t) (Ok u) → t ≡ u
same_ok t u e = cc

same_err : (a b : ℕ) → ◌≡◌ {A = Said} (Err a) (Err b) → a ≡ b
same_err a b e = cc

not_both : (t : SessionText) (n : ℕ) → ◌≡◌ {A = Said} (Ok t) (Err n) → ⊥
not_both t n e = absurd cc

none_some : (t : SessionText) → None ≡ Some t → ⊥
none_some t e = absurd cc

-- ---- one line after others

after_sound : (natives : List NativeInfo) (n : ℕ) (t v : SessionText) (line : List ℕ) → after_line natives n t line ≡ Some v → (l : Option Part) × IsLine n l line × (with_line natives t l ≡ Some v)
unfolding after_line
after_sound natives n t v line e =
    let a = bind_some (line_of n line) (λ l. with_line natives t l) v e in
    (a.0, line_sound n a.0 line a.1, a.2)

after_complete : (natives : List NativeInfo) (n : ℕ) (t v : SessionText) (line : List ℕ) (l : Option Part) → IsLine n l line → with_line natives t l ≡ Some v → after_line natives n t line ≡ Some v
unfolding after_line
after_complete natives n t v line l w e = rw (line_complete n l line w) e

-- ---- a text

text_step : (natives : List NativeInfo) (n : ℕ) (t u : SessionText) (o : Option SessionText) (line : List ℕ) (more : List (List ℕ)) → after_line natives n t line ≡ o → next n o (λ v. text_from natives (n + 1) v more) ≡ Ok u → ((v : SessionText) → text_from natives (n + 1) v more ≡ Ok u → IsText natives (n + 1) v more u) → IsText natives n t (line ∷ more) u
text_step natives n t u None line more h e ih = absurd cc
text_step natives n t u (Some v) line more h e ih = let a = after_sound natives n t v line h in (a.0, v, a.1, a.2, ih v e)

text_sound : (natives : List NativeInfo) (n : ℕ) (t : SessionText) (ls : List (List ℕ)) (u : SessionText) → text_from natives n t ls ≡ Ok u → IsText natives n t ls u
text_sound natives n t [] u e = sym (same_ok t u e)
text_sound natives n t (line ∷ more) u e = text_step natives n t u (after_line natives n t line) line more refl e (λ v f. text_sound natives (n + 1) v more u f)

text_complete : (natives : List NativeInfo) (n : ℕ) (t : SessionText) (ls : List (List ℕ)) (u : SessionText) → IsText natives n t ls u → text_from natives n t ls ≡ Ok u
text_complete natives n t [] u w = ap (λ (v : SessionText). let r : Said = Ok v in r) (sym w)
text_complete natives n t (line ∷ more) u w = rw (after_complete natives n t w.1 line w.0 w.2 w.3) (text_complete natives (n + 1) w.1 more u w.4)

-- reading goes on behind a line that is read
pub goes_on : (natives : List NativeInfo) (n : ℕ) (t v : SessionText) (line : List ℕ) (more ls : List (List ℕ)) (r : Said) → ls ≡ line ∷ more → after_line natives n t line ≡ Some v → text_from natives n t ls ≡ r → text_from natives (n + 1) v more ≡ r
goes_on natives n t v line more ls r e step so_far =
    sym (ap (λ (o : Option SessionText). next n o (λ u. text_from natives (n + 1) u more)) step) ∙ sym (ap (λ (x : List (List ℕ)). text_from natives n t x) e) ∙ so_far

-- ---- the first bad line

stop_step : (natives : List NativeInfo) (m n : ℕ) (t : SessionText) (o : Option SessionText) (line : List ℕ) (ls : List (List ℕ)) → after_line natives m t line ≡ o → next m o (λ v. text_from natives (m + 1) v ls) ≡ Err n → ((v : SessionText) → text_from natives (m + 1) v ls ≡ Err n → IsBadAfter natives (m + 1) v n ls) → IsBadAfter natives m t n (line ∷ ls)
stop_step natives m n t None line ls h e ih = record {
  front = [];
  bad = line;
  more = ls;
  all = refl;
  place = omega (arith, same_err m n e);
  said = t;
  earlier = refl;
  here = λ l v w f. none_some v (sym h ∙ after_complete natives m t v line l (subst (λ (k : ℕ). IsLine k l line) (sym (same_err m n e)) w) f);
}
stop_step natives m n t (Some v) line ls h e ih =
    let s = ih v e in
    let a = after_sound natives m t v line h in
    record {
      front = line ∷ s.front;
      bad = s.bad;
      more = s.more;
      all = ap (λ (x : List (List ℕ)). line ∷ x) s.all;
      place = omega (arith, s.place);
      said = s.said;
      earlier = (a.0, v, a.1, a.2, s.earlier);
      here = s.here;
    }

stops : (natives : List NativeInfo) (m n : ℕ) (t : SessionText) (ls : List (List ℕ)) → text_from natives m t ls ≡ Err n → IsBadAfter natives m t n ls
stops natives m n t [] e = absurd cc
stops natives m n t (line ∷ ls) e = stop_step natives m n t (after_line natives m t line) line ls refl e (λ v f. stops natives (m + 1) n v ls f)

first_bad : (natives : List NativeInfo) (n : ℕ) (ls : List (List ℕ)) → session_of natives ls ≡ Err n → IsFirstBad natives n ls
first_bad natives n ls e = stops natives 1 n empty_text ls e

-- reading goes through lines that are a text
goes_through : (natives : List NativeInfo) (n : ℕ) (t v : SessionText) (front rest : List (List ℕ)) → IsText natives n t front v → text_from natives n t (front ++ rest) ≡ text_from natives (n + length front) v rest
goes_through natives n t v [] rest w =
    let k : n ≡ n + 0 = omega arith in
    ap (λ (u : SessionText). text_from natives n u rest) (sym w) ∙ ap (λ (i : ℕ). text_from natives i v rest) k
goes_through natives n t v (line ∷ front) rest w =
    let k : n + 1 + length front ≡ n + length (line ∷ front) = omega arith in
    rw (after_complete natives n t w.1 line w.0 w.2 w.3) (goes_through natives (n + 1) w.1 v front rest w.4 ∙ ap (λ (i : ℕ). text_from natives i v rest) k)

none_after : (natives : List NativeInfo) (n : ℕ) (t : SessionText) (line : List ℕ) (o : Option SessionText) → after_line natives n t line ≡ o → ((l : Option Part) (v : SessionText) → IsLine n l line → with_line natives t l ≡ Some v → ⊥) → o ≡ None
none_after natives n t line None h here = refl
none_after natives n t line (Some v) h here = let a = after_sound natives n t v line h in absurd (here a.0 v a.1 a.2)

bad_stops : (natives : List NativeInfo) (n : ℕ) (ls : List (List ℕ)) → IsFirstBad natives n ls → session_of natives ls ≡ Err n
bad_stops natives n ls w =
    let k : 1 + length w.front ≡ n = sym w.place in
    let stuck : text_from natives n w.said (w.bad ∷ w.more) ≡ Err n = rw (none_after natives n w.said w.bad (after_line natives n w.said w.bad) refl w.here) refl in
    ap (λ (x : List (List ℕ)). text_from natives 1 empty_text x) w.all ∙ goes_through natives 1 empty_text w.said w.front (w.bad ∷ w.more) w.earlier ∙ ap (λ (i : ℕ). text_from natives i w.said (w.bad ∷ w.more)) k ∙ stuck

-- ---- what the reader answers

pub reads : (natives : List NativeInfo) (ls : List (List ℕ)) (r : Result SessionText TextFault) → Reads r (session_of natives ls) → ReadsText natives ls r
reads natives ls (Ok t) e = text_sound natives 1 empty_text ls t e
reads natives ls (Err (BadLine n)) e = first_bad natives n ls e
reads natives ls (Err OutOfMemory) e = tt

pub reads_no_other : (natives : List NativeInfo) (ls : List (List ℕ)) (r : Result SessionText TextFault) → Reads r (session_of natives ls) → (u : SessionText) → IsSession natives ls u → ReadsNoOther r u
reads_no_other natives ls (Ok t) e u w = same_ok t u (sym e ∙ text_complete natives 1 empty_text ls u w)
reads_no_other natives ls (Err (BadLine n)) e u w = not_both u n (sym (text_complete natives 1 empty_text ls u w) ∙ e)
reads_no_other natives ls (Err OutOfMemory) e u w = tt

pub names_no_other : (natives : List NativeInfo) (ls : List (List ℕ)) (r : Result SessionText TextFault) → Reads r (session_of natives ls) → (n : ℕ) → IsFirstBad natives n ls → NamesNoOther r n
names_no_other natives ls (Ok t) e n w = not_both t n (sym e ∙ bad_stops natives n ls w)
names_no_other natives ls (Err (BadLine m)) e n w = same_err m n (sym e ∙ bad_stops natives n ls w)
names_no_other natives ls (Err OutOfMemory) e n w = tt

pub one_thing : (natives : List NativeInfo) (ls : List (List ℕ)) (t u : SessionText) → IsSession natives ls t → IsSession natives ls u → t ≡ u
one_thing natives ls t u w x = same_ok t u (sym (text_complete natives 1 empty_text ls t w) ∙ text_complete natives 1 empty_text ls u x)

pub no_bad_line : (natives : List NativeInfo) (ls : List (List ℕ)) (t : SessionText) (n : ℕ) → IsSession natives ls t → IsFirstBad natives n ls → ⊥
no_bad_line natives ls t n w x = not_both t n (sym (text_complete natives 1 empty_text ls t w) ∙ bad_stops natives n ls x)

-- ---- each text

either_way : (natives : List NativeInfo) (ls : List (List ℕ)) (r : Said) → session_of natives ls ≡ r → ((u : SessionText) × IsSession natives ls u) ⊎ ((n : ℕ) × IsFirstBad natives n ls)
either_way natives ls (Ok u) e = inl (u, text_sound natives 1 empty_text ls u e)
either_way natives ls (Err n) e = inr (n, first_bad natives n ls e)

pub read_or_bad : (natives : List NativeInfo) (ls : List (List ℕ)) → ((u : SessionText) × IsSession natives ls u) ⊎ ((n : ℕ) × IsFirstBad natives n ls)
read_or_bad natives ls = either_way natives ls (session_of natives ls) refl

pub one_number : (natives : List NativeInfo) (ls : List (List ℕ)) (m n : ℕ) → IsFirstBad natives m ls → IsFirstBad natives n ls → m ≡ n
one_number natives ls m n w x = same_err m n (sym (bad_stops natives m ls w) ∙ bad_stops natives n ls x)
