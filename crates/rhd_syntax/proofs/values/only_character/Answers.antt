use Rattle.std.proofs.Common.{◌≡◌, ℕ, List, [], ◌∷◌, Some, None, refl, sym, ap, ◌∙◌}
use Rattle.std.specs.Prelude.{slice_get}
use Rattle.std.specs.Str.{chars}
use Rattle.std.proofs.lemmas.Str.{chars_past_char}
use Rattle.rhd_syntax.specs.Reading.{only_character}
use Rattle.rhd_syntax.proofs.values.only_character.Goals as goal

one : (c : ℕ) (cs : List ℕ) → None ≡ slice_get cs 0 → Some c ≡ only_character (c ∷ cs)
one c [] e = refl
one c (d ∷ cs) e = absurd cc

several : (c d : ℕ) (cs : List ℕ) → Some d ≡ slice_get cs 0 → None ≡ only_character (c ∷ cs)
several c d [] e = absurd cc
several c d (b ∷ cs) e = refl

pub returns-in-None : goal.returns-in-None
returns-in-None c =
    let rest = c.next.new.self.rest.now in
    let e = chars_past_char c.args.text.now rest c.in_ok-first.first c.utf8.text (sym c.chars-chars.ensures.rest ∙ c.in_ok-first.ensures.steps.0) in
    one c.in_ok-first.first (chars rest) c.in-None.ensures.steps.2 ∙ ap only_character (sym e)

pub returns-in-Some : goal.returns-in-Some
returns-in-Some c =
    let rest = c.next.new.self.rest.now in
    let e = chars_past_char c.args.text.now rest c.in_ok-first.first c.utf8.text (sym c.chars-chars.ensures.rest ∙ c.in_ok-first.ensures.steps.0) in
    several c.in_ok-first.first _ (chars rest) c.in-Some.ensures.steps.2 ∙ ap only_character (sym e)
