-- Rows, tables and lines: what is read is what is written.
use Rattle.std.proofs.Common.{◌≡◌, ◌⊎◌, ℕ, Bool, true, false, cond, not, List, [], ◌∷◌, ◌++◌, Option, Some, None, refl, sym, ap, subst, ◌∙◌, inl, inr, ◌&&◌}
use Rattle.std.specs.Prelude.{codes}
use Rattle.std.specs.Str.{is_utf8, bytes_eq}
use Rattle.std.proofs.lemmas.Slice.Eq.{bytes_eq-Decides}
use Rattle.std.proofs.lemmas.Bool.{eqb-true}
use Rattle.rhd_text.specs.declared.place.Place.{Place}
use Rattle.rhd_syntax.specs.Bytes.{is_blank}
use Rattle.rhd_text.specs.Rows.{Operand, NAME, WORD, WORDS, NUM, LONG, ARG, ARGS, OPTIONAL, WANT, THIS, PURITY, VALUE, KIND, KINDS, PRINTER, Meaning, From, Form, Table}
use Rattle.rhd_syntax.specs.Spans.{blanks, bare}
use Rattle.rhd_text.specs.Grammar.{operands, formed, WrittenLine, IsWritten}
use Rattle.rhd_syntax.specs.Reading.{◌>>=◌, skip_blanks, is_end, word_at, flag_at, this_at, purity_at}
use Rattle.rhd_text.specs.ReadRows.{operand_at, operands_at, row_at, keyword_in, form_of, form_at, begins_no_part, is_skipped, line_by}
use Rattle.rhd_syntax.proofs.Agrees.{bind_some, same_some, and_parts, not_true}
use Rattle.rhd_syntax.proofs.WordLaws.{stops_nil, head_stop, skipped, skips_to, bare_agrees, bare_here, end_sound, end_complete, no_word}
use Rattle.rhd_syntax.proofs.QuoteLaws.{word_agrees, words_agree}
use Rattle.rhd_syntax.proofs.FlagLaws.{not_word, flag_there, flag_absent}
use Rattle.rhd_syntax.proofs.WantLaws.{want_agrees}
use Rattle.rhd_syntax.proofs.ObjectLaws.{this_there, this_absent}
use Rattle.rhd_syntax.proofs.PurityLaws.{purity_there, purity_absent}
use Rattle.rhd_syntax.proofs.ParamLaws.{kinds_agree}
use Rattle.rhd_syntax.proofs.ValueLaws.{value_agrees}
use Rattle.rhd_syntax.proofs.ArgumentLaws.{argument_agrees, arguments_agree}
use Rattle.rhd_text.proofs.OperandLaws.{name_agrees, number_agrees, value_kind_agrees, printer_agrees, operand_sound}

-- ---- any row

ended : {R : Type 0} (b : Bool) (o : Option R) (c : R) → cond b o None ≡ Some c → (b ≡ true) × (o ≡ Some c)
ended true o c e = (refl, e)
ended false o c e = absurd cc

row_sound : {R : Type 0} (os : List Operand) (says : From os (Option R)) (c : R) (bytes : List ℕ) → operands_at os says bytes ≡ Some c → operands os says c bytes
row_sound [] says c bytes e = let s = ended (is_end bytes) says c e in (end_sound bytes s.0, s.1)
row_sound (o ∷ os) says c bytes e =
    let a = bind_some (operand_at o bytes) (λ x. operands_at os (says x.0) x.1) c e in
    (a.0.0, a.0.1, operand_sound o a.0.0 bytes a.0.1 a.1, row_sound os (says a.0.0) c a.0.1 a.2)

-- ---- words that may be left out stand last in a row, and are different

abbrev other_words : List ℕ → List Operand → Bool
other_words w [] = true
other_words w (OPTIONAL v ∷ os) = not (bytes_eq v w) && other_words w os
other_words w (THIS ∷ os) = not (bytes_eq (codes "this") w) && other_words w os
other_words w (PURITY ∷ os) = not (bytes_eq (codes "pure") w) && (not (bytes_eq (codes "impure") w) && other_words w os)
other_words w (o ∷ os) = false

abbrev pub well_placed : List Operand → Bool
well_placed [] = true
well_placed (OPTIONAL w ∷ os) = other_words w os && well_placed os
well_placed (THIS ∷ os) = other_words (codes "this") os && well_placed os
well_placed (PURITY ∷ os) = other_words (codes "pure") os && (other_words (codes "impure") os && well_placed os)
well_placed (o ∷ os) = well_placed os

no_other : {R : Type 0} (w : List ℕ) (os : List Operand) (says : From os (Option R)) (c : R) (bytes after : List ℕ) → other_words w os ≡ true → operands os says c bytes → bare w bytes after → ⊥
no_other w [] says c bytes after p o u = no_word w bytes after o.0 u
no_other w (OPTIONAL v ∷ os) says c bytes after p (true, rest, o, more) u = not_word w v after rest bytes (not_true (bytes_eq v w) (and_parts (not (bytes_eq v w)) (other_words w os) p).0) o u
no_other w (OPTIONAL v ∷ os) says c bytes after p (false, rest, o, more) u = no_other w os (says false) c rest after (and_parts (not (bytes_eq v w)) (other_words w os) p).1 more (subst (λ (b : List ℕ). bare w b after) o u)
no_other w (THIS ∷ os) says c bytes after p (Some s, rest, o, more) u = not_word w (codes "this") after o.0 bytes (not_true (bytes_eq (codes "this") w) (and_parts (not (bytes_eq (codes "this") w)) (other_words w os) p).0) o.1 u
no_other w (THIS ∷ os) says c bytes after p (None, rest, o, more) u = no_other w os (says None) c rest after (and_parts (not (bytes_eq (codes "this") w)) (other_words w os) p).1 more (subst (λ (b : List ℕ). bare w b after) o u)
no_other w (PURITY ∷ os) says c bytes after p (Some true, rest, o, more) u = not_word w (codes "pure") after rest bytes (not_true (bytes_eq (codes "pure") w) (and_parts (not (bytes_eq (codes "pure") w)) (not (bytes_eq (codes "impure") w) && other_words w os) p).0) o u
no_other w (PURITY ∷ os) says c bytes after p (Some false, rest, o, more) u =
    let a = and_parts (not (bytes_eq (codes "pure") w)) (not (bytes_eq (codes "impure") w) && other_words w os) p in
    not_word w (codes "impure") after rest bytes (not_true (bytes_eq (codes "impure") w) (and_parts (not (bytes_eq (codes "impure") w)) (other_words w os) a.1).0) o u
no_other w (PURITY ∷ os) says c bytes after p (None, rest, o, more) u =
    let a = and_parts (not (bytes_eq (codes "pure") w)) (not (bytes_eq (codes "impure") w) && other_words w os) p in
    no_other w os (says None) c rest after (and_parts (not (bytes_eq (codes "impure") w)) (other_words w os) a.1).1 more (subst (λ (b : List ℕ). bare w b after) o u)
no_other w (NAME ∷ os) says c bytes after p o u = absurd cc
no_other w (WORD ∷ os) says c bytes after p o u = absurd cc
no_other w (WORDS ∷ os) says c bytes after p o u = absurd cc
no_other w (NUM ∷ os) says c bytes after p o u = absurd cc
no_other w (LONG ∷ os) says c bytes after p o u = absurd cc
no_other w (ARG given ∷ os) says c bytes after p o u = absurd cc
no_other w (ARGS given ∷ os) says c bytes after p o u = absurd cc
no_other w (WANT ∷ os) says c bytes after p o u = absurd cc
no_other w (VALUE ∷ os) says c bytes after p o u = absurd cc
no_other w (KIND ∷ os) says c bytes after p o u = absurd cc
no_other w (KINDS ∷ os) says c bytes after p o u = absurd cc
no_other w (PRINTER ∷ os) says c bytes after p o u = absurd cc

first_read : {R : Type 0} (o : Operand) (os : List Operand) (says : From (o ∷ os) (Option R)) (c : R) (x : Meaning o) (bytes rest : List ℕ) → operand_at o bytes ≡ Some (x, rest) → operands_at os (says x) rest ≡ Some c → operands_at (o ∷ os) says bytes ≡ Some c
first_read o os says c x bytes rest e more = rw e more

row_complete : {R : Type 0} (os : List Operand) (says : From os (Option R)) (c : R) (bytes : List ℕ) → well_placed os ≡ true → operands os says c bytes → operands_at os says bytes ≡ Some c
row_complete [] says c bytes p w = rw (end_complete bytes w.0) w.1
row_complete (OPTIONAL v ∷ os) says c bytes p (true, rest, o, more) = first_read (OPTIONAL v) os says c true bytes rest (ap (λ (q : Bool × List ℕ). Some q) (flag_there v bytes rest o)) (row_complete os (says true) c rest (and_parts (other_words v os) (well_placed os) p).1 more)
row_complete (OPTIONAL v ∷ os) says c bytes p (false, rest, o, more) =
    let a = and_parts (other_words v os) (well_placed os) p in
    let n : flag_at v rest ≡ (false, rest) = flag_absent v rest (λ after u. no_other v os (says false) c rest after a.0 more u) in
    first_read (OPTIONAL v) os says c false bytes rest (ap (λ (b : List ℕ). Some (flag_at v b)) o ∙ ap (λ (q : Bool × List ℕ). Some q) n) (row_complete os (says false) c rest a.1 more)
row_complete (THIS ∷ os) says c bytes p (Some s, rest, o, more) = first_read THIS os says c (Some s) bytes rest (this_there s bytes rest o) (row_complete os (says (Some s)) c rest (and_parts (other_words (codes "this") os) (well_placed os) p).1 more)
row_complete (THIS ∷ os) says c bytes p (None, rest, o, more) =
    let a = and_parts (other_words (codes "this") os) (well_placed os) p in
    let n : this_at rest ≡ Some (None, rest) = this_absent rest (λ after u. no_other (codes "this") os (says None) c rest after a.0 more u) in
    first_read THIS os says c None bytes rest (ap this_at o ∙ n) (row_complete os (says None) c rest a.1 more)
row_complete (PURITY ∷ os) says c bytes p (Some pure, rest, o, more) =
    let a = and_parts (other_words (codes "pure") os) (other_words (codes "impure") os && well_placed os) p in
    let b = and_parts (other_words (codes "impure") os) (well_placed os) a.1 in
    first_read PURITY os says c (Some pure) bytes rest (ap (λ (q : Option Bool × List ℕ). Some q) (purity_there pure bytes rest o)) (row_complete os (says (Some pure)) c rest b.1 more)
row_complete (PURITY ∷ os) says c bytes p (None, rest, o, more) =
    let a = and_parts (other_words (codes "pure") os) (other_words (codes "impure") os && well_placed os) p in
    let b = and_parts (other_words (codes "impure") os) (well_placed os) a.1 in
    let n : purity_at rest ≡ (None, rest) = purity_absent rest (λ after u. no_other (codes "pure") os (says None) c rest after a.0 more u) (λ after u. no_other (codes "impure") os (says None) c rest after b.0 more u) in
    first_read PURITY os says c None bytes rest (ap (λ (b : List ℕ). Some (purity_at b)) o ∙ ap (λ (q : Option Bool × List ℕ). Some q) n) (row_complete os (says None) c rest b.1 more)
row_complete (WANT ∷ os) says c bytes p w = first_read WANT os says c w.0 bytes w.1 (want_agrees.complete w.0 bytes w.1 w.2) (row_complete os (says w.0) c w.1 p w.3)
row_complete (NAME ∷ os) says c bytes p w = first_read NAME os says c w.0 bytes w.1 (name_agrees.complete w.0 bytes w.1 w.2) (row_complete os (says w.0) c w.1 p w.3)
row_complete (WORD ∷ os) says c bytes p w = first_read WORD os says c w.0 bytes w.1 (word_agrees.complete w.0 bytes w.1 w.2) (row_complete os (says w.0) c w.1 p w.3)
row_complete (WORDS ∷ os) says c bytes p w = first_read WORDS os says c w.0 bytes w.1 (words_agree.complete w.0 bytes w.1 w.2) (row_complete os (says w.0) c w.1 p w.3)
row_complete (NUM ∷ os) says c bytes p w = first_read NUM os says c w.0 bytes w.1 ((number_agrees 32).complete w.0 bytes w.1 w.2) (row_complete os (says w.0) c w.1 p w.3)
row_complete (LONG ∷ os) says c bytes p w = first_read LONG os says c w.0 bytes w.1 ((number_agrees 64).complete w.0 bytes w.1 w.2) (row_complete os (says w.0) c w.1 p w.3)
row_complete (ARG given ∷ os) says c bytes p w = first_read (ARG given) os says c w.0 bytes w.1 ((argument_agrees given).complete w.0 bytes w.1 w.2) (row_complete os (says w.0) c w.1 p w.3)
row_complete (ARGS given ∷ os) says c bytes p w = first_read (ARGS given) os says c w.0 bytes w.1 ((arguments_agree given).complete w.0 bytes w.1 w.2) (row_complete os (says w.0) c w.1 p w.3)
row_complete (VALUE ∷ os) says c bytes p w = first_read VALUE os says c w.0 bytes w.1 (value_agrees.complete w.0 bytes w.1 w.2) (row_complete os (says w.0) c w.1 p w.3)
row_complete (KIND ∷ os) says c bytes p w = first_read KIND os says c w.0 bytes w.1 (value_kind_agrees.complete w.0 bytes w.1 w.2) (row_complete os (says w.0) c w.1 p w.3)
row_complete (KINDS ∷ os) says c bytes p w = first_read KINDS os says c w.0 bytes w.1 (kinds_agree.complete w.0 bytes w.1 w.2) (row_complete os (says w.0) c w.1 p w.3)
row_complete (PRINTER ∷ os) says c bytes p w = first_read PRINTER os says c w.0 bytes w.1 (printer_agrees.complete w.0 bytes w.1 w.2) (row_complete os (says w.0) c w.1 p w.3)

-- ---- any table

-- WHAT IS ASKED OF A TABLE: words that may be left out stand last in each row and are different, no earlier keyword is spelled
-- as a keyword is, and none begins a comment
pub record IsSound (K P : Type 0) (table : Table K P) : Type 0 where
  pub placed : (k : K) → well_placed (table.form k).operands ≡ true
  pub found : (k : K) → keyword_in table.form table.all (table.form k).spelling ≡ Some k
  pub shows : (k : K) (rest : List ℕ) → begins_no_part ((table.form k).spelling ++ rest) ≡ false

keyword_test : (K P : Type 0) (form : K → Form P) (b : Bool) (w : List ℕ) (j k : K) (more : Option K) → bytes_eq (form j).spelling w ≡ b → cond b (Some j) more ≡ Some k → (more ≡ Some k → w ≡ (form k).spelling) → w ≡ (form k).spelling
keyword_test K P form true w j k more h e next = sym ((bytes_eq-Decides (form j).spelling w).0 h) ∙ ap (λ (i : K). (form i).spelling) (same_some j k e)
keyword_test K P form false w j k more h e next = next e

keyword_found : (K P : Type 0) (form : K → Form P) (ks : List K) (w : List ℕ) (k : K) → keyword_in form ks w ≡ Some k → w ≡ (form k).spelling
unfolding keyword_in
keyword_found K P form [] w k e = absurd cc
keyword_found K P form (j ∷ ks) w k e = keyword_test K P form (bytes_eq (form j).spelling w) w j k (keyword_in form ks w) refl e (λ f. keyword_found K P form ks w k f)

pub of_sound : (K P : Type 0) (table : Table K P) (place : Place) (w bytes : List ℕ) (p : P) → form_of table place w bytes ≡ Some p → (k : K) × (w ≡ (table.form k).spelling) × operands (table.form k).operands ((table.form k).part place) p bytes
unfolding row_at
of_sound K P table place w bytes p e =
    let a = bind_some (keyword_in table.form table.all w) (λ k. row_at place (table.form k) bytes) p e in
    (a.0, keyword_found K P table.form table.all w a.0 a.1, row_sound (table.form a.0).operands ((table.form a.0).part place) p bytes a.2)

pub of_complete : (K P : Type 0) (table : Table K P) → IsSound K P table → (place : Place) (k : K) (bytes : List ℕ) (p : P) → operands (table.form k).operands ((table.form k).part place) p bytes → form_of table place (table.form k).spelling bytes ≡ Some p
unfolding row_at
of_complete K P table sound place k bytes p w = rw (sound.found k) (row_complete (table.form k).operands ((table.form k).part place) p bytes (sound.placed k) w)

form_sound : (K P : Type 0) (table : Table K P) (place : Place) (p : P) (bytes : List ℕ) → form_at table place bytes ≡ Some p → formed table place p bytes
unfolding form_at
form_sound K P table place p bytes e =
    let a = bind_some (word_at bytes) (λ w. form_of table place w.0 w.1) p e in
    let s = of_sound K P table place a.0.0 a.0.1 p a.2 in
    (s.0, a.0.1, subst (λ (w : List ℕ). bare w bytes a.0.1) s.1 (bare_agrees.sound a.0.0 bytes a.0.1 a.1), s.2)

form_complete : (K P : Type 0) (table : Table K P) → IsSound K P table → (place : Place) (p : P) (bytes : List ℕ) → formed table place p bytes → form_at table place bytes ≡ Some p
unfolding form_at
form_complete K P table sound place p bytes w = rw (bare_agrees.complete (table.form w.0).spelling bytes w.1 w.2) (of_complete K P table sound place w.0 w.1 p w.3)

-- where a word is written that begins no comment, the line is not skipped
pub word_shows : (w bytes rest : List ℕ) → bare w bytes rest → begins_no_part (w ++ rest) ≡ false → is_skipped bytes ≡ false
word_shows w bytes rest b h = ap begins_no_part (bare_here w bytes rest b).2 ∙ h

-- ---- lines

-- parts are read as they are written, and begin no comment
pub record LinesAgree (P : Type 0) (read : List ℕ → Option P) (written : P → List ℕ → Type 0) : Type 0 where
  pub sound : (p : P) (bytes : List ℕ) → read bytes ≡ Some p → written p bytes
  pub complete : (p : P) (bytes : List ℕ) → written p bytes → read bytes ≡ Some p
  pub shows : (p : P) (bytes : List ℕ) → written p bytes → is_skipped bytes ≡ false

-- those of a table
pub form_agrees : (K P : Type 0) (table : Table K P) → IsSound K P table → (place : Place) → LinesAgree P (form_at table place) (formed table place)
form_agrees K P table sound place = record {
  sound = λ p bytes e. form_sound K P table place p bytes e;
  complete = λ p bytes w. form_complete K P table sound place p bytes w;
  shows = λ p bytes w. word_shows (table.form w.0).spelling bytes w.1 w.2 (sound.shows w.0 w.1);
}

skipped_sound : (s bytes : List ℕ) → blanks bytes s → begins_no_part s ≡ true → blanks bytes [] ⊎ ((comment : List ℕ) × blanks bytes (59 ∷ comment))
skipped_sound [] bytes b e = inl b
skipped_sound (x ∷ s) bytes b e = inr (s, subst (λ (y : ℕ). blanks bytes (y ∷ s)) (eqb-true x 59 e) b)

skip_complete : (bytes : List ℕ) → blanks bytes [] ⊎ ((comment : List ℕ) × blanks bytes (59 ∷ comment)) → is_skipped bytes ≡ true
skip_complete bytes (inl b) = ap begins_no_part (skips_to bytes [] b (stops_nil is_blank))
skip_complete bytes (inr c) = ap begins_no_part (skips_to bytes (59 ∷ c.0) c.1 (head_stop 59 c.0 refl))

-- what a line is, by whether it is text and whether it is skipped
abbrev tested : (P : Type 0) → Bool → Bool → Option P → Option (Option P)
tested P t s read = cond (not t) None (cond s (Some None) (read >>= λ p. Some (Some p)))

line_cases : (P : Type 0) (read : List ℕ → Option P) (written : P → List ℕ → Type 0) → LinesAgree P read written → (t s : Bool) (l : Option P) (bytes : List ℕ) → is_utf8 bytes ≡ t → is_skipped bytes ≡ s → tested P t s (read bytes) ≡ Some l → IsWritten P written l bytes
line_cases P read written agree true true l bytes ht hs e = record {
  text = ht;
  spells = subst (λ (j : Option P). WrittenLine written j bytes) (same_some {A = Option P} None l e) (skipped_sound (skip_blanks bytes) bytes (skipped bytes) hs);
}
line_cases P read written agree true false l bytes ht hs e =
    let a = bind_some (read bytes) (λ p. Some (Some p)) l e in
    record { text = ht; spells = subst (λ (j : Option P). WrittenLine written j bytes) (same_some {A = Option P} (Some a.0) l a.2) (agree.sound a.0 bytes a.1) }
line_cases P read written agree false s l bytes ht hs e = absurd cc

pub line_by_sound : (P : Type 0) (read : List ℕ → Option P) (written : P → List ℕ → Type 0) → LinesAgree P read written → (l : Option P) (bytes : List ℕ) → line_by read bytes ≡ Some l → IsWritten P written l bytes
unfolding line_by
line_by_sound P read written agree l bytes e = line_cases P read written agree (is_utf8 bytes) (is_skipped bytes) l bytes refl refl e

written_complete : (P : Type 0) (read : List ℕ → Option P) (written : P → List ℕ → Type 0) → LinesAgree P read written → (l : Option P) (bytes : List ℕ) → is_utf8 bytes ≡ true → WrittenLine written l bytes → line_by read bytes ≡ Some l
unfolding line_by
written_complete P read written agree None bytes t w = rw (t, skip_complete bytes w) refl
written_complete P read written agree (Some p) bytes t w = rw (t, agree.shows p bytes w, agree.complete p bytes w) refl

pub line_by_complete : (P : Type 0) (read : List ℕ → Option P) (written : P → List ℕ → Type 0) → LinesAgree P read written → (l : Option P) (bytes : List ℕ) → IsWritten P written l bytes → line_by read bytes ≡ Some l
line_by_complete P read written agree l bytes w = written_complete P read written agree l bytes w.text w.spells
