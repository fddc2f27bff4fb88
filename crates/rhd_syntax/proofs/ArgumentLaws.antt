-- Arguments: what is read is what is written.
use Rattle.std.proofs.Common.{◌≡◌, ℕ, ◌+◌, ◌<◌, Bool, true, false, cond, ◌&&◌, List, [], ◌∷◌, ◌++◌, length, map, drop, Option, Some, None, refl, sym, ap, subst, ◌∙◌, arith, append_assoc}
use Rattle.std.specs.Option.{option_map}
use Rattle.std.specs.Str.{bytes_eq}
use Rattle.std.specs.Prelude.{codes}
use Rattle.std.proofs.lemmas.Slice.Eq.{bytes_eq-Decides}
use Rattle.std.proofs.lemmas.List.{append-nil}
use Rattle.rhd_value.specs.Tree.{Tree}
use Rattle.rhd_syntax.specs.declared.given.Given.{Given}
use Rattle.rhd_syntax.specs.declared.given.GivenAt.{GivenAt}
use Rattle.rhd_syntax.specs.declared.given.Given.TheVariants as given
use Rattle.rhd_syntax.specs.declared.arguments.Argument.{Argument}
use Rattle.rhd_syntax.specs.declared.arguments.Argument.TheVariants as one
use Rattle.rhd_syntax.specs.declared.arguments.Arguments.{Arguments}
use Rattle.rhd_syntax.specs.Arguments.{value_of, place_of, places_from, together, with_argument}
use Rattle.rhd_syntax.specs.Bytes.{begins, num_of, given_of}
use Rattle.rhd_syntax.specs.Spans.{bare, value, each, argument, arguments}
use Rattle.rhd_syntax.specs.Reading.{◌>>=◌, Parse, skip_blanks, is_end, word_at, comes, value_at, many, given_at, argument_at, arguments_at}
use Rattle.rhd_syntax.proofs.Agrees.{Agrees, bind_some, some_pair}
use Rattle.rhd_syntax.proofs.WordLaws.{end_sound, end_complete, bare_agrees, bare_here, bare_shrinks, bare_begun}
use Rattle.rhd_syntax.proofs.ByteLaws.{begins_is, begins_same}
use Rattle.rhd_syntax.proofs.ValueLaws.{value_agrees, value_goes, value_head}
use Rattle.rhd_syntax.proofs.ListLaws.{Goes, many_agrees}

-- ---- the word of a given value begins with `$`

dollar_later : (b : Bool) (w : List ℕ) (o : Option Given) (g : Given) → begins 36 w ≡ b → cond b o None ≡ Some g → b ≡ true
dollar_later true w o g h e = refl
dollar_later false w o g h e = absurd cc

dollar_last : (b : Bool) (w : List ℕ) (g : Given) → bytes_eq w (codes "$last") ≡ b → cond b (Some given.Last) (cond (begins 36 w) (option_map (λ n. given.Arg n) (num_of 64 (drop 1 w))) None) ≡ Some g → begins 36 w ≡ true
dollar_last true w g h e = ap (begins 36) ((bytes_eq-Decides w (codes "$last")).0 h)
dollar_last false w g h e = dollar_later (begins 36 w) w (option_map (λ n. given.Arg n) (num_of 64 (drop 1 w))) g refl e

dollar_this : (b : Bool) (w : List ℕ) (g : Given) → bytes_eq w (codes "$this") ≡ b → cond b (Some given.This) (cond (bytes_eq w (codes "$last")) (Some given.Last) (cond (begins 36 w) (option_map (λ n. given.Arg n) (num_of 64 (drop 1 w))) None)) ≡ Some g → begins 36 w ≡ true
dollar_this true w g h e = ap (begins 36) ((bytes_eq-Decides w (codes "$this")).0 h)
dollar_this false w g h e = dollar_last (bytes_eq w (codes "$last")) w g refl e

given_begins : (w : List ℕ) (g : Given) → given_of w ≡ Some g → begins 36 w ≡ true
unfolding given_of
given_begins w g e = dollar_this (bytes_eq w (codes "$this")) w g refl e

given_comes : (w bytes rest : List ℕ) (g : Given) → given_of w ≡ Some g → bare w bytes rest → comes 36 bytes ≡ true
given_comes w bytes rest g e b =
    let r = bare_here w bytes rest b in
    let h = begins_is 36 w (omega arith) (given_begins w g e) in
    begins_same 36 (skip_blanks bytes) (drop 1 w ++ rest) (r.2 ∙ ap (λ (v : List ℕ). v ++ rest) h)

-- ---- one argument

given_sound : (x : Argument) (bytes rest : List ℕ) → given_at bytes ≡ Some (x, rest) → argument true x bytes rest
unfolding given_at
given_sound x bytes rest e =
    let a = bind_some (word_at bytes) (λ w. given_of w.0 >>= λ g. Some (one.Given g, w.1)) (x, rest) e in
    let b = bind_some (given_of a.0.0) (λ g. Some (one.Given g, a.0.1)) (x, rest) a.2 in
    let p = some_pair (one.Given b.0) x a.0.1 rest b.2 in
    subst (λ (y : Argument). argument true y bytes rest) p.0 (refl, (a.0.0, b.1, subst (λ (r : List ℕ). bare a.0.0 bytes r) p.1 (bare_agrees.sound a.0.0 bytes a.0.1 a.1)))

abbrev fixed_at : Parse Argument
fixed_at bytes = value_at bytes >>= λ t. Some (one.Value t.0, t.1)

fixed_sound : (allowed : Bool) (x : Argument) (bytes rest : List ℕ) → fixed_at bytes ≡ Some (x, rest) → argument allowed x bytes rest
fixed_sound allowed x bytes rest e =
    let a = bind_some (value_at bytes) (λ t. Some (one.Value t.0, t.1)) (x, rest) e in
    let p = some_pair (one.Value a.0.0) x a.0.1 rest a.2 in
    subst (λ (y : Argument). argument allowed y bytes rest) p.0 (subst (λ (r : List ℕ). value a.0.0 bytes r) p.1 (value_agrees.sound a.0.0 bytes a.0.1 a.1))

one_sound : (allowed b : Bool) (x : Argument) (bytes rest : List ℕ) → comes 36 bytes ≡ b → cond (allowed && b) (given_at bytes) (fixed_at bytes) ≡ Some (x, rest) → argument allowed x bytes rest
one_sound true true x bytes rest h e = given_sound x bytes rest e
one_sound true false x bytes rest h e = fixed_sound true x bytes rest e
one_sound false b x bytes rest h e = fixed_sound false x bytes rest e

never_both : (allowed : Bool) → (allowed && false) ≡ false
never_both true = refl
never_both false = refl

one_complete : (allowed : Bool) (x : Argument) (bytes rest : List ℕ) → argument allowed x bytes rest → argument_at allowed bytes ≡ Some (x, rest)
unfolding argument_at given_at
one_complete allowed (one.Value t) bytes rest w = rw (value_head t bytes rest w, never_both allowed, value_agrees.complete t bytes rest w) refl
one_complete allowed (one.Given g) bytes rest w = rw (w.0, given_comes w.1.0 bytes rest g w.1.1 w.1.2, bare_agrees.complete w.1.0 bytes rest w.1.2, w.1.1) refl

pub argument_agrees : (allowed : Bool) → Agrees Argument (argument_at allowed) (argument allowed)
unfolding argument_at
argument_agrees allowed = record {
  sound = λ x bytes rest e. one_sound allowed (comes 36 bytes) x bytes rest refl e;
  complete = λ x bytes rest w. one_complete allowed x bytes rest w;
}

one_shrinks : (allowed : Bool) (x : Argument) (bytes rest : List ℕ) → argument allowed x bytes rest → length rest < length bytes
one_shrinks allowed (one.Value t) bytes rest w = value_goes.shrinks t bytes rest w
one_shrinks allowed (one.Given g) bytes rest w = bare_shrinks w.1.0 bytes rest w.1.2

one_begun : (allowed : Bool) (x : Argument) (bytes rest : List ℕ) → argument allowed x bytes rest → is_end bytes ≡ false
one_begun allowed (one.Value t) bytes rest w = value_goes.begun t bytes rest w
one_begun allowed (one.Given g) bytes rest w = bare_begun w.1.0 bytes rest w.1.2

one_goes : (allowed : Bool) → Goes Argument is_end (argument allowed)
one_goes allowed = record {
  shrinks = λ x bytes rest w. one_shrinks allowed x bytes rest w;
  begun = λ x bytes rest w. one_begun allowed x bytes rest w;
}

-- ---- arguments to the end of the line

list_agrees : (allowed : Bool) → Agrees (List Argument) (λ bytes. many is_end (argument_at allowed) [] (length bytes) bytes) (λ xs bytes rest. each (argument allowed) xs bytes rest × (is_end rest ≡ true))
list_agrees allowed = many_agrees Argument is_end (argument_at allowed) (argument allowed) (argument_agrees allowed) (one_goes allowed)

abbrev all_at : Bool → Parse Arguments
all_at allowed bytes = many is_end (argument_at allowed) [] (length bytes) bytes >>= λ x. Some (together x.0, x.1)

all_sound : (allowed : Bool) (a : Arguments) (bytes rest : List ℕ) → all_at allowed bytes ≡ Some (a, rest) → arguments allowed a bytes rest
all_sound allowed a bytes rest e =
    let b = bind_some (many is_end (argument_at allowed) [] (length bytes) bytes) (λ x. Some (together x.0, x.1)) (a, rest) e in
    let p = some_pair (together b.0.0) a b.0.1 rest b.2 in
    let w = (list_agrees allowed).sound b.0.0 bytes b.0.1 b.1 in
    (b.0.0, sym p.0, subst (λ (r : List ℕ). each (argument allowed) b.0.0 bytes r) p.1 w.0, end_sound rest (sym (ap is_end p.1) ∙ w.1))

pub arguments_agree : (allowed : Bool) → Agrees Arguments (arguments_at allowed) (arguments allowed)
unfolding arguments_at
arguments_agree allowed = record {
  sound = λ a bytes rest e. all_sound allowed a bytes rest e;
  complete = λ a bytes rest w. rw ((list_agrees allowed).complete w.0 bytes rest (w.2, end_complete rest w.3)) (ap (λ (b : Arguments). Some (b, rest)) (sym w.1));
}

-- ---- one argument more

values_more : (xs : List Argument) (x : Argument) → map value_of (xs ++ x ∷ []) ≡ map value_of xs ++ value_of x ∷ []
values_more [] x = refl
values_more (y ∷ xs) x = ap (λ (ts : List Tree). value_of y ∷ ts) (values_more xs x)

places_more : (n : ℕ) (xs : List Argument) (x : Argument) → places_from n (xs ++ x ∷ []) ≡ places_from n xs ++ place_of (n + length xs) x
places_more n [] x = let k : n + 0 ≡ n = omega arith in rw k (append-nil (place_of n x))
places_more n (y ∷ xs) x =
    let k : n + 1 + length xs ≡ n + length (y ∷ xs) = omega arith in
    ap (λ (ps : List GivenAt). place_of n y ++ ps) (places_more (n + 1) xs x) ∙ sym (append_assoc (place_of n y) (places_from (n + 1) xs) (place_of (n + 1 + length xs) x)) ∙ ap (λ (i : ℕ). (place_of n y ++ places_from (n + 1) xs) ++ place_of i x) k

count_values : (xs : List Argument) → length (map value_of xs) ≡ length xs
count_values [] = refl
count_values (x ∷ xs) = omega (arith, count_values xs)

pub together_more : (xs : List Argument) (x : Argument) → together (xs ++ x ∷ []) ≡ with_argument (together xs) x
together_more xs x =
    let k : 0 + length xs ≡ length (map value_of xs) = omega (arith, count_values xs) in
    let p : places_from 0 (xs ++ x ∷ []) ≡ places_from 0 xs ++ place_of (length (map value_of xs)) x = places_more 0 xs x ∙ ap (λ (i : ℕ). places_from 0 xs ++ place_of i x) k in
    rw (values_more xs x, p) refl
