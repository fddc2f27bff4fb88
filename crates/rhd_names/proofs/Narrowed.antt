-- What is found in a list is found among those of its items that may pass.
use Rattle.std.proofs.Common.{◌≡◌, ℕ, Bool, true, false, not, ◌&&◌, cond, List, [], ◌∷◌, length, refl, ap, ◌∙◌}
use Rattle.std.specs.Prelude.{◌==◌, Some, find, filter}
use Rattle.std.specs.Str.{bytes_eq}
use Rattle.std.proofs.lemmas.Slice.Eq.{bytes_eq-Decides}
use Rattle.std.proofs.lemmas.Bool.{eq-eqb}
use Rattle.rhd_names.specs.declared.token.OpToken.{OpToken}
use Rattle.rhd_names.specs.Tokens.{token_text, all_tokens, token_of}
use Rattle.rhd_names.specs.Candidates.{begins_with_letter, is_word_of, is_symbol_of}

narrow_step : {X : Type 0} (p q : X → Bool) (x : X) (xs : List X) (b c : Bool) → p x ≡ b → (p x ≡ true → c ≡ true) → find p (filter q xs) ≡ find p xs → find p (cond c (x ∷ filter q xs) (filter q xs)) ≡ cond b (Some x) (find p xs)
narrow_step p q x xs true true e h ih = ap (λ b. cond b (Some x) (find p (filter q xs))) e
narrow_step p q x xs true false e h ih = let k : false ≡ true = h e in absurd cc
narrow_step p q x xs false true e h ih = ap (λ b. cond b (Some x) (find p (filter q xs))) e ∙ ih
narrow_step p q x xs false false e h ih = ih

narrow : {X : Type 0} (p q : X → Bool) → ((x : X) → p x ≡ true → q x ≡ true) → (xs : List X) → find p (filter q xs) ≡ find p xs
narrow p q h [] = refl
narrow p q h (x ∷ xs) = narrow_step p q x xs (p x) (q x) refl (h x) (narrow p q h xs)

itself_word : (text : List ℕ) → begins_with_letter text ≡ true → is_word_of (length text) text ≡ true
itself_word text h = ap (λ b. b && length text == length text) h ∙ eq-eqb (length text) (length text) refl

itself_symbol : (text : List ℕ) → begins_with_letter text ≡ false → is_symbol_of (length text) text ≡ true
itself_symbol text h = ap (λ b. not b && length text == length text) h ∙ eq-eqb (length text) (length text) refl

among : (q : List ℕ → Bool) (text : List ℕ) (xs tokens : List OpToken) → q text ≡ true → tokens ≡ filter (λ t. q (token_text t)) xs → find (λ t. bytes_eq (token_text t) text) tokens ≡ find (λ t. bytes_eq (token_text t) text) xs
among q text xs tokens h e = ap (find (λ t. bytes_eq (token_text t) text)) e ∙ narrow (λ t. bytes_eq (token_text t) text) (λ t. q (token_text t)) (λ t s. ap q ((bytes_eq-Decides (token_text t) text).0 s) ∙ h) xs

-- a text is found among the words as long as it
pub among_words : (text : List ℕ) (tokens : List OpToken) → begins_with_letter text ≡ true → tokens ≡ filter (λ t. is_word_of (length text) (token_text t)) all_tokens → find (λ t. bytes_eq (token_text t) text) tokens ≡ token_of text
unfolding token_of
among_words text tokens h e = among (is_word_of (length text)) text all_tokens tokens (itself_word text h) e

-- or among the symbols as long as it
pub among_symbols : (text : List ℕ) (tokens : List OpToken) → begins_with_letter text ≡ false → tokens ≡ filter (λ t. is_symbol_of (length text) (token_text t)) all_tokens → find (λ t. bytes_eq (token_text t) text) tokens ≡ token_of text
unfolding token_of
among_symbols text tokens h e = among (is_symbol_of (length text)) text all_tokens tokens (itself_symbol text h) e
