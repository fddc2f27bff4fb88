-- Pairs of which some are taken.
use Rattle.std.proofs.Common.{◌≡◌, Bool, true, false, not, cond, Option, None, Some, is_some, is_none, Bor, List, [], ◌∷◌, ◌++◌, append-nil, sym, ap, ◌∙◌}
use Rattle.std.specs.List.{filter}
use Rattle.std.specs.Option.{option_copied}
use Rattle.std.proofs.lemmas.List.Elements.{filter-append}

-- one more that passes a test, or doesn't
more_filtered : {X : Type 0} (test : X → Bool) (front : List X) (e : X) (b : Bool) → test e ≡ b → filter test (front ++ e ∷ []) ≡ filter test front ++ cond b (e ∷ []) []
more_filtered test front e b is = filter-append test front (e ∷ []) ∙ (λ i. filter test front ++ cond (is i) (e ∷ []) [])

pub passing : {X : Type 0} (test : X → Bool) (front : List X) (e : X) → test e ≡ true → filter test (front ++ e ∷ []) ≡ filter test front ++ e ∷ []
passing test front e is = more_filtered test front e true is

pub failing : {X : Type 0} (test : X → Bool) (front : List X) (e : X) → test e ≡ false → filter test (front ++ e ∷ []) ≡ filter test front
failing test front e is = more_filtered test front e false is ∙ append-nil (filter test front)

-- what is taken, once nothing is left
pub all_taken : {X : Type 0} (ps front rest : List X) → ps ≡ front ++ rest → rest ≡ [] → front ≡ ps
all_taken ps front rest is none = sym (append-nil front) ∙ ap (λ t. front ++ t) (sym none) ∙ sym is

-- whether something was found
pub is_found : {X : Type 0} (o : Option (Bor X)) (found : Option X) (b : Bool) → option_copied o ≡ found → b ≡ is_some o → is_some found ≡ b
is_found None found b e s = ap is_some (sym e) ∙ sym s
is_found (Some x) found b e s = ap is_some (sym e) ∙ sym s

pub is_unfound : {X : Type 0} (o : Option X) (b : Bool) → is_some o ≡ b → is_none o ≡ not b
is_unfound None b e = ap not e
is_unfound (Some x) b e = ap not e
