-- Bytes that are written piece by piece.
use Rattle.std.proofs.Common.{◌≡◌, ℕ, ◌+◌, ◌-◌, ◌<◌, ◌≤◌, List, ◌++◌, length, take, drop, flat_map, sym, ap, ◌∙◌, arith, length-append, take-append-drop, take-add, append_assoc}
use Rattle.std.proofs.Math.Seq.{take-append-add}
use Rattle.std.proofs.lemmas.List.{take-append-le}
use Rattle.std.proofs.lemmas.Grind.{flat_map-append}
use Rattle.std.proofs.KnownBytes.{Appends-trans}
use Rattle.std.specs.declared.option.Option.{Option}
use Rattle.std.specs.Io.KnownBytes.{Appends}
use Rattle.rhd_streams.specs.Streams.{WrotePart, WroteLess}

module _ {A : Type 0} (f : A → List ℕ) (xs : List A) where
  -- the lines of a longer front
  pub longer : (done end : ℕ) → done ≤ end → flat_map f (take end xs) ≡ flat_map f (take done xs) ++ flat_map f (take (end - done) (drop done xs))
  longer done end up =
      let split : end ≡ done + (end - done) = omega (arith, up) in
      ap (λ n. flat_map f (take n xs)) split ∙ ap (λ ys. flat_map f ys) (take-add done (end - done) xs) ∙ flat_map-append f (take done xs) (take (end - done) (drop done xs))

  -- all lines
  pub in_three : (done end : ℕ) → done ≤ end → flat_map f xs ≡ (flat_map f (take done xs) ++ flat_map f (take (end - done) (drop done xs))) ++ flat_map f (drop end xs)
  in_three done end up =
      ap (λ ys. flat_map f ys) (sym (take-append-drop end xs)) ∙ flat_map-append f (take end xs) (drop end xs)
      ∙ ap (λ ys. ys ++ flat_map f (drop end xs)) (longer done end up)

-- a front is written, and then a front of a piece behind it
front_of : (done piece rest : List ℕ) (n : ℕ) → n ≤ length piece → take (length done + n) ((done ++ piece) ++ rest) ≡ done ++ take n piece
front_of done piece rest n within =
    ap (λ ys. take (length done + n) ys) (append_assoc done piece rest) ∙ take-append-add done (piece ++ rest) n ∙ ap (λ ys. done ++ ys) (take-append-le n piece rest within)

module _ (a b c : Option (List ℕ)) (done piece rest : List ℕ) (first : Appends a b done) where
  pub part_more : WrotePart b c piece → WrotePart a c ((done ++ piece) ++ rest)
  part_more w = record {
    count = length done + w.count;
    within = omega (arith, w.within, length-append (done ++ piece) rest, length-append done piece);
    wrote = rw (front_of done piece rest w.count w.within) (Appends-trans a b c done (take w.count piece) first w.wrote);
  }

  pub less_more : WroteLess b c piece → WroteLess a c ((done ++ piece) ++ rest)
  less_more w = record {
    count = length done + w.count;
    less = omega (arith, w.less, length-append (done ++ piece) rest, length-append done piece);
    wrote = rw (front_of done piece rest w.count (omega (arith, w.less))) (Appends-trans a b c done (take w.count piece) first w.wrote);
  }
