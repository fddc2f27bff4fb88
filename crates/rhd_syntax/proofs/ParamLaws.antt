-- Kinds of parameters between round brackets: what is read is what is written.
use Rattle.std.proofs.Common.{◌≡◌, ◌<◌, ℕ, false, List, length, refl, ap, ◌∙◌, arith}
use Rattle.rhd_value.specs.declared.tag.TypeTag.{TypeTag}
use Rattle.rhd_syntax.specs.Bytes.{begins, param_kind_of}
use Rattle.rhd_syntax.specs.Spans.{bare, param_kind, kinds}
use Rattle.rhd_syntax.specs.Reading.{word_at, comes, param_kind_at, kinds_at}
use Rattle.rhd_syntax.proofs.Agrees.{Agrees}
use Rattle.rhd_syntax.proofs.WordLaws.{bare_agrees, meaning_agrees, skips_to, run_stops, run_shrinks, blanks_shrink}
use Rattle.rhd_syntax.proofs.ByteLaws.{run_begins}
use Rattle.rhd_syntax.proofs.ListLaws.{Goes}
use Rattle.rhd_syntax.proofs.BracketLaws.{bracketed_agrees}

param_agrees : Agrees TypeTag param_kind_at param_kind
unfolding param_kind_at
param_agrees = meaning_agrees TypeTag param_kind_of word_at bare bare_agrees

-- a word takes bytes, and does not begin with a bracket
bare_shrinks : (v bytes rest : List ℕ) → bare v bytes rest → length rest < length bytes
bare_shrinks v bytes rest w = omega (arith, blanks_shrink bytes w.0 w.1, run_shrinks v w.0 rest w.2)

bare_begun : (v bytes rest : List ℕ) → bare v bytes rest → comes 41 bytes ≡ false
bare_begun v bytes rest w = ap (begins 41) (skips_to bytes w.0 w.1 (run_stops v w.0 rest w.2)) ∙ run_begins 41 v w.0 rest refl w.2

param_goes : Goes TypeTag (comes 41) param_kind
param_goes = record {
  shrinks = λ k bytes rest w. bare_shrinks w.0 bytes rest w.2;
  begun = λ k bytes rest w. bare_begun w.0 bytes rest w.2;
}

pub kinds_agree : Agrees (List TypeTag) kinds_at kinds
unfolding kinds_at
kinds_agree = bracketed_agrees TypeTag param_kind_at param_kind param_agrees param_goes
