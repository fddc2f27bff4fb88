use Rattle.rhd_laws.proofs.PatternOrder.{pattern_matches, matching_pattern, types_match, match_to}
use Rattle.rhd_laws.proofs.PatternCount.{count_to}
use Rattle.rhd_laws.proofs.PatternPlaces.{exact_first}
use Rattle.rhd_laws.proofs.picks.the_patterns_of_kinds_match_them.Goals as goal

pub returns-clause-matching : goal.returns-clause-matching
returns-clause-matching c = λ kinds types. (λ h. types_match types kinds (pattern_matches 16 kinds types h), λ m. matching_pattern 16 kinds types (match_to types kinds m))

pub returns-clause-order : goal.returns-clause-order
returns-clause-order c = λ args types others i j a b. exact_first args types others i j a b

pub returns-clause-count : goal.returns-clause-count
returns-clause-count c = λ kinds. count_to 16 kinds
