use Rattle.std.proofs.Common.{refl}
use Rattle.rhd_hash.specs.Parts.{mixed}
use Rattle.rhd_hash.proofs.law.a_hash_is_made_of_parts.Goals as goal

pub returns-clause-native : goal.returns-clause-native
unfolding mixed
returns-clause-native c = λ s path name types. refl

pub returns-clause-typed : goal.returns-clause-typed
unfolding mixed
returns-clause-typed c = λ s path name params this_type. refl

pub returns-clause-first : goal.returns-clause-first
returns-clause-first c = λ one other names. refl

pub returns-clause-empty : goal.returns-clause-empty
returns-clause-empty c = λ one names same. cc
