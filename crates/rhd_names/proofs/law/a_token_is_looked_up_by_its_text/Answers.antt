use Rattle.rhd_names.proofs.EachToken.{found, text_found}
use Rattle.rhd_names.proofs.law.a_token_is_looked_up_by_its_text.Goals as goal

pub returns : goal.returns
returns c = λ text t. (found text t, text_found text t)
