use Rattle.std.proofs.Common.{◌∙◌}
use Rattle.std.specs.Prelude.{Err}
use Rattle.rhd_module.specs.Contents.{named}
use Rattle.rhd_layers.proofs.Placed.{clear_named, index_refused, if_err}
use Rattle.rhd_layers.proofs.placing.finished.Goals as goal

pub returns-clause-made : goal.returns-clause-made
returns-clause-made c = c.in_ok-set_id_if_none.ensures.ok ∙ (λ i. named (c.in_ok-id.ensures i) (c.in_ok-build_index.ensures.1 i))

pub returns-clause-clear : goal.returns-clause-clear
returns-clause-clear c = clear_named c.args.part.now c.args.added c.in_ok-build_index.ensures.0

pub returns-in_err-build_index-clause-refused : goal.returns-in_err-build_index-clause-refused
returns-in_err-build_index-clause-refused c =
    if_err c.from_residual.result c.in_err-build_index.field-0.0 _ c.from_residual.ensures (index_refused {A = Unit {0}} c.args.part.now c.args.added c.build_index.new.self (Err c.in_err-build_index.field-0.0) c.in_err-build_index.ensures)
