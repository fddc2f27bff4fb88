use Rattle.std.proofs.Common.{◌≡◌, List, map, sym, ap, ◌∙◌}
use Rattle.std.specs.Str.{trim}
use Rattle.std.proofs.lemmas.Result.{IfOk-weaker}
use Rattle.rhd_value.specs.Tree.{Bytes}
use Rattle.rhd_layers.specs.Paths.{path_of}
use Rattle.rhd_layers.proofs.PathLaws.{one_part, several_parts}
use Rattle.rhd_layers.proofs.parts.parts_of.Goals as goal

pub returns-then-len-eq1 : goal.returns-then-len-eq1
returns-then-len-eq1 c =
    let is : c.in_ok-names.names ≡ path_of c.args.name.now = c.in_ok-names.ensures ∙ ap path_of c.as_str.ensures in
    one_part c.args.name.now c.in_ok-names.names is (sym c.len.ensures ∙ c.if-len-eq1.true)

pub returns : goal.returns
returns c =
    let is : c.in_ok-names.names ≡ path_of c.args.name.now = c.in_ok-names.ensures ∙ ap path_of c.as_str.ensures in
    IfOk-weaker c.all_trimmed.result _ _
    (λ parts e. e ∙ ap (λ (names : List Bytes). map trim names) c.as_slice.ensures ∙ several_parts c.args.name.now c.in_ok-names.names is (λ one. c.if-len-eq1.false (c.len.ensures ∙ one)))
    c.all_trimmed.ensures
