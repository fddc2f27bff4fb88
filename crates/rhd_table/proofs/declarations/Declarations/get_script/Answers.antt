use Rattle.std.proofs.Common.{◌≡◌, None, Option, if◌then◌else◌, ap, subst, ◌∙◌}
use Rattle.std.specs.Option.{option_copied, option_or}
use Rattle.rhd_value.specs.Firsts.{first_of}
use Rattle.rhd_func.specs.Funcs.{script_def_of}
use Rattle.rhd_func.specs.declared.func.ScriptFuncDef.{ScriptFuncDef}
use Rattle.rhd_hash.specs.Table.{Table}
use Rattle.rhd_decl.specs.declared.declaration.Declaration.{Declaration}
use Rattle.rhd_table.specs.Found.{script_in, is_typed_of}
use Rattle.rhd_table.proofs.declarations.Declarations.get_script.Goals as goal

pub returns-in-None : goal.returns-in-None
returns-in-None c =
    let name = c.args.name.now in
    let params = c.args.params in
    let P : Table Declaration → Type 0 = λ t. option_copied c.typed_script.result ≡ script_in name params t.pairs in
    let typed = first_of (λ p. if is_typed_of name params p.0 then script_def_of p.1.func else None) c.self.inside.table.pairs in
    subst P c.self.view_is (c.typed_script.ensures ∙ ap (λ (o : Option ScriptFuncDef). option_or o typed) c.in-None.ensures)
