use Rattle.std.proofs.Common.{rules, ◌≡◌, true, sym, ap}
use Rattle.std.specs.Option.{option_map}
use Rattle.rhd_hash.specs.Keys.{is_script_key}
use Rattle.rhd_manifest.specs.Entry.{entry_decl}
use Rattle.rhd_manifest.proofs.Places.{no_script}
use Rattle.rhd_module.proofs.module.Module.get_listed.Goals as goal

-- what is listed are natives
pub returns-then-is_script : goal.returns-then-is_script
returns-then-is_script c =
    let m = c.args.self.now in
    let key = c.args.key.now in
    let script : is_script_key key ≡ true = search rules in
    sym (ap (option_map (λ e. (entry_decl m.own.seeds e).func)) (no_script key m.own.listed script))
