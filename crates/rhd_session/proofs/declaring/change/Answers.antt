use Rattle.rhd_session.proofs.ManifestChanges.{combine_changes, lazy_changes}
use Rattle.rhd_session.proofs.ModuleChanges.{native_changes, raw_changes, script_changes, index_changes}
use Rattle.rhd_session.proofs.declaring.change.Goals as goal

pub returns-in-Native : goal.returns-in-Native
returns-in-Native g c = native_changes _ _ c.args.command _ _ _ c.args.changed.now _ c.register.result c.in-Native.is c.register.ensures

pub returns-in-RawNative : goal.returns-in-RawNative
returns-in-RawNative g c = raw_changes _ _ c.args.command _ _ _ _ _ c.args.changed.now _ c.register_raw.result c.in-RawNative.is (rw c.as_slice.ensures at c.register_raw.ensures)

pub returns-in-Script : goal.returns-in-Script
returns-in-Script g c = script_changes _ _ c.args.command _ _ c.args.changed.now _ c.set_script_fn.result c.in-Script.is c.set_script_fn.ensures

pub returns-in-Index : goal.returns-in-Index
returns-in-Index g c = index_changes _ _ c.args.command _ c.args.changed.now _ c.build_index.result c.in-Index.is c.build_index.ensures

pub returns-in-CombineManifest : goal.returns-in-CombineManifest
returns-in-CombineManifest g c = combine_changes _ _ c.args.command _ _ c.args.changed.now _ c.combine.result c.in-CombineManifest.is c.combine.ensures

pub returns-in-RegisterLazy : goal.returns-in-RegisterLazy
returns-in-RegisterLazy g c = lazy_changes _ _ c.args.command _ c.args.changed.now _ c.register_lazy_functions.result c.in-RegisterLazy.is c.register_lazy_functions.ensures
