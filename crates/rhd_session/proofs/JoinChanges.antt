-- Commands that join one module with another.
use Rattle.std.proofs.Common.{◌≡◌, List, [], ◌∷◌, length, refl, sym, ap, subst, ◌∙◌}
use Rattle.std.specs.Prelude.{Some, None, Result, Ok, Err, map, slice_get, slice_set, option_map, option_and_then}
use Rattle.std.specs.List.{AllByRecursion}
use Rattle.std.specs.Map.{keys_of}
use Rattle.std.proofs.lemmas.Option.{slice_get_within}
use Rattle.rhd_value.specs.Firsts.{first_of}
use Rattle.rhd_func.specs.Natives.{NativeInfo}
use Rattle.rhd_decl.specs.declared.fault.DeclFault.{DeclFault}
use Rattle.rhd_decl.specs.declared.fault.DeclFault.TheVariants.{HashCollision, IndexerNotAllowed, NotCallable, UnknownNumber, OutOfMemory as no_memory}
use Rattle.rhd_manifest.specs.Manifest.{ManifestLists}
use Rattle.rhd_module.specs.Algebra.{Joins, HasOwnTable}
use Rattle.rhd_module.specs.Tree.{ModuleTree}
use Rattle.rhd_module.proofs.Fills.{none_clash}
use Rattle.rhd_engine.specs.Engine.{Frame}
use Rattle.rhd_call.specs.declared.command.ModuleId.{ModuleId}
use Rattle.rhd_machine.specs.World.{World}
use Rattle.rhd_session.specs.declared.joining.Join.{Join}
use Rattle.rhd_session.specs.declared.joining.Join.TheVariants as joins
use Rattle.rhd_session.specs.Commands.{cause, change, changed_with, ChangedModule, eager_keys, module_operand, operands, unknown_of, not_callable, indexer_not_allowed, with_module}
use Rattle.rhd_session.specs.Answered.{collided, NoClash}
use Rattle.rhd_session.specs.Changing.{Goes, join_command, joined_by, all_joined_by}
use Rattle.rhd_session.proofs.Declared.{none_refuses, two_held, done_in}
use Rattle.rhd_session.proofs.ManifestChanges.{contains_map, all_map}
use Rattle.rhd_session.proofs.ModuleChanges.{left}

-- the operands, and the change
pub join_operands : (w : World) (f : Frame) (join : Join) (id other : ModuleId) → operands w f (join_command join id other) ≡ module_operand w id ∷ module_operand w other ∷ []
join_operands w f joins.Combine id other = refl
join_operands w f joins.CombineFlatten id other = refl
join_operands w f joins.Fill id other = refl
join_operands w f joins.Merge id other = refl

callable : (join : Join) (id other : ModuleId) → not_callable (join_command join id other) ≡ None
callable joins.Combine id other = refl
callable joins.CombineFlatten id other = refl
callable joins.Fill id other = refl
callable joins.Merge id other = refl

allowed : (natives : List NativeInfo) (table : List ManifestLists) (join : Join) (id other : ModuleId) → indexer_not_allowed natives table (join_command join id other) ≡ None
allowed natives table joins.Combine id other = refl
allowed natives table joins.CombineFlatten id other = refl
allowed natives table joins.Fill id other = refl
allowed natives table joins.Merge id other = refl

abbrev joined : Join → ModuleTree → ModuleTree → ChangedModule
joined join other m = record { tree = joined_by join other m; tables = map eager_keys (all_joined_by join other m) }

join_change : (w : World) (f : Frame) (join : Join) (id other : ModuleId) → change w f (join_command join id other) ≡ changed_with w f id other (joined join)
join_change w f joins.Combine id other = refl
join_change w f joins.CombineFlatten id other = refl
join_change w f joins.Fill id other = refl
join_change w f joins.Merge id other = refl

-- the tables of modules in which no two keys clash
clear_tables : (ms : List ModuleTree) → AllByRecursion HasOwnTable ms → AllByRecursion NoClash (map eager_keys ms)
clear_tables ms all = all_map eager_keys HasOwnTable NoClash ms (λ m own. none_clash m.own.seeds (keys_of m.own.eager) own) all

-- what joining two modules answers, as an answer of the session
pub join_goes : (w w2 : World) (f : Frame) (join : Join) (id other : ModuleId) (old from new : ModuleTree) (r : Result (Unit {0}) DeclFault) → slice_get w.modules id.0 ≡ Some old → slice_get w.modules other.0 ≡ Some from
    → Joins (all_joined_by join from old) (joined_by join from old) old r new → w2 ≡ record w { modules = slice_set w.modules id.0 new } → Goes w f (join_command join id other) r w2 f
join_goes w w2 f join id other old from new r is there goes made =
    let held = two_held id.0 (length w.modules) other.0 (length w.modules) (slice_get_within w.modules id.0 old is) (slice_get_within w.modules other.0 from there) in
    let none = none_refuses w f (join_command join id other) (ap (first_of unknown_of) (join_operands w f join id other) ∙ held) (callable join id other) (allowed w.engine.natives w.engine.manifests join id other) in
    let changes : change w f (join_command join id other) ≡ Some (with_module w f id (joined join from old)) =
    join_change w f join id other ∙ ap (option_and_then (λ o. option_map (λ m. with_module w f id (joined join o m)) (slice_get w.modules id.0))) there ∙ ap (option_map (λ m. with_module w f id (joined join from m))) is in
    by none changes r goes
  where
    by : cause w f (join_command join id other) ≡ None → change w f (join_command join id other) ≡ Some (with_module w f id (joined join from old))
        → (r : Result (Unit {0}) DeclFault) → Joins (all_joined_by join from old) (joined_by join from old) old r new → Goes w f (join_command join id other) r w2 f
    by none changes (Ok u) goes =
        done_in w w2 f f (join_command join id other) (with_module w f id (joined join from old)) none changes (clear_tables (all_joined_by join from old) goes.0)
        (made ∙ ap (λ (m : ModuleTree). record w { modules = slice_set w.modules id.0 m }) goes.1) refl
    by none changes (Err no_memory) goes = (made ∙ left w id old new is goes.1, refl)
    by none changes (Err (HashCollision key more)) goes =
        subst (λ (x : World). Goes w f (join_command join id other) (Err (HashCollision key more)) x f) (sym (made ∙ left w id old new is goes.1))
        (collided none changes (contains_map eager_keys (all_joined_by join from old) goes.0.0 goes.0.1) goes.0.2)
    by none changes (Err (IndexerNotAllowed key)) goes = absurd goes.0
    by none changes (Err NotCallable) goes = absurd goes.0
    by none changes (Err (UnknownNumber number count)) goes = absurd goes.0
