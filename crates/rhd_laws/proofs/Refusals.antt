-- What refuses a call whatever its level is.
use Rattle.std.proofs.Common.{◌≡◌, ◌<◌, ◌≤◌, ℕ, Bool, true, false, ltb, List, refl, sym, ap, ◌∙◌, ◌⊎◌, inl, inr}
use Rattle.std.specs.Prelude.{Option, None, Some, option_map}
use Rattle.std.specs.Option.{is_none}
use Rattle.std.proofs.lemmas.Bool.{ltb-true, ltb-false}
use Rattle.rhd_value.specs.Firsts.{where_holds}
use Rattle.rhd_value.specs.Tree.{Bytes}
use Rattle.rhd_value.specs.declared.tag.Position.{Position}
use Rattle.rhd_value.specs.declared.fault.EvalAltResult.{EvalAltResult}
use Rattle.rhd_value.specs.declared.fault.EvalAltResult.TheVariants.{ErrorDataRace, ErrorModuleNotFound}
use Rattle.rhd_func.specs.declared.request.CallRequest.{CallRequest}
use Rattle.rhd_func.specs.declared.request.CallRequest.TheVariants.{Named, Qualified}
use Rattle.rhd_func.specs.declared.request.CallShape.{CallShape}
use Rattle.rhd_func.specs.Shapes.{given, pos_of}
use Rattle.rhd_call.specs.End.{End, failed}
use Rattle.rhd_engine.specs.Engine.{EngineLists, Frame}
use Rattle.rhd_engine.specs.NotFound.{path_text}
use Rattle.rhd_dispatch.specs.Picks.{root_of}
use Rattle.rhd_dispatch.specs.Searched.{Place}
use Rattle.rhd_dispatch.specs.Races.{locked_place, locked_text}
use Rattle.rhd_machine.specs.Plans.{is_unqualified, in_module, plan_of}
use Rattle.rhd_machine.specs.Decisions.{refusal}
use Rattle.rhd_machine.proofs.Found.{deep_end, locked_end, rootless_end, own_refusal, refused_where, refusal_is}

-- a call is refused for its level, or else for a cause of its own
pub refused_parts : (call : CallRequest) (limit level : ℕ) (deep : Bool) (own : Option EvalAltResult) (end : End) → ltb limit level ≡ deep → refused_where call deep own ≡ Some end
    → ((limit < level) × (end ≡ deep_end call)) ⊎ ((level ≤ limit) × (fault : EvalAltResult) × (own ≡ Some fault) × (end ≡ failed (given call) fault))
refused_parts call limit level true own end e h = inl (ltb-true limit level e, cc)
refused_parts call limit level false (Some fault) end e h = inr (ltb-false limit level e, fault, refl, cc)
refused_parts call limit level false None end e h = absurd cc

pub unrefused_parts : (call : CallRequest) (limit level : ℕ) (deep : Bool) (own : Option EvalAltResult) → ltb limit level ≡ deep → refused_where call deep own ≡ None → (level ≤ limit) × (own ≡ None)
unrefused_parts call limit level true own e h = absurd cc
unrefused_parts call limit level false (Some fault) e h = absurd cc
unrefused_parts call limit level false None e h = (ltb-false limit level e, refl)

-- that cause is a locked argument of an unqualified call, or the path of a qualified call that begins at no module
pub data OwnRefused (e : EngineLists) (f : Frame) (call : CallRequest) (fault : EvalAltResult) : Type 0 where
  by_lock : (n : ℕ) → is_unqualified (plan_of call).search ≡ true → locked_place (plan_of call).shape ≡ Some n → fault ≡ ErrorDataRace (locked_text (plan_of call).name n) (pos_of call) → OwnRefused e f call fault
  by_path : (path : List Bytes) → (plan_of call).search ≡ in_module path → root_of e f.imports path ≡ None → fault ≡ ErrorModuleNotFound (path_text path) (pos_of call) → OwnRefused e f call fault

some_fault : (a b : EvalAltResult) → Some a ≡ Some b → b ≡ a
some_fault a b h = cc

race_by : (name : Bytes) (shape : CallShape) (pos : Position) (fault : EvalAltResult) (o : Option ℕ) → locked_place shape ≡ o → option_map (λ n. ErrorDataRace (locked_text name n) pos) o ≡ Some fault
    → (n : ℕ) × (locked_place shape ≡ Some n) × (fault ≡ ErrorDataRace (locked_text name n) pos)
race_by name shape pos fault None is h = absurd cc
race_by name shape pos fault (Some n) is h = (n, is, some_fault (ErrorDataRace (locked_text name n) pos) fault h)

root_by : (e : EngineLists) (f : Frame) (path : List Bytes) (pos : Position) (fault : EvalAltResult) (o : Option Place) → root_of e f.imports path ≡ o → where_holds (is_none o) (ErrorModuleNotFound (path_text path) pos) ≡ Some fault
    → (root_of e f.imports path ≡ None) × (fault ≡ ErrorModuleNotFound (path_text path) pos)
root_by e f path pos fault (Some place) is h = absurd cc
root_by e f path pos fault None is h = (is, some_fault (ErrorModuleNotFound (path_text path) pos) fault h)

pub own_parts : (e : EngineLists) (f : Frame) (call : CallRequest) (fault : EvalAltResult) → own_refusal e f call ≡ Some fault → OwnRefused e f call fault
own_parts e f (Named name token native_only shape want pos) fault h = let r = race_by name shape pos fault (locked_place shape) refl h in by_lock r.0 refl r.1 r.2
own_parts e f (Qualified path name shape pos) fault h = let r = root_by e f path pos fault (root_of e f.imports path) refl h in by_path path refl r.0 r.1

pub own_locked : (e : EngineLists) (f : Frame) (call : CallRequest) (n : ℕ) → is_unqualified (plan_of call).search ≡ true → locked_place (plan_of call).shape ≡ Some n
    → own_refusal e f call ≡ Some (ErrorDataRace (locked_text (plan_of call).name n) (pos_of call))
own_locked e f (Named name token native_only shape want pos) n unqualified place = ap (option_map (λ k. ErrorDataRace (locked_text name k) pos)) place
own_locked e f (Qualified path name shape pos) n unqualified place = absurd cc

pub own_rootless : (e : EngineLists) (f : Frame) (call : CallRequest) (path : List Bytes) → (plan_of call).search ≡ in_module path → root_of e f.imports path ≡ None
    → own_refusal e f call ≡ Some (ErrorModuleNotFound (path_text path) (pos_of call))
own_rootless e f (Named name token native_only shape want pos) path search none = absurd cc
own_rootless e f (Qualified own name shape pos) path search none =
    let same : own ≡ path = cc in
    (λ i. where_holds (is_none (root_of e f.imports (same i))) (ErrorModuleNotFound (path_text (same i)) pos)) ∙ ap (λ (o : Option Place). where_holds (is_none o) (ErrorModuleNotFound (path_text path) pos)) none

pub not_both_searches : (call : CallRequest) (path : List Bytes) → (plan_of call).search ≡ in_module path → is_unqualified (plan_of call).search ≡ true → ⊥
not_both_searches call path search unqualified = let q : false ≡ true = sym (ap is_unqualified search) ∙ unqualified in absurd cc

-- the ways in which a call is refused
pub data Refused (e : EngineLists) (f : Frame) (level : ℕ) (call : CallRequest) (end : End) : Type 0 where
  for_level : e.limits.level < level → end ≡ deep_end call → Refused e f level call end
  for_lock : (n : ℕ) → level ≤ e.limits.level → is_unqualified (plan_of call).search ≡ true → locked_place (plan_of call).shape ≡ Some n → end ≡ locked_end call n → Refused e f level call end
  for_path : (path : List Bytes) → level ≤ e.limits.level → (plan_of call).search ≡ in_module path → root_of e f.imports path ≡ None → end ≡ rootless_end call path → Refused e f level call end

refused_own : (e : EngineLists) (f : Frame) (level : ℕ) (call : CallRequest) (end : End) (fault : EvalAltResult) → level ≤ e.limits.level → end ≡ failed (given call) fault → OwnRefused e f call fault → Refused e f level call end
refused_own e f level call end fault l is (by_lock n unqualified place says) = for_lock n l unqualified place (is ∙ ap (failed (given call)) says)
refused_own e f level call end fault l is (by_path path search none says) = for_path path l search none (is ∙ ap (failed (given call)) says)

pub refused : (e : EngineLists) (f : Frame) (level : ℕ) (call : CallRequest) (end : End) → refusal e f level call ≡ Some end → Refused e f level call end
refused e f level call end h =
    let by : ((e.limits.level < level) × (end ≡ deep_end call)) ⊎ ((level ≤ e.limits.level) × (fault : EvalAltResult) × (own_refusal e f call ≡ Some fault) × (end ≡ failed (given call) fault)) → Refused e f level call end =
    elim [ inl deep ↦ for_level deep.0 deep.1 | inr own ↦ refused_own e f level call end own.1 own.0 own.3 (own_parts e f call own.1 own.2) ]
    in by (refused_parts call e.limits.level level (ltb e.limits.level level) (own_refusal e f call) end refl (sym (refusal_is e f level call) ∙ h))

pub unrefused : (e : EngineLists) (f : Frame) (level : ℕ) (call : CallRequest) → refusal e f level call ≡ None → (level ≤ e.limits.level) × (own_refusal e f call ≡ None)
unrefused e f level call h = unrefused_parts call e.limits.level level (ltb e.limits.level level) (own_refusal e f call) refl (sym (refusal_is e f level call) ∙ h)

-- what nothing refuses has no locked argument where it is unqualified
pub none_locked : (e : EngineLists) (f : Frame) (call : CallRequest) (n : ℕ) → own_refusal e f call ≡ None → is_unqualified (plan_of call).search ≡ true → locked_place (plan_of call).shape ≡ Some n → ⊥
none_locked e f call n none unqualified place = let q : None ≡ Some (ErrorDataRace (locked_text (plan_of call).name n) (pos_of call)) = sym none ∙ own_locked e f call n unqualified place in absurd cc

-- and its path begins at a module where it is qualified
pub none_rootless : (e : EngineLists) (f : Frame) (call : CallRequest) (path : List Bytes) → own_refusal e f call ≡ None → (plan_of call).search ≡ in_module path → root_of e f.imports path ≡ None → ⊥
none_rootless e f call path none search rootless = let q : None ≡ Some (ErrorModuleNotFound (path_text path) (pos_of call)) = sym none ∙ own_rootless e f call path search rootless in absurd cc

has_root : (e : EngineLists) (f : Frame) (call : CallRequest) (path : List Bytes) (o : Option Place) → own_refusal e f call ≡ None → (plan_of call).search ≡ in_module path → root_of e f.imports path ≡ o
    → (place : Place) × (root_of e f.imports path ≡ Some place)
has_root e f call path None none search is = absurd (none_rootless e f call path none search is)
has_root e f call path (Some place) none search is = (place, is)

pub unrefused_root : (e : EngineLists) (f : Frame) (level : ℕ) (call : CallRequest) (path : List Bytes) → (plan_of call).search ≡ in_module path → refusal e f level call ≡ None → (place : Place) × (root_of e f.imports path ≡ Some place)
unrefused_root e f level call path search h = has_root e f call path (root_of e f.imports path) (unrefused e f level call h).1 search refl
