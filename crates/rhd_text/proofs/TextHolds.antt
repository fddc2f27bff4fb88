-- What holds of every text: its limits are allowed, the natives of its built-in functions are held, what its manifests list fits
-- the natives, and a line adds one command and one manifest at most.
use Rattle.std.proofs.Common.{◌≡◌, ℕ, zero, suc, ◌+◌, ◌-◌, ◌≤◌, Bool, true, false, cond, eqb, not, ltb, List, [], ◌∷◌, ◌++◌, length, Option, Some, None, refl, sym, ap, subst, ◌∙◌, arith}
use Rattle.std.specs.Prelude.{IfOk, OnOk, IfSome, nat_le, ◌&&◌, Result, Ok, Err}
use Rattle.std.specs.List.{list_all}
use Rattle.std.specs.Option.{is_none, option_map}
use Rattle.std.proofs.Math.Dec.{eqb-suc-zero}
use Rattle.std.proofs.lemmas.Bool.{leb-true, ltb-true}
use Rattle.std.proofs.lemmas.List.{length_push, length-set}
use Rattle.rhd_value.specs.Tree.{Bytes}
use Rattle.rhd_value.specs.declared.tag.FnId.{FnId}
use Rattle.rhd_hash.specs.declared.mixer.Seeds.{Seeds}
use Rattle.rhd_func.specs.Natives.{NativeInfo}
use Rattle.rhd_func.specs.declared.access.FnNamespace.{FnNamespace}
use Rattle.rhd_func.specs.declared.access.ManifestId.{ManifestId}
use Rattle.rhd_manifest.specs.Entry.{entry_of}
use Rattle.rhd_manifest.specs.Fits.{manifest_fits, fits}
use Rattle.rhd_manifest.specs.Manifest.{ManifestLists, no_lists, manifest_at, with_manifest, with_entry, with_sub, with_var, with_type}
use Rattle.rhd_engine.specs.declared.builtins.Operator.{Operator}
use Rattle.rhd_engine.specs.declared.limits.Limits.{Limits}
use Rattle.rhd_engine.specs.Held.{builtins_held}
use Rattle.rhd_engine.specs.Operators.{operator_eq, put_builtin}
use Rattle.rhd_plan.specs.declared.body.BodyPlan.{BodyPlan}
use Rattle.rhd_plan.specs.declared.session.SessionText.{SessionText}
use Rattle.rhd_plan.specs.declared.part.Part.{Part}
use Rattle.rhd_plan.specs.declared.part.Part.TheVariants as parts
use Rattle.rhd_text.specs.declared.fault.TextFault.{TextFault}
use Rattle.rhd_plan.specs.Session.{empty_text, takes_headers, is_held, stepped, ended, in_latest, with_seeds, with_limits, with_printer, with_builtin, with_host, with_file, with_body, with_call, with_end, with_command, added}
use Rattle.rhd_plan.specs.Session.{is_header, with_part, latest_manifest, in_manifest, with_new_manifest, with_manifest_entry, with_manifest_sub, with_manifest_var, with_manifest_type}
use Rattle.rhd_text.specs.Session.{with_line, IsText, ReadsText}
use Rattle.rhd_text.specs.ReadRows.{line_of}
use Rattle.rhd_text.specs.ReadSession.{after_line}
use Rattle.rhd_syntax.specs.Reading.{◌>>=◌}
use Rattle.rhd_syntax.proofs.Agrees.{bind_some, cond_some, same_some, and_parts}
use Rattle.rhd_text.proofs.ManifestFits.{fits_more, fits_changed, fits_entry}

-- what holds of a text of so many lines
pub record Holds (natives : List NativeInfo) (count : ℕ) (t : SessionText) : Type 0 where
  pub limits : IfSome t.limits (λ l. l.level ≤ 1000)
  pub builtins : builtins_held (length natives) t.builtins ≡ true
  pub manifests : fits natives t.manifests ≡ true
  pub few : length t.manifests ≤ count
  pub commands : length t.commands ≤ count

-- ---- built-in functions

abbrev below : ℕ → Operator × FnId → Bool
below held b = ltb b.1.0 held

put_step : (same : Bool) (held : ℕ) (o : Operator) (id : FnId) (b : Operator × FnId) (bs : List (Operator × FnId)) → ltb id.0 held ≡ true → builtins_held held (b ∷ bs) ≡ true → builtins_held held (put_builtin o id bs) ≡ true → builtins_held held (cond same ((b.0, id) ∷ bs) (b ∷ put_builtin o id bs)) ≡ true
put_step true held o id b bs lt h ih = let a = and_parts (below held b) (list_all (below held) bs) h in rw (lt, a.1) refl
put_step false held o id b bs lt h ih = let a = and_parts (below held b) (list_all (below held) bs) h in rw (a.0, ih) refl

put_held : (held : ℕ) (o : Operator) (id : FnId) (bs : List (Operator × FnId)) → ltb id.0 held ≡ true → builtins_held held bs ≡ true → builtins_held held (put_builtin o id bs) ≡ true
put_held held o id [] lt h = rw lt refl
put_held held o id (b ∷ bs) lt h = put_step (operator_eq o b.0) held o id b bs lt h (put_held held o id bs lt (and_parts (below held b) (list_all (below held) bs) h).1)

-- ---- a line more

-- a text whose limits, built-in functions, manifests and commands are the same, of a line more
same_holds : (natives : List NativeInfo) (count : ℕ) (t v : SessionText) → v.limits ≡ t.limits → v.builtins ≡ t.builtins → v.manifests ≡ t.manifests → v.commands ≡ t.commands → Holds natives count t → Holds natives (count + 1) v
same_holds natives count t v l b m c h = record {
  limits = subst (λ (o : Option Limits). IfSome o (λ m. m.level ≤ 1000)) (sym l) h.limits;
  builtins = ap (builtins_held (length natives)) b ∙ h.builtins;
  manifests = ap (fits natives) m ∙ h.manifests;
  few = omega (arith, ap length m, h.few);
  commands = omega (arith, ap length c, h.commands);
}

seeds_hold : (natives : List NativeInfo) (count : ℕ) (t v : SessionText) (s : Seeds) → with_seeds t s ≡ Some v → Holds natives count t → Holds natives (count + 1) v
unfolding with_seeds
seeds_hold natives count t v s e h =
    let c = cond_some (is_none t.seeds) (record t { seeds = Some s }) v e in
    subst (Holds natives (count + 1)) c.1 (same_holds natives count t (record t { seeds = Some s }) refl refl refl refl h)

limits_hold : (natives : List NativeInfo) (count : ℕ) (t v : SessionText) (m : Limits) → with_limits t m ≡ Some v → Holds natives count t → Holds natives (count + 1) v
unfolding with_limits
limits_hold natives count t v m e h =
    let c = cond_some (is_none t.limits && nat_le m.level 1000) (record t { limits = Some m }) v e in
    let allowed = leb-true m.level 1000 (and_parts (is_none t.limits) (nat_le m.level 1000) c.0).1 in
    subst (Holds natives (count + 1)) c.1 (record { limits = allowed; builtins = h.builtins; manifests = h.manifests; few = omega (arith, h.few); commands = omega (arith, h.commands) })

builtin_holds : (natives : List NativeInfo) (count : ℕ) (t v : SessionText) (o : Operator) (id : FnId) → with_builtin natives t o id ≡ Some v → Holds natives count t → Holds natives (count + 1) v
unfolding with_builtin
builtin_holds natives count t v o id e h =
    let c = cond_some (is_held natives id) (record t { builtins = put_builtin o id t.builtins }) v e in
    subst (Holds natives (count + 1)) c.1 (record { limits = h.limits; builtins = put_held (length natives) o id t.builtins c.0 h.builtins; manifests = h.manifests; few = omega (arith, h.few); commands = omega (arith, h.commands) })

bodies_hold : (natives : List NativeInfo) (count : ℕ) (t v : SessionText) (o : Option (List BodyPlan)) → (o >>= (λ bodies. Some (record t { bodies = bodies }))) ≡ Some v → Holds natives count t → Holds natives (count + 1) v
bodies_hold natives count t v o e h =
    let a = bind_some o (λ bodies. Some (record t { bodies = bodies })) v e in
    subst (Holds natives (count + 1)) (same_some (record t { bodies = a.0 }) v a.2) (same_holds natives count t (record t { bodies = a.0 }) refl refl refl refl h)

-- ---- manifests

-- a text whose manifests alone are others, of which there may be one more
listed_holds : (natives : List NativeInfo) (count : ℕ) (t v : SessionText) (ms : List ManifestLists)
    → record t { manifests = ms } ≡ v → fits natives ms ≡ true → length ms ≤ length t.manifests + 1 → Holds natives count t → Holds natives (count + 1) v
listed_holds natives count t v ms e fit few h = subst (Holds natives (count + 1)) e (record { limits = h.limits; builtins = h.builtins; manifests = fit; few = omega (arith, few, h.few); commands = omega (arith, h.commands) })

latest_is : {A : Type 0} (n : ℕ) (f : ManifestId → A) (v : A) → option_map f (cond (eqb n 0) None (Some (record { 0 = n - 1 }))) ≡ Some v → f (record { 0 = n - 1 }) ≡ v
latest_is zero f v e = absurd cc
latest_is (suc n) f v e = same_some (f (record { 0 = suc n - 1 })) v (subst (λ (b : Bool). option_map f (cond b None (Some (record { 0 = suc n - 1 }))) ≡ Some v) (eqb-suc-zero n) e)

-- a text whose latest manifest has changed, which fits as it did before
changed_holds : (natives : List NativeInfo) (count : ℕ) (t v : SessionText) (change : ManifestLists → ManifestLists) → in_manifest change t ≡ Some v
    → ((m : ManifestLists) → manifest_fits natives m ≡ true → manifest_fits natives (change m) ≡ true) → Holds natives count t → Holds natives (count + 1) v
unfolding in_manifest latest_manifest
changed_holds natives count t v change e keeps h =
    let last : ManifestId = record { 0 = length t.manifests - 1 } in
    let ms : List ManifestLists = with_manifest last (change (manifest_at t.manifests last)) t.manifests in
    let same : length ms ≡ length t.manifests = length-set t.manifests (length t.manifests - 1) (change (manifest_at t.manifests last)) in
    let is = latest_is (length t.manifests) (λ id. record t { manifests = with_manifest id (change (manifest_at t.manifests id)) t.manifests }) v e in
    listed_holds natives count t v ms is (fits_changed natives t.manifests last change keeps h.manifests) (omega (arith, same)) h

where_is : {A : Type 0} (b : Bool) (o : Option A) (v : A) → cond b o None ≡ Some v → (b ≡ true) × (o ≡ Some v)
where_is true o v e = (refl, e)
where_is false o v e = absurd cc

entry_holds : (natives : List NativeInfo) (count : ℕ) (t v : SessionText) (name : Bytes) (id : FnId) (namespace : FnNamespace) → with_manifest_entry natives t name id namespace ≡ Some v → Holds natives count t → Holds natives (count + 1) v
unfolding with_manifest_entry
entry_holds natives count t v name id namespace e h =
    let c = where_is (is_held natives id) (in_manifest (with_entry (entry_of natives name namespace id)) t) v e in
    changed_holds natives count t v (with_entry (entry_of natives name namespace id)) c.1 (fits_entry natives name namespace id (ltb-true id.0 (length natives) c.0)) h

sub_holds : (natives : List NativeInfo) (count : ℕ) (t v : SessionText) (name : Bytes) (sub : ManifestId) → with_manifest_sub t name sub ≡ Some v → Holds natives count t → Holds natives (count + 1) v
unfolding with_manifest_sub
sub_holds natives count t v name sub e h =
    let a = bind_some (latest_manifest t) (λ id. cond (ltb sub.0 id.0) (in_manifest (with_sub name sub) t) None) v e in
    changed_holds natives count t v (with_sub name sub) (where_is (ltb sub.0 a.0.0) (in_manifest (with_sub name sub) t) v a.2).1 (λ m fit. fit) h

-- ---- parts

part_holds : (natives : List NativeInfo) (count : ℕ) (t v : SessionText) (p : Part) → added natives t p ≡ Some v → Holds natives count t → Holds natives (count + 1) v
unfolding with_printer with_host with_file with_new_manifest with_manifest_var with_manifest_type with_body with_call with_end with_command
part_holds natives count t v (parts.Seeds s) e h = seeds_hold natives count t v s e h
part_holds natives count t v (parts.Limits m) e h = limits_hold natives count t v m e h
part_holds natives count t v (parts.Printer p) e h = subst (Holds natives (count + 1)) (same_some (with_printer t p) v e) (same_holds natives count t (with_printer t p) refl refl refl refl h)
part_holds natives count t v (parts.Builtin op left right id) e h = builtin_holds natives count t v (record { token = op; left = left; right = right }) id e h
part_holds natives count t v (parts.Host name answer) e h = subst (Holds natives (count + 1)) (same_some (with_host t name answer) v e) (same_holds natives count t (with_host t name answer) refl refl refl refl h)
part_holds natives count t v (parts.File path text) e h = subst (Holds natives (count + 1)) (same_some (with_file t path text) v e) (same_holds natives count t (with_file t path text) refl refl refl refl h)
part_holds natives count t v parts.Manifest e h =
    listed_holds natives count t v (t.manifests ++ no_lists ∷ []) (same_some (with_new_manifest t) v e)
    (fits_more natives t.manifests h.manifests) (omega (arith, length_push t.manifests no_lists)) h
part_holds natives count t v (parts.Entry name id namespace) e h = entry_holds natives count t v name id namespace e h
part_holds natives count t v (parts.Sub name sub) e h = sub_holds natives count t v name sub e h
part_holds natives count t v (parts.ManifestVar name value) e h = changed_holds natives count t v (with_var name value) e (λ m fit. fit) h
part_holds natives count t v (parts.ManifestType type_name display) e h = changed_holds natives count t v (with_type type_name display) e (λ m fit. fit) h
part_holds natives count t v parts.Body e h = subst (Holds natives (count + 1)) (same_some (with_body t) v e) (same_holds natives count t (with_body t) refl refl refl refl h)
part_holds natives count t v (parts.Do call) e h = bodies_hold natives count t v (in_latest (stepped call) t.bodies) e h
part_holds natives count t v (parts.End end) e h = bodies_hold natives count t v (in_latest (ended end) t.bodies) e h
part_holds natives count t v (parts.Command c) e h =
    subst (Holds natives (count + 1)) (same_some (with_command t c) v e)
    (record { limits = h.limits; builtins = h.builtins; manifests = h.manifests; few = omega (arith, h.few); commands = omega (arith, length_push t.commands c, h.commands) })

allowed : {A : Type 0} (b : Bool) (o : Option A) (v : A) → cond b None o ≡ Some v → o ≡ Some v
allowed true o v e = absurd cc
allowed false o v e = e

line_holds : (natives : List NativeInfo) (count : ℕ) (t v : SessionText) (l : Option Part) → with_line natives t l ≡ Some v → Holds natives count t → Holds natives (count + 1) v
unfolding with_part
line_holds natives count t v None e h = subst (Holds natives (count + 1)) (same_some t v e) (same_holds natives count t t refl refl refl refl h)
line_holds natives count t v (Some p) e h = part_holds natives count t v p (allowed (is_header p && not (takes_headers t)) (added natives t p) v e) h

-- a text without lines
pub none_holds : (natives : List NativeInfo) → Holds natives 0 empty_text
none_holds natives = record { limits = tt; builtins = refl; manifests = refl; few = omega arith; commands = omega arith }

-- a text after a line that is read
pub after_holds : (natives : List NativeInfo) (n count : ℕ) (t v : SessionText) (line : List ℕ) → after_line natives n t line ≡ Some v → Holds natives count t → Holds natives (count + 1) v
unfolding after_line
after_holds natives n count t v line e h = let a = bind_some (line_of n line) (λ l. with_line natives t l) v e in line_holds natives count t v a.0 a.2 h

-- ---- a text

text_holds : (natives : List NativeInfo) (n count : ℕ) (t : SessionText) (ls : List (List ℕ)) (u : SessionText) → IsText natives n t ls u → Holds natives count t → Holds natives (count + length ls) u
text_holds natives n count t [] u w h = subst (Holds natives (count + 0)) (sym w) (subst (λ (k : ℕ). Holds natives k t) (omega arith) h)
text_holds natives n count t (line ∷ more) u w h = subst (λ (k : ℕ). Holds natives k u) (omega arith) (text_holds natives (n + 1) (count + 1) w.1 more u w.4 (line_holds natives count t w.1 w.0 w.3 h))

-- what reading answered
pub read_holds : (natives : List NativeInfo) (ls : List (List ℕ)) (r : Result SessionText TextFault) → ReadsText natives ls r → IfOk r (λ t. Holds natives (length ls) t)
read_holds natives ls (Ok t) w = subst (λ (k : ℕ). Holds natives k t) (omega arith) (text_holds natives 1 0 empty_text ls t w (none_holds natives))
read_holds natives ls (Err e) w = tt

pub limits_allowed : (natives : List NativeInfo) (count : ℕ) (r : Result SessionText TextFault) → IfOk r (λ t. Holds natives count t) → IfOk r (λ t. IfSome t.limits (λ l. l.level ≤ 1000))
limits_allowed natives count (Ok t) h = h.limits
limits_allowed natives count (Err e) h = tt

pub natives_held : (natives : List NativeInfo) (held count : ℕ) (r : Result SessionText TextFault) → length natives ≡ held → IfOk r (λ t. Holds natives count t) → IfOk r (λ t. builtins_held held t.builtins ≡ true)
natives_held natives held count (Ok t) same h = subst (λ (k : ℕ). builtins_held k t.builtins ≡ true) same h.builtins
natives_held natives held count (Err e) same h = tt

pub manifests_fit : (natives : List NativeInfo) (count : ℕ) (r : Result SessionText TextFault) → IfOk r (λ t. Holds natives count t) → IfOk r (λ t. fits natives t.manifests ≡ true)
manifests_fit natives count (Ok t) h = h.manifests
manifests_fit natives count (Err e) h = tt

pub commands_few : (natives : List NativeInfo) (count most : ℕ) (r : Result SessionText TextFault) → IfOk r (λ t. Holds natives count t) → OnOk r (count ≤ most) → IfOk r (λ t. length t.commands ≤ most)
commands_few natives count most (Ok t) h few = omega (arith, h.commands, few)
commands_few natives count most (Err e) h few = tt
