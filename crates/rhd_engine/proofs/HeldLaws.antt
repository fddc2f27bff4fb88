-- The natives that modules name stay held, and what a module has is held.
use Rattle.std.proofs.Common.{◌≡◌, ℕ, Bool, true, false, not, cond, ◌&&◌, List, [], ◌∷◌, length, map, refl, sym, ap, subst, ◌∙◌}
use Rattle.std.specs.Prelude.{zero, suc, ◌||◌, Option, Some, None, is_none, unwrap_or, Result, Ok, Err, OnErr, nat_lt, slice_get, slice_set, if◌then◌else◌}
use Rattle.std.specs.List.{list_all, filter}
use Rattle.std.specs.Map.{lookup}
use Rattle.std.proofs.lemmas.List.{length-map}
use Rattle.std.proofs.lemmas.List.Folds.{list_all-append, list_all-map}
use Rattle.rhd_value.specs.Tree.{Bytes}
use Rattle.rhd_value.specs.Firsts.{first_some, where_holds}
use Rattle.rhd_value.specs.declared.tag.FnId.{FnId}
use Rattle.rhd_value.specs.declared.tag.TypeTag.{TypeTag}
use Rattle.rhd_hash.specs.declared.key.Key.{Key}
use Rattle.rhd_hash.specs.Keys.{key_eq}
use Rattle.rhd_func.specs.declared.func.RhaiFunc.{RhaiFunc}
use Rattle.rhd_func.specs.declared.func.RhaiFunc.TheVariants as funcs
use Rattle.rhd_func.specs.declared.natives.Natives.{Natives}
use Rattle.rhd_func.specs.Funcs.{native_of, is_method, is_iter, is_script}
use Rattle.rhd_func.specs.Infos.{infos_of}
use Rattle.rhd_func.specs.Natives.{NativeInfo}
use Rattle.rhd_decl.specs.declared.declaration.Declaration.{Declaration}
use Rattle.rhd_decl.specs.declared.fault.DeclFault.{DeclFault}
use Rattle.rhd_decl.specs.declared.fault.DeclFault.TheVariants.{HashCollision, IndexerNotAllowed, NotCallable, UnknownNumber, OutOfMemory}
use Rattle.rhd_manifest.specs.Entry.{Entry, entry_key, entry_pair}
use Rattle.rhd_manifest.specs.Rank.{firsts}
use Rattle.rhd_decl.specs.declared.registration.FuncRegistration.{FuncRegistration}
use Rattle.rhd_module.specs.Contents.{with_type}
use Rattle.rhd_module.specs.Tree.{ModuleTree, Lists}
use Rattle.rhd_table.specs.Pairs.{Pairs, without, put}
use Rattle.rhd_module.specs.Shown.{shown}
use Rattle.rhd_module.specs.Registered.{with_decl, Puts, PutsBoth, Registers, RegistersBoth, RegistersRaw}
use Rattle.rhd_decl.specs.Registration.{unheld, registered_func, pure_by_name, banned, native_at}
use Rattle.rhd_layers.specs.FirstModule.{in_first, InFirst, RegistersFirst, RegistersBothFirst, RegistersRawFirst}
use Rattle.rhd_layers.proofs.Bools.{both, parts}
use Rattle.rhd_engine.specs.Held.{func_held, own_held, below_held, names_held, all_held}

abbrev pub is_held : ℕ → Declaration → Bool
is_held n d = func_held n d.func

abbrev pub pairs_held : ℕ → Pairs → Bool
pairs_held n ps = list_all (λ p. is_held n p.1) ps

abbrev pub listed_held : ℕ → List Entry → Bool
listed_held n es = list_all (λ e. nat_lt e.func.0 n) es

put_step : (n : ℕ) (k : Key) (d : Declaration) (p : Key × Declaration) (ps : Pairs) (same : Bool) → is_held n d ≡ true → pairs_held n (p ∷ ps) ≡ true → pairs_held n (put k d ps) ≡ true
    → pairs_held n (cond same ((p.0, d) ∷ ps) (p ∷ put k d ps)) ≡ true
put_step n k d p ps true h all ih = both (is_held n d) (pairs_held n ps) h (parts (is_held n p.1) (pairs_held n ps) all).1
put_step n k d p ps false h all ih = both (is_held n p.1) (pairs_held n (put k d ps)) (parts (is_held n p.1) (pairs_held n ps) all).0 ih

pub put_held : (n : ℕ) (k : Key) (d : Declaration) (ps : Pairs) → is_held n d ≡ true → pairs_held n ps ≡ true → pairs_held n (put k d ps) ≡ true
put_held n k d [] h all = both (is_held n d) true h refl
put_held n k d (p ∷ ps) h all = put_step n k d p ps (key_eq k p.0) h all (put_held n k d ps h (parts (is_held n p.1) (pairs_held n ps) all).1)

-- a held native is put in
pub stays_held : (n : ℕ) (k : Key) (d : Declaration) (m : ModuleTree) → func_held n d.func ≡ true → names_held n m ≡ true → names_held n (with_decl k d m) ≡ true
stays_held n k d m h all =
    let p = parts (own_held n m.own) (below_held n m.subs) all in
    let q = parts (pairs_held n m.own.eager) (listed_held n m.own.listed) p.0 in
    let own = both (pairs_held n (put k d m.own.eager)) (listed_held n m.own.listed) (put_held n k d m.own.eager h q.0) q.1 in
    both (pairs_held n (put k d m.own.eager) && listed_held n m.own.listed) (below_held n m.subs) own p.1

-- what holds of a fault
-- the number of a native, if there is one, is below another
abbrev pub is_below : ℕ → Option FnId → Bool
is_below n None = true
is_below n (Some id) = nat_lt id.0 n

-- a function that isn't a script's and doesn't iterate can be called where its native is held
pub can_be_called : (n : ℕ) (func : RhaiFunc) → is_below n (native_of func) ≡ true → (is_iter func || is_script func) ≡ false → func_held n func ≡ true
can_be_called n (funcs.Pure id context pure volatile) h other = h
can_be_called n (funcs.Method id context pure volatile) h other = h
can_be_called n (funcs.Iterator id) h other = absurd (let e : true ≡ false = other in cc)
can_be_called n (funcs.Plugin id) h other = h
can_be_called n (funcs.StaticPlugin id) h other = h
can_be_called n (funcs.Script def env) h other = refl

-- one with a native isn't a script's and doesn't iterate
has_native : (func : RhaiFunc) (id : FnId) → native_of func ≡ Some id → (is_iter func || is_script func) ≡ false
has_native (funcs.Pure i context pure volatile) id e = refl
has_native (funcs.Method i context pure volatile) id e = refl
has_native (funcs.Iterator i) id e = absurd cc
has_native (funcs.Plugin i) id e = refl
has_native (funcs.StaticPlugin i) id e = refl
has_native (funcs.Script def env) id e = absurd cc

pub number_held : (n : ℕ) (func : RhaiFunc) (id : FnId) → native_of func ≡ Some id → nat_lt id.0 n ≡ true → func_held n func ≡ true
number_held n func id e below = can_be_called n func (ap (is_below n) e ∙ below) (has_native func id e)

pub on_err : {T E : Type 0} (r : Result T E) (P : Type 0) → P → OnErr r P
on_err (Ok x) P p = tt
on_err (Err e) P p = p

-- Lists of modules.

pub all_at : (n : ℕ) (ms : List ModuleTree) (i : ℕ) (m : ModuleTree) → all_held n ms ≡ true → slice_get ms i ≡ Some m → names_held n m ≡ true
all_at n [] i m all e = absurd cc
all_at n (x ∷ ms) zero m all e = let same : x ≡ m = cc in ap (names_held n) (sym same) ∙ (parts (names_held n x) (all_held n ms) all).0
all_at n (x ∷ ms) (suc i) m all e = all_at n ms i m (parts (names_held n x) (all_held n ms) all).1 e

pub all_set : (n : ℕ) (ms : List ModuleTree) (i : ℕ) (m : ModuleTree) → all_held n ms ≡ true → names_held n m ≡ true → all_held n (slice_set ms i m) ≡ true
all_set n [] i m all h = refl
all_set n (x ∷ ms) zero m all h = both (names_held n m) (all_held n ms) h (parts (names_held n x) (all_held n ms) all).1
all_set n (x ∷ ms) (suc i) m all h = both (names_held n x) (all_held n (slice_set ms i m)) (parts (names_held n x) (all_held n ms) all).0 (all_set n ms i m (parts (names_held n x) (all_held n ms) all).1 h)

-- What a declaration that is put in leaves, or a refused one.

-- a declaration of a held native leaves a module held; so does a refusal
pub puts_held : {A : Type 0} (n : ℕ) (cause : Option DeclFault) (k : Key) (d : Declaration) (old new : ModuleTree) (r : Result A DeclFault) → Puts cause k d old r new → (cause ≡ None → func_held n d.func ≡ true) → names_held n old ≡ true → names_held n new ≡ true
puts_held n cause k d old new (Ok answer) is h all = ap (names_held n) is.2 ∙ stays_held n k d old (h is.0) all
puts_held n cause k d old new (Err OutOfMemory) is h all = ap (names_held n) is ∙ all
puts_held n cause k d old new (Err (HashCollision held other)) is h all = ap (names_held n) is.2 ∙ all
puts_held n cause k d old new (Err (IndexerNotAllowed key)) is h all = ap (names_held n) is.1 ∙ all
puts_held n cause k d old new (Err NotCallable) is h all = ap (names_held n) is.1 ∙ all
puts_held n cause k d old new (Err (UnknownNumber number count)) is h all = ap (names_held n) is.1 ∙ all

-- and so do two declarations of held natives
pub puts_both_held : {A : Type 0} (n : ℕ) (cause : Option DeclFault) (k : Key) (d : Declaration) (l : Key) (e : Declaration) (old new : ModuleTree) (r : Result A DeclFault) → PutsBoth cause k d l e old r new → (cause ≡ None → (func_held n d.func ≡ true) × (func_held n e.func ≡ true))
    → names_held n old ≡ true → names_held n new ≡ true
puts_both_held n cause k d l e old new (Ok answer) is h all = ap (names_held n) is.2 ∙ stays_held n l e (with_decl k d old) (h is.0).1 (stays_held n k d old (h is.0).0 all)
puts_both_held n cause k d l e old new (Err OutOfMemory) is h all = ap (names_held n) is ∙ all
puts_both_held n cause k d l e old new (Err (HashCollision held other)) is h all = ap (names_held n) is.2 ∙ all
puts_both_held n cause k d l e old new (Err (IndexerNotAllowed key)) is h all = ap (names_held n) is.1 ∙ all
puts_both_held n cause k d l e old new (Err NotCallable) is h all = ap (names_held n) is.1 ∙ all
puts_both_held n cause k d l e old new (Err (UnknownNumber number count)) is h all = ap (names_held n) is.1 ∙ all

-- where no cause is known beforehand, the number is held
refused_by : (natives : List NativeInfo) (id : FnId) (below : Bool) (more : List (Option DeclFault)) → first_some (where_holds (not below) (UnknownNumber id.0 (length natives)) ∷ more) ≡ None → below ≡ true
refused_by natives id true more none = refl
refused_by natives id false more none = absurd cc

pub allowed_held : (natives : List NativeInfo) (native : Option FnId) (more : List (Option DeclFault)) → first_some (unheld natives native ∷ more) ≡ None → is_below (length natives) native ≡ true
allowed_held natives None more none = refl
allowed_held natives (Some id) more none = refused_by natives id (nat_lt id.0 (length natives)) more none

pub callable_by : (refusal : Option DeclFault) (test : Bool) (more : List (Option DeclFault)) → first_some (refusal ∷ where_holds test NotCallable ∷ more) ≡ None → test ≡ false
callable_by None true more none = absurd cc
callable_by None false more none = refl
callable_by (Some fault) test more none = absurd cc

-- the native of a function that is registered by its number
number_either : (id : FnId) (context pure volatile is_method : Bool) → native_of (if is_method then funcs.Method id context pure volatile else funcs.Pure id context pure volatile) ≡ Some id
number_either id context pure volatile true = refl
number_either id context pure volatile false = refl

pub registered_number : (reg : FuncRegistration) (info : NativeInfo) (id : FnId) → native_of (registered_func reg info id) ≡ Some id
registered_number reg info id = number_either id info.has_context (unwrap_or reg.purity (pure_by_name reg.name (length info.types))) (unwrap_or reg.volatility false) info.is_method

-- a module in which a native is registered by its number, or refused
pub registers_held : {A : Type 0} (natives : List NativeInfo) (reg : FuncRegistration) (id : FnId) (old new : ModuleTree) (r : Result A DeclFault) → Registers natives reg id old r new → names_held (length natives) old ≡ true → names_held (length natives) new ≡ true
registers_held natives reg id old new r is all =
    puts_held (length natives) _ _ _ old new r is (λ none. number_held (length natives) _ id (registered_number reg (native_at natives id) id) (allowed_held natives (Some id) (banned (native_at natives id).is_method reg.name (native_at natives id).types ∷ []) none)) all

-- where none of several causes holds, none of the later ones does
later_none : (cause : Option DeclFault) (more : List (Option DeclFault)) → first_some (cause ∷ more) ≡ None → first_some more ≡ None
later_none None more none = none
later_none (Some fault) more none = absurd cc

-- one in which two natives are registered, or refused
pub registers_both_held : {A : Type 0} (natives : List NativeInfo) (get_reg : FuncRegistration) (get : FnId) (set_reg : FuncRegistration) (set : FnId) (old new : ModuleTree) (r : Result A DeclFault) → RegistersBoth natives get_reg get set_reg set old r new
    → names_held (length natives) old ≡ true → names_held (length natives) new ≡ true
registers_both_held natives get_reg get set_reg set old new r is all =
    let getter = native_at natives get in
    let setter = native_at natives set in
    let bans = banned getter.is_method get_reg.name getter.types ∷ banned setter.is_method set_reg.name setter.types ∷ [] in
    puts_both_held (length natives) _ _ _ _ _ old new r is
    (λ none. (
      number_held (length natives) _ get (registered_number get_reg getter get) (allowed_held natives (Some get) (unheld natives (Some set) ∷ bans) none),
      number_held (length natives) _ set (registered_number set_reg setter set) (allowed_held natives (Some set) bans (later_none (unheld natives (Some get)) (unheld natives (Some set) ∷ bans) none)),
    ))
    all

-- one in which a function is registered raw
pub registers_raw_held : {A : Type 0} (natives : List NativeInfo) (reg : FuncRegistration) (types : List TypeTag) (func : RhaiFunc) (old new : ModuleTree) (r : Result A DeclFault) → RegistersRaw natives reg types func old r new → names_held (length natives) old ≡ true → names_held (length natives) new ≡ true
registers_raw_held natives reg types func old new r is all = puts_held (length natives) _ _ _ old new r is (λ none. can_be_called (length natives) func (allowed_held natives (native_of func) (where_holds (is_iter func || is_script func) NotCallable ∷ banned (is_method natives func) reg.name types ∷ []) none) (callable_by (unheld natives (native_of func)) (is_iter func || is_script func) (banned (is_method natives func) reg.name types ∷ []) none)) all

-- The first of some modules.

-- where the first of some modules stays held, all do
pub in_first_held : (n : ℕ) (goes : ModuleTree → ModuleTree → Type 0) (old new : List ModuleTree) → InFirst goes old new → ((m changed : ModuleTree) → goes m changed → names_held n m ≡ true → names_held n changed ≡ true) → all_held n old ≡ true → all_held n new ≡ true
in_first_held n goes [] new is step all = absurd is
in_first_held n goes (m ∷ ms) new is step all =
    let p = parts (names_held n m) (all_held n ms) all in ap (all_held n) is.2 ∙ both (names_held n is.0) (all_held n ms) (step m is.0 is.1 p.0) p.1

-- and there are as many modules as before
pub in_first_count : (goes : ModuleTree → ModuleTree → Type 0) (old new : List ModuleTree) → InFirst goes old new → length new ≡ length old
in_first_count goes [] new is = absurd is
in_first_count goes (m ∷ ms) new is = ap length is.2

pub registers_first_held : {A : Type 0} (natives : List NativeInfo) (reg : FuncRegistration) (id : FnId) (old new : List ModuleTree) (r : Result A DeclFault) → RegistersFirst natives reg id old r new → all_held (length natives) old ≡ true → all_held (length natives) new ≡ true
registers_first_held natives reg id old new r is all = in_first_held (length natives) _ old new is (λ m changed goes held. registers_held natives reg id m changed r goes held) all

pub registers_both_first_held : {A : Type 0} (natives : List NativeInfo) (get_reg : FuncRegistration) (get : FnId) (set_reg : FuncRegistration) (set : FnId) (old new : List ModuleTree) (r : Result A DeclFault) → RegistersBothFirst natives get_reg get set_reg set old r new
    → all_held (length natives) old ≡ true → all_held (length natives) new ≡ true
registers_both_first_held natives get_reg get set_reg set old new r is all = in_first_held (length natives) _ old new is (λ m changed goes held. registers_both_held natives get_reg get set_reg set m changed r goes held) all

pub registers_raw_first_held : {A : Type 0} (natives : List NativeInfo) (reg : FuncRegistration) (types : List TypeTag) (func : RhaiFunc) (old new : List ModuleTree) (r : Result A DeclFault) → RegistersRawFirst natives reg types func old r new → all_held (length natives) old ≡ true → all_held (length natives) new ≡ true
registers_raw_first_held natives reg types func old new r is all = in_first_held (length natives) _ old new is (λ m changed goes held. registers_raw_held natives reg types func m changed r goes held) all

pub registers_first_count : {A : Type 0} (natives : List NativeInfo) (reg : FuncRegistration) (id : FnId) (old new : List ModuleTree) (r : Result A DeclFault) → RegistersFirst natives reg id old r new → length new ≡ length old
registers_first_count natives reg id old new r is = in_first_count _ old new is

pub registers_both_first_count : {A : Type 0} (natives : List NativeInfo) (get_reg : FuncRegistration) (get : FnId) (set_reg : FuncRegistration) (set : FnId) (old new : List ModuleTree) (r : Result A DeclFault) → RegistersBothFirst natives get_reg get set_reg set old r new
    → length new ≡ length old
registers_both_first_count natives get_reg get set_reg set old new r is = in_first_count _ old new is

pub registers_raw_first_count : {A : Type 0} (natives : List NativeInfo) (reg : FuncRegistration) (types : List TypeTag) (func : RhaiFunc) (old new : List ModuleTree) (r : Result A DeclFault) → RegistersRawFirst natives reg types func old r new → length new ≡ length old
registers_raw_first_count natives reg types func old new r is = in_first_count _ old new is

pub type_first_held : (n : ℕ) (type_name display : Bytes) (comments : List Bytes) (ms : List ModuleTree) → all_held n (in_first (with_type type_name display comments) ms) ≡ all_held n ms
type_first_held n type_name display comments [] = refl
type_first_held n type_name display comments (m ∷ ms) = refl

pub first_count : (change : ModuleTree → ModuleTree) (ms : List ModuleTree) → length (in_first change ms) ≡ length ms
first_count change [] = refl
first_count change (m ∷ ms) = refl

-- as many natives are held as say something of themselves
pub infos_count : {X : Type 0} {F : X → Type 0} (info : (x : X) × F x → NativeInfo) (natives : Natives X F) → length (infos_of info natives) ≡ length natives.items.items
unfolding infos_of
infos_count info natives = length-map natives.items.items _

-- What a key finds in a module.

found_step : (n : ℕ) (key : Key) (p : Key × Declaration) (ps : Pairs) (d : Declaration) (same : Bool) → pairs_held n (p ∷ ps) ≡ true → (pairs_held n ps ≡ true → lookup (key_eq key) ps ≡ Some d → is_held n d ≡ true)
    → cond same (Some p.1) (lookup (key_eq key) ps) ≡ Some d → is_held n d ≡ true
found_step n key p ps d true all ih e = let q : p.1 ≡ d = cc in ap (is_held n) (sym q) ∙ (parts (is_held n p.1) (pairs_held n ps) all).0
found_step n key p ps d false all ih e = ih (parts (is_held n p.1) (pairs_held n ps) all).1 e

pub found_held : (n : ℕ) (key : Key) (ps : Pairs) (d : Declaration) → pairs_held n ps ≡ true → lookup (key_eq key) ps ≡ Some d → is_held n d ≡ true
found_held n key [] d all e = absurd cc
found_held n key (p ∷ ps) d all e = found_step n key p ps d (key_eq key p.0) all (found_held n key ps d) e

-- What a module shows.

pub kept_held : {A : Type 0} (held kept : A → Bool) (xs : List A) → list_all held xs ≡ true → list_all held (filter kept xs) ≡ true
kept_held held kept [] all = refl
kept_held {A} held kept (x ∷ xs) all = by (kept x) (parts (held x) (list_all held xs) all).0 (kept_held held kept xs (parts (held x) (list_all held xs) all).1)
  where
    by : (b : Bool) → held x ≡ true → list_all held (filter kept xs) ≡ true → list_all held (cond b (x ∷ filter kept xs) (filter kept xs)) ≡ true
    by true h rest = both (held x) (list_all held (filter kept xs)) h rest
    by false h rest = rest

firsts_held : (n : ℕ) (es : List Entry) → listed_held n es ≡ true → listed_held n (firsts es) ≡ true
firsts_held n [] all = refl
firsts_held n (e ∷ es) all =
    let p = parts (nat_lt e.func.0 n) (listed_held n es) all in
    both (nat_lt e.func.0 n) (listed_held n (filter (λ d. not (key_eq (entry_key d) (entry_key e))) (firsts es))) p.0 (kept_held (λ d. nat_lt d.func.0 n) (λ d. not (key_eq (entry_key d) (entry_key e))) (firsts es) (firsts_held n es p.1))

pub shown_held : (n : ℕ) (own : Lists) → own_held n own ≡ true → pairs_held n (shown own) ≡ true
shown_held n own all =
    let p = parts (pairs_held n own.eager) (listed_held n own.listed) all in
    let pairs = map (entry_pair own.seeds) (firsts own.listed) in
    let listed = list_all-map (λ q. is_held n q.1) (entry_pair own.seeds) (firsts own.listed) ∙ firsts_held n own.listed p.1 in
    list_all-append (λ q. is_held n q.1) own.eager (without own.eager pairs)
    ∙ both (pairs_held n own.eager) (pairs_held n (without own.eager pairs)) p.0 (kept_held (λ q. is_held n q.1) (λ q. is_none (lookup (key_eq q.0) own.eager)) pairs listed)

-- The same of a table of natives, by its length.

pub registers_by_table : {X A : Type 0} {F : X → Type 0} (info : (x : X) × F x → NativeInfo) (natives : Natives X F) (reg : FuncRegistration) (id : FnId) (old new : List ModuleTree) (r : Result A DeclFault) → RegistersFirst (infos_of info natives) reg id old r new
    → all_held (length natives.items.items) old ≡ true → all_held (length natives.items.items) new ≡ true
registers_by_table info natives reg id old new r is =
    subst (λ (n : ℕ). all_held n old ≡ true → all_held n new ≡ true) (infos_count info natives) (registers_first_held (infos_of info natives) reg id old new r is)

pub registers_both_by_table : {X A : Type 0} {F : X → Type 0} (info : (x : X) × F x → NativeInfo) (natives : Natives X F) (get_reg : FuncRegistration) (get : FnId) (set_reg : FuncRegistration) (set : FnId) (old new : List ModuleTree) (r : Result A DeclFault)
    → RegistersBothFirst (infos_of info natives) get_reg get set_reg set old r new → all_held (length natives.items.items) old ≡ true → all_held (length natives.items.items) new ≡ true
registers_both_by_table info natives get_reg get set_reg set old new r is =
    subst (λ (n : ℕ). all_held n old ≡ true → all_held n new ≡ true) (infos_count info natives) (registers_both_first_held (infos_of info natives) get_reg get set_reg set old new r is)

pub registers_raw_by_table : {X A : Type 0} {F : X → Type 0} (info : (x : X) × F x → NativeInfo) (natives : Natives X F) (reg : FuncRegistration) (types : List TypeTag) (func : RhaiFunc) (old new : List ModuleTree) (r : Result A DeclFault) → RegistersRawFirst (infos_of info natives) reg types func old r new
    → all_held (length natives.items.items) old ≡ true → all_held (length natives.items.items) new ≡ true
registers_raw_by_table info natives reg types func old new r is =
    subst (λ (n : ℕ). all_held n old ≡ true → all_held n new ≡ true) (infos_count info natives) (registers_raw_first_held (infos_of info natives) reg types func old new r is)
