-- What is found in a table that was filled, which keys it has, and why it isn't filled.
use Rattle.std.proofs.Common.{◌≡◌, Bool, true, false, ◌||◌, cond, List, [], ◌∷◌, ◌++◌, Option, None, Some, is_some, refl, sym, ap, subst, ◌∙◌}
use Rattle.std.specs.Option.{option_map, option_or}
use Rattle.std.specs.List.{list_any, Contains}
use Rattle.std.specs.Map.{lookup, keys_of}
use Rattle.std.proofs.lemmas.List.Folds.{list_any-append}
use Rattle.std.proofs.lemmas.Map.Made.{is_some-lookup}
use Rattle.std.proofs.lemmas.Map.Views.{list_any-from_Contains}
use Rattle.indexmap.proofs.CallerLemmas.{Contains-list_any}
use Rattle.rhd_hash.specs.declared.key.Key.{Key}
use Rattle.rhd_hash.specs.declared.mixer.Seeds.{Seeds}
use Rattle.rhd_hash.specs.Keys.{key_eq, key_eq-Decides, key_eq_equiv}
use Rattle.rhd_hash.specs.PutIn.{put_in}
use Rattle.rhd_hash.specs.Table.{Clashes}
use Rattle.rhd_hash.proofs.FirstFound.{is_other}
use Rattle.rhd_hash.proofs.PutIn.{finds_itself, finds_others}
use Rattle.rhd_func.specs.declared.func.RhaiFunc.{RhaiFunc}
use Rattle.rhd_decl.specs.declared.declaration.Declaration.{Declaration}
use Rattle.rhd_decl.specs.declared.fault.DeclFault.{DeclFault}
use Rattle.rhd_decl.specs.declared.fault.DeclFault.TheVariants.{HashCollision, IndexerNotAllowed, NotCallable, UnknownNumber, OutOfMemory}
use Rattle.rhd_table.specs.Pairs.{Pairs}
use Rattle.rhd_table.specs.Indexed.{filled, IsClash}

abbrev pub Funcs : Type 0
Funcs = List (Key × RhaiFunc)

pub filled_append : (xs ys : Pairs) (ps : Funcs) → filled (xs ++ ys) ps ≡ filled xs (filled ys ps)
filled_append [] ys ps = refl
filled_append (x ∷ xs) ys ps = ap (λ (qs : Funcs). put_in key_eq x.0 x.1.func qs) (filled_append xs ys ps)

-- what is found after a put
first_put : (k q : Key) (f : RhaiFunc) (ps : Funcs) (same : Bool) → key_eq k q ≡ same → lookup (key_eq k) (put_in key_eq q f ps) ≡ cond same (Some f) (lookup (key_eq k) ps)
first_put k q f ps true s = let e : k ≡ q = (key_eq-Decides k q).0 s in ap (λ (x : Key). lookup (key_eq x) (put_in key_eq q f ps)) e ∙ finds_itself key_eq key_eq-Decides q f ps
first_put k q f ps false s = finds_others key_eq key_eq-Decides q f k ps (λ e. is_other key_eq key_eq-Decides k q s (sym e))

or_func : (b : Bool) (d : Declaration) (o : Option Declaration) (p : Option RhaiFunc)
    → cond b (Some d.func) (option_or (option_map (λ (x : Declaration). x.func) o) p) ≡ option_or (option_map (λ (x : Declaration). x.func) (cond b (Some d) o)) p
or_func true d o p = refl
or_func false d o p = refl

-- what is found in a filled table: what it was filled with goes before what it had
pub first_filled : (k : Key) (more : Pairs) (ps : Funcs) → lookup (key_eq k) (filled more ps) ≡ option_or (option_map (λ (x : Declaration). x.func) (lookup (key_eq k) more)) (lookup (key_eq k) ps)
first_filled k [] ps = refl
first_filled k (p ∷ more) ps =
    first_put k p.0 p.1.func (filled more ps) (key_eq k p.0) refl
    ∙ ap (λ (o : Option RhaiFunc). cond (key_eq k p.0) (Some p.1.func) o) (first_filled k more ps)
    ∙ or_func (key_eq k p.0) p.1 (lookup (key_eq k) more) (lookup (key_eq k) ps)

-- whether a key is one of these
abbrev pub has_key : Key → List Key → Bool
has_key k ks = list_any (key_eq k) ks

some_or : (o : Option Declaration) (p : Option RhaiFunc) → is_some (option_or (option_map (λ (x : Declaration). x.func) o) p) ≡ (is_some o || is_some p)
some_or None p = refl
some_or (Some d) p = refl

pub has_filled : (k : Key) (more : Pairs) (ps : Funcs) → has_key k (keys_of (filled more ps)) ≡ (has_key k (keys_of more) || has_key k (keys_of ps))
has_filled k more ps =
    sym (is_some-lookup (key_eq k) (filled more ps))
    ∙ ap (λ (o : Option RhaiFunc). is_some o) (first_filled k more ps)
    ∙ some_or (lookup (key_eq k) more) (lookup (key_eq k) ps)
    ∙ (λ i. is_some-lookup (key_eq k) more i || is_some-lookup (key_eq k) ps i)

pub keys_append : {V : Type 0} (xs ys : List (Key × V)) → keys_of (xs ++ ys) ≡ keys_of xs ++ keys_of ys
keys_append [] ys = refl
keys_append (x ∷ xs) ys = ap (λ (ks : List Key). x.0 ∷ ks) (keys_append xs ys)

pub has_append : {V : Type 0} (k : Key) (xs ys : List (Key × V)) → has_key k (keys_of (xs ++ ys)) ≡ (has_key k (keys_of xs) || has_key k (keys_of ys))
has_append k xs ys = ap (has_key k) (keys_append xs ys) ∙ list_any-append (key_eq k) (keys_of xs) (keys_of ys)

pub is_in : (ks : List Key) (k : Key) → has_key k ks ≡ true → Contains ks k
is_in ks k h = Contains-list_any key_eq (λ x y. (key_eq-Decides x y).0) ks k h

pub is_held : (ks : List Key) (k : Key) → Contains ks k → has_key k ks ≡ true
is_held ks k h = list_any-from_Contains key_eq_equiv k ks h

-- a clash of some keys is one of these and others
pub clash_among : (s t : Seeds) (ks ls : List Key) (fault : DeclFault) → s ≡ t → ((k : Key) → has_key k ks ≡ true → has_key k ls ≡ true) → IsClash s ks fault → IsClash t ls fault
clash_among s t ks ls (HashCollision held other) same more c = record {
  held_there = is_in ls held (more held (is_held ks held c.held_there));
  new_there = is_in ls other (more other (is_held ks other c.new_there));
  clash = subst (λ (x : Seeds). Clashes x held other) same c.clash;
}
clash_among s t ks ls (IndexerNotAllowed key) same more c = c
clash_among s t ks ls NotCallable same more c = c
clash_among s t ks ls (UnknownNumber n m) same more c = c
clash_among s t ks ls OutOfMemory same more c = tt

or_right : (a b : Bool) → b ≡ true → (a || b) ≡ true
or_right true b e = refl
or_right false b e = e

-- the same with more that goes before
pub clash_before : (s : Seeds) (xs ys : Pairs) (ks : List Key) (fault : DeclFault) → IsClash s (keys_of ys ++ ks) fault → IsClash s (keys_of (xs ++ ys) ++ ks) fault
clash_before s xs ys ks fault c =
    clash_among s s (keys_of ys ++ ks) (keys_of (xs ++ ys) ++ ks) fault refl
    (λ k h. ap (λ (all : List Key). has_key k (all ++ ks)) (keys_append xs ys) ∙ ap (has_key k) (assoc (keys_of xs) (keys_of ys) ks) ∙ list_any-append (key_eq k) (keys_of xs) (keys_of ys ++ ks)
    ∙ or_right (has_key k (keys_of xs)) (has_key k (keys_of ys ++ ks)) h) c
  where
    assoc : (xs ys zs : List Key) → (xs ++ ys) ++ zs ≡ xs ++ (ys ++ zs)
    assoc [] ys zs = refl
    assoc (x ∷ xs) ys zs = ap (λ (all : List Key). x ∷ all) (assoc xs ys zs)

or_assoc : (a b c : Bool) → (a || (b || c)) ≡ ((a || b) || c)
or_assoc true b c = refl
or_assoc false b c = refl

-- and in a table that was filled
pub clash_filled : (s t : Seeds) (xs ys : Pairs) (ps qs : Funcs) (fault : DeclFault) → t ≡ s → qs ≡ filled ys ps → IsClash t (keys_of xs ++ keys_of qs) fault → IsClash s (keys_of (xs ++ ys) ++ keys_of ps) fault
clash_filled s t xs ys ps qs fault same is c =
    clash_among t s (keys_of xs ++ keys_of qs) (keys_of (xs ++ ys) ++ keys_of ps) fault same (λ k h. all k ∙ h) c
  where
    all : (k : Key) → has_key k (keys_of (xs ++ ys) ++ keys_of ps) ≡ has_key k (keys_of xs ++ keys_of qs)
    all k =
        list_any-append (key_eq k) (keys_of (xs ++ ys)) (keys_of ps)
        ∙ ap (λ (b : Bool). b || has_key k (keys_of ps)) (has_append k xs ys)
        ∙ sym (or_assoc (has_key k (keys_of xs)) (has_key k (keys_of ys)) (has_key k (keys_of ps)))
        ∙ ap (λ (b : Bool). has_key k (keys_of xs) || b) (sym (has_filled k ys ps) ∙ ap (λ (rs : Funcs). has_key k (keys_of rs)) (sym is))
        ∙ sym (list_any-append (key_eq k) (keys_of xs) (keys_of qs))
