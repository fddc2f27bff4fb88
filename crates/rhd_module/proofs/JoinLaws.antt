-- What keys find after two modules are joined, and in which order joins may be made.
use Rattle.std.proofs.Common.{◌≡◌, Bool, true, false, cond, List, [], ◌∷◌, map, Option, None, Some, is_none, is_some, refl, sym, ap, true≢false, subst, ◌∙◌}
use Rattle.std.specs.BTreeMap.{insert_entry}
use Rattle.std.specs.Cmp.{nat_cmp_total}
use Rattle.std.specs.Cmp.Lexicographic.{slice_cmp, lists_total}
use Rattle.std.specs.List.{filter}
use Rattle.std.specs.List.Sorted.{IsStrictlySortedBy}
use Rattle.std.specs.Map.{keys_of}
use Rattle.std.specs.Ordering.{match_ordering, nat_cmp, is_eq}
use Rattle.std.specs.declared.cmp.Ordering.{Ordering}
use Rattle.std.specs.declared.cmp.Ordering.TheVariants.{Less, Equal, Greater}
use Rattle.std.specs.Option.{option_or}
use Rattle.std.proofs.lemmas.List.{map-append}
use Rattle.std.proofs.lemmas.Map.Text.{is_eq-slice_cmp}
use Rattle.std.proofs.lemmas.Slice.Eq.{bytes_eq-Decides}
use Rattle.rhd_value.specs.Tree.{Bytes, Tree}
use Rattle.rhd_hash.specs.declared.key.Key.{Key}
use Rattle.rhd_hash.specs.declared.mixer.Seeds.{Seeds}
use Rattle.rhd_hash.specs.Keys.{key_eq, key_eq-Decides}
use Rattle.rhd_decl.specs.declared.declaration.Declaration.{Declaration}
use Rattle.rhd_manifest.specs.Entry.{entry_pair}
use Rattle.rhd_module.specs.Tree.{ModuleTree, Subs, no_subs, sub, names_of}
use Rattle.rhd_table.specs.Pairs.{Pairs, put, put_all, put_back, without}
use Rattle.rhd_module.specs.Manifests.{lazy, put_vars}
use Rattle.rhd_module.specs.Contents.{put_sub}
use Rattle.rhd_module.specs.Shown.{shown}
use Rattle.rhd_module.specs.Algebra.{put_subs, that_pass, filled_with, merged_with, registered_over}
use Rattle.rhd_module.proofs.Listed.{lookup_append}
use Rattle.rhd_table.proofs.Lookups.{first, one_key, first_put}
use Rattle.rhd_module.proofs.Lookups.{Apart, first_all, first_back, first_filter, first_shown}
use Rattle.rhd_map.proofs.MapOrder.{put_entries, sorted_inserted, entries_through}
use Rattle.rhd_module.proofs.SamePairs.{Alone, alone_put, alone_back}

-- those whose keys pass a test are apart as well
apart_filter : (f : Key → Bool) (ps : Pairs) → Apart ps → Apart (filter (λ p. f p.0) ps)
apart_filter f [] a = tt
apart_filter f (p ∷ ps) a = by (f p.0) (first_filter f p.0 ps) (apart_filter f ps a.2)
  where
    none : (b : Bool) → cond b (first p.0 ps) None ≡ None
    none true = a.1
    none false = refl

    by : (b : Bool) → first p.0 (filter (λ q. f q.0) ps) ≡ cond (f p.0) (first p.0 ps) None → Apart (filter (λ q. f q.0) ps) → Apart (cond b (p ∷ filter (λ q. f q.0) ps) (filter (λ q. f q.0) ps))
    by true here more = (a.0, here ∙ none (f p.0), more)
    by false here more = more

all_pass : (ps : Pairs) → that_pass (λ d. true) ps ≡ ps
all_pass [] = refl
all_pass (p ∷ ps) = ap (λ (qs : Pairs). p ∷ qs) (all_pass ps)

or_filled : {A : Type 0} (e l oe ol : Option A) → option_or (option_or (cond (is_none (option_or e l)) oe None) e) (option_or l ol) ≡ option_or (option_or e l) (option_or oe ol)
or_filled (Some x) l oe ol = refl
or_filled None (Some x) oe ol = refl
or_filled None None (Some x) ol = refl
or_filled None None None ol = refl

or_merged : {A : Type 0} (oe ol e l : Option A) → option_or (option_or oe (option_or ol e)) l ≡ option_or (option_or oe ol) (option_or e l)
or_merged (Some x) ol e l = refl
or_merged None (Some x) e l = refl
or_merged None None e l = refl

module _ (m other : ModuleTree) (k : Key) (a : Apart other.own.eager) (same : other.own.seeds ≡ m.own.seeds) where
  listed_as : first k (map (entry_pair m.own.seeds) other.own.listed) ≡ first k (lazy other.own)
  listed_as = ap (λ (s : Seeds). first k (map (entry_pair s) other.own.listed)) (sym same)

  pub filled_finds : first k (shown (filled_with other m).own) ≡ option_or (first k (shown m.own)) (first k (shown other.own))
  filled_finds =
      let new : Pairs = without (shown m.own) other.own.eager in
      let E = first k m.own.eager in
      let L = first k (lazy m.own) in
      let OE = first k other.own.eager in
      let OL = first k (lazy other.own) in
      let had : first k (shown m.own) ≡ option_or E L = first_shown m.own k in
      let declared : first k (put_all new m.own.eager) ≡ option_or (cond (is_none (option_or E L)) OE None) E =
      first_all k new m.own.eager (apart_filter (λ q. is_none (first q (shown m.own))) other.own.eager a)
      ∙ ap (λ (o : Option Declaration). option_or o E) (first_filter (λ q. is_none (first q (shown m.own))) k other.own.eager ∙ ap (λ (o : Option Declaration). cond (is_none o) OE None) had) in
      let listed : first k (lazy (filled_with other m).own) ≡ option_or L OL =
      ap (first k) (map-append (entry_pair m.own.seeds) m.own.listed other.own.listed) ∙ lookup_append (key_eq k) (lazy m.own) (map (entry_pair m.own.seeds) other.own.listed) ∙ ap (option_or L) listed_as in
      first_shown (filled_with other m).own k ∙ (λ i. option_or (declared i) (listed i)) ∙ or_filled E L OE OL ∙ (λ i. option_or (sym had i) (sym (first_shown other.own k) i))

  pub merged_finds : first k (shown (merged_with (λ d. true) other m).own) ≡ option_or (first k (shown other.own)) (first k (shown m.own))
  merged_finds =
      let E = first k m.own.eager in
      let L = first k (lazy m.own) in
      let OE = first k other.own.eager in
      let OL = first k (lazy other.own) in
      let declared : first k (registered_over (λ d. true) other.own m.own) ≡ option_or OE (option_or OL E) =
      (λ i. first k (put_all (all_pass other.own.eager i) (put_back (all_pass (map (entry_pair m.own.seeds) other.own.listed) i) m.own.eager)))
      ∙ first_all k other.own.eager (put_back (map (entry_pair m.own.seeds) other.own.listed) m.own.eager) a
      ∙ ap (option_or OE) (first_back k (map (entry_pair m.own.seeds) other.own.listed) m.own.eager ∙ ap (λ (o : Option Declaration). option_or o E) listed_as) in
      first_shown (merged_with (λ d. true) other m).own k ∙ ap (λ (o : Option Declaration). option_or o L) declared ∙ or_merged OE OL E L ∙ (λ i. option_or (sym (first_shown other.own k) i) (sym (first_shown m.own k) i))

pub merged_declared : (m other : ModuleTree) → other.own.listed ≡ [] → registered_over (λ d. true) other.own m.own ≡ put_all other.own.eager m.own.eager
merged_declared m other none = λ i. put_all (all_pass other.own.eager i) (put_back (that_pass (λ d. true) (map (entry_pair m.own.seeds) (none i))) m.own.eager)

same_itself : (k : Key) → key_eq k k ≡ true
same_itself k = (key_eq-Decides k k).1 refl

some_none : {A : Type 0} {x : A} → Some x ≡ None → ⊥
some_none h = true≢false (ap is_some h)

-- Two declarations put in one after the other.
module _ (k q : Key) (d e : Declaration) where
  -- of two keys the one that is there may be put first
  put_swap : (x : Pairs) → key_eq k q ≡ false → is_some (first k x) ≡ true → put k d (put q e x) ≡ put q e (put k d x)
  put_swap [] other there = absurd (true≢false (sym there))
  put_swap (r ∷ rs) other there = by (key_eq k r.0) refl (key_eq q r.0) refl there (put_swap rs other)
    where
      by : (b : Bool) → key_eq k r.0 ≡ b → (c : Bool) → key_eq q r.0 ≡ c → is_some (cond b (Some r.1) (first k rs)) ≡ true → (is_some (first k rs) ≡ true → put k d (put q e rs) ≡ put q e (put k d rs))
          → put k d (cond c ((r.0, e) ∷ rs) (r ∷ put q e rs)) ≡ put q e (cond b ((r.0, d) ∷ rs) (r ∷ put k d rs))
      by true s true t h ih = absurd (true≢false (sym (ap (key_eq k) (one_key q r.0 t) ∙ s) ∙ other))
      by true s false t h ih = (λ i. cond (s i) ((r.0, d) ∷ put q e rs) (r ∷ put k d (put q e rs))) ∙ (λ i. cond (sym t i) ((r.0, e) ∷ rs) ((r.0, d) ∷ put q e rs))
      by false s true t h ih = (λ i. cond (s i) ((r.0, d) ∷ rs) ((r.0, e) ∷ put k d rs)) ∙ (λ i. cond (sym t i) ((r.0, e) ∷ put k d rs) (r ∷ put q e (put k d rs)))
      by false s false t h ih = (λ i. cond (s i) ((r.0, d) ∷ put q e rs) (r ∷ put k d (put q e rs))) ∙ ap (λ (x : Pairs). r ∷ x) (ih h) ∙ (λ i. cond (sym t i) ((r.0, e) ∷ put k d rs) (r ∷ put q e (put k d rs)))

-- of one key the later one stays
put_again : (k : Key) (d e : Declaration) (x : Pairs) → put k d (put k e x) ≡ put k d x
put_again k d e [] = by (key_eq k k) refl
  where
    by : (b : Bool) → key_eq k k ≡ b → cond {A = Pairs} b ((k, d) ∷ []) ((k, e) ∷ (k, d) ∷ []) ≡ (k, d) ∷ []
    by true s = refl
    by false s = absurd (true≢false (sym (same_itself k) ∙ s))
put_again k d e (r ∷ rs) = by (key_eq k r.0) refl (put_again k d e rs)
  where
    by : (b : Bool) → key_eq k r.0 ≡ b → put k d (put k e rs) ≡ put k d rs → put k d (cond b ((r.0, e) ∷ rs) (r ∷ put k e rs)) ≡ cond b ((r.0, d) ∷ rs) (r ∷ put k d rs)
    by true s ih = λ i. cond (s i) ((r.0, d) ∷ rs) ((r.0, e) ∷ put k d rs)
    by false s ih = (λ i. cond (s i) ((r.0, d) ∷ put k e rs) (r ∷ put k d (put k e rs))) ∙ ap (λ (x : Pairs). r ∷ x) ih

-- one that is there may be put before others of other keys
pub put_past : (k : Key) (d : Declaration) (ps x : Pairs) → first k ps ≡ None → is_some (first k x) ≡ true → put k d (put_all ps x) ≡ put_all ps (put k d x)
put_past k d [] x none there = refl
put_past k d (p ∷ ps) x none there = by (key_eq k p.0) refl none (put_past k d ps (put p.0 p.1 x))
  where
    still : (b : Bool) (o : Option Declaration) → is_some o ≡ true → is_some (cond b (Some p.1) o) ≡ true
    still true o h = refl
    still false o h = h

    by : (b : Bool) → key_eq k p.0 ≡ b → cond b (Some p.1) (first k ps) ≡ None → (first k ps ≡ None → is_some (first k (put p.0 p.1 x)) ≡ true → put k d (put_all ps (put p.0 p.1 x)) ≡ put_all ps (put k d (put p.0 p.1 x)))
        → put k d (put_all ps (put p.0 p.1 x)) ≡ put_all ps (put p.0 p.1 (put k d x))
    by true s h ih = absurd (some_none h)
    by false s h ih =
        ih h (ap is_some (first_put k p.0 p.1 x) ∙ still (key_eq k p.0) (first k x) there) ∙ ap (put_all ps) (put_swap k p.0 d p.1 x s there)

-- one put into others before these are put is as one put after them
put_through : (k : Key) (d : Declaration) (b a : Pairs) → Alone b → put_all (put k d b) a ≡ put k d (put_all b a)
put_through k d [] a alone = refl
put_through k d (p ∷ ps) a alone = by (key_eq k p.0) refl (put_through k d ps (put p.0 p.1 a) alone.1)
  where
    by : (b : Bool) → key_eq k p.0 ≡ b → put_all (put k d ps) (put p.0 p.1 a) ≡ put k d (put_all ps (put p.0 p.1 a)) → put_all (cond b ((p.0, d) ∷ ps) (p ∷ put k d ps)) a ≡ put k d (put_all ps (put p.0 p.1 a))
    by true s ih =
        let is : p.0 ≡ k = sym (one_key k p.0 s) in
        let there : is_some (first p.0 (put p.0 p.1 a)) ≡ true = ap is_some (first_put p.0 p.0 p.1 a) ∙ ap (λ (c : Bool). is_some (cond c (Some p.1) (first p.0 a))) (same_itself p.0) in
        ap (put_all ps) (sym (put_again p.0 d p.1 a)) ∙ sym (put_past p.0 d ps (put p.0 p.1 a) alone.0 there) ∙ ap (λ (q : Key). put q d (put_all ps (put p.0 p.1 a))) is
    by false s ih = ih

pub all_through : (c b a : Pairs) → Alone b → put_all c (put_all b a) ≡ put_all (put_all c b) a
all_through [] b a alone = refl
all_through (p ∷ ps) b a alone = ap (put_all ps) (sym (put_through p.0 p.1 b a alone)) ∙ all_through ps (put p.0 p.1 b) a (alone_put p.0 p.1 b alone)

-- so it is of some that are first put into an empty list, the last first
pub back_through : (b a : Pairs) → put_all (put_back b []) a ≡ put_back b a
back_through [] a = refl
back_through (p ∷ ps) a = put_through p.0 p.1 (put_back ps []) a (alone_back ps [] tt) ∙ ap (put p.0 p.1) (back_through ps a)

-- Variables and sub-modules, in ascending order of name.
abbrev order : Bytes → Bytes → Ordering
order = slice_cmp nat_cmp

same_text : (x y : Bytes) → order x y ≡ Equal → x ≡ y
same_text x y h = (bytes_eq-Decides x y).0 (sym (is_eq-slice_cmp x y) ∙ ap is_eq h)

module _ {X : Type 0} where
  texts_through : (c b a : List (Bytes × X)) → IsStrictlySortedBy order (keys_of b) → put_entries order (lists_total nat_cmp_total) same_text c (put_entries order (lists_total nat_cmp_total) same_text b a)
      ≡ put_entries order (lists_total nat_cmp_total) same_text (put_entries order (lists_total nat_cmp_total) same_text c b) a
  texts_through = entries_through order (lists_total nat_cmp_total) same_text

  abbrev put_texts : List (Bytes × X) → List (Bytes × X) → List (Bytes × X)
  put_texts = put_entries order (lists_total nat_cmp_total) same_text

put_vars_are : (vs es : List (Bytes × Tree)) → put_vars vs es ≡ put_texts vs es
put_vars_are [] es = refl
put_vars_are (v ∷ vs) es = put_vars_are vs (insert_entry order es v.0 v.1)

pub vars_through : (c b a : List (Bytes × Tree)) → IsStrictlySortedBy order (keys_of b) → put_vars c (put_vars b a) ≡ put_vars (put_vars c b) a
vars_through c b a sorted =
    put_vars_are c (put_vars b a) ∙ ap (put_texts c) (put_vars_are b a) ∙ texts_through c b a sorted ∙ ap (λ (es : List (Bytes × Tree)). put_texts es a) (sym (put_vars_are c b)) ∙ sym (put_vars_are (put_vars c b) a)

-- variables put in leave the order
pub vars_sorted : (vs es : List (Bytes × Tree)) → IsStrictlySortedBy order (keys_of es) → IsStrictlySortedBy order (keys_of (put_vars vs es))
vars_sorted [] es sorted = sorted
vars_sorted (v ∷ vs) es sorted = vars_sorted vs (insert_entry order es v.0 v.1) (sorted_inserted order (lists_total nat_cmp_total) same_text v.0 v.1 es sorted)

-- sub-modules as a list
abbrev listed_subs : Subs → List (Bytes × ModuleTree)
listed_subs no_subs = []
listed_subs (sub name own below later) = (name, record { own = own; subs = below }) ∷ listed_subs later

abbrev subs_listed : List (Bytes × ModuleTree) → Subs
subs_listed [] = no_subs
subs_listed (e ∷ es) = sub e.0 e.1.own e.1.subs (subs_listed es)

listed_back : (s : Subs) → subs_listed (listed_subs s) ≡ s
listed_back no_subs = refl
listed_back (sub name own below later) = ap (sub name own below) (listed_back later)

listed_put : (name : Bytes) (m : ModuleTree) (s : Subs) → listed_subs (put_sub name m s) ≡ insert_entry order (listed_subs s) name m
listed_put name m no_subs = refl
listed_put name m (sub n own below later) = by (order name n) (listed_put name m later)
  where
    by : (r : Ordering) → listed_subs (put_sub name m later) ≡ insert_entry order (listed_subs later) name m
        → listed_subs (match_ordering r (sub name m.own m.subs (sub n own below later)) (sub n m.own m.subs later) (sub n own below (put_sub name m later)))
        ≡ match_ordering r ((name, m) ∷ (n, record { own = own; subs = below }) ∷ listed_subs later) ((n, m) ∷ listed_subs later) ((n, record { own = own; subs = below }) ∷ insert_entry order (listed_subs later) name m)
    by Less ih = refl
    by Equal ih = refl
    by Greater ih = ap (λ (es : List (Bytes × ModuleTree)). (n, record { own = own; subs = below }) ∷ es) ih

listed_all : (c s : Subs) → listed_subs (put_subs c s) ≡ put_texts (listed_subs c) (listed_subs s)
listed_all no_subs s = refl
listed_all (sub name own below later) s = listed_all later (put_sub name (record { own = own; subs = below }) s) ∙ ap (put_texts (listed_subs later)) (listed_put name (record { own = own; subs = below }) s)

keys_listed : (s : Subs) → keys_of (listed_subs s) ≡ names_of s
keys_listed no_subs = refl
keys_listed (sub name own below later) = ap (λ (ns : List Bytes). name ∷ ns) (keys_listed later)

pub subs_through : (c b a : Subs) → IsStrictlySortedBy order (names_of b) → put_subs c (put_subs b a) ≡ put_subs (put_subs c b) a
subs_through c b a sorted =
    sym (listed_back (put_subs c (put_subs b a)))
    ∙ ap subs_listed (listed_all c (put_subs b a) ∙ ap (put_texts (listed_subs c)) (listed_all b a) ∙ texts_through (listed_subs c) (listed_subs b) (listed_subs a) (subst (IsStrictlySortedBy order) (sym (keys_listed b)) sorted)
    ∙ ap (λ (es : List (Bytes × ModuleTree)). put_texts es (listed_subs a)) (sym (listed_all c b)) ∙ sym (listed_all (put_subs c b) a)) ∙ listed_back (put_subs (put_subs c b) a)
