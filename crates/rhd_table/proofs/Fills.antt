-- How an index is filled with one module after the other, and what it is then.
use Rattle.std.proofs.Common.{◌≡◌, ℕ, Bool, true, false, ◌||◌, List, [], ◌∷◌, ◌++◌, is_none, Result, Ok, Err, refl, sym, ap, subst, ◌∙◌, arith}
use Rattle.std.specs.Map.{lookup, keys_of}
use Rattle.std.specs.List.{list_any}
use Rattle.std.proofs.lemmas.List.Folds.{list_any-append}
use Rattle.std.specs.Result.{IsErr, IsErrAnd, IfErr}
use Rattle.std.proofs.lemmas.Grind.{flat_map-append}
use Rattle.std.proofs.lemmas.List.Elements.{Contains-append_right, filter-append}
use Rattle.rhd_value.specs.Tree.{Bytes}
use Rattle.rhd_hash.specs.declared.mixer.Seeds.{Seeds}
use Rattle.rhd_hash.specs.declared.key.Key.{Key}
use Rattle.rhd_hash.specs.declared.fault.TableFault.{TableFault}
use Rattle.rhd_hash.specs.declared.fault.TableFault.TheVariants.{Clash, OutOfMemory as no_room}
use Rattle.rhd_hash.specs.Keys.{key_eq}
use Rattle.rhd_hash.specs.Filter.{is_marked}
use Rattle.rhd_hash.specs.Table.{Table, Clashes}
use Rattle.rhd_hash.specs.Refusal.{IsRefusal}
use Rattle.rhd_func.specs.declared.func.RhaiFunc.{RhaiFunc}
use Rattle.rhd_decl.specs.Collisions.{collision}
use Rattle.rhd_decl.specs.declared.declaration.Declaration.{Declaration}
use Rattle.rhd_decl.specs.declared.fault.DeclFault.{DeclFault}
use Rattle.rhd_table.specs.Pairs.{Pairs, without}
use Rattle.rhd_func.specs.Access.{is_global_namespace}
use Rattle.rhd_table.specs.Paths.{unpathed, pathed, pairs_at}
use Rattle.rhd_table.specs.Indexed.{Indexed, Fills, IsClash, filled}
use Rattle.rhd_table.proofs.Listed.{without_more}
use Rattle.rhd_table.proofs.Filled.{Funcs, filled_append, clash_before, clash_filled}

pub or_false : (b : Bool) → (b || false) ≡ b
or_false true = refl
or_false false = refl

pub or_assoc : (a b c : Bool) → ((a || b) || c) ≡ (a || (b || c))
or_assoc true b c = refl
or_assoc false b c = refl

pub or_turned : (a b : Bool) → (a || b) ≡ (b || a)
or_turned true true = refl
or_turned true false = refl
or_turned false true = refl
or_turned false false = refl

pub fills_then : (o m n : Indexed) (xs ys : Pairs) (d e : ℕ → Bool) (g h : Bool) → Fills o m xs d g → Fills m n ys e h → Fills o n (ys ++ xs) (λ v. d v || e v) (g || h)
fills_then o m n xs ys d e g h a b = record {
  same_seeds = b.same_seeds ∙ a.same_seeds;
  puts = b.puts ∙ ap (λ (ps : Funcs). filled ys ps) a.puts ∙ sym (filled_append ys xs o.pairs);
  marks = λ v. b.marks v ∙ ap (λ (x : Bool). x || e v) (a.marks v) ∙ or_assoc (is_marked 8 o.marks v) (d v) (e v);
  tells = b.tells ∙ ap (λ (x : Bool). x || h) a.tells ∙ or_assoc o.has_global g h;
  apart = λ own. b.apart (a.apart own);
}

pub fills_as : (o n : Indexed) (xs ys : Pairs) (d e : ℕ → Bool) (g h : Bool) → xs ≡ ys → ((v : ℕ) → d v ≡ e v) → g ≡ h → Fills o n xs d g → Fills o n ys e h
fills_as o n xs ys d e g h same marks tells a = record {
  same_seeds = a.same_seeds;
  puts = a.puts ∙ ap (λ (more : Pairs). filled more o.pairs) same;
  marks = λ v. a.marks v ∙ ap (λ (x : Bool). is_marked 8 o.marks v || x) (marks v);
  tells = a.tells ∙ ap (λ (x : Bool). o.has_global || x) tells;
  apart = a.apart;
}

-- a clash after some was filled in
pub clash_then : (o m : Indexed) (xs ys : Pairs) (d : ℕ → Bool) (g : Bool) (fault : DeclFault) → Fills o m xs d g → IsClash m.seeds (keys_of ys ++ keys_of m.pairs) fault
    → IsClash o.seeds (keys_of (ys ++ xs) ++ keys_of o.pairs) fault
clash_then o m xs ys d g fault a c = clash_filled o.seeds m.seeds ys xs o.pairs m.pairs fault a.same_seeds a.puts c

-- why a table refuses a function
module _ (t : Table RhaiFunc) (key : Key) where
  refused_by : (clash : TableFault) → IsRefusal t key clash → IsClash t.seeds (key ∷ keys_of t.pairs) (collision clash)
  refused_by (Clash held other) (is, stands, clash) = record {
    held_there = Contains-append_right (key ∷ []) (keys_of t.pairs) held stands;
    new_there = (0, omega arith, sym is);
    clash = subst (λ (q : Key). Clashes t.seeds held q) (sym is) clash;
  }
  refused_by no_room why = tt

  pub refused_clash : (clash : TableFault) (fault : DeclFault) → fault ≡ collision clash → IsRefusal t key clash → IsClash t.seeds (key ∷ keys_of t.pairs) fault
  refused_clash clash fault is why = subst (λ (f : DeclFault). IsClash t.seeds (key ∷ keys_of t.pairs) f) (sym is) (refused_by clash why)

-- a fault that is handed on
pub if_err : {A : Type 0} (r : Result A DeclFault) (e : DeclFault) (P : DeclFault → Type 0) → IsErr r × IsErrAnd r (λ f. f ≡ e) → P e → IfErr r P
if_err (Ok a) e P h p = tt
if_err (Err f) e P h p = subst P (sym h.1) p

pub if_more : {A : Type 0} (r : Result A DeclFault) (P Q : DeclFault → Type 0) → ((f : DeclFault) → P f → Q f) → IfErr r P → IfErr r Q
if_more (Ok a) P Q more h = tt
if_more (Err f) P Q more h = more f h

-- a declaration of a module that isn't put in
pub clash_own : (o m : Indexed) (path : List Bytes) (front : Pairs) (p : Key × Declaration) (done all : Pairs) (d : ℕ → Bool) (g : Bool) (fault : DeclFault) → all ≡ front ++ p ∷ done → Fills o m (pairs_at path done) d g
    → IsClash m.seeds (keys_of (unpathed p ++ pathed path p) ++ keys_of m.pairs) fault → IsClash o.seeds (keys_of (pairs_at path all) ++ keys_of o.pairs) fault
clash_own o m path front p done all d g fault is fills c =
    let P : Pairs → Type 0 = λ ps. IsClash o.seeds (keys_of ps ++ keys_of o.pairs) fault in
    let here : P (pairs_at path (p ∷ done)) = clash_then o m (pairs_at path done) (unpathed p ++ pathed path p) d g fault fills c in
    let before : P (pairs_at path front ++ pairs_at path (p ∷ done)) = clash_before o.seeds (pairs_at path front) (pairs_at path (p ∷ done)) (keys_of o.pairs) fault here in
    subst P (sym (ap (pairs_at path) is ∙ flat_map-append (λ (q : Key × Declaration). unpathed q ++ pathed path q) front (p ∷ done))) before

-- One listed function more, before those that were put in.
module _ (o m n : Indexed) (path : List Bytes) (eager : Pairs) (p : Key × Declaration) (done : Pairs) where
  abbrev all_global : Pairs → Bool
  all_global ps = list_any (λ p. is_global_namespace p.1.metadata.namespace) ps

  joined_pairs : pairs_at path (without eager (p ∷ [])) ++ pairs_at path (without eager done) ≡ pairs_at path (without eager (p ∷ done))
  joined_pairs = sym (ap (pairs_at path) (without_more eager p done) ∙ flat_map-append (λ (q : Key × Declaration). unpathed q ++ pathed path q) (without eager (p ∷ [])) (without eager done))

  pub fills_listed : Fills o m (pairs_at path (without eager done)) (λ _. false) (all_global (without eager done)) → Fills m n (pairs_at path (without eager (p ∷ []))) (λ _. false) (all_global (without eager (p ∷ [])))
      → Fills o n (pairs_at path (without eager (p ∷ done))) (λ _. false) (all_global (without eager (p ∷ done)))
  fills_listed a b =
      fills_as o n (pairs_at path (without eager (p ∷ [])) ++ pairs_at path (without eager done)) (pairs_at path (without eager (p ∷ done))) (λ v. false || false) (λ _. false) (all_global (without eager done) || all_global (without eager (p ∷ [])))
      (all_global (without eager (p ∷ done))) joined_pairs (λ v. refl)
      (or_turned (all_global (without eager done)) (all_global (without eager (p ∷ []))) ∙ sym (ap all_global (without_more eager p done) ∙ list_any-append (λ p. is_global_namespace p.1.metadata.namespace) (without eager (p ∷ [])) (without eager done)))
      (fills_then o m n (pairs_at path (without eager done)) (pairs_at path (without eager (p ∷ []))) _ _ _ _ a b)

  pub clash_entry : (front : Pairs) (fault : DeclFault) → Fills o m (pairs_at path (without eager done)) (λ _. false) (all_global (without eager done)) → IsClash m.seeds (keys_of (pairs_at path (without eager (p ∷ []))) ++ keys_of m.pairs) fault
      → IsClash o.seeds (keys_of (pairs_at path (without eager (front ++ p ∷ done))) ++ keys_of o.pairs) fault
  clash_entry front fault fills c =
      let P : Pairs → Type 0 = λ ps. IsClash o.seeds (keys_of ps ++ keys_of o.pairs) fault in
      let here : P (pairs_at path (without eager (p ∷ done))) = subst P joined_pairs (clash_then o m (pairs_at path (without eager done)) (pairs_at path (without eager (p ∷ []))) _ _ fault fills c) in
      subst P (sym (ap (pairs_at path) (filter-append (λ p. is_none (lookup (key_eq p.0) eager)) front (p ∷ done)) ∙ flat_map-append (λ (q : Key × Declaration). unpathed q ++ pathed path q) (without eager front) (without eager (p ∷ done))))
      (clash_before o.seeds (pairs_at path (without eager front)) (pairs_at path (without eager (p ∷ done))) (keys_of o.pairs) fault here)

-- marks of one key more, and by a filter of other declarations of the same seeds
pub marks_more : {X : Type 0} (o m n : Indexed) (test : Seeds → ℕ → X → Bool) (p : X) (front : List X) → Fills o m [] (λ v. list_any (test o.seeds v) front) false → Fills m n [] (λ v. test m.seeds v p) false
    → Fills o n [] (λ v. list_any (test o.seeds v) (front ++ p ∷ [])) false
marks_more o m n test p front a b =
    fills_as o n [] [] (λ v. list_any (test o.seeds v) front || test m.seeds v p) (λ v. list_any (test o.seeds v) (front ++ p ∷ [])) (false || false) false refl
    (λ v. (λ i. list_any (test o.seeds v) front || (ap (λ (s : Seeds). test s v p) a.same_seeds ∙ sym (or_false (test o.seeds v p))) i) ∙ sym (list_any-append (test o.seeds v) front (p ∷ []))) refl
    (fills_then o m n [] [] _ _ _ _ a b)
