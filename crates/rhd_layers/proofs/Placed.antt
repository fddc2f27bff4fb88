-- The modules that are made for a name: they are indexed, and refused where their trees clash.
use Rattle.std.proofs.Common.{◌≡◌, zero, suc, ◌≤◌, ◌-◌, get_or, take, drop, arith, Bool, true, false, cond, List, [], ◌∷◌, length, Option, Some, None, refl, sym, ap, subst, ◌∙◌}
use Rattle.std.specs.Prelude.{unwrap_or, is_none, Result, Ok, Err, OnOk, OnErr, IfErr, IsErr, IsErrAnd}
use Rattle.std.specs.List.{AllByRecursion, Contains}
use Rattle.std.specs.Option.{option_and_then}
use Rattle.std.specs.Map.{keys_of}
use Rattle.std.proofs.lemmas.List.{take_all}
use Rattle.rhd_value.specs.Tree.{Bytes}
use Rattle.rhd_hash.specs.declared.key.Key.{Key}
use Rattle.rhd_hash.specs.declared.mixer.Seeds.{Seeds}
use Rattle.rhd_hash.specs.Table.{Clashing}
use Rattle.rhd_decl.specs.declared.fault.DeclFault.{DeclFault}
use Rattle.rhd_decl.specs.declared.fault.DeclFault.TheVariants.{HashCollision, IndexerNotAllowed, NotCallable, UnknownNumber, OutOfMemory}
use Rattle.rhd_module.specs.Tree.{ModuleTree, empty_module}
use Rattle.rhd_module.specs.Contents.{named, with_id, with_sub, find_sub}
use Rattle.rhd_module.specs.Walk.{tree}
use Rattle.rhd_table.specs.Indexed.{NoneClash}
use Rattle.rhd_module.specs.Index.{Indexes, indexed}
use Rattle.rhd_layers.specs.Lists.{Imports}
use Rattle.rhd_layers.specs.Statics.{parts_of, placed, made, put_static, made_by, TreeClear, TreeClash, IsTreeRefusal, Places}

-- What an id leaves.

id_either : {B : Type 0} (f : ModuleTree → B) (part : Bytes) (m : ModuleTree) (none : Bool) → f (with_id part m) ≡ f m → f (cond none (with_id part m) m) ≡ f m
id_either f part m true same = same
id_either f part m false same = refl

pub named_keeps : {B : Type 0} (f : ModuleTree → B) (part : Bytes) (m : ModuleTree) → f (with_id part m) ≡ f m → f (named part m) ≡ f m
named_keeps f part m same = id_either f part m (is_none m.own.id) same

pub named_indexed : (part : Bytes) (m : ModuleTree) → (named part (indexed m)).own.indexed ≡ true
named_indexed part m = named_keeps (λ m. m.own.indexed) part (indexed m) refl

-- a module that is made is indexed
pub placed_indexed : (seeds : Seeds) (added : ModuleTree) (part : Bytes) (more : List Bytes) (held : Option ModuleTree) → (placed seeds added part more held).own.indexed ≡ true
placed_indexed seeds added part [] held = named_indexed part added
placed_indexed seeds added part (next ∷ more) held = named_indexed part (with_sub next (placed seeds added next more (find_sub next (unwrap_or held (empty_module seeds)).subs)) (unwrap_or held (empty_module seeds)))

-- What is refused.

tree_named : (part : Bytes) (m : ModuleTree) → tree (named part (indexed m)) ≡ tree m
tree_named part m = named_keeps tree part (indexed m) refl

seeds_named : (part : Bytes) (m : ModuleTree) → (named part (indexed m)).own.seeds ≡ m.own.seeds
seeds_named part m = named_keeps (λ m. m.own.seeds) part (indexed m) refl

pub clear_named : (part : Bytes) (m : ModuleTree) → TreeClear m → TreeClear (named part (indexed m))
clear_named part m clear = subst (λ (p : Seeds × List Key). NoneClash p.0 p.1) (λ i. (sym (seeds_named part m) i, keys_of (sym (tree_named part m) i))) clear

clash_named : (part : Bytes) (m : ModuleTree) (held other : Key) → Clashing m.own.seeds (keys_of (tree m)) held other → TreeClash (named part (indexed m) ∷ []) held other
clash_named part m held other clash =
    let made = named part (indexed m) in
    (made, (0, omega arith, refl), subst (λ (p : Seeds × List Key). Clashing p.0 p.1 held other) (λ i. (sym (seeds_named part m) i, keys_of (sym (tree_named part m) i))) clash)

pub index_refused : {A : Type 0} (part : Bytes) (m new : ModuleTree) (r : Result A DeclFault) → Indexes m r new → IfErr r (IsTreeRefusal (named part (indexed m) ∷ []))
index_refused part m new (Ok answer) is = tt
index_refused part m new (Err OutOfMemory) is = tt
index_refused part m new (Err (HashCollision held other)) is = clash_named part m held other is.0
index_refused part m new (Err (IndexerNotAllowed key)) is = absurd is
index_refused part m new (Err NotCallable) is = absurd is
index_refused part m new (Err (UnknownNumber number count)) is = absurd is

only_first : (x m : ModuleTree) (ms : List ModuleTree) → Contains (x ∷ []) m → Contains (x ∷ ms) m
only_first x m ms (zero, below, is) = (0, omega arith, is)
only_first x m ms (suc k, below, is) = absurd (omega (arith, below))

one_more : (x m : ModuleTree) (ms : List ModuleTree) → Contains ms m → Contains (x ∷ ms) m
one_more x m ms (k, below, is) = (suc k, omega (arith, below), is)

-- a refusal of the first of some modules, or of the others
pub first_refused : (x : ModuleTree) (ms : List ModuleTree) (fault : DeclFault) → IsTreeRefusal (x ∷ []) fault → IsTreeRefusal (x ∷ ms) fault
first_refused x ms OutOfMemory is = tt
first_refused x ms (HashCollision held other) is = (is.0, only_first x is.0 ms is.1, is.2)
first_refused x ms (IndexerNotAllowed key) is = absurd is
first_refused x ms NotCallable is = absurd is
first_refused x ms (UnknownNumber number count) is = absurd is

pub later_refused : (x : ModuleTree) (ms : List ModuleTree) (fault : DeclFault) → IsTreeRefusal ms fault → IsTreeRefusal (x ∷ ms) fault
later_refused x ms OutOfMemory is = tt
later_refused x ms (HashCollision held other) is = (is.0, one_more x is.0 ms is.1, is.2)
later_refused x ms (IndexerNotAllowed key) is = absurd is
later_refused x ms NotCallable is = absurd is
later_refused x ms (UnknownNumber number count) is = absurd is

-- the sub-module in a module that is held, or in a new one
pub sub_either : (seeds : Seeds) (name : Bytes) (held : Option ModuleTree) → option_and_then (λ m. find_sub name m.subs) held ≡ find_sub name (unwrap_or held (empty_module seeds)).subs
sub_either seeds name None = refl
sub_either seeds name (Some m) = refl

-- The module of one part, with that of the next part below it.

pub more_is : (more : List Bytes) (next : Bytes) → 1 ≤ length more → next ≡ get_or more 0 next → more ≡ next ∷ take (length more - 1) (drop 1 more)
more_is [] next some is = absurd (omega arith)
more_is (p ∷ more) next some is = (λ i. sym is i ∷ sym (take_all (length (p ∷ more) - 1) more (omega arith)) i)

module _ (seeds : Seeds) (added : ModuleTree) (part : Bytes) (more : List Bytes) (next : Bytes) (rest : List Bytes) (held below : Option ModuleTree) (is : more ≡ next ∷ rest) (sub : below ≡ option_and_then (λ m. find_sub next m.subs) held) where
  sub_is : find_sub next (unwrap_or held (empty_module seeds)).subs ≡ below
  sub_is = sym (sub ∙ sub_either seeds next held)

  made_next : made seeds added part more held ≡ placed seeds added part more held ∷ made seeds added next rest below
  made_next = ap (λ more. made seeds added part more held) is ∙ (λ i. placed seeds added part (sym is i) held ∷ made seeds added next rest (sub_is i))

  placed_next : placed seeds added part more held ≡ named part (indexed (with_sub next (placed seeds added next rest below) (unwrap_or held (empty_module seeds))))
  placed_next = ap (λ more. placed seeds added part more held) is ∙ (λ i. named part (indexed (with_sub next (placed seeds added next rest (sub_is i)) (unwrap_or held (empty_module seeds)))))

  pub next_refused : (fault : DeclFault) → IsTreeRefusal (made seeds added next rest below) fault → IsTreeRefusal (made seeds added part more held) fault
  next_refused fault h = subst (λ (ms : List ModuleTree). IsTreeRefusal ms fault) (sym made_next) (later_refused (placed seeds added part more held) (made seeds added next rest below) fault h)

  pub next_clear : (inner outer : ModuleTree) → inner ≡ placed seeds added next rest below → outer ≡ with_sub next inner (unwrap_or held (empty_module seeds)) → AllByRecursion TreeClear (made seeds added next rest below) → TreeClear (named part (indexed outer)) → AllByRecursion TreeClear (made seeds added part more held)
  next_clear inner outer within around later here =
      let same : named part (indexed outer) ≡ placed seeds added part more held = ap (λ m. named part (indexed m)) (around ∙ ap (λ m. with_sub next m (unwrap_or held (empty_module seeds))) within) ∙ sym placed_next in
      subst (λ (ms : List ModuleTree). AllByRecursion TreeClear ms) (sym made_next) (subst TreeClear same here, later)

  pub here_refused : (inner outer : ModuleTree) → inner ≡ placed seeds added next rest below → outer ≡ with_sub next inner (unwrap_or held (empty_module seeds)) → (fault : DeclFault) → IsTreeRefusal (named part (indexed outer) ∷ []) fault → IsTreeRefusal (made seeds added part more held) fault
  here_refused inner outer within around fault here =
      let same : named part (indexed outer) ≡ placed seeds added part more held = ap (λ m. named part (indexed m)) (around ∙ ap (λ m. with_sub next m (unwrap_or held (empty_module seeds))) within) ∙ sym placed_next in
      let first = first_refused (placed seeds added part more held) (made seeds added next rest below) fault (subst (λ (m : ModuleTree). IsTreeRefusal (m ∷ []) fault) same here) in
      subst (λ (ms : List ModuleTree). IsTreeRefusal ms fault) (sym made_next) first

pub if_err : {A : Type 0} (r : Result A DeclFault) (fault : DeclFault) (P : DeclFault → Type 0) → IsErr r × IsErrAnd r (λ f. f ≡ fault) → P fault → IfErr r P
if_err (Ok answer) fault P is p = tt
if_err (Err f) fault P is p = subst P (sym is.1) p

pub on_ok : {A E : Type 0} (r : Result A E) (P Q : Type 0) → (P → Q) → OnOk r P → OnOk r Q
on_ok (Ok answer) P Q more p = more p
on_ok (Err fault) P Q more p = tt

-- what putting a module under the parts of a name answers is what registering answers
pub places : {A : Type 0} (seeds : Seeds) (name : Bytes) (added : ModuleTree) (parts : List Bytes) (old new : Imports) (r : Result A DeclFault) → parts ≡ parts_of name → OnOk r (new ≡ put_static seeds added parts old) → OnOk r (AllByRecursion TreeClear (made_by seeds added parts old)) → OnErr r (new ≡ old) → IfErr r (IsTreeRefusal (made_by seeds added parts old))
    → Places seeds name added old r new
places seeds name added parts old new (Ok answer) is ok clear err refused =
    (ok ∙ ap (λ parts. put_static seeds added parts old) is, subst (λ (parts : List Bytes). AllByRecursion TreeClear (made_by seeds added parts old)) is clear)
places seeds name added parts old new (Err OutOfMemory) is ok clear err refused = err
places seeds name added parts old new (Err (HashCollision held other)) is ok clear err refused = (subst (λ (parts : List Bytes). TreeClash (made_by seeds added parts old) held other) is refused, err)
places seeds name added parts old new (Err (IndexerNotAllowed key)) is ok clear err refused = absurd refused
places seeds name added parts old new (Err NotCallable) is ok clear err refused = absurd refused
places seeds name added parts old new (Err (UnknownNumber number count)) is ok clear err refused = absurd refused
