-- How a declaration is put into a list of them, which keys it has then, and why it is refused.
use Rattle.std.proofs.Common.{◌≡◌, None, Err, refl, sym, subst}
use Rattle.std.specs.List.{Contains}
use Rattle.std.specs.Prelude.{Result, Ok, OnErr}
use Rattle.std.specs.Map.{keys_of}
use Rattle.rhd_hash.specs.declared.key.Key.{Key}
use Rattle.rhd_decl.specs.declared.declaration.Declaration.{Declaration}
use Rattle.rhd_hash.specs.declared.fault.TableFault.{TableFault}
use Rattle.rhd_hash.specs.declared.fault.TableFault.TheVariants.{Clash, OutOfMemory}
use Rattle.rhd_hash.specs.Table.{Clashes}
use Rattle.rhd_hash.specs.Refusal.{IsRefusal}
use Rattle.rhd_decl.specs.declared.fault.DeclFault.{DeclFault}
use Rattle.rhd_decl.specs.declared.fault.DeclFault.TheVariants.{HashCollision, IndexerNotAllowed, NotCallable, UnknownNumber, OutOfMemory as no_memory}
use Rattle.rhd_decl.specs.Collisions.{collision}
use Rattle.rhd_module.specs.Tree.{ModuleTree}
use Rattle.rhd_table.specs.Pairs.{put}
use Rattle.rhd_module.specs.Registered.{Puts}
use Rattle.rhd_table.proofs.Puts.{kept, there}

-- what a table's refusal is to the module
module _ (old new : ModuleTree) (k : Key) (d : Declaration) (same : new ≡ old) where
  refused_by : (clash : TableFault) → IsRefusal {V = Declaration} (record { seeds = old.own.seeds; pairs = old.own.eager }) k clash → Puts {A = Unit {0}} None k d old (Err (collision clash)) new
  refused_by (Clash held other) (is, stands, clash) =
      let shown : Contains (keys_of (put k d old.own.eager)) other = subst (λ (q : Key). Contains (keys_of (put k d old.own.eager)) q) (sym is) (there k d old.own.eager) in
      let clashes : Clashes old.own.seeds held other = subst (λ (q : Key). Clashes old.own.seeds held q) (sym is) clash in
      (refl, record { held_there = kept k held d old.own.eager stands; new_there = shown; clash = clashes }, same)
  refused_by OutOfMemory why = same

  pub refused : (clash : TableFault) (fault : DeclFault) → fault ≡ collision clash → IsRefusal {V = Declaration} (record { seeds = old.own.seeds; pairs = old.own.eager }) k clash → Puts {A = Unit {0}} None k d old (Err fault) new
  refused clash fault is why = subst (λ (f : DeclFault). Puts {A = Unit {0}} None k d old (Err f) new) (sym is) (refused_by clash why)

-- what is refused changes nothing
pub unchanged : {A : Type 0} (old new : ModuleTree) (k : Key) (d : Declaration) (r : Result A DeclFault) → Puts None k d old r new → OnErr r (new ≡ old)
unchanged old new k d (Ok answer) puts = tt
unchanged old new k d (Err no_memory) puts = puts
unchanged old new k d (Err (HashCollision held other)) puts = puts.2
unchanged old new k d (Err (IndexerNotAllowed key)) puts = puts.1
unchanged old new k d (Err NotCallable) puts = puts.1
unchanged old new k d (Err (UnknownNumber n m)) puts = puts.1
