use Rattle.std.proofs.Common.{◌≡◌, true, is_some, None, sym, subst}
use Rattle.std.specs.List.{AllByRecursion}
use Rattle.std.specs.Prelude.{Result, Ok, Err, OnOk, OnErr}
use Rattle.rhd_hash.specs.Table.{Table}
use Rattle.rhd_decl.specs.declared.declaration.Declaration.{Declaration}
use Rattle.rhd_table.specs.NativeIndex.{IsIndex}
use Rattle.rhd_table.proofs.Lookups.{first}
use Rattle.rhd_table.proofs.declarations.Declarations.grow.Goals as goal

pub grow-requires-clause-there : goal.grow-requires-clause-there
grow-requires-clause-there c = subst (λ (t : Table Declaration). AllByRecursion (λ p. is_some (first p.0 t.pairs) ≡ true) c.args.there.items) (sym c.self.view_is) c.requires.there

pub grow-requires-clause-new : goal.grow-requires-clause-new
grow-requires-clause-new c = subst (λ (t : Table Declaration). AllByRecursion (λ p. first p.0 t.pairs ≡ None) c.args.new.items) (sym c.self.view_is) c.requires.new

-- what holds after either answer
either : {A E : Type 0} {X Y V W P : Type 0} (r : Result A E) → OnOk r X → OnOk r Y → OnErr r V → OnErr r W → (X → Y → P) → (V → W → P) → P
either (Ok a) x y v w f g = f x y
either (Err e) x y v w f g = g v w

pub invariant_of-self : goal.invariant_of-self
invariant_of-self c =
    let grown = c.grow.new.table in
    let natives = c.grow.new.natives in
    let P : Type 0 = IsIndex natives grown.seeds grown.pairs in
    either {P = P} c.grow.result c.grow.ensures.ok c.grow.ensures.noted c.grow.ensures.err c.grow.ensures.still
    (λ is index. index)
    (λ same index. subst (λ (t : Table Declaration). IsIndex natives t.seeds t.pairs) (sym same) index)
