-- What a list or a pointer is once the value that it lent is written.
use Rattle.std.specs.Prelude.{ℕ, List, Option, length, slice_set}
use Rattle.std.specs.Borrow.{Lends, LendsIf, follows, MutBor, Fml, Array}
use Rattle.std.specs.List.{refill}
use Rattle.std.specs.declared.slice.IterMut.{IterMut}
use Rattle.std.specs.Slice.Iter.{iter_mut_name}
use Rattle.rhd_value.specs.Tree.{Tree, Pointer}
use Rattle.rhd_value.specs.contracts.dynamic.Values as values
use Rattle.rhd_value.specs.contracts.dynamic.FnPtr as ptr
use Rattle.rhd_value.specs.contracts.dynamic.Dynamic as dynamic

-- the list, with what was written at the place
abbrev pub LendsItem : MutBor (List Tree) → ℕ → MutBor Tree → Fml
LendsItem s i r = Lends values.the_row dynamic.the_row s r (λ w. slice_set s.now i w)

-- the same; where nothing is lent, the list stays
abbrev pub LendsItemIf : MutBor (List Tree) → ℕ → Option (MutBor Tree) → Fml
LendsItemIf s i r = LendsIf values.the_row dynamic.the_row s r (λ w. slice_set s.now i w) s.now

-- the list, with what was written to its values in turn
abbrev pub LendsItems : MutBor (List Tree) → IterMut Tree → Fml
LendsItems s it = follows values.the_row (Array dynamic.the_row 0) s.ghost_name (iter_mut_name it) (refill (length s.now) s.now)

-- the pointer, with what was written at the place of its values
abbrev pub LendsCurried : MutBor Pointer → ℕ → MutBor Tree → Fml
LendsCurried s i r = Lends ptr.the_row dynamic.the_row s r (λ w. record s.now { curry = slice_set s.now.curry i w })

-- the pointer, with what was written to its values in turn
abbrev pub LendsCurry : MutBor Pointer → IterMut Tree → Fml
LendsCurry s it =
    follows ptr.the_row (Array dynamic.the_row 0) s.ghost_name (iter_mut_name it) (λ ws. record s.now { curry = refill (length s.now.curry) s.now.curry ws })
