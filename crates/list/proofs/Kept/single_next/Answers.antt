-- The lengths decide, or the two numbers that are next.
use Prim.Native.Nat.{ℕ, ◌/◌, ◌≤◌, ◌<◌}
use mathlib.Core.Path.{◌≡◌, ap₂}
use mathlib.Core.Bool.{true, false}
use mathlib.Core.List.{List}
use native.Mathlib.Omega.{arith}
use lib.ListN.{length}
use borrow.Author.Tests.{lt-ltb, le-ltb}
use Rattle.list.specs.Cell.{numbers_in}
use Rattle.list.proofs.CellLaws.{numbers_in-length}
use lib.Dec.{ltb}
use Rattle.list.proofs.Kept.single_next.Goals as goal

-- how many numbers a region has, as the code counts them
module _ (region : List ℕ) (i : ℕ) where
  before-end : i < length region / 4 → ltb i (length (numbers_in region)) ≡ true
  before-end h = lt-ltb i (length (numbers_in region)) (omega (arith, numbers_in-length region))

  at-end : length region / 4 ≤ i → ltb i (length (numbers_in region)) ≡ false
  at-end h = le-ltb i (length (numbers_in region)) (omega (arith, numbers_in-length region))

pub returns-then-q-self : goal.returns-then-q-self
returns-then-q-self c =
    let a = c.args in
    rw (before-end a.self.singles.now a.p.0 c.if-p-self.true, before-end a.self.lower.now a.q.0 c.if-q-self.true)
    (ap₂ ltb c.number_at.ensures c.number_at-then-q-self.ensures)

pub returns-else-q-self : goal.returns-else-q-self
returns-else-q-self c =
    let a = c.args in
    rw (before-end a.self.singles.now a.p.0 c.if-p-self.true, at-end a.self.lower.now a.q.0 c.if-q-self.false)

pub returns-else-p-self : goal.returns-else-p-self
returns-else-p-self c =
    let a = c.args in rw (at-end a.self.singles.now a.p.0 c.if-p-self.false)
