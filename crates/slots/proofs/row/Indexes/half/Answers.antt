-- The first or the second.
use borrow.Author.Tests.{eq-eqb, ne_eqb}
use Rattle.slots.proofs.row.Indexes.half.Goals as goal

pub returns-then-half-eq0 : goal.returns-then-half-eq0
returns-then-half-eq0 c = rw (eq-eqb c.args.half 0 c.if-half-eq0.true)

pub returns-else-half-eq0 : goal.returns-else-half-eq0
returns-else-half-eq0 c = rw (ne_eqb c.args.half 0 c.if-half-eq0.false)
