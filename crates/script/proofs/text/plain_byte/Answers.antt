-- By the test.
use borrow.Author.Tests.{eq-eqb, ne_eqb}
use Rattle.script.proofs.text.plain_byte.Goals as goal

pub returns-then-b-eq47 : goal.returns-then-b-eq47
returns-then-b-eq47 c = rw (eq-eqb c.args.b 47 c.if-b-eq47.true)

pub returns-else-b-eq47 : goal.returns-else-b-eq47
returns-else-b-eq47 c = rw (ne_eqb c.args.b 47 c.if-b-eq47.false)
