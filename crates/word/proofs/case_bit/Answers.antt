-- By the test.
use Rattle.word.proofs.case_bit.Goals as goal

pub returns-then-every : goal.returns-then-every
returns-then-every c = rw c.if-every.true

pub returns-else-every : goal.returns-else-every
returns-else-every c = rw c.if-every.false
