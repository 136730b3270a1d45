-- One bit more.
use native.Mathlib.Omega.{arith}
use Rattle.codes.proofs.group.enter.Goals as goal

pub returns-then-inside : goal.returns-then-inside
returns-then-inside c = rw c.if-inside.true (omega arith)

pub returns-else-inside : goal.returns-else-inside
returns-else-inside c = rw c.if-inside.false (omega arith)
