use native.Mathlib.Omega.{arith}
use Rattle.heap.proofs.SiftLaws.{up_start, up_step, up-end}
use Rattle.heap.proofs.push.Goals as goal

pub loop-i-init : goal.loop-i-init
loop-i-init c = up_start c.requires.room c.requires.ordered

pub returns-then-moved-x : goal.returns-then-moved-x
returns-then-moved-x c = up-end c.loop-i.invariant (λ h. c.if-moved-x.true)

pub loop-i-preserved : goal.loop-i-preserved
loop-i-preserved c = up_step c.loop-i.invariant (omega arith) c.if-moved-x.false

pub returns : goal.returns
returns c = up-end c.loop-i.invariant (λ h. absurd (omega arith))
