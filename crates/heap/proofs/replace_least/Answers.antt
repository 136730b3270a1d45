use Rattle.heap.proofs.SiftLaws.{down-start, down_step, down-stop, down-end}
use Rattle.heap.proofs.replace_least.Goals as goal

pub returns-then-x-moved : goal.returns-then-x-moved
returns-then-x-moved c = down-stop c.loop-i.invariant c.lesser_below-below.ensures c.if-x-moved.true

pub loop-i-init : goal.loop-i-init
loop-i-init c =
    let asked = c.requires in down-start asked.some asked.within asked.ordered

pub loop-i-preserved : goal.loop-i-preserved
loop-i-preserved c = down_step c.loop-i.invariant c.lesser_below-below.ensures c.if-x-moved.false

pub returns : goal.returns
returns c = down-end c.loop-i.invariant c.loop-i-test.false
