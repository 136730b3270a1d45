use native.Mathlib.Omega.{arith}
use Rattle.script.proofs.TextLaws.{text-end}
use Rattle.script.proofs.ReadsLaws.{left-all, left_one, left-full, left-none}
use Rattle.script.proofs.text.put_text.Goals as goal

pub loop-i-preserved : goal.loop-i-preserved
loop-i-preserved c = (c.byte_at-one.ensures.within, left_one c.byte_at-one.result.byte _ c.loop-i.invariant.1 (omega arith) c.byte_at-one.ensures.text)

pub returns : goal.returns
returns c = left-none c.loop-i.invariant.1 (text-end c.args.s.now c.loop-i.i (omega arith))

pub loop-i-init : goal.loop-i-init
loop-i-init c = (omega arith, left-all _ _ _)

pub shape_of-out-then-out-at : goal.shape_of-out-then-out-at
shape_of-out-then-out-at c = c.loop-i.invariant.1.same

pub returns-then-out-at : goal.returns-then-out-at
returns-then-out-at c = left-full c.loop-i.invariant.1 (omega arith)

pub shape_of-out : goal.shape_of-out
shape_of-out c = c.loop-i.invariant.1.same
