use mathlib.Core.Path.{◌≡◌, ap, ◌∙◌}
use mathlib.Core.List.{◌++◌}
use native.Mathlib.Omega.{arith}
use lib.ListN.{length, get_or, length-append}
use Rattle.lines.specs.Line.{interval_text, intervals_text}
use Rattle.lines.proofs.TextLaws.{intervals-next, intervals-end}
use Rattle.lines.proofs.PutLaws.{put_next, put-none}
use Rattle.lines.proofs.put.put_intervals.Goals as goal
use Rattle.lines.proofs.put.put_intervals.Goals.{In-Some}

-- the interval of a turn, and those behind it
next : (c : In-Some) → intervals_text c.loop-pair.pair-iterator.rest.now ≡
    interval_text (get_or c.in-Some.pair.now 0 0) (get_or c.in-Some.pair.now 1 0) ++ intervals_text c.next.new.self.rest.now
next c =
    let steps = c.in-Some.ensures.steps in
    intervals-next c.in-Some.pair.now c.next.new.self.rest.now steps.1.0 (steps.1.1 ∙ c.loop-pair.invariant.0)

pub put_interval-k-requires : goal.put_interval-k-requires
put_interval-k-requires c =
    let pair = c.in-Some.pair.now in
    let e = ap length (next (goal.at.put_interval-k-requires c).In-Some) in
    omega (arith, e, c.loop-pair.invariant.1.end, length-append (interval_text (get_or pair 0 0) (get_or pair 1 0)) (intervals_text c.next.new.self.rest.now))

pub loop-pair-preserved : goal.loop-pair-preserved
loop-pair-preserved c = (
  c.in-Some.ensures.steps.0 ∙ c.loop-pair.invariant.0,
  put_next (intervals_text c.next.new.self.rest.now) c.loop-pair.invariant.1 (next (goal.at.loop-pair-preserved c).In-Some) c.put_interval-k.ensures,
)

pub returns : goal.returns
returns c =
    let l = c.loop-pair in
    put-none l.invariant.1 (intervals-end l.pair-iterator.rest.now (omega (arith, c.in-None.ensures.steps, l.invariant.0)))
