-- The invariant: what is left of the intervals is left to put from `k` on.
use mathlib.Core.Path.{◌≡◌}
use Rattle.lines.specs.Line.{intervals_text}
use Rattle.lines.proofs.PutLaws.{ToPut}
use Rattle.lines.proofs.put.put_intervals.Given as goal

abbrev pub invariant-loop-pair : goal.invariant-loop-pair
invariant-loop-pair l = (l.pair-iterator.size ≡ 2) × ToPut l.initial.out l.at (intervals_text l.cells) l.out l.k (intervals_text l.pair-iterator.rest.now)
