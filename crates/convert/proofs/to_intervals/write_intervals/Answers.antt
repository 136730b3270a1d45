use mathlib.Core.Path.{sym, ap, ◌∙◌}
use native.Mathlib.Omega.{arith}
use lib.Seq.{sets}
use Rattle.laws.proofs.Lists.{sets-front}
use Rattle.convert.specs.Convert.{intervals_of}
use Rattle.convert.proofs.RunLaws.{intervals-none}
use Rattle.convert.proofs.to_intervals.write_intervals.Goals as goal
use Rattle.convert.proofs.to_intervals.write_intervals.Goals.{After-next_run-run}

pub returns : goal.returns
returns c =
    let at = c.loop-i in
    let xs = c.args.numbers.now in
    let out = c.args.out.now in
    sym (at.invariant.3 ∙ ap (sets at.out at.k) (intervals-none xs at.i (omega arith)))
    ∙ sets-front (intervals_of xs) out c.requires.room
