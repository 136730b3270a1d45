-- Each outcome by what the callees promise; a proper list has two cells for each interval (StretchLaws).
use native.Mathlib.Omega.{arith}
use Rattle.limits.specs.Limits.{record_max}
use Rattle.list.specs.Among.{among}
use Rattle.list.proofs.StretchLaws.{cells-even}
use Rattle.convert.proofs.to_intervals.to_intervals.Goals as goal
use Rattle.convert.proofs.to_intervals.to_intervals.Goals.{In_default}

pub write_intervals-requires-clause-room : goal.write_intervals-requires-clause-room
write_intervals-requires-clause-room c =
    let xs = c.args.numbers.now in
    omega (arith, cells-even (among xs) record_max, c.count_intervals-n.ensures)
