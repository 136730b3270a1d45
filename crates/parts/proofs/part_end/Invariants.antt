-- The part ends as far behind i as no b stands from i on.
use Rattle.std.proofs.Common.{◌≡◌, ◌+◌, drop}
use Rattle.parts.specs.Part.{part_length}
use Rattle.parts.proofs.part_end.Given as goal

abbrev pub invariant-loop-i : goal.invariant-loop-i
invariant-loop-i l = l.from + part_length l.b (drop l.from l.s) ≡ l.i + part_length l.b (drop l.i l.s)
