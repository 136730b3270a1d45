-- The halves before this one stand for the word, and no other range has changed.
use Rattle.slots.specs.Compile.{HalvesStand, HalvesAlone}
use Rattle.slots.proofs.compile.fill_halves.Given as goal

abbrev pub invariant-loop-half : goal.invariant-loop-half
invariant-loop-half l =
    HalvesStand l.half l.over.main.now l.over.arrivals.now l.word l.k l.row.ranges × HalvesAlone l.half l.k l.initial.row.ranges l.row.ranges
