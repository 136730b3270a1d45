-- Each turn adds one single; they ascend, so all before `from` lie below the window and all from the first behind it on lie behind it.
use Rattle.list.specs.Cell.{numbers_in}
use Rattle.list.specs.Among.{among}
use Rattle.fill.proofs.FillingLaws.{SideFilling}
use Rattle.fill.proofs.fill_singles.Given as goal

abbrev pub invariant-loop-i : goal.invariant-loop-i
invariant-loop-i l = SideFilling (among (numbers_in l.singles)) (numbers_in l.singles) (numbers_in l.singles) l.base l.initial.ws l.i l.ws
