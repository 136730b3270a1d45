-- The first m lists are out up to `out`, and of the row hints alone are moved.
use mathlib.Core.Bool.{false}
use Rattle.list.specs.Sense.{Steady}
use Rattle.slots.specs.Row.{entries_at, HintsMoved}
use Rattle.slots.specs.Having.{in_entries}
use Rattle.senses.proofs.kept.sense_entries.Given as goal

abbrev pub invariant-loop-m : goal.invariant-loop-m
invariant-loop-m l = HintsMoved l.initial.row l.row × Steady (in_entries l.index (entries_at l.initial.row.ranges l.j).first l.m) l.x false l.out
