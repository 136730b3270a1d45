-- What is left of the pass is the same in each turn.
use mathlib.Core.Path.{◌≡◌}
use lib.ListN.{drop}
use Rattle.list.specs.Cell.{numbers_in}
use Rattle.list.specs.Passed.{passed}
use Rattle.list.proofs.rule.pass_singles.Given as goal

abbrev pub invariant-loop-i : goal.invariant-loop-i
invariant-loop-i l =
    passed l.bound l.least0 l.fn.from.0 (drop l.fn.from.0 (numbers_in l.singles)) ≡ passed l.bound l.least l.i (drop l.i (numbers_in l.singles))
