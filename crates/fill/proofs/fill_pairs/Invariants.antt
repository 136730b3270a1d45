-- Each turn adds one pair; a pair that reaches past the window is filled to the window's end, and the next begins behind that.
use mathlib.Core.List.{[]}
use Rattle.list.specs.Cell.{numbers_in}
use Rattle.list.specs.Interval.{names}
use Rattle.list.specs.Kept.{walked}
use Rattle.fill.proofs.FillingLaws.{SideFilling}
use Rattle.fill.proofs.fill_pairs.Given as goal

abbrev pub invariant-loop-q : goal.invariant-loop-q
invariant-loop-q l =
    SideFilling (names (walked [] (numbers_in l.lower) (numbers_in l.upper))) (numbers_in l.lower) (numbers_in l.upper) l.base l.initial.ws l.q l.ws
