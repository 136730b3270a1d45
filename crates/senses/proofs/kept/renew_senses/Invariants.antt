-- The slots below k are known at x, and have what they had.
use Prim.Native.Nat.{ℕ, ◌<◌}
use Rattle.slots.specs.Row.{until_of, SlotsStay}
use Rattle.slots.specs.Having.{having}
use Rattle.senses.specs.Senses.{Sensed}
use Rattle.senses.proofs.kept.renew_senses.Given as goal

abbrev pub invariant-loop-k : goal.invariant-loop-k
invariant-loop-k l =
    SlotsStay l.initial.row l.row × Sensed (having l.over.main.now l.over.arrivals.now l.initial.row) l.row.senses l.x × ((j : ℕ) → j < l.k → l.x < until_of l.row.senses j)
