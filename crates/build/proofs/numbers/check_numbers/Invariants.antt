-- The invariant: no number before `start` is bad, and `start` is where the list of count i begins. Rests on one list of the pass (CountLaws).
use mathlib.Core.Path.{◌≡◌}
use Prim.Native.Nat.{ℕ, ◌≤◌, ◌<◌}
use mathlib.Core.Bool.{false}
use lib.ListN.{length}
use Rattle.build.specs.Lent.{sum_to, bad_listed}
use Rattle.build.proofs.numbers.check_numbers.Given as goal

abbrev pub invariant-loop-count : goal.invariant-loop-count
invariant-loop-count l =
    (l.start ≡ sum_to l.counts l.count-index)
    × (l.start ≤ length l.numbers)
    × ((j : ℕ) → j < l.start → bad_listed l.n l.counts (length l.counts) l.numbers j ≡ false)
