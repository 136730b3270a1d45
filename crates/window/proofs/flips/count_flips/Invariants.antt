-- What is counted and what the words from i on will bring is what the whole window brings; the carry is the parity of the count.
use Prim.Native.Nat.{ℕ, ◌≤◌, ◌+◌, ◌*◌, ◌%◌}
use mathlib.Core.Path.{◌≡◌}
use lib.ListN.{length}
use Rattle.window.specs.Flips.{window_cells}
use Rattle.window.proofs.WordFlips.{cells_left}
use Rattle.window.proofs.flips.count_flips.Given as goal

abbrev pub invariant-loop-w : goal.invariant-loop-w
invariant-loop-w l =
    (l.w-index ≤ length l.ws) × (l.k ≤ l.k0 + 64 * l.w-index) × ((base : ℕ) → l.k0 + length (window_cells l.ws base l.k0) ≡ l.k + length (cells_left l.ws base l.k l.w-index)) × (l.c ≡ l.k % 2)
