-- What is written and what the words from i on will write is what the whole window writes.
use Prim.Native.Nat.{◌≤◌, ◌+◌, ◌*◌}
use mathlib.Core.Path.{◌≡◌}
use lib.ListN.{length}
use lib.Seq.{sets}
use Rattle.window.specs.Flips.{window_cells}
use Rattle.window.proofs.WordFlips.{cells_left}
use Rattle.window.proofs.flips.write_flips.Given as goal

abbrev pub invariant-loop-w : goal.invariant-loop-w
invariant-loop-w l =
    (l.w-index ≤ length l.ws) × (l.at ≡ l.base + 64 * l.w-index) × (length l.out ≡ length l.initial.out) ×
    (l.k0 + length (window_cells l.ws l.base l.k0) ≡ l.k + length (cells_left l.ws l.base l.k l.w-index)) × (sets l.initial.out l.k0 (window_cells l.ws l.base l.k0) ≡ sets l.out l.k (cells_left l.ws l.base l.k l.w-index))
