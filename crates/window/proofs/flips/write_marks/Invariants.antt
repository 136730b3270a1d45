-- What is written and what the marks left in x will write is what all marks of x0 write.
use Prim.Native.Nat.{◌+◌, ◌<◌, ◌^◌}
use mathlib.Core.Path.{◌≡◌}
use lib.ListN.{length}
use lib.Seq.{sets}
use Rattle.window.specs.Flips.{marks, cells_at}
use Rattle.window.proofs.flips.write_marks.Given as goal

abbrev pub invariant-loop-x : goal.invariant-loop-x
invariant-loop-x l =
    (length l.out ≡ length l.initial.out) × (l.x < 2 ^ 64) × (l.k + length (marks l.x) ≡ l.k0 + length (marks l.x0)) ×
    (sets l.initial.out l.k0 (cells_at l.base l.k0 (marks l.x0)) ≡ sets l.out l.k (cells_at l.base l.k (marks l.x)))

abbrev pub decreases-loop-x : goal.decreases-loop-x
decreases-loop-x l = l.x
