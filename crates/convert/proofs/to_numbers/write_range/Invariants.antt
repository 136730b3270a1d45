-- The invariant: what is to be stored from cell k is what is left to store from the cell of x. Rests on a range's first number (SpanLaws).
use mathlib.Core.Path.{◌≡◌}
use Prim.Native.Nat.{◌-◌, ◌+◌}
use lib.ListN.{length}
use lib.Seq.{sets}
use Rattle.convert.proofs.SpanLaws.{count_up}
use Rattle.convert.proofs.to_numbers.write_range.Given as goal

abbrev pub invariant-loop-x : goal.invariant-loop-x
invariant-loop-x l =
    (length l.out ≡ length l.initial.out)
    × (sets l.initial.out l.k (count_up l.l (l.end - l.l)) ≡ sets l.out (l.k + (l.x - l.l)) (count_up l.x (l.end - l.x)))
