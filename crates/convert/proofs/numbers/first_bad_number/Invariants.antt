-- The invariant: the first bad number is the first from place i on. Rests on how a search goes on (FirstLaws) and when a number is bad (NumberLaws).
use mathlib.Core.Path.{◌≡◌}
use Prim.Native.Nat.{◌-◌}
use lib.ListN.{length}
use Rattle.refusal.specs.First.{first_from, first}
use Rattle.convert.specs.Convert.{number_before, bad_number}
use Rattle.convert.proofs.numbers.first_bad_number.Given as goal

abbrev pub invariant-loop-i : goal.invariant-loop-i
invariant-loop-i l =
    (l.before ≡ number_before l.numbers l.i)
    × (first (bad_number l.limit l.numbers) (length l.numbers) ≡ first_from (bad_number l.limit l.numbers) l.i (length l.numbers - l.i))
