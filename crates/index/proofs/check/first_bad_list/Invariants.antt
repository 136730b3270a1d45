-- The invariant: the first bad list is the first from entry k on.
use Prim.Native.Nat.{◌-◌, ◌≤◌}
use mathlib.Core.Path.{◌≡◌}
use Rattle.refusal.specs.First.{first, first_from}
use Rattle.index.specs.Format.{word_count}
use Rattle.index.specs.Sound.{bad_list}
use Rattle.index.proofs.check.first_bad_list.Given as goal

abbrev pub invariant-loop-k : goal.invariant-loop-k
invariant-loop-k l =
    (l.k ≤ word_count l.index) × (first (bad_list l.index) (word_count l.index) ≡ first_from (bad_list l.index) l.k (word_count l.index - l.k))
