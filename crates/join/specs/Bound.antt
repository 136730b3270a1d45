-- How many intervals the lists of a join have together: no join has more.
use Rattle.std.specs.Prelude.{ℕ, ◌+◌, List, [], ◌∷◌}
use Rattle.list.specs.Interval.{intervals}

unfoldable pub interval_sum : List (List ℕ) → ℕ
interval_sum [] = 0
interval_sum (c ∷ cs) = intervals c + interval_sum cs
