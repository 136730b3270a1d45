-- The singles of a kept list that stand before a bound, as one pass over them finds them.
use Rattle.std.specs.Prelude.{ℕ, ◌+◌, cond, List, [], ◌∷◌, ltb}
use Rattle.limits.specs.Limits.{record_max}
use Rattle.list.specs.declared.rule.Pass.{Pass}

-- from place i on: where the pass ends, and the least that the next l may be there (Reference 3.1).
-- It ends at the first that is not below the bound, or at one that is below its own least, behind which no l may come.
unfoldable pub passed : ℕ → ℕ → ℕ → List ℕ → Pass
passed bound least i [] = record { p = record { 0 = i }; least = least }
passed bound least i (s ∷ S) =
    cond (ltb s bound)
    (cond (ltb s least) (record { p = record { 0 = i }; least = record_max + 1 }) (passed bound (s + 2) (i + 1) S))
    (record { p = record { 0 = i }; least = least })
