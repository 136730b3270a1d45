-- Reference 3.3: union, intersection and probe, over lists of cells.
use Rattle.std.specs.Prelude.{ℕ, ◌+◌, Bool, true, false, ◌&&◌, ◌||◌, List, [], ◌∷◌, leb, ltb}
use Rattle.limits.specs.Limits.{record_max}
use Rattle.list.specs.Interval.{names}
use Rattle.list.specs.Stretches.{cells_of}

-- Reference 3.3: the union
unfoldable pub in_some : List (List ℕ) → ℕ → Bool
in_some [] x = false
in_some (c ∷ cs) x = names c x || in_some cs x

-- Reference 3.3: its list
unfoldable pub union_of : List (List ℕ) → List ℕ
union_of cs = cells_of (in_some cs) record_max

-- Reference 3.3: the intersection; a request of no list is refused, so that what every one of no lists names is never asked for
unfoldable pub in_every : List (List ℕ) → ℕ → Bool
in_every [] x = true
in_every (c ∷ cs) x = names c x && in_every cs x

-- Reference 3.3: its list
unfoldable pub intersection_of : List (List ℕ) → List ℕ
intersection_of cs = cells_of (in_every cs) record_max

-- 1 where the test holds, else 0
abbrev pub one : Bool → ℕ
one true = 1
one false = 0

-- Reference 3.3: what a probe counts below [a, b]
unfoldable pub below_count : ℕ → List ℕ → ℕ
below_count a [] = 0
below_count a (l ∷ []) = 0
below_count a (l ∷ u ∷ r) = one (ltb u a) + below_count a r

-- Reference 3.3: what a probe counts as having a number in common with [a, b]
unfoldable pub overlap_count : ℕ → ℕ → List ℕ → ℕ
overlap_count a b [] = 0
overlap_count a b (l ∷ []) = 0
overlap_count a b (l ∷ u ∷ r) = one (leb l b && leb a u) + overlap_count a b r
