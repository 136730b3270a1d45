-- Reference 3.1: what an interval is, what a proper list is, and which numbers cells name.
use Rattle.std.specs.Prelude.{ℕ, ◌+◌, ◌-◌, ◌/◌, Bool, true, false, ◌&&◌, ◌||◌, List, [], ◌∷◌, leb, length}

-- Reference 3.1: whether the cells c are a proper list whose first l is at least k and whose last u is at most n
unfoldable pub proper_from : ℕ → ℕ → List ℕ → Bool
proper_from n k [] = true
proper_from n k (l ∷ []) = false
proper_from n k (l ∷ u ∷ r) = leb k l && leb l u && leb u n && proper_from n (u + 2) r

-- Reference 3.1: whether the cells c are a proper list that names no number outside 1..n
unfoldable pub is_proper : ℕ → List ℕ → Bool
is_proper n c = proper_from n 1 c

-- Reference 3.1: whether the cells c name x
unfoldable pub names : List ℕ → ℕ → Bool
names [] x = false
names (l ∷ []) x = false
names (l ∷ u ∷ r) x = (leb l x && leb x u) || names r x

-- Reference 3.1: how many intervals the cells c hold
abbrev pub intervals : List ℕ → ℕ
intervals c = length c / 2

-- Reference 3.1: the record count; of cells that are no proper list nothing is meant by it
unfoldable pub records : List ℕ → ℕ
records [] = 0
records (l ∷ []) = 0
records (l ∷ u ∷ r) = u + 1 - l + records r
