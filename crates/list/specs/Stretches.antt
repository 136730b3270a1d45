-- Reference 3.2: the one list of a set, where a set of record numbers is a test on numbers.
use Rattle.std.specs.Prelude.{ℕ, zero, suc, ◌+◌, ◌-◌, Bool, true, false, List, [], ◌∷◌}

-- Reference 3.2: the cell that x brings, by whether x - 1 and x are in the set, in front of the cells r: the l of a stretch that begins at x, or the u
-- of the one that ended before x
abbrev pub turned : Bool → Bool → ℕ → List ℕ → List ℕ
turned false false x r = r
turned false true x r = x ∷ r
turned true false x r = (x - 1) ∷ r
turned true true x r = r

-- Reference 3.2: the cells of the k numbers from x on, where b says whether x - 1 is in; a stretch that is open then ends with the last of them
unfoldable pub stretches : (ℕ → Bool) → Bool → ℕ → ℕ → List ℕ
stretches p b x zero = turned b false x []
stretches p b x (suc k) = turned b (p x) x (stretches p (p x) (x + 1) k)

-- Reference 3.2: the one proper list of the numbers from 1 to n at which p holds
unfoldable pub cells_of : (ℕ → Bool) → ℕ → List ℕ
cells_of p n = stretches p false 1 n

-- x in front of xs where the test holds
abbrev pub cons_if : Bool → ℕ → List ℕ → List ℕ
cons_if true x xs = x ∷ xs
cons_if false x xs = xs

-- Reference 8.8: of the k numbers from x on, those at which p holds
unfoldable pub records_from : (ℕ → Bool) → ℕ → ℕ → List ℕ
records_from p x zero = []
records_from p x (suc k) = cons_if (p x) x (records_from p (x + 1) k)

-- Reference 8.8: the numbers from 1 to n at which p holds, in order
unfoldable pub records_of : (ℕ → Bool) → ℕ → List ℕ
records_of p n = records_from p 1 n
