-- Reference 9.1: of several places at which a rule is broken, the first is told.
use Rattle.std.specs.Prelude.{ℕ, zero, suc, ◌+◌, Bool, cond, Option, Some, None}

-- Reference 9.1: the first of the k places from i on at which the test holds
unfoldable pub first_from : (ℕ → Bool) → ℕ → ℕ → Option ℕ
first_from t i zero = None
first_from t i (suc k) = cond (t i) (Some i) (first_from t (i + 1) k)

-- Reference 9.1: the first of the places 0 to n - 1 at which the test holds
unfoldable pub first : (ℕ → Bool) → ℕ → Option ℕ
first t n = first_from t 0 n
