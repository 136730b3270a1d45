-- Laws of the first place: how a loop that passes the places one by one finds it, and what it says.
use mathlib.Core.Path.{◌≡◌, refl, ap, ◌∙◌}
use Prim.Native.Nat.{ℕ, zero, suc, ◌+◌, ◌-◌, ◌≤◌, ◌<◌}
use native.Mathlib.Omega.{arith}
use native.Mathlib.Nat.{lt_of_not-le}
use native.Mathlib.Decide.{dec_le}
use mathlib.Core.Bool.{Bool, true, false, cond}
use Rattle.std.specs.Prelude.{Option, Some, None}
use Rattle.refusal.specs.First.{first_from, first}

-- ---- a loop: what is left to search from place i on

pub first-start : (t : ℕ → Bool) (n : ℕ) → first t n ≡ first_from t 0 (n - 0)
unfolding first
first-start t n = let e : n - 0 ≡ n = omega arith in rw e

pub first-hit : (t : ℕ → Bool) (i n : ℕ) → i < n → t i ≡ true → first_from t i (n - i) ≡ Some i
unfolding first_from
first-hit t i n h e = let s : n - i ≡ suc (n - (i + 1)) = omega arith in rw (s, e)

pub first-miss : (t : ℕ → Bool) (i n : ℕ) → i < n → t i ≡ false → first_from t i (n - i) ≡ first_from t (i + 1) (n - (i + 1))
unfolding first_from
first-miss t i n h e = let s : n - i ≡ suc (n - (i + 1)) = omega arith in rw (s, e)

pub first-end : (t : ℕ → Bool) (i n : ℕ) → n ≤ i → first_from t i (n - i) ≡ None
unfolding first_from
first-end t i n h = let s : n - i ≡ 0 = omega arith in rw s

-- ---- what it says

none-step : (t : ℕ → Bool) (i k : ℕ) (v : Bool) → t i ≡ v → cond v (Some i) (first_from t (i + 1) k) ≡ None →
    (first_from t (i + 1) k ≡ None → (j : ℕ) → i + 1 ≤ j → j < i + 1 + k → t j ≡ false) → (j : ℕ) → i ≤ j → j < i + suc k → t j ≡ false
none-step t i k true e h ih j l u = absurd (let z : ◌≡◌ {A = ℕ} 0 1 = cc in omega arith)
none-step t i k false e h ih j l u = go (dec_le j i)
  where
    go : Dec (j ≤ i) → t j ≡ false
    go (yes d) = let q : j ≡ i = omega arith in ap t q ∙ e
    go (no d) = let g = lt_of_not-le d in ih h j (omega arith) (omega arith)

none_from : (t : ℕ → Bool) (i k : ℕ) → first_from t i k ≡ None → (j : ℕ) → i ≤ j → j < i + k → t j ≡ false
unfolding first_from
none_from t i zero h j l u = absurd (omega arith)
none_from t i (suc k) h j l u = none-step t i k (t i) refl h (none_from t (i + 1) k) j l u

pub first-none : (t : ℕ → Bool) (n : ℕ) → first t n ≡ None → (j : ℕ) → j < n → t j ≡ false
unfolding first
first-none t n h j u = none_from t 0 n h j (omega arith) (omega arith)

-- place i is below n, the test holds there, and at none before it
pub record FirstAt (t : ℕ → Bool) (i n : ℕ) : Type 0 where
  pub below : i < n
  pub holds : t i ≡ true
  pub before : (j : ℕ) → j < i → t j ≡ false

from_is : (t : ℕ → Bool) (a k i : ℕ) → a ≤ i → i < a + k → t i ≡ true → ((j : ℕ) → a ≤ j → j < i → t j ≡ false) → first_from t a k ≡ Some i
unfolding first_from
from_is t a zero i l u e f = absurd (omega arith)
from_is t a (suc k) i l u e f = go (dec_le i a) (λ g. from_is t (a + 1) k i g (omega arith) e (λ j x y. f j (omega arith) y))
  where
    go : Dec (i ≤ a) → (a + 1 ≤ i → first_from t (a + 1) k ≡ Some i) → cond (t a) (Some a) (first_from t (a + 1) k) ≡ Some i
    go (yes d) ih = let q : i ≡ a = omega arith in rw (← q, e)
    go (no d) ih = let g = lt_of_not-le d in rw (f a (omega arith) g) (ih (omega arith))

pub first-is : (t : ℕ → Bool) (i n : ℕ) → FirstAt t i n → first t n ≡ Some i
unfolding first
first-is t i n p = from_is t 0 n i (omega arith) (omega (arith, p.below)) p.holds (λ j x y. p.before j y)

none-is-from : (t : ℕ → Bool) (a k : ℕ) → ((j : ℕ) → a ≤ j → j < a + k → t j ≡ false) → first_from t a k ≡ None
unfolding first_from
none-is-from t a zero f = refl
none-is-from t a (suc k) f = rw (f a (omega arith) (omega arith)) (none-is-from t (a + 1) k (λ j x y. f j (omega arith) (omega arith)))

pub first-none-is : (t : ℕ → Bool) (n : ℕ) → ((j : ℕ) → j < n → t j ≡ false) → first t n ≡ None
unfolding first
first-none-is t n f = none-is-from t 0 n (λ j x y. f j (omega arith))

at-step : (t : ℕ → Bool) (a k i : ℕ) (v : Bool) → t a ≡ v → cond v (Some a) (first_from t (a + 1) k) ≡ Some i →
    (first_from t (a + 1) k ≡ Some i → (a + 1 ≤ i) × (i < a + 1 + k) × (t i ≡ true) × ((j : ℕ) → a + 1 ≤ j → j < i → t j ≡ false)) →
    (a ≤ i) × (i < a + suc k) × (t i ≡ true) × ((j : ℕ) → a ≤ j → j < i → t j ≡ false)
at-step t a k i true e h ih = let q : a ≡ i = cc in (omega arith, omega arith, rw (← q) e, λ j x y. absurd (omega arith))
at-step t a k i false e h ih =
    let w = ih h in
    (omega arith, omega arith, w.2, λ j x y. go j x y (dec_le j a))
  where
    go : (j : ℕ) → a ≤ j → j < i → Dec (j ≤ a) → t j ≡ false
    go j x y (yes d) = let q : j ≡ a = omega arith in ap t q ∙ e
    go j x y (no d) = let g = lt_of_not-le d in (ih h).3 j (omega arith) y

at_from : (t : ℕ → Bool) (a k i : ℕ) → first_from t a k ≡ Some i → (a ≤ i) × (i < a + k) × (t i ≡ true) × ((j : ℕ) → a ≤ j → j < i → t j ≡ false)
unfolding first_from
at_from t a zero i h = absurd (let z : ◌≡◌ {A = ℕ} 0 1 = cc in omega arith)
at_from t a (suc k) i h = at-step t a k i (t a) refl h (at_from t (a + 1) k i)

pub first-at : (t : ℕ → Bool) (i n : ℕ) → first t n ≡ Some i → FirstAt t i n
unfolding first
first-at t i n h = let w = at_from t 0 n i h in record { below = omega arith; holds = w.2; before = λ j y. w.3 j (omega arith) y }
