-- The list of a test that can only change where one of other tests does has no more intervals than their lists together.
use mathlib.Core.Path.{◌≡◌, refl, sym}
use mathlib.Core.Logic.{◌⊎◌, inl, inr, ⊎_elim}
use Prim.Native.Nat.{ℕ, zero, suc, ◌+◌, ◌*◌, ◌≤◌, ◌<◌}
use native.Mathlib.Omega.{arith}
use mathlib.Core.Bool.{Bool, true, false}
use mathlib.Core.List.{List, [], ◌∷◌}
use lib.ListN.{length}
use Rattle.laws.proofs.Tests.{true-false}
use Rattle.list.specs.Interval.{intervals}
use Rattle.list.specs.Stretches.{turned, stretches, cells_of}
use Rattle.list.proofs.StretchLaws.{turned-length, cells-even}

-- no test changes from x to x + 1
abbrev pub Still : List (ℕ → Bool) → ℕ → Type 0
Still [] x = Unit {0}
Still (q ∷ qs) x = (q x ≡ q (x + 1)) × Still qs x

abbrev pub AllOut : List (ℕ → Bool) → ℕ → Type 0
AllOut [] x = Unit {0}
AllOut (q ∷ qs) x = (q x ≡ false) × AllOut qs x

-- how many intervals the tests' lists have together
unfoldable pub together : List (ℕ → Bool) → ℕ → ℕ
together [] n = 0
together (q ∷ qs) n = intervals (cells_of q n) + together qs n

-- ---- what the numbers behind w bring, each test as it stands at w

unfoldable ahead : List (ℕ → Bool) → ℕ → ℕ → ℕ
ahead [] w k = 0
ahead (q ∷ qs) w k = length (stretches q (q w) (w + 1) k) + ahead qs w k

-- a number at which a test changes brings a cell, and any other none
turned-still : (b v : Bool) (x : ℕ) (r : List ℕ) → b ≡ v → length (turned b v x r) ≡ length r
turned-still true true x r e = refl
turned-still true false x r e = true-false e
turned-still false true x r e = true-false (sym e)
turned-still false false x r e = refl

turned-either : (b v : Bool) (x : ℕ) (r : List ℕ) → ((b ≡ v) × (length (turned b v x r) ≡ length r)) ⊎ (length (turned b v x r) ≡ length r + 1)
turned-either false false x r = inl (refl, refl)
turned-either false true x r = inr (omega arith)
turned-either true false x r = inr (omega arith)
turned-either true true x r = inl (refl, refl)

ahead_step : (qs : List (ℕ → Bool)) (w k : ℕ) →
    (Still qs w × (ahead qs (w + 1) k ≤ ahead qs w (suc k))) ⊎ (ahead qs (w + 1) k + 1 ≤ ahead qs w (suc k))
unfolding ahead stretches
ahead_step [] w k = inl (tt, omega arith)
ahead_step (q ∷ qs) w k =
    let r = stretches q (q (w + 1)) (w + 1 + 1) k in
    ⊎_elim
    (λ h. ⊎_elim (λ g. inl ((h.0, g.0), omega arith)) (λ g. inr (omega arith)) (ahead_step qs w k))
    (λ h. ⊎_elim (λ g. inr (omega arith)) (λ g. inr (omega arith)) (ahead_step qs w k))
    (turned-either (q w) (q (w + 1)) (w + 1) r)

module _ (p : ℕ → Bool) (qs : List (ℕ → Bool)) (n : ℕ) (follows : (x : ℕ) → x < n → Still qs x → p x ≡ p (x + 1)) where
  ahead-bound : (w k : ℕ) → w + k ≤ n → length (stretches p (p w) (w + 1) k) ≤ ahead qs w k + 1
  unfolding stretches
  ahead-bound w zero h = omega (arith, turned-length (p w) false (w + 1) [])
  ahead-bound w (suc k) h =
      let r = stretches p (p (w + 1)) (w + 1 + 1) k in
      let ih = ahead-bound (w + 1) k (omega arith) in
      ⊎_elim
      (λ g. let e = turned-still (p w) (p (w + 1)) (w + 1) r (follows w (omega arith) g.0) in omega arith)
      (λ g. let e = turned-length (p w) (p (w + 1)) (w + 1) r in omega arith)
      (ahead_step qs w k)

ahead-together : (qs : List (ℕ → Bool)) (n : ℕ) → AllOut qs 0 → ahead qs 0 n ≡ 2 * together qs n
unfolding ahead together cells_of
ahead-together [] n o = refl
ahead-together (q ∷ qs) n o = let e = ahead-together qs n o.1 in let c = cells-even q n in rw o.0 (omega arith)

-- all begin with nothing in
pub cells-bound : (p : ℕ → Bool) (qs : List (ℕ → Bool)) (n : ℕ) → p 0 ≡ false → AllOut qs 0 →
    ((x : ℕ) → x < n → Still qs x → p x ≡ p (x + 1)) → intervals (cells_of p n) ≤ together qs n
unfolding cells_of
cells-bound p qs n e o f =
    let b : length (stretches p false 1 n) ≤ ahead qs 0 n + 1 = rw e at (ahead-bound p qs n f 0 n (omega arith)) in
    omega (arith, cells-even p n, ahead-together qs n o)
