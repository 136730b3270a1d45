-- What is never equal, from which anything follows.
use Prim.Native.Nat.{ℕ}
use native.Mathlib.Omega.{arith}
use mathlib.Core.Path.{◌≡◌}

pub zero_one : {A : Type 0} → ◌≡◌ {A = ℕ} 0 1 → A
zero_one z = absurd (omega arith)
