-- A stretch of bits set in a window.
use Rattle.std.specs.Prelude.{◌≡◌, ℕ, ◌*◌, ◌<◌, List, Bool, ◌&&◌, ◌||◌, leb, ltb, length}
use Rattle.window.specs.Window.{bit_at}

-- whether n is from a on and below e
abbrev pub within : ℕ → ℕ → ℕ → Bool
within a e n = leb a n && ltb n e

-- ws is ws₀ with the bits from a to below e set
pub record Filled (ws₀ : List ℕ) (a e : ℕ) (ws : List ℕ) : Type 0 where
  pub long : length ws ≡ length ws₀
  pub bits : (n : ℕ) → n < 64 * length ws₀ → bit_at ws n ≡ bit_at ws₀ n || within a e n
