-- A window: words of 64 bits, whose bits say of the records from a base on which are in.
use Rattle.std.specs.Prelude.{◌≡◌, ℕ, ◌+◌, ◌-◌, ◌*◌, ◌/◌, ◌%◌, ◌<◌, List, Bool, not, ◌&&◌, length, get_or}
use Rattle.list.specs.Stretches.{records_from}
use Rattle.window.specs.Bit.{on}

-- bit n of the words
unfoldable pub bit_at : List ℕ → ℕ → Bool
bit_at ws n = on (get_or ws (n / 64) 0) (n % 64)

-- whether record n is in, by a window whose first bit is record x
unfoldable pub member : List ℕ → ℕ → ℕ → Bool
member ws x n = bit_at ws (n - x)

-- the records of a window whose first bit is record x
abbrev pub members_of : List ℕ → ℕ → List ℕ
members_of ws x = records_from (member ws x) x (64 * length ws)

-- a window whose first bit is record x says of each of its records what p says
pub record Holds (p : ℕ → Bool) (x : ℕ) (ws : List ℕ) : Type 0 where
  pub each : (n : ℕ) → n < 64 * length ws → bit_at ws n ≡ p (x + n)

-- each bit of the word u is f of the bits of v and w
abbrev pub CombinedWord : (Bool → Bool → Bool) → ℕ → ℕ → ℕ → Type 0
CombinedWord f v w u = (i : ℕ) → on u i ≡ f (on v i) (on w i)

-- each bit of zs is f of the bits of xs and ys
pub record Combined (f : Bool → Bool → Bool) (xs ys zs : List ℕ) : Type 0 where
  pub long : length zs ≡ length xs
  pub bits : (n : ℕ) → n < 64 * length xs → bit_at zs n ≡ f (bit_at xs n) (bit_at ys n)

-- in the first and not in the second
abbrev pub without : Bool → Bool → Bool
without a b = a && not b
