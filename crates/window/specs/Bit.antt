-- The bits of a word as truth values.
use Rattle.std.specs.Prelude.{ℕ, zero, suc, ◌/◌, ◌%◌, ◌^◌, Bool, true, false}

-- a digit, 0 or 1, as a truth value
abbrev pub set? : ℕ → Bool
set? zero = false
set? (suc n) = true

-- whether bit i of w is set
unfoldable pub on : ℕ → ℕ → Bool
on w i = set? (w / 2 ^ i % 2)
