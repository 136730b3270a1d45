-- Numbers in decimal digits.
use Rattle.std.specs.Prelude.{ℕ, ◌+◌, ◌*◌, ◌%◌, Bool, cond, ◌||◌, List, [], ◌∷◌, ltb}
use Rattle.parts.specs.Part.{parts_of}

abbrev pub no_digit : ℕ → Bool
no_digit b = ltb b 48 || ltb 57 b

-- a number with one digit more; the last 18 count
abbrev pub tacked : ℕ → ℕ → ℕ
tacked v b = (10 * v + b % 16) % 1000000000000000000

-- the number that the digits at the front spell, behind those that spell v
unfoldable pub number_from : ℕ → List ℕ → ℕ
number_from v [] = v
number_from v (x ∷ xs) = cond (no_digit x) v (number_from (tacked v x) xs)

abbrev pub number_in : List ℕ → ℕ
number_in s = number_from 0 s

-- a number of each part, at 32 bits
unfoldable pub each32 : List (List ℕ) → List ℕ
each32 [] = []
each32 (part ∷ parts) = number_in part % 4294967296 ∷ each32 parts

-- the numbers of a field, with a space between
abbrev pub field_numbers : List ℕ → List ℕ
field_numbers s = each32 (parts_of 32 s)
