-- Laws of numbers: one digit at a time, and one number of a list at a time.
use mathlib.Core.Path.{◌≡◌, ap}
use mathlib.Core.Bool.{true, false}
use mathlib.Core.List.{List, [], ◌∷◌}
use Prim.Native.Nat.{ℕ, ◌+◌, ◌-◌, ◌%◌, ◌≤◌, ◌<◌}
use lib.ListN.{length, get_or, take, drop}
use Rattle.laws.proofs.Lists.{drop-next, drop-none}
use Rattle.parts.specs.Part.{part_length}
use Rattle.parts.proofs.PartLaws.{parts_from, parts_none}
use Rattle.script.specs.Number.{no_digit, tacked, number_from, number_in, each32, field_numbers}

pub number-on : (v : ℕ) (s : List ℕ) (i : ℕ) → i < length s → no_digit (get_or s i 0) ≡ false →
    number_from v (drop i s) ≡ number_from (tacked v (get_or s i 0)) (drop (i + 1) s)
unfolding number_from
number-on v s i h e = rw (drop-next s i h, e)

pub number-stop : (v : ℕ) (s : List ℕ) (i : ℕ) → i < length s → no_digit (get_or s i 0) ≡ true → number_from v (drop i s) ≡ v
unfolding number_from
number-stop v s i h e = rw (drop-next s i h, e)

pub number-end : (v : ℕ) (s : List ℕ) (i : ℕ) → length s ≤ i → number_from v (drop i s) ≡ v
unfolding number_from
number-end v s i h = rw (drop-none s i h)

-- the numbers from a place on, where the first ends at `end`
pub numbers-from : (s : List ℕ) (at end : ℕ) → at < length s → end ≡ at + part_length 32 (drop at s) →
    field_numbers (drop at s) ≡ number_in (take (end - at) (drop at s)) % 4294967296 ∷ field_numbers (drop (end + 1) s)
unfolding each32
numbers-from s at end h e = ap each32 (parts_from 32 s at end h e)

pub numbers-end : (s : List ℕ) (at : ℕ) → length s ≤ at → field_numbers (drop at s) ≡ []
unfolding each32
numbers-end s at h = ap each32 (parts_none 32 s at h)
