-- Numbers to intervals, and intervals to numbers: when each is refused, and what each writes. Reference 8.7 and 8.8.
use Rattle.std.specs.Prelude.{ℕ, zero, suc, ◌+◌, ◌*◌, ◌/◌, ◌≡◌, Bool, cond, ◌||◌, List, leb, ltb, length, get_or, Option, Some, None, Result}
use Rattle.limits.specs.Limits.{record_max}
use Rattle.refusal.specs.declared.Refusal.{Refusal}
use Rattle.refusal.specs.declared.Refusal.TheVariants.{Number, Interval, Room}
use Rattle.refusal.specs.First.{first}
use Rattle.list.specs.Interval.{names, intervals, records}
use Rattle.list.specs.Outcome.{Outcome, writes, refused, left_by, written_of}
use Rattle.list.specs.Among.{among}
use Rattle.list.specs.Stretches.{cells_of, records_of}

-- Reference 9.1, row 15: the number before place i, 0 before the first
abbrev pub number_before : List ℕ → ℕ → ℕ
number_before xs zero = 0
number_before xs (suc i) = get_or xs i 0

-- Reference 9.1, row 15: before the first number stands 0, so that one comparison refuses a 0 too
unfoldable pub bad_number : ℕ → List ℕ → ℕ → Bool
bad_number limit xs i = leb (get_or xs i 0) (number_before xs i) || ltb limit (get_or xs i 0)

-- Reference 3.1: the least l that interval i may have
abbrev pub least_lower : List ℕ → ℕ → ℕ
least_lower c zero = 1
least_lower c (suc i) = get_or c (2 * i + 1) 0 + 2

-- Reference 9.1, row 16: the first test is that of a last cell without a second
unfoldable pub bad_interval : List ℕ → ℕ → Bool
bad_interval c i =
    leb (length c) (2 * i + 1)
    || ltb (get_or c (2 * i) 0) (least_lower c i)
    || ltb (get_or c (2 * i + 1) 0) (get_or c (2 * i) 0)
    || ltb record_max (get_or c (2 * i + 1) 0)

-- Reference 9.2: a fault first, then 12 with what is needed; else c is written
abbrev pub conversion : (ℕ → Refusal) → Option ℕ → ℕ → List ℕ → ℕ → Outcome
conversion refusal (Some i) needed c room = refused (refusal i)
conversion refusal None needed c room = cond (leb needed room) (writes c) (refused (Room needed))

-- Reference 9.2: 15, with the limit of all record numbers
abbrev pub bad_number_of : List ℕ → Option ℕ
bad_number_of xs = first (bad_number record_max xs) (length xs)

-- Reference 8.7: the list to write
abbrev pub intervals_of : List ℕ → List ℕ
intervals_of xs = cells_of (among xs) record_max

-- Reference 8.7: the room is half of the cells
pub record ToIntervals (xs out out' : List ℕ) (r : Result ℕ Refusal) : Type 0 where
  pub answer : r ≡ written_of (intervals (intervals_of xs)) (conversion Number (bad_number_of xs) (intervals (intervals_of xs)) (intervals_of xs) (length out / 2))
  pub cells : out' ≡ left_by (conversion Number (bad_number_of xs) (intervals (intervals_of xs)) (intervals_of xs) (length out / 2)) out

-- Reference 9.2: 16; a last cell without a second counts as an interval
abbrev pub bad_interval_of : List ℕ → Option ℕ
bad_interval_of c = first (bad_interval c) ((length c + 1) / 2)

-- Reference 8.8: the numbers to write
abbrev pub numbers_of : List ℕ → List ℕ
numbers_of c = records_of (names c) record_max

-- Reference 8.8: the room is all of the cells
pub record ToNumbers (c out out' : List ℕ) (r : Result ℕ Refusal) : Type 0 where
  pub answer : r ≡ written_of (records c) (conversion Interval (bad_interval_of c) (records c) (numbers_of c) (length out))
  pub cells : out' ≡ left_by (conversion Interval (bad_interval_of c) (records c) (numbers_of c) (length out)) out
