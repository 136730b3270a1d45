-- What a slot has: the records that its entries have, in either of two indexes.
use Rattle.std.specs.Prelude.{ℕ, zero, suc, ◌+◌, ◌*◌, ◌≤◌, ◌<◌, Bool, false, cond, ◌||◌, List, eqb, ltb}
use Rattle.list.specs.Interval.{names}
use Rattle.index.specs.Format.{word_count, list_of}
use Rattle.index.specs.Sound.{Sound}
use Rattle.directory.specs.Regions.{RegionsOf}
use Rattle.slots.specs.declared.row.Entries.{Entries}
use Rattle.slots.specs.declared.row.Row.{Row}
use Rattle.slots.specs.Row.{entries_at}

-- whether record x is in the list of an entry; a number that is no entry's has none
abbrev pub entry_has : List ℕ → ℕ → ℕ → Bool
entry_has index e x = cond (ltb e (word_count index)) (names (list_of index e) x) false

-- whether it is in that of one of the n entries from i on
unfoldable pub in_entries : List ℕ → ℕ → ℕ → ℕ → Bool
in_entries index i zero x = false
in_entries index i (suc n) x = entry_has index i x || in_entries index (i + 1) n x

-- whether it is in that of one of the entries of a range
abbrev pub entries_have : List ℕ → Entries → ℕ → Bool
entries_have index e x = in_entries index e.first e.count x

-- the index of a slot's half: 0 is the main one, 1 the arrivals
abbrev pub half_of : List ℕ → List ℕ → ℕ → List ℕ
half_of main arrivals half = cond (eqb half 0) main arrivals

-- whether the word of slot k stands in record x, by the entries that the slot has in the main index and in the arrivals
unfoldable pub slot_has : List ℕ → List ℕ → List Entries → ℕ → ℕ → Bool
slot_has main arrivals slots k x =
    entries_have main (entries_at slots (2 * k)) x || entries_have arrivals (entries_at slots (2 * k + 1)) x

-- what the slots of a row have
abbrev pub having : List ℕ → List ℕ → Row → ℕ → ℕ → Bool
having main arrivals row = slot_has main arrivals row.ranges

-- a range is one of an index: it ends there, and has the marks of its first list
pub record EntriesIn (index : List ℕ) (e : Entries) : Type 0 where
  pub within : e.first + e.count ≤ word_count index
  pub marked : 1 ≤ e.count → RegionsOf index e.first e.regions

-- what slots are read by: two sound indexes, and a row whose ranges are of these
pub record ReadBy (main arrivals : List ℕ) (row : Row) : Type 0 where
  pub main-sound : Sound main
  pub arrivals-sound : Sound arrivals
  pub ranges : (k half : ℕ) → half < 2 → EntriesIn (half_of main arrivals half) (entries_at row.ranges (2 * k + half))
