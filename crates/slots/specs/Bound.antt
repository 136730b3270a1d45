-- How many intervals the lists of a question's words have together: its answer never has more.
use Rattle.std.specs.Prelude.{ℕ, zero, suc, ◌+◌, ◌*◌, cond, List, ltb}
use Rattle.list.specs.Interval.{intervals}
use Rattle.index.specs.Format.{word_count, list_of}
use Rattle.slots.specs.declared.row.Entries.{Entries}
use Rattle.slots.specs.Row.{entries_at}

-- of the list of an entry; a number that is no entry's has none
unfoldable pub entry_intervals : List ℕ → ℕ → ℕ
entry_intervals index i = cond (ltb i (word_count index)) (intervals (list_of index i)) 0

-- of the lists of the n entries from i on
unfoldable pub range_intervals : List ℕ → ℕ → ℕ → ℕ
range_intervals index i zero = 0
range_intervals index i (suc n) = entry_intervals index i + range_intervals index (i + 1) n

-- of those of the entries of a range
abbrev pub entries_intervals : List ℕ → Entries → ℕ
entries_intervals index e = range_intervals index e.first e.count

-- of the lists of slot k, in the main index and in the arrivals
unfoldable pub slot_intervals : List ℕ → List ℕ → List Entries → ℕ → ℕ
slot_intervals main arrivals slots k =
    entries_intervals main (entries_at slots (2 * k)) + entries_intervals arrivals (entries_at slots (2 * k + 1))

-- of the lists of the n slots from k on
unfoldable pub slots_intervals : List ℕ → List ℕ → List Entries → ℕ → ℕ → ℕ
slots_intervals main arrivals slots k zero = 0
slots_intervals main arrivals slots k (suc n) = slot_intervals main arrivals slots k + slots_intervals main arrivals slots (k + 1) n
