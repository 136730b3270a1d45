-- The row of a question: two ranges of entries for each slot, one in the main index and one in the arrivals, the sense that is kept of each slot, and the
-- hints, where lists were read last.
use Rattle.std.specs.Prelude.{ℕ, ◌+◌, ◌*◌, ◌≤◌, ◌≡◌, Bool, false, List, get_or}
use Rattle.limits.specs.Limits.{question_words_max, record_max}
use Rattle.list.specs.declared.sense.Sense.{Sense}
use Rattle.slots.specs.declared.row.Entries.{Entries}
use Rattle.slots.specs.declared.row.Row.{Row}

abbrev pub hints_max : ℕ
hints_max = 2 * question_words_max

-- ---- a range: slot k has 2 * k in the main index and 2 * k + 1 in the arrivals

-- a range of none
abbrev pub no_entries : Entries
no_entries = record { first = 0; count = 0; regions = record { s = 0; l = 0; u = 0; end = 0 } }

abbrev pub entries_at : List Entries → ℕ → Entries
entries_at ranges j = get_or ranges j no_entries

-- no slot has entries
abbrev pub Blank : List Entries → Type 0
Blank ranges = (j : ℕ) → entries_at ranges j ≡ no_entries

-- ---- a sense

-- one that says nothing
abbrev pub no_sense : Sense
no_sense = record { inside = false; until = 0 }

abbrev pub until_of : List Sense → ℕ → ℕ
until_of senses k = (get_or senses k no_sense).until

abbrev pub inside_of : List Sense → ℕ → Bool
inside_of senses k = (get_or senses k no_sense).inside

-- none holds longer than there are records
abbrev pub NearEnd : List Sense → Type 0
NearEnd senses = (k : ℕ) → until_of senses k ≤ record_max + 1

-- ---- what a call leaves of the row

-- the slots have what they had
pub record SlotsStay (row row' : Row) : Type 0 where
  pub slots : row'.ranges ≡ row.ranges

-- hints are moved, and all else stays
pub record HintsMoved (row row' : Row) : Type 0 where
  pub stay : SlotsStay row row'
  pub senses : row'.senses ≡ row.senses
