-- What is laid where: the counts of a list, an interval, and a word with its list.
use Rattle.std.specs.Prelude.{ℕ, ◌+◌, ◌*◌, ◌≤◌, ◌≡◌, Bool, true, false, List, length}
use Rattle.std.proofs.lemmas.List.Edits.{sets}
use Rattle.limits.specs.Limits.{index_max}
use Rattle.convert.specs.Convert.{intervals_of}
use Rattle.layout.specs.declared.size.ListCounts.{ListCounts}
use Rattle.layout.specs.declared.kept.Places.{Places}
use Rattle.layout.specs.declared.entry.Spots.{Spots}
use Rattle.layout.specs.Layout.{cell_bytes, cell_singles, cell_lowers, kept_bytes, entry_bytes}

-- Reference 3.4: how many singles and pairs the numbers make, in no more cells than there are numbers
pub record ListCountsOf (numbers : List ℕ) (k : ListCounts) : Type 0 where
  pub singles : k.singles ≡ length (cell_singles (intervals_of numbers))
  pub pairs : k.pairs ≡ length (cell_lowers (intervals_of numbers))
  pub most : k.singles + 2 * k.pairs ≤ length numbers

-- an interval written where the next of its kind belongs: a single, or a lower and an upper bound
abbrev pub laid : Bool → List ℕ → Places → ℕ → ℕ → List ℕ
laid true out at l u = sets out at.single (cell_bytes l)
laid false out at l u = sets (sets out at.lower (cell_bytes l)) at.upper (cell_bytes u)

-- where those behind it belong
abbrev pub laid_to : Bool → Places → Places
laid_to true at = record { single = at.single + 4; lower = at.lower; upper = at.upper }
laid_to false at = record { single = at.single; lower = at.lower + 4; upper = at.upper + 4 }

-- there is a place for the interval
abbrev pub LaidWithin : Bool → Places → ℕ → Type 0
LaidWithin true at room = at.single + 4 ≤ room
LaidWithin false at room = (at.lower + 4 ≤ room) × (at.upper + 4 ≤ room)

-- a word with its list: the list, the word's bytes and the entry, each at its place
abbrev pub entered : List ℕ → Spots → List ℕ → List ℕ → List ℕ
entered out at word c = sets (sets (sets out at.list (kept_bytes c)) at.word word) at.entry (entry_bytes at.word word at.list c)

-- where there is room for them
pub record EnteredWithin (at : Spots) (word c : List ℕ) (room : ℕ) : Type 0 where
  pub list : at.list + length (kept_bytes c) ≤ at.word
  pub bytes : at.word + length word ≤ at.entry
  pub entry : at.entry + 20 ≤ room
  pub small : at.entry ≤ index_max

-- where those of the next word belong
abbrev pub entered_to : Spots → List ℕ → List ℕ → Spots
entered_to at word c = record { list = at.list + length (kept_bytes c); word = at.word + length word; entry = at.entry + 20 }
