-- An entry of a sound index, and the three regions of its list in the index's own memory.
use Rattle.std.specs.Prelude.{◌≡◌, ℕ, ◌-◌, ◌≤◌, ◌<◌, List, length}
use Rattle.limits.specs.Limits.{record_max}
use Rattle.list.specs.declared.Place.{Place}
use Rattle.list.specs.declared.Kept.{Kept}
use Rattle.list.specs.Cell.{numbers_in}
use Rattle.list.specs.Seek.{Ascends}
use Rattle.list.specs.Reading.{KeptIn, reading_place}
use Rattle.index.specs.Format.{word_count, part, singles_of, lower_of, upper_of, entry_singles, entry_uppers}
use Rattle.index.specs.Sound.{Sound}
use Rattle.directory.specs.declared.parts.Regions.{Regions}

-- an entry of a sound index
pub record EntryIn (index : List ℕ) (i : ℕ) : Type 0 where
  pub sound : Sound index
  pub below : i < word_count index

-- the bytes between the marks, one region behind the other
abbrev pub singles_in : List ℕ → Regions → List ℕ
singles_in index r = part r.s (r.l - r.s) index

abbrev pub lower_in : List ℕ → Regions → List ℕ
lower_in index r = part r.l (r.u - r.l) index

abbrev pub upper_in : List ℕ → Regions → List ℕ
upper_in index r = part r.u (r.end - r.u) index

-- the marks stand in order within the index, and between them stand the regions of entry i, which keep the list rule
pub record RegionsOf (index : List ℕ) (i : ℕ) (r : Regions) : Type 0 where
  pub singles-first : r.s ≤ r.l
  pub lower-next : r.l ≤ r.u
  pub upper-last : r.u ≤ r.end
  pub within : r.end ≤ length index
  pub singles : singles_in index r ≡ singles_of index i
  pub lower : lower_in index r ≡ lower_of index i
  pub upper : upper_in index r ≡ upper_of index i
  pub paired : length (lower_in index r) ≡ length (upper_in index r)
  pub kept : KeptIn record_max (singles_in index r) (lower_in index r) (upper_in index r)
  pub singles-ascend : Ascends (numbers_in (singles_in index r))
  pub upper-ascend : Ascends (numbers_in (upper_in index r))

-- the marks of the list of some entry
pub record Marked (index : List ℕ) (r : Regions) : Type 0 where
  pub entry : ℕ
  pub regions : RegionsOf index entry r

-- a kept list in memory is that of entry i, and keeps the list rule
pub record KeptOf (index : List ℕ) (i : ℕ) (k : Kept) : Type 0 where
  pub singles : k.singles.now ≡ singles_of index i
  pub lower : k.lower.now ≡ lower_of index i
  pub upper : k.upper.now ≡ upper_of index i
  pub paired : length k.lower.now ≡ length k.upper.now
  pub kept : KeptIn record_max k.singles.now k.lower.now k.upper.now
  pub singles-ascend : Ascends (numbers_in k.singles.now)
  pub upper-ascend : Ascends (numbers_in k.upper.now)

-- where the list of entry i is read on for x: behind all that ends before x
abbrev pub list_place : List ℕ → ℕ → ℕ → Place
list_place index i x = reading_place x (entry_singles index i) (entry_uppers index i)
