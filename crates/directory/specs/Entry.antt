-- The calls that read one entry: each checks the index first, then asks what it is asked. Reference 8.2 to 8.4.
use Rattle.std.specs.Prelude.{ℕ, Bool, cond, ◌||◌, List, eqb, ltb, Result, Ok, Err}
use Rattle.limits.specs.Limits.{record_max}
use Rattle.refusal.specs.declared.Refusal.{Refusal}
use Rattle.refusal.specs.declared.Refusal.TheVariants.{EntryNumber, ProbeRange, NoWord}
use Rattle.list.specs.declared.probe.Probe.{Probe}
use Rattle.list.specs.Ginix.{below_count, overlap_count}
use Rattle.index.specs.Format.{word_count, word_start, word_length, list_of}
use Rattle.index.specs.Part.{Slice, part_of}
use Rattle.index.specs.Check.{check_of}
use Rattle.directory.specs.Standing.{standing_of}

-- Reference 8.2: the entry, or 21 with the number at which the bytes would stand
abbrev pub standing_answer : Result ℕ ℕ → Result ℕ Refusal
standing_answer (Ok i) = Ok i
standing_answer (Err place) = Err (NoWord place)

abbrev pub lookup_after : Result Unit Refusal → Result ℕ ℕ → Result ℕ Refusal
lookup_after (Err r) standing = Err r
lookup_after (Ok good) standing = standing_answer standing

-- Reference 8.2: the whole lookup
unfoldable pub lookup_of : List ℕ → List ℕ → Result ℕ Refusal
lookup_of index bytes = lookup_after (check_of index) (standing_of index bytes)

-- Reference 9.1, row 14: a call of one entry has no place to tell
abbrev pub entry_after : Result Unit Refusal → Bool → Result Unit Refusal
entry_after (Err r) below = Err r
entry_after (Ok good) below = cond below (Ok tt) (Err (EntryNumber 0))

-- Reference 8.3: the refusal or none
unfoldable pub entry_check : List ℕ → ℕ → Result Unit Refusal
entry_check index i = entry_after (check_of index) (ltb i (word_count index))

-- Reference 8.3: where the part starts and how long it is; both 0 where the call is refused
abbrev pub number_after : Result Unit Refusal → ℕ → ℕ
number_after (Ok good) n = n
number_after (Err r) n = 0

abbrev pub entry_start : List ℕ → ℕ → ℕ
entry_start index i = number_after (entry_check index i) (word_start index i)

abbrev pub entry_length : List ℕ → ℕ → ℕ
entry_length index i = number_after (entry_check index i) (word_length index i)

-- Reference 8.3: the part itself, of the index's own memory
abbrev pub entry_word : Slice → ℕ → Slice
entry_word index i = part_of (entry_start index.bytes i) (entry_length index.bytes i) index

-- Reference 9.1, row 20
unfoldable pub bad_range : ℕ → ℕ → Bool
bad_range a b = eqb a 0 || ltb b a || ltb record_max b

abbrev pub range_answer : Bool → ℕ → ℕ → Result Probe Refusal
range_answer bad below overlapping = cond bad (Err ProbeRange) (Ok (record { below = below; overlapping = overlapping }))

-- Reference 8.4: 20, then the two counts of a list
abbrev pub list_probed : List ℕ → ℕ → ℕ → Result Probe Refusal
list_probed c a b = range_answer (bad_range a b) (below_count a c) (overlap_count a b c)

abbrev pub probe_after : Result Unit Refusal → Result Probe Refusal → Result Probe Refusal
probe_after (Err r) counted = Err r
probe_after (Ok good) counted = counted

-- Reference 8.4: 14, then the probe of the entry's list
unfoldable pub probe_of : List ℕ → ℕ → ℕ → ℕ → Result Probe Refusal
probe_of index i a b = probe_after (entry_check index i) (list_probed (list_of index i) a b)
