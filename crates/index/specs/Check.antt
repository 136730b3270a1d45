-- Reference 8.1 and 9.2: what a check answers, refusals 1 to 5 in their order.
use Rattle.std.specs.Prelude.{ℕ, Bool, cond, List, length, Option, Some, None, Result, Ok, Err}
use Rattle.refusal.specs.declared.Refusal.{Refusal}
use Rattle.refusal.specs.declared.Refusal.TheVariants.{IndexLength, IndexEdition, IndexTrailer, IndexEntry, IndexList}
use Rattle.refusal.specs.First.{first}
use Rattle.index.specs.Format.{word_count, edition}
use Rattle.index.specs.Sound.{bad_length, bad_edition, bad_trailer, bad_entry, bad_end, bad_list}

-- Reference 9.1, row 4: the first bad entry, or n
abbrev pub bad_place : Option ℕ → Bool → ℕ → Option ℕ
bad_place (Some i) ends n = Some i
bad_place None ends n = cond ends (Some n) None

abbrev pub bad_entry_of : List ℕ → Option ℕ
bad_entry_of index = bad_place (first (bad_entry index) (word_count index)) (bad_end index) (word_count index)

abbrev pub entries_answer : Option ℕ → Result Unit Refusal → Result Unit Refusal
entries_answer (Some i) next = Err (IndexEntry i)
entries_answer None next = next

-- Reference 9.1, row 5
abbrev pub bad_list_of : List ℕ → Option ℕ
bad_list_of index = first (bad_list index) (word_count index)

-- Reference 5.1: an index that breaks none of the rules is good
abbrev pub lists_answer : Option ℕ → Result Unit Refusal
lists_answer (Some i) = Err (IndexList i)
lists_answer None = Ok tt

-- Reference 9.2: 4, then 5
unfoldable pub contents_of : List ℕ → Result Unit Refusal
contents_of index = entries_answer (bad_entry_of index) (lists_answer (bad_list_of index))

-- Reference 9.2: the whole check
unfoldable pub check_of : List ℕ → Result Unit Refusal
check_of index =
    cond (bad_length index) (Err (IndexLength (length index)))
    (cond (bad_edition index) (Err (IndexEdition (edition index)))
    (cond (bad_trailer index) (Err IndexTrailer) (contents_of index)))
