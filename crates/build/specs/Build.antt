-- Reference 8.9 and 9.2: what a build answers, and what it writes.
use Rattle.std.specs.Prelude.{ℕ, ◌≡◌, cond, List, leb, ltb, length, Option, Some, None, Result, Ok, Err}
use Rattle.limits.specs.Limits.{index_max, record_max}
use Rattle.refusal.specs.declared.Refusal.{Refusal}
use Rattle.refusal.specs.declared.Refusal.TheVariants.{BuildWord, BuildCount, BuildSize, Number, Room}
use Rattle.refusal.specs.First.{first}
use Rattle.list.specs.Outcome.{Outcome, writes, refused, left_by, written_of}
use Rattle.index.specs.Check.{bad_place}
use Rattle.build.specs.Lent.{lent_words, word_total, bad_lent, bad_count, bad_rest, bad_listed, lists_from}
use Rattle.layout.specs.Layout.{index_of}

-- Reference 9.1, row 17: the first bad word
abbrev pub bad_words : List ℕ → Option ℕ
bad_words words = first (bad_lent (lent_words words)) (word_total words)

-- Reference 9.1, row 18: the first bad count of so many words, or the word count, where so many numbers are lent
abbrev pub count_fault : List ℕ → ℕ → ℕ → Option ℕ
count_fault counts total words = bad_place (first (bad_count counts total) words) (bad_rest counts total words) words

abbrev pub bad_counts : List ℕ → List ℕ → List ℕ → Option ℕ
bad_counts words counts numbers = count_fault counts (length numbers) (length (lent_words words))

-- Reference 9.1, row 15: the first bad number among all, where there are so many words
abbrev pub number_fault : ℕ → List ℕ → ℕ → List ℕ → Option ℕ
number_fault n counts words numbers = first (bad_listed n counts words numbers) (length numbers)

abbrev pub bad_numbers : ℕ → List ℕ → List ℕ → List ℕ → Option ℕ
bad_numbers n words counts numbers = number_fault n counts (length (lent_words words)) numbers

-- Reference 9.2: a fault is refused, or what comes next is asked
abbrev pub fault_then : (ℕ → Refusal) → Option ℕ → Result Unit Refusal → Result Unit Refusal
fault_then refusal (Some i) next = Err (refusal i)
fault_then refusal None next = next

-- Reference 9.2: 19 with 0, 17, 18, 15, before the size is asked for
unfoldable pub lent_of : ℕ → List ℕ → List ℕ → List ℕ → Result Unit Refusal
lent_of n words counts numbers =
    cond (ltb record_max n) (Err (BuildSize 0))
    (fault_then BuildWord (bad_words words)
    (fault_then BuildCount (bad_counts words counts numbers)
    (fault_then Number (bad_numbers n words counts numbers) (Ok tt))))

-- Reference 9.2: 19 with 1, then 12, by the size of the index
abbrev pub size_outcome : List ℕ → ℕ → Outcome
size_outcome index room =
    cond (ltb index_max (length index)) (refused (BuildSize 1)) (cond (leb (length index) room) (writes index) (refused (Room (length index))))

-- Reference 9.2: what is lent is refused, or its size answers
abbrev pub after_lent : Result Unit Refusal → Outcome → Outcome
after_lent (Err r) next = refused r
after_lent (Ok u) next = next

-- Reference 8.9: the index that the arguments ask for
abbrev pub index_from : ℕ → List ℕ → List ℕ → List ℕ → List ℕ
index_from n words counts numbers = index_of n (lent_words words) (lists_from counts numbers)

-- Reference 8.9: what comes of a build
unfoldable pub build_outcome : ℕ → List ℕ → List ℕ → List ℕ → ℕ → Outcome
build_outcome n words counts numbers room = after_lent (lent_of n words counts numbers) (size_outcome (index_from n words counts numbers) room)

-- Reference 8.9: the promise of a build
pub record Builds (n : ℕ) (words counts numbers out out' : List ℕ) (r : Result ℕ Refusal) : Type 0 where
  pub answer : r ≡ written_of (length (index_from n words counts numbers)) (build_outcome n words counts numbers (length out))
  pub bytes : out' ≡ left_by (build_outcome n words counts numbers (length out)) out
