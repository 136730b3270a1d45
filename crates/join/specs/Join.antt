-- Reference 8.5 and 9.2: what a join answers, and what it writes.
use Rattle.std.specs.Prelude.{ℕ, ◌/◌, Bool, cond, ◌||◌, List, Option, Some, None, Result, Ok, Err, eqb, leb, ltb, length, get_or}
use Rattle.limits.specs.Limits.{join_max}
use Rattle.refusal.specs.declared.Refusal.{Refusal}
use Rattle.refusal.specs.declared.Refusal.TheVariants.{Lists, EntryNumber}
use Rattle.refusal.specs.First.{first}
use Rattle.list.specs.declared.answer.Tally.{Tally}
use Rattle.list.specs.Outcome.{Outcome, refused}
use Rattle.list.specs.Answer.{in_room, Gives}
use Rattle.index.specs.Format.{word_count}
use Rattle.index.specs.Check.{check_of}
use Rattle.merge.specs.Request.{lists_of}

-- Reference 9.1, row 13
unfoldable pub bad_list_count : List ℕ → Bool
bad_list_count entries = eqb (length entries) 0 || ltb join_max (length entries)

-- Reference 9.1, row 14: whether the entry number at place i is bad
unfoldable pub bad_entry_number : List ℕ → List ℕ → ℕ → Bool
bad_entry_number index entries i = leb (word_count index) (get_or entries i 0)

abbrev pub entries_after : Option ℕ → Result Unit Refusal
entries_after (Some i) = Err (EntryNumber i)
entries_after None = Ok tt

-- Reference 9.2: 13, then 14
unfoldable pub entries_of : List ℕ → List ℕ → Result Unit Refusal
entries_of index entries =
    cond (bad_list_count entries) (Err (Lists (length entries))) (entries_after (first (bad_entry_number index entries) (length entries)))

abbrev pub request_after : Result Unit Refusal → Result Unit Refusal → Result Unit Refusal
request_after (Err r) next = Err r
request_after (Ok _) next = next

-- Reference 9.2: whether the request may be answered, 1 to 5, 13, 14
unfoldable pub request_of : List ℕ → List ℕ → Result Unit Refusal
request_of index entries = request_after (check_of index) (entries_of index entries)

-- Reference 9.2: then 12, or the list
abbrev pub join_outcome : Result Unit Refusal → List ℕ → ℕ → Outcome
join_outcome (Err r) c room = refused r
join_outcome (Ok _) c room = in_room room c

-- Reference 8.5: the promise of a join, where `method` is the union or the intersection
abbrev pub Joins : (List (List ℕ) → List ℕ) → List ℕ → List ℕ → List ℕ → List ℕ → Result Tally Refusal → Type 0
Joins method index entries out out' r = Gives (join_outcome (request_of index entries) (method (lists_of index entries)) (length out / 2)) out out' r
