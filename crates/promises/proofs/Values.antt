-- What is a refusal, what is the first alone, and which number is which: each at values where one could be taken for another.
use Rattle.std.specs.Prelude.{Ok, Err, None, Some}
use mathlib.Core.Path.{◌≡◌, refl}
use mathlib.Core.Bool.{true, false}
use mathlib.Core.List.{[], ◌∷◌, ◌++◌}
use Rattle.refusal.specs.declared.Refusal.TheVariants.{Grammar, Room, Number, ProbeRange, NoWord}
use Rattle.word.specs.Word.{is_word_byte, same, small_letter, small_operator_of, operator_of}
use Rattle.question.specs.Token.{run, gather, tokens_at, tokens}
use Rattle.question.specs.Limits.{token_words}
use Rattle.promises.specs.Example.{boats, tide, or'}
use Rattle.promises.specs.Table.{tallied}
use Rattle.promises.specs.Wrong.{written_refused, answer_refused, check_refused, lookup_refused, word_refused, probe_refused, verdict_refused}
use Rattle.promises.specs.Wrong.{first_entry, first_word, first_built, intervals_in, records_in, needed_in, written_in, needed_by, place_in, below_in}
use Rattle.promises.specs.Wrong.{overlapping_in}
use Rattle.promises.specs.Made.{with_intervals, with_records, with_needed, with_written, with_needed_by, with_place, with_below, with_overlapping}
use Rattle.promises.proofs.WrongReturns.{counted}

-- nothing written, listed or counted is an answer too, and so is entry 0
pub answers-told :
    (written_refused (Ok 0) ≡ false)
    × (answer_refused (tallied 0 0) ≡ false)
    × (check_refused (Ok tt) ≡ false)
    × (lookup_refused (Ok 0) ≡ false)
    × (word_refused boats ≡ false)
    × (probe_refused (counted 0 0) ≡ false)
    × (verdict_refused (Ok 1) ≡ false)
answers-told = (refl, refl, refl, refl, refl, refl, refl)

pub refusals-told :
    (written_refused (Err (Room 0)) ≡ true)
    × (answer_refused (Err (Room 0)) ≡ true)
    × (check_refused (Err ProbeRange) ≡ true)
    × (lookup_refused (Err (NoWord 0)) ≡ true)
    × (word_refused [] ≡ true)
    × (probe_refused (Err ProbeRange) ≡ true)
    × (verdict_refused (Err (Grammar 0)) ≡ true)
refusals-told = (refl, refl, refl, refl, refl, refl, refl)

-- `boats or tide`, ` boats`, `(boats) or tide`, `((boats or tide))`, `or boats`, and a question with no word
pub first-words :
    (first_word ([], 1, boats ++ or' ++ tide) ≡ ([], 1, boats))
    × (first_word ([], 1, 32 ∷ boats) ≡ ([], 1, boats))
    × (first_word ([], 1, 40 ∷ boats ++ 41 ∷ or' ++ tide) ≡ ([], 1, boats))
    × (first_word ([], 1, 40 ∷ 40 ∷ boats ++ or' ++ tide ++ 41 ∷ 41 ∷ []) ≡ ([], 1, boats))
    × (first_word ([], 1, or' ++ boats) ≡ ([], 1, boats))
    × (first_word (boats, 2, 40 ∷ 41 ∷ []) ≡ (boats, 2, []))
unfolding is_word_byte same small_letter small_operator_of operator_of gather tokens_at tokens token_words
first-words = (refl, refl, refl, refl, refl, refl)

pub first-entries : (first_entry (boats, 3 ∷ 0 ∷ 1 ∷ []) ≡ (boats, 3 ∷ [])) × (first_entry (boats, []) ≡ (boats, []))
first-entries = (refl, refl)

-- `boats` and `tide` with two numbers and one
pub first-builts : first_built (9, boats ++ 10 ∷ tide ++ 10 ∷ [], 2 ∷ 1 ∷ [], 3 ∷ 4 ∷ 5 ∷ []) ≡ (9, boats ++ 10 ∷ [], 2 ∷ [], 3 ∷ 4 ∷ [])
unfolding is_word_byte run
first-builts = refl

pub counts-told :
    (intervals_in (tallied 2 5) ≡ Some 2)
    × (records_in (tallied 2 5) ≡ Some 5)
    × (needed_in (tallied 2 5) ≡ None)
    × (intervals_in (Err (Room 7)) ≡ None)
    × (records_in (Err (Room 7)) ≡ None)
    × (needed_in (Err (Room 7)) ≡ Some 7)
    × (needed_in (Err (Grammar 7)) ≡ None)
counts-told = (refl, refl, refl, refl, refl, refl, refl)

pub written-told :
    (written_in (Ok 5) ≡ Some 5)
    × (needed_by (Ok 5) ≡ None)
    × (written_in (Err (Room 7)) ≡ None)
    × (needed_by (Err (Room 7)) ≡ Some 7)
    × (needed_by (Err (Number 7)) ≡ None)
written-told = (refl, refl, refl, refl, refl)

pub places-told :
    (place_in (Ok 5) ≡ None)
    × (place_in (Err (NoWord 5)) ≡ Some 5)
    × (place_in (Err (Room 5)) ≡ None)
places-told = (refl, refl, refl)

pub probes-told :
    (below_in (counted 1 2) ≡ Some 1)
    × (overlapping_in (counted 1 2) ≡ Some 2)
    × (below_in (Err ProbeRange) ≡ None)
    × (overlapping_in (Err ProbeRange) ≡ None)
probes-told = (refl, refl, refl, refl)

-- one number alone is another, and a refusal stays what it is, but for the room that 12 reports
pub others-kept :
    (with_intervals 7 (tallied 2 5) ≡ tallied 7 5)
    × (with_records 7 (tallied 2 5) ≡ tallied 2 7)
    × (with_needed 7 (tallied 2 5) ≡ tallied 2 5)
    × (with_intervals 7 (Err (Room 2)) ≡ Err (Room 2))
    × (with_records 7 (Err (Room 2)) ≡ Err (Room 2))
    × (with_needed 7 (Err (Room 2)) ≡ Err (Room 7))
    × (with_needed 7 (Err (Grammar 2)) ≡ Err (Grammar 2))
others-kept = (refl, refl, refl, refl, refl, refl, refl)

pub others-written :
    (with_written 7 (Ok 5) ≡ Ok 7)
    × (with_needed_by 7 (Ok 5) ≡ Ok 5)
    × (with_written 7 (Err (Room 2)) ≡ Err (Room 2))
    × (with_needed_by 7 (Err (Room 2)) ≡ Err (Room 7))
    × (with_needed_by 7 (Err (Number 2)) ≡ Err (Number 2))
others-written = (refl, refl, refl, refl, refl)

pub others-placed :
    (with_place 7 (Ok 5) ≡ Ok 5)
    × (with_place 7 (Err (NoWord 5)) ≡ Err (NoWord 7))
    × (with_place 7 (Err (Room 5)) ≡ Err (Room 5))
others-placed = (refl, refl, refl)

pub others-counted :
    (with_below 7 (counted 1 2) ≡ counted 7 2)
    × (with_overlapping 7 (counted 1 2) ≡ counted 1 7)
    × (with_below 7 (Err ProbeRange) ≡ Err ProbeRange)
    × (with_overlapping 7 (Err ProbeRange) ≡ Err ProbeRange)
others-counted = (refl, refl, refl, refl)
