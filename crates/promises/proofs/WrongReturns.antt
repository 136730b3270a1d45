-- The wrong ways of the calls that write nothing, by the example's index, which is good and has `boats` as its entry 0.
use Rattle.std.specs.Prelude.{Result, Ok, Err}
use Rattle.list.specs.declared.probe.Probe.{Probe}
use Rattle.refusal.specs.declared.Refusal.{Refusal}
use Prim.Native.Nat.{ℕ}
use native.Mathlib.Omega.{arith}
use mathlib.Core.Path.{◌≡◌, refl, ap}
use mathlib.Core.Bool.{true, false}
use mathlib.Core.List.{[]}
use Rattle.refusal.specs.declared.Refusal.TheVariants.{NoWord}
use Rattle.word.specs.Word.{is_word_byte, same, before, small_letter, small_operator_of, operator_of}
use Rattle.refusal.specs.First.{first_from, first}
use Rattle.list.specs.Ginix.{below_count, overlap_count}
use Rattle.list.specs.Cell.{numbers_in}
use Rattle.list.specs.Kept.{walk_from, walked}
use Rattle.index.specs.Format.{entry_place, word_start, word_length, list_start, single_count, pair_count, part, word_of, singles_of, lower_of, upper_of, list_of}
use Rattle.index.specs.Check.{check_of}
use Rattle.directory.specs.Standing.{below_within, word_place, standing_of}
use Rattle.directory.specs.Entry.{lookup_after, lookup_of, entry_after, entry_check, number_after, bad_range, range_answer, probe_after, probe_of}
use Rattle.question.specs.Token.{run, gather, tokens_at, tokens}
use Rattle.question.specs.Grammar.{from_left, question, operand, links, whole}
use Rattle.question.specs.Reading.{is_foreign, refusal_of, parsed, asked, verdict_of}
use Rattle.promises.specs.Example.{boats, pier, example}
use Rattle.promises.specs.Wrong.{FailsToBe, RefusingAll, InventingAll, lookup, entry, word, probe, reads, check_refused, lookup_refused, word_refused}
use Rattle.promises.specs.Wrong.{part_refused, probe_refused, verdict_refused, place_in, below_in, overlapping_in}
use Rattle.promises.proofs.ExampleLaws.{example-good}
use Rattle.promises.proofs.WrongLaws.{refusing-all-fails, inventing-all-fails}

pub check-refusing : FailsToBe check_of (RefusingAll check_refused)
check-refusing = refusing-all-fails check_of check_refused example (ap check_refused example-good)

pub lookup-refusing : FailsToBe lookup (RefusingAll lookup_refused)
unfolding same first_from first entry_place word_start word_length word_of standing_of lookup_of
lookup-refusing = refusing-all-fails lookup lookup_refused (example, boats) (ap (λ g. lookup_refused (lookup_after g (Ok 0))) example-good)

-- no bytes stand before all words, and `pier` behind `maps`
abbrev Places : Type 0
Places = (lookup (example, []) ≡ Err (NoWord 0)) × (lookup (example, pier) ≡ Err (NoWord 3))

places : Places
unfolding same before first_from first entry_place word_start word_length word_of below_within word_place standing_of lookup_of
places = (
  ap (λ g. lookup_after g (Err 0)) example-good,
  ap (λ g. lookup_after g (Err 3)) example-good,
)

pub lookup-inventing-place : FailsToBe lookup (InventingAll place_in)
lookup-inventing-place =
    inventing-all-fails lookup place_in (example, []) (example, pier) 0 3 (ap place_in places.0) (ap place_in places.1) (λ e. omega arith)

abbrev pub counted : ℕ → ℕ → Result Probe Refusal
counted below overlapping = Ok (record { below = below; overlapping = overlapping })

entry-good : entry_check example 0 ≡ (Ok tt)
unfolding entry_check
entry-good = ap (λ g. entry_after g true) example-good

pub entry-refusing : FailsToBe entry (RefusingAll check_refused)
entry-refusing = refusing-all-fails entry check_refused (example, 0) (ap check_refused entry-good)

pub word-refusing : FailsToBe word (RefusingAll part_refused)
unfolding entry_place word_start word_length
word-refusing =
    refusing-all-fails word part_refused (record { memory = 0; place = 0; bytes = example }, 0)
    (ap (λ g. word_refused (part (number_after g (word_start example 0)) (number_after g (word_length example 0)) example)) entry-good)

pub probe-refusing : FailsToBe probe (RefusingAll probe_refused)
unfolding bad_range probe_of
probe-refusing =
    refusing-all-fails probe probe_refused (example, 0, 1, 9)
    (ap (λ g. probe_refused (probe_after g (range_answer false (below_count 1 (list_of example 0)) (overlap_count 1 9 (list_of example 0))))) entry-good)

-- two probes of `boats`, 2-4 and 8-8: nothing lies below 1, and 2-4 lies below 5
abbrev Counts : Type 0
Counts = (probe (example, 0, 1, 9) ≡ counted 0 2) × (probe (example, 0, 5, 9) ≡ counted 1 1)

counts : Counts
unfolding numbers_in walk_from walked entry_place list_start single_count pair_count singles_of lower_of upper_of list_of below_count overlap_count bad_range probe_of
counts = (
  ap (λ g. probe_after g (counted 0 2)) entry-good,
  ap (λ g. probe_after g (counted 1 1)) entry-good,
)

pub probe-inventing-below : FailsToBe probe (InventingAll below_in)
probe-inventing-below =
    inventing-all-fails probe below_in (example, 0, 1, 9) (example, 0, 5, 9) 0 1 (ap below_in counts.0) (ap below_in counts.1) (λ e. omega arith)

pub probe-inventing-overlapping : FailsToBe probe (InventingAll overlapping_in)
probe-inventing-overlapping =
    inventing-all-fails probe overlapping_in (example, 0, 1, 9) (example, 0, 5, 9) 2 1 (ap overlapping_in counts.0) (ap overlapping_in counts.1)
    (λ e. omega arith)

pub reading-refusing : FailsToBe reads (RefusingAll verdict_refused)
unfolding is_word_byte same small_letter small_operator_of operator_of first_from first run gather tokens_at tokens from_left question operand links whole is_foreign refusal_of parsed asked verdict_of
reading-refusing = refusing-all-fails reads verdict_refused (1, boats) refl
