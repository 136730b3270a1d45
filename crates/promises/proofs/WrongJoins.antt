-- The wrong joins, by the entries 0 (boats), 1 (harbour), 2 (maps) and 3 (tide) of the example's index.
use Rattle.std.specs.Prelude.{Result, Ok, Err, Option}
use Rattle.list.specs.declared.answer.Tally.{Tally}
use Rattle.refusal.specs.declared.Refusal.{Refusal}
use Prim.Native.Nat.{ℕ}
use native.Mathlib.Omega.{arith}
use mathlib.Core.Path.{◌≡◌, refl, ap, ◌∙◌}
use mathlib.Core.List.{List, [], ◌∷◌}
use Rattle.refusal.specs.First.{first_from, first}
use Rattle.refusal.specs.declared.Refusal.TheVariants.{Room}
use Rattle.list.specs.Interval.{proper_from, is_proper, names, records}
use Rattle.list.specs.Stretches.{stretches, cells_of}
use Rattle.list.specs.Ginix.{in_some, union_of, in_every, intersection_of}
use Rattle.list.specs.Cell.{numbers_in}
use Rattle.list.specs.Kept.{walk_from, walked}
use Rattle.list.specs.Sweeps.{Listing}
use Rattle.index.specs.Format.{entry_place, list_start, single_count, pair_count, singles_of, lower_of, upper_of, list_of}
use Rattle.merge.specs.Request.{lists_of}
use Rattle.join.specs.Join.{bad_list_count, bad_entry_number, entries_of, request_after, request_of, Joins}
use Rattle.join.proofs.AnswerLaws.{joins-asked}
use Rattle.promises.specs.Example.{example}
use Rattle.promises.specs.Outcome.{OneOutcome}
use Rattle.promises.specs.Table.{lent, tallied}
use Rattle.promises.specs.Wrong.{Fails, joins, Refusing, Fixed, Silent, FirstOnly, Inventing, Misreporting, answer_refused, first_entry}
use Rattle.promises.specs.Wrong.{intervals_in, records_in, needed_in}
use Rattle.promises.proofs.Determined.{joins-determined}
use Rattle.promises.proofs.ExampleLaws.{example-good}
use Rattle.promises.proofs.Table.{union-is, intersection-is}
use Rattle.promises.proofs.WrongLaws.{refusing-fails, fixed-fails, silent-fails, first-fails, inventing-fails, misreporting-fails, differ-at}

-- once the entries are good, the list that the method gives
joins-example : (method : List (List ℕ) → List ℕ) (entries out c : List ℕ) → entries_of example entries ≡ (Ok tt) → method (lists_of example entries) ≡ c →
    (out' : List ℕ) (r : Result Tally Refusal) → Listing c out out' r → Joins method example entries out out' r
unfolding request_of
joins-example method entries out c good is out' r l =
    let asked : request_of example entries ≡ (Ok tt) = ap (λ g. request_after g (entries_of example entries)) example-good ∙ good in
    let lists : Listing (method (lists_of example entries)) out out' r = rw is l in
    joins-asked method example entries asked lists

one : (method : List (List ℕ) → List ℕ) (a : List ℕ × List ℕ) (out : List ℕ) → OneOutcome (joins method a out)
one method a out = joins-determined method a.0 a.1 out

-- ---- the union

abbrev UnionOutcomes : Type 0
UnionOutcomes =
    Joins union_of example (0 ∷ 3 ∷ []) lent (2 ∷ 4 ∷ 8 ∷ 9 ∷ []) (tallied 2 5)
    × Joins union_of example (0 ∷ 2 ∷ []) lent (2 ∷ 9 ∷ 0 ∷ 0 ∷ []) (tallied 1 8)
    × Joins union_of example (0 ∷ []) lent (2 ∷ 4 ∷ 8 ∷ 8 ∷ []) (tallied 2 4)
    × Joins union_of example (0 ∷ 3 ∷ []) [] [] (Err (Room 2))
    × Joins union_of example (0 ∷ 2 ∷ []) [] [] (Err (Room 1))

union-outcomes : UnionOutcomes
unfolding first_from first proper_from is_proper names records stretches cells_of in_some numbers_in walk_from walked entry_place list_start single_count pair_count singles_of lower_of upper_of list_of bad_list_count bad_entry_number entries_of lists_of
union-outcomes = (
  joins-example union_of (0 ∷ 3 ∷ []) lent (2 ∷ 4 ∷ 8 ∷ 9 ∷ []) refl (union-is (lists_of example (0 ∷ 3 ∷ [])) (2 ∷ 4 ∷ 8 ∷ 9 ∷ []) (refl, (refl, tt)) refl)
      (2 ∷ 4 ∷ 8 ∷ 9 ∷ []) (tallied 2 5) (record { answer = refl; cells = refl }),
  joins-example union_of (0 ∷ 2 ∷ []) lent (2 ∷ 9 ∷ []) refl (union-is (lists_of example (0 ∷ 2 ∷ [])) (2 ∷ 9 ∷ []) (refl, (refl, tt)) refl) (2 ∷ 9 ∷ 0 ∷ 0 ∷ [])
      (tallied 1 8) (record { answer = refl; cells = refl }),
  joins-example union_of (0 ∷ []) lent (2 ∷ 4 ∷ 8 ∷ 8 ∷ []) refl (union-is (lists_of example (0 ∷ [])) (2 ∷ 4 ∷ 8 ∷ 8 ∷ []) (refl, tt) refl) (2 ∷ 4 ∷ 8 ∷ 8 ∷ [])
      (tallied 2 4) (record { answer = refl; cells = refl }),
  joins-example union_of (0 ∷ 3 ∷ []) [] (2 ∷ 4 ∷ 8 ∷ 9 ∷ []) refl (union-is (lists_of example (0 ∷ 3 ∷ [])) (2 ∷ 4 ∷ 8 ∷ 9 ∷ []) (refl, (refl, tt)) refl) []
      (Err (Room 2)) (record { answer = refl; cells = refl }),
  joins-example union_of (0 ∷ 2 ∷ []) [] (2 ∷ 9 ∷ []) refl (union-is (lists_of example (0 ∷ 2 ∷ [])) (2 ∷ 9 ∷ []) (refl, (refl, tt)) refl) []
      (Err (Room 1)) (record { answer = refl; cells = refl }),
)

pub union-refusing : Fails (joins union_of) (Refusing answer_refused)
union-refusing = refusing-fails (one union_of) answer_refused (example, 0 ∷ 3 ∷ []) lent union-outcomes.0 refl

pub union-fixed : Fails (joins union_of) (Fixed answer_refused)
union-fixed =
    fixed-fails (one union_of) answer_refused (example, 0 ∷ 3 ∷ []) (example, 0 ∷ 2 ∷ []) lent union-outcomes.0 union-outcomes.1 refl refl
    (differ-at 1 (2 ∷ 4 ∷ 8 ∷ 9 ∷ []) (2 ∷ 9 ∷ 0 ∷ 0 ∷ []) (λ e. omega arith))

pub union-silent : Fails (joins union_of) (Silent answer_refused)
union-silent = silent-fails (one union_of) answer_refused (example, 0 ∷ 3 ∷ []) lent union-outcomes.0 refl
    (differ-at 0 (2 ∷ 4 ∷ 8 ∷ 9 ∷ []) lent (λ e. omega arith))

pub union-first : Fails (joins union_of) (FirstOnly answer_refused first_entry)
union-first =
    first-fails (one union_of) answer_refused first_entry (example, 0 ∷ 3 ∷ []) lent union-outcomes.0 union-outcomes.2 refl refl
    (differ-at 3 (2 ∷ 4 ∷ 8 ∷ 9 ∷ []) (2 ∷ 4 ∷ 8 ∷ 8 ∷ []) (λ e. omega arith))

pub union-inventing-intervals : Fails (joins union_of) (Inventing intervals_in)
union-inventing-intervals = inventing-fails (one union_of) intervals_in (example, 0 ∷ 3 ∷ []) (example, 0 ∷ 2 ∷ []) lent 2 1 union-outcomes.0
    union-outcomes.1 refl refl (λ e. omega arith)

pub union-inventing-records : Fails (joins union_of) (Inventing records_in)
union-inventing-records = inventing-fails (one union_of) records_in (example, 0 ∷ 3 ∷ []) (example, 0 ∷ 2 ∷ []) lent 5 8 union-outcomes.0
    union-outcomes.1 refl refl (λ e. omega arith)

pub union-inventing-room : Fails (joins union_of) (Inventing needed_in)
union-inventing-room = inventing-fails (one union_of) needed_in (example, 0 ∷ 3 ∷ []) (example, 0 ∷ 2 ∷ []) [] 2 1 union-outcomes.3
    union-outcomes.4 refl refl (λ e. omega arith)

-- ---- the intersection

abbrev IntersectionOutcomes : Type 0
IntersectionOutcomes =
    Joins intersection_of example (0 ∷ 3 ∷ []) lent (3 ∷ 3 ∷ 8 ∷ 8 ∷ []) (tallied 2 2)
    × Joins intersection_of example (1 ∷ 3 ∷ []) lent (3 ∷ 3 ∷ 0 ∷ 0 ∷ []) (tallied 1 1)
    × Joins intersection_of example (0 ∷ []) lent (2 ∷ 4 ∷ 8 ∷ 8 ∷ []) (tallied 2 4)
    × Joins intersection_of example (0 ∷ 3 ∷ []) [] [] (Err (Room 2))
    × Joins intersection_of example (1 ∷ 3 ∷ []) [] [] (Err (Room 1))

intersection-outcomes : IntersectionOutcomes
unfolding first_from first proper_from is_proper names records stretches cells_of in_every numbers_in walk_from walked entry_place list_start single_count pair_count singles_of lower_of upper_of list_of bad_list_count bad_entry_number entries_of lists_of
intersection-outcomes = (
  joins-example intersection_of (0 ∷ 3 ∷ []) lent (3 ∷ 3 ∷ 8 ∷ 8 ∷ []) refl
      (intersection-is (list_of example 0) (lists_of example (3 ∷ [])) (3 ∷ 3 ∷ 8 ∷ 8 ∷ []) refl refl) (3 ∷ 3 ∷ 8 ∷ 8 ∷ []) (tallied 2 2) (record { answer = refl; cells = refl }),
  joins-example intersection_of (1 ∷ 3 ∷ []) lent (3 ∷ 3 ∷ []) refl (intersection-is (list_of example 1) (lists_of example (3 ∷ [])) (3 ∷ 3 ∷ []) refl refl)
      (3 ∷ 3 ∷ 0 ∷ 0 ∷ []) (tallied 1 1) (record { answer = refl; cells = refl }),
  joins-example intersection_of (0 ∷ []) lent (2 ∷ 4 ∷ 8 ∷ 8 ∷ []) refl (intersection-is (list_of example 0) (lists_of example []) (2 ∷ 4 ∷ 8 ∷ 8 ∷ []) refl refl)
      (2 ∷ 4 ∷ 8 ∷ 8 ∷ []) (tallied 2 4) (record { answer = refl; cells = refl }),
  joins-example intersection_of (0 ∷ 3 ∷ []) [] (3 ∷ 3 ∷ 8 ∷ 8 ∷ []) refl
      (intersection-is (list_of example 0) (lists_of example (3 ∷ [])) (3 ∷ 3 ∷ 8 ∷ 8 ∷ []) refl refl) [] (Err (Room 2)) (record { answer = refl; cells = refl }),
  joins-example intersection_of (1 ∷ 3 ∷ []) [] (3 ∷ 3 ∷ []) refl (intersection-is (list_of example 1) (lists_of example (3 ∷ [])) (3 ∷ 3 ∷ []) refl refl) []
      (Err (Room 1)) (record { answer = refl; cells = refl }),
)

pub intersection-refusing : Fails (joins intersection_of) (Refusing answer_refused)
intersection-refusing = refusing-fails (one intersection_of) answer_refused (example, 0 ∷ 3 ∷ []) lent intersection-outcomes.0 refl

pub intersection-fixed : Fails (joins intersection_of) (Fixed answer_refused)
intersection-fixed =
    fixed-fails (one intersection_of) answer_refused (example, 0 ∷ 3 ∷ []) (example, 1 ∷ 3 ∷ []) lent intersection-outcomes.0
    intersection-outcomes.1 refl refl
    (differ-at 2 (3 ∷ 3 ∷ 8 ∷ 8 ∷ []) (3 ∷ 3 ∷ 0 ∷ 0 ∷ []) (λ e. omega arith))

pub intersection-silent : Fails (joins intersection_of) (Silent answer_refused)
intersection-silent = silent-fails (one intersection_of) answer_refused (example, 0 ∷ 3 ∷ []) lent intersection-outcomes.0 refl
    (differ-at 0 (3 ∷ 3 ∷ 8 ∷ 8 ∷ []) lent (λ e. omega arith))

pub intersection-first : Fails (joins intersection_of) (FirstOnly answer_refused first_entry)
intersection-first =
    first-fails (one intersection_of) answer_refused first_entry (example, 0 ∷ 3 ∷ []) lent intersection-outcomes.0 intersection-outcomes.2 refl refl
    (differ-at 0 (3 ∷ 3 ∷ 8 ∷ 8 ∷ []) (2 ∷ 4 ∷ 8 ∷ 8 ∷ []) (λ e. omega arith))

pub intersection-inventing-intervals : Fails (joins intersection_of) (Inventing intervals_in)
intersection-inventing-intervals = inventing-fails (one intersection_of) intervals_in (example, 0 ∷ 3 ∷ []) (example, 1 ∷ 3 ∷ []) lent 2 1
    intersection-outcomes.0 intersection-outcomes.1 refl refl (λ e. omega arith)

pub intersection-inventing-records : Fails (joins intersection_of) (Inventing records_in)
intersection-inventing-records = inventing-fails (one intersection_of) records_in (example, 0 ∷ 3 ∷ []) (example, 1 ∷ 3 ∷ []) lent 2 1 intersection-outcomes.0
    intersection-outcomes.1 refl refl (λ e. omega arith)

pub intersection-inventing-room : Fails (joins intersection_of) (Inventing needed_in)
intersection-inventing-room = inventing-fails (one intersection_of) needed_in (example, 0 ∷ 3 ∷ []) (example, 1 ∷ 3 ∷ []) [] 2 1 intersection-outcomes.3
    intersection-outcomes.4 refl refl (λ e. omega arith)

-- ---- all joins

pub join-misreporting : (method : List (List ℕ) → List ℕ) (number : Result Tally Refusal → Option ℕ) → Fails (joins method) (Misreporting (joins method) number)
join-misreporting method = misreporting-fails (one method)
