-- The wrong conversions, by the numbers 4, 5, and 4 with 6.
use Rattle.std.specs.Prelude.{None, Result, Option}
use Rattle.refusal.specs.declared.Refusal.{Refusal}
use Prim.Native.Nat.{ℕ, ◌/◌}
use native.Mathlib.Omega.{arith}
use mathlib.Core.Path.{◌≡◌, refl, sym, ap, ◌∙◌}
use mathlib.Core.Bool.{true}
use mathlib.Core.List.{List, [], ◌∷◌}
use lib.ListN.{length}
use Rattle.limits.specs.Limits.{record_max}
use Rattle.refusal.specs.declared.Refusal.TheVariants.{Number, Interval}
use Rattle.refusal.specs.First.{first_from, first}
use Rattle.list.specs.Outcome.{Outcome, left_by, written_of}
use Rattle.list.specs.Interval.{proper_from, is_proper, intervals, records}
use Rattle.list.specs.Stretches.{records_from}
use Rattle.convert.specs.Convert.{bad_number, bad_interval, conversion, bad_number_of, intervals_of, ToIntervals, bad_interval_of, numbers_of, ToNumbers}
use Rattle.convert.proofs.RunLaws.{runs_from, runs, runs-cells}
use Rattle.convert.proofs.SpanLaws.{spans, spans-records}
use Rattle.promises.specs.Wrong.{Fails, to_intervals, to_numbers, Refusing, Fixed, Silent, Inventing, Misreporting, written_refused, written_in, needed_by}
use Rattle.promises.proofs.Determined.{intervals-determined, numbers-determined}
use Rattle.promises.proofs.WrongLaws.{refusing-fails, fixed-fails, silent-fails, inventing-fails, misreporting-fails, differ-at}

-- what comes of numbers, by their first bad one and the list c
abbrev listed : Option ℕ → List ℕ → ℕ → Outcome
listed bad c room = conversion Number bad (intervals c) c room

to-intervals-known : (xs out : List ℕ) → bad_number_of xs ≡ None →
    ToIntervals xs out (left_by (listed None (runs xs) (length out / 2)) out) (written_of (intervals (runs xs)) (listed None (runs xs) (length out / 2)))
to-intervals-known xs out good =
    let room = length out / 2 in
    let c = intervals_of xs in
    let is = runs-cells record_max xs good in
    record {
      answer = ap (λ l. written_of (intervals l) (listed None l room)) is ∙ ap (λ g. written_of (intervals c) (listed g c room)) (sym good);
      cells = ap (λ l. left_by (listed None l room) out) is ∙ ap (λ g. left_by (listed g c room) out) (sym good);
    }

-- and of the cells c, by their first bad interval and the numbers xs
abbrev numbered : Option ℕ → List ℕ → List ℕ → ℕ → Outcome
numbered bad c xs room = conversion Interval bad (records c) xs room

to-numbers-known : (c out : List ℕ) → bad_interval_of c ≡ None → is_proper record_max c ≡ true →
    ToNumbers c out (left_by (numbered None c (spans c) (length out)) out) (written_of (records c) (numbered None c (spans c) (length out)))
to-numbers-known c out good proper =
    let room = length out in
    let is = spans-records record_max c proper in
    record {
      answer = ap (λ l. written_of (records c) (numbered None c l room)) is ∙ ap (λ g. written_of (records c) (numbered g c (numbers_of c) room)) (sym good);
      cells = ap (λ l. left_by (numbered None c l room) out) is ∙ ap (λ g. left_by (numbered g c (numbers_of c) room) out) (sym good);
    }

-- ---- numbers to intervals

pub to-intervals-refusing : Fails to_intervals (Refusing written_refused)
unfolding first_from first bad_number runs_from runs
to-intervals-refusing = refusing-fails intervals-determined written_refused (4 ∷ []) (0 ∷ 0 ∷ []) (to-intervals-known (4 ∷ []) (0 ∷ 0 ∷ []) refl) refl

pub to-intervals-fixed : Fails to_intervals (Fixed written_refused)
unfolding first_from first bad_number runs_from runs
to-intervals-fixed =
    fixed-fails intervals-determined written_refused (4 ∷ []) (5 ∷ []) (0 ∷ 0 ∷ []) (to-intervals-known (4 ∷ []) (0 ∷ 0 ∷ []) refl)
    (to-intervals-known (5 ∷ []) (0 ∷ 0 ∷ []) refl) refl refl (differ-at 0 (4 ∷ 4 ∷ []) (5 ∷ 5 ∷ []) (λ e. omega arith))

pub to-intervals-silent : Fails to_intervals (Silent written_refused)
unfolding first_from first bad_number runs_from runs
to-intervals-silent =
    silent-fails intervals-determined written_refused (4 ∷ []) (0 ∷ 0 ∷ []) (to-intervals-known (4 ∷ []) (0 ∷ 0 ∷ []) refl) refl
    (differ-at 0 (4 ∷ 4 ∷ []) (0 ∷ 0 ∷ []) (λ e. omega arith))

-- the count that is reported, and the room that is needed
pub to-intervals-inventing : Fails to_intervals (Inventing written_in)
unfolding first_from first bad_number runs_from runs
to-intervals-inventing =
    inventing-fails intervals-determined written_in (4 ∷ []) (4 ∷ 6 ∷ []) (0 ∷ 0 ∷ 0 ∷ 0 ∷ []) 1 2 (to-intervals-known (4 ∷ []) (0 ∷ 0 ∷ 0 ∷ 0 ∷ []) refl)
    (to-intervals-known (4 ∷ 6 ∷ []) (0 ∷ 0 ∷ 0 ∷ 0 ∷ []) refl) refl refl (λ e. omega arith)

pub to-intervals-inventing-room : Fails to_intervals (Inventing needed_by)
unfolding first_from first bad_number runs_from runs
to-intervals-inventing-room =
    inventing-fails intervals-determined needed_by (4 ∷ []) (4 ∷ 6 ∷ []) [] 1 2 (to-intervals-known (4 ∷ []) [] refl) (to-intervals-known (4 ∷ 6 ∷ []) [] refl)
    refl refl (λ e. omega arith)

pub to-intervals-misreporting : (number : Result ℕ Refusal → Option ℕ) → Fails to_intervals (Misreporting to_intervals number)
to-intervals-misreporting = misreporting-fails intervals-determined

-- ---- intervals to numbers

pub to-numbers-refusing : Fails to_numbers (Refusing written_refused)
unfolding first_from first bad_interval proper_from is_proper records spans records_from
to-numbers-refusing = refusing-fails numbers-determined written_refused (4 ∷ 4 ∷ []) (0 ∷ []) (to-numbers-known (4 ∷ 4 ∷ []) (0 ∷ []) refl refl) refl

pub to-numbers-fixed : Fails to_numbers (Fixed written_refused)
unfolding first_from first bad_interval proper_from is_proper records spans records_from
to-numbers-fixed =
    fixed-fails numbers-determined written_refused (4 ∷ 4 ∷ []) (5 ∷ 5 ∷ []) (0 ∷ []) (to-numbers-known (4 ∷ 4 ∷ []) (0 ∷ []) refl refl)
    (to-numbers-known (5 ∷ 5 ∷ []) (0 ∷ []) refl refl) refl refl (differ-at 0 (4 ∷ []) (5 ∷ []) (λ e. omega arith))

pub to-numbers-silent : Fails to_numbers (Silent written_refused)
unfolding first_from first bad_interval proper_from is_proper records spans records_from
to-numbers-silent =
    silent-fails numbers-determined written_refused (4 ∷ 4 ∷ []) (0 ∷ []) (to-numbers-known (4 ∷ 4 ∷ []) (0 ∷ []) refl refl) refl
    (differ-at 0 (4 ∷ []) (0 ∷ []) (λ e. omega arith))

-- the count that is reported, and the room that is needed
pub to-numbers-inventing : Fails to_numbers (Inventing written_in)
unfolding first_from first bad_interval proper_from is_proper records spans records_from
to-numbers-inventing =
    inventing-fails numbers-determined written_in (4 ∷ 4 ∷ []) (4 ∷ 5 ∷ []) (0 ∷ 0 ∷ []) 1 2 (to-numbers-known (4 ∷ 4 ∷ []) (0 ∷ 0 ∷ []) refl refl)
    (to-numbers-known (4 ∷ 5 ∷ []) (0 ∷ 0 ∷ []) refl refl) refl refl (λ e. omega arith)

pub to-numbers-inventing-room : Fails to_numbers (Inventing needed_by)
unfolding first_from first bad_interval proper_from is_proper records spans records_from
to-numbers-inventing-room =
    inventing-fails numbers-determined needed_by (4 ∷ 4 ∷ []) (4 ∷ 5 ∷ []) [] 1 2 (to-numbers-known (4 ∷ 4 ∷ []) [] refl refl)
    (to-numbers-known (4 ∷ 5 ∷ []) [] refl refl) refl refl (λ e. omega arith)

pub to-numbers-misreporting : (number : Result ℕ Refusal → Option ℕ) → Fails to_numbers (Misreporting to_numbers number)
to-numbers-misreporting = misreporting-fails numbers-determined
