-- Reference 11: for each promise an implementation that meets it, and what becomes of one that is made wrong in one way only.
use Rattle.std.specs.Prelude.{Result, Ok, Err, Option}
use Rattle.list.specs.declared.answer.Tally.{Tally}
use Rattle.list.specs.declared.probe.Probe.{Probe}
use Rattle.std.specs.Prelude.{ℕ, ◌/◌, Bool, true, cond, List, ◌≡◌, eqb, length}
use Rattle.refusal.specs.declared.Refusal.{Refusal}
use Rattle.refusal.specs.declared.Refusal.TheVariants.{Number, Interval, Room, NoWord}
use Rattle.refusal.specs.Refusal.{number_of}
use Rattle.list.specs.Interval.{intervals, records}
use Rattle.list.specs.Outcome.{left_by, written_of}
use Rattle.list.specs.Answer.{answer_of}
use Rattle.convert.specs.Convert.{conversion, bad_number_of, intervals_of, bad_interval_of, numbers_of}
use Rattle.index.specs.Check.{check_of}
use Rattle.merge.specs.Request.{lists_of}
use Rattle.join.specs.Join.{request_of, join_outcome}
use Rattle.question.specs.Reading.{asked}
use Rattle.source.specs.Source.{satisfying, of_index}
use Rattle.source.specs.Ask.{question_outcome}
use Rattle.build.specs.Build.{index_from, build_outcome}
use Rattle.promises.specs.Wrong.{Writer, Promise, Meets, Equals}

-- ---- right ones: Reference 8.5 to 8.9

abbrev pub right_intervals : Writer (List ℕ) (Result ℕ Refusal)
right_intervals xs out =
    let o = conversion Number (bad_number_of xs) (intervals (intervals_of xs)) (intervals_of xs) (length out / 2) in
    (written_of (intervals (intervals_of xs)) o, left_by o out)

abbrev pub right_numbers : Writer (List ℕ) (Result ℕ Refusal)
right_numbers c out =
    let o = conversion Interval (bad_interval_of c) (records c) (numbers_of c) (length out) in
    (written_of (records c) o, left_by o out)

abbrev pub right_join : (List (List ℕ) → List ℕ) → Writer (List ℕ × List ℕ) (Result Tally Refusal)
right_join method a out =
    let o = join_outcome (request_of a.0 a.1) (method (lists_of a.0 a.1)) (length out / 2) in
    (answer_of o, left_by o out)

abbrev pub right_ask : Writer (List ℕ × ℕ × List ℕ) (Result Tally Refusal)
right_ask a out =
    let o = question_outcome (check_of a.0) (asked a.1 a.2) (satisfying (of_index a.0)) (length out / 2) in
    (answer_of o, left_by o out)

abbrev pub right_build : Writer (ℕ × List ℕ × List ℕ × List ℕ) (Result ℕ Refusal)
right_build a out =
    let o = build_outcome a.0 a.1 a.2 a.3 (length out) in
    (written_of (length (index_from a.0 a.1 a.2 a.3)) o, left_by o out)

-- ---- what is made of one: Reference 11

-- Reference 11: where it accepts, other cells are left
abbrev pub leaving : {A R : Type 0} → (R → Bool) → (A → List ℕ → List ℕ) → Writer A R → Writer A R
leaving refused left f a out = ((f a out).0, cond (refused (f a out).0) (f a out).1 (left a out))

-- Reference 11: something else is returned
abbrev pub returning : {A R : Type 0} → (A → List ℕ → R → R) → Writer A R → Writer A R
returning change f a out = (change a out (f a out).0, (f a out).1)

-- Reference 7: one number is n, wherever it is reported
abbrev pub with_intervals : ℕ → Result Tally Refusal → Result Tally Refusal
with_intervals n (Ok t) = Ok (record { intervals = n; records = t.records })
with_intervals n (Err r) = Err r

abbrev pub with_records : ℕ → Result Tally Refusal → Result Tally Refusal
with_records n (Ok t) = Ok (record { intervals = t.intervals; records = n })
with_records n (Err r) = Err r

abbrev pub with_value : ℕ → (ℕ → Refusal) → ℕ → Refusal → Refusal
with_value k row n r = cond (eqb (number_of r) k) (row n) r

abbrev pub with_needed : ℕ → Result Tally Refusal → Result Tally Refusal
with_needed n (Ok t) = Ok t
with_needed n (Err r) = Err (with_value 12 Room n r)

abbrev pub with_written : ℕ → Result ℕ Refusal → Result ℕ Refusal
with_written n (Ok m) = Ok n
with_written n (Err r) = Err r

abbrev pub with_needed_by : ℕ → Result ℕ Refusal → Result ℕ Refusal
with_needed_by n (Ok m) = Ok m
with_needed_by n (Err r) = Err (with_value 12 Room n r)

-- ---- of one that meets the promise, none that is made so meets it: Reference 11

pub record WrongWays {A R : Type 0} (promise : Promise A R) (refused : R → Bool) (f : Writer A R) : Type 0 where
  pub meets : Meets promise f
  pub refusing : (refusal : A → List ℕ → R) → ((a : A) (out : List ℕ) → refused (refusal a out) ≡ true) →
      Meets promise (returning (λ a out r. refusal a out) f) → ⊥
  pub fixed : (cells : List ℕ → List ℕ) → Meets promise (leaving refused (λ a out. cells out) f) → ⊥
  pub silent : Meets promise (leaving refused (λ a out. out) f) → ⊥
  pub misreporting : (number : R → Option ℕ) (change : A → List ℕ → R → R) (a : A) (out : List ℕ) →
      (number (change a out (f a out).0) ≡ number (f a out).0 → ⊥) → Meets promise (returning change f) → ⊥

abbrev pub WrongFirst : {A R : Type 0} → Promise A R → (R → Bool) → (A → A) → Writer A R → Type 0
WrongFirst promise refused first f = Meets promise (leaving refused (λ a out. (f (first a) out).1) f) → ⊥

pub record WrongCounts {A : Type 0} (promise : Promise A (Result Tally Refusal)) (f : Writer A (Result Tally Refusal)) : Type 0 where
  pub intervals : (n : List ℕ → ℕ) → Meets promise (returning (λ a out. with_intervals (n out)) f) → ⊥
  pub records : (n : List ℕ → ℕ) → Meets promise (returning (λ a out. with_records (n out)) f) → ⊥
  pub room : (n : List ℕ → ℕ) → Meets promise (returning (λ a out. with_needed (n out)) f) → ⊥

pub record WrongWritten {A : Type 0} (promise : Promise A (Result ℕ Refusal)) (f : Writer A (Result ℕ Refusal)) : Type 0 where
  pub written : (n : List ℕ → ℕ) → Meets promise (returning (λ a out. with_written (n out)) f) → ⊥
  pub room : (n : List ℕ → ℕ) → Meets promise (returning (λ a out. with_needed_by (n out)) f) → ⊥

-- ---- the same of the calls that write nothing: Reference 8.1 to 8.4

abbrev pub with_place : ℕ → Result ℕ Refusal → Result ℕ Refusal
with_place n (Ok i) = Ok i
with_place n (Err r) = Err (with_value 21 NoWord n r)

abbrev pub with_below : ℕ → Result Probe Refusal → Result Probe Refusal
with_below n (Ok p) = Ok (record { below = n; overlapping = p.overlapping })
with_below n (Err r) = Err r

abbrev pub with_overlapping : ℕ → Result Probe Refusal → Result Probe Refusal
with_overlapping n (Ok p) = Ok (record { below = p.below; overlapping = n })
with_overlapping n (Err r) = Err r

abbrev pub WrongRefusal : {A R : Type 0} → (A → R) → (R → Bool) → Type 0
WrongRefusal {A} {R} value refused = (refusal : A → R) → ((a : A) → refused (refusal a) ≡ true) → Equals value refusal → ⊥

abbrev pub WrongPlace : {A : Type 0} → (A → Result ℕ Refusal) → Type 0
WrongPlace value = (n : ℕ) → Equals value (λ a. with_place n (value a)) → ⊥

pub record WrongProbe {A : Type 0} (value : A → Result Probe Refusal) : Type 0 where
  pub below : (n : ℕ) → Equals value (λ a. with_below n (value a)) → ⊥
  pub overlapping : (n : ℕ) → Equals value (λ a. with_overlapping n (value a)) → ⊥
