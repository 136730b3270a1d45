-- Numbers to intervals and back give the numbers lent; intervals to numbers and back give the cells lent.
use Rattle.std.specs.Prelude.{Option, Some, None, Result, Ok}
use mathlib.Core.Path.{◌≡◌, refl, sym, ap, ◌∙◌}
use Prim.Native.Nat.{ℕ, ◌*◌, ◌/◌, ◌≤◌}
use native.Mathlib.Omega.{arith}
use mathlib.Core.Bool.{Bool, true, false, cond}
use mathlib.Core.List.{List}
use lib.Dec.{leb}
use lib.ListN.{length, take, drop}
use lib.Seq.{take-append_seam}
use borrow.Author.Tests.{le-leb}
use Rattle.limits.specs.Limits.{record_max}
use Rattle.refusal.specs.declared.Refusal.{Refusal}
use Rattle.refusal.specs.declared.Refusal.TheVariants.{Number, Interval, Room}
use Rattle.list.specs.Outcome.{writes, refused, written_of}
use Rattle.list.specs.Interval.{names, intervals, records}
use Rattle.list.specs.Among.{among}
use Rattle.convert.specs.Convert.{bad_number_of, bad_interval_of, intervals_of, numbers_of, conversion, ToIntervals, ToNumbers}
use Rattle.list.proofs.StretchLaws.{cells-proper, cells-names, cells-even, is-cells}
use Rattle.list.proofs.RecordLaws.{records-ascend, records-among, is-records, proper-count}
use Rattle.list.specs.Front.{in_front}
use Rattle.convert.proofs.NumberLaws.{good-ascends, ascends-good}
use Rattle.convert.proofs.IntervalLaws.{good-proper, proper-good}

-- ---- of the definitions

-- the intervals of any numbers are a proper list, and the numbers of any cells ascend
pub intervals-good : (xs : List ℕ) → bad_interval_of (intervals_of xs) ≡ None
intervals-good xs = proper-good (intervals_of xs) (cells-proper (among xs) record_max record_max (omega arith))

pub numbers-good : (c : List ℕ) → bad_number_of (numbers_of c) ≡ None
numbers-good c = ascends-good record_max (numbers_of c) (records-ascend (names c) record_max)

pub numbers-back : (xs : List ℕ) → bad_number_of xs ≡ None → numbers_of (intervals_of xs) ≡ xs
numbers-back xs e = sym (is-records (names (intervals_of xs)) record_max xs (good-ascends record_max xs e) (λ x h g. sym (cells-names (among xs) record_max x h g)))

pub intervals-back : (c : List ℕ) → bad_interval_of c ≡ None → intervals_of (numbers_of c) ≡ c
intervals-back c e = sym (is-cells (among (numbers_of c)) record_max c (good-proper c e) (λ x h g. sym (records-among (names c) record_max x h g)))

-- ---- of the calls' promises

-- what an accepted call says: no fault, enough room, and how much was written
pub record Accepted (fault : Option ℕ) (needed room n : ℕ) : Type 0 where
  pub good : fault ≡ None
  pub fits : leb needed room ≡ true
  pub wrote : n ≡ needed

module _ (needed : ℕ) (c : List ℕ) (room n : ℕ) where
  room-step : (t : Bool) → leb needed room ≡ t → written_of needed (cond t (writes c) (refused (Room needed))) ≡ Ok n → Accepted None needed room n
  room-step true e h = record { good = refl; fits = e; wrote = (cc) }
  room-step false e h = absurd (let z : ◌≡◌ {A = ℕ} 0 1 = cc in omega arith)

  pub answer-accepted : (refusal : ℕ → Refusal) (fault : Option ℕ) → written_of needed (conversion refusal fault needed c room) ≡ Ok n →
      Accepted fault needed room n
  answer-accepted refusal (Some i) h = absurd (let z : ◌≡◌ {A = ℕ} 0 1 = cc in omega arith)
  answer-accepted refusal None h = room-step (leb needed room) refl h

-- the cells that a call wrote, at the front of what it leaves
pub intervals-written : (xs out out' : List ℕ) (n : ℕ) → ToIntervals xs out out' (Ok n) → take (2 * n) out' ≡ intervals_of xs
intervals-written xs out out' n p =
    let w = answer-accepted (intervals (intervals_of xs)) (intervals_of xs) (length out / 2) n Number (bad_number_of xs) (sym p.answer) in
    let k : 2 * n ≡ length (intervals_of xs) = ap (λ (m : ℕ). 2 * m) w.wrote ∙ cells-even (among xs) record_max in
    let e : out' ≡ in_front (intervals_of xs) out = p.cells ∙ rw (w.good, w.fits) in
    rw (e, k) (take-append_seam (intervals_of xs) (drop (length (intervals_of xs)) out))

pub numbers-written : (c out out' : List ℕ) (n : ℕ) → ToNumbers c out out' (Ok n) → take n out' ≡ numbers_of c
numbers-written c out out' n p =
    let w = answer-accepted (records c) (numbers_of c) (length out) n Interval (bad_interval_of c) (sym p.answer) in
    let k : n ≡ length (numbers_of c) = w.wrote ∙ proper-count record_max c (good-proper c w.good) in
    let e : out' ≡ in_front (numbers_of c) out = p.cells ∙ rw (w.good, w.fits) in
    rw (e, k) (take-append_seam (numbers_of c) (drop (length (numbers_of c)) out))

-- numbers to intervals, and the cells written to numbers, with room for as many: the numbers lent
pub to-numbers-back : (xs out out' room room' : List ℕ) (n : ℕ) (s : Result ℕ Refusal) →
    ToIntervals xs out out' (Ok n) → ToNumbers (take (2 * n) out') room room' s → length xs ≤ length room →
    (s ≡ Ok (length xs)) × (room' ≡ in_front xs room)
to-numbers-back xs out out' room room' n s p q h =
    let w = answer-accepted (intervals (intervals_of xs)) (intervals_of xs) (length out / 2) n Number (bad_number_of xs) (sym p.answer) in
    let e = numbers-back xs w.good in
    let k : records (intervals_of xs) ≡ length xs =
    proper-count record_max (intervals_of xs) (cells-proper (among xs) record_max record_max (omega arith)) ∙ ap length e in
    let f : leb (length xs) (length room) ≡ true = le-leb (length xs) (length room) h in
    let v : ToNumbers (intervals_of xs) room room' s = rw (← intervals-written xs out out' n p) q in
    (v.answer ∙ rw (intervals-good xs, k, f), v.cells ∙ rw (intervals-good xs, k, f, e))

-- intervals to numbers, and the numbers written to intervals, with room for as many: the cells lent
pub to-intervals-back : (c out out' room room' : List ℕ) (n : ℕ) (s : Result ℕ Refusal) →
    ToNumbers c out out' (Ok n) → ToIntervals (take n out') room room' s → length c ≤ length room →
    (s ≡ Ok (intervals c)) × (room' ≡ in_front c room)
to-intervals-back c out out' room room' n s p q h =
    let w = answer-accepted (records c) (numbers_of c) (length out) n Interval (bad_interval_of c) (sym p.answer) in
    let e = intervals-back c w.good in
    let f : leb (intervals c) (length room / 2) ≡ true = le-leb (intervals c) (length room / 2) (omega arith) in
    let v : ToIntervals (numbers_of c) room room' s = rw (← numbers-written c out out' n p) q in
    (v.answer ∙ rw (numbers-good c, e, f), v.cells ∙ rw (numbers-good c, e, f))
