use mathlib.Core.Path.{refl, sym, ap, ◌∙◌}
use mathlib.Core.List.{List}
use Prim.Native.Nat.{ℕ, ◌-◌, ◌+◌}
use native.Mathlib.Omega.{arith}
use lib.ListN.{length, get_or}
use lib.Seq.{sets, length-sets}
use Rattle.laws.proofs.Lists.{sets-front}
use Rattle.limits.specs.Limits.{record_max}
use Rattle.list.specs.Front.{in_front}
use Rattle.convert.proofs.IntervalLaws.{Pair, good-proper, good-proper-from, proper-pair, pair-rest}
use Rattle.convert.proofs.SpanLaws.{count_up, spans, spans-pair, spans-none, spans-length, spans-records, sets-range, records-pair}
use Rattle.convert.proofs.to_numbers.write_numbers.Goals as goal
use Rattle.convert.proofs.to_numbers.write_numbers.Goals.{In-Some}

pub loop-pair-init : goal.loop-pair-init
loop-pair-init c =
    let made = c.chunks_exact-pair-items.ensures in
    rw (c.into_iter-pair-iterator.ensures.into_iter_gives, made.rest)
    (made.size, good-proper-from c.args.cells.now c.requires.good, refl, omega (arith, c.requires.room), refl)

-- the interval of the turn
next : (c : In-Some) → Pair record_max 0 c.loop-pair.pair-iterator.rest.now c.in-Some.pair.now c.next.new.self.rest.now
next c =
    let steps = c.in-Some.ensures.steps in
    proper-pair c.in-Some.pair.now c.next.new.self.rest.now steps.1.0 (steps.1.1 ∙ c.loop-pair.invariant.0) c.loop-pair.invariant.1

pub write_range-requires-clause-forward : goal.write_range-requires-clause-forward
write_range-requires-clause-forward c =
    let w = next (goal.at.write_range-requires-clause-forward c).In-Some in
    omega arith

pub write_range-requires-clause-room : goal.write_range-requires-clause-room
write_range-requires-clause-room c =
    let w = next (goal.at.write_range-requires-clause-room c).In-Some in
    omega (arith, records-pair w)

-- behind the range
pub loop-pair-preserved : goal.loop-pair-preserved
loop-pair-preserved c =
    let w = next (goal.at.loop-pair-preserved c).In-Some in
    let at = c.loop-pair in
    let l = get_or c.in-Some.pair.now 0 0 in
    let size = get_or c.in-Some.pair.now 1 0 + 1 - l in
    let wrote = c.write_range in
    let range = sets-range at.out wrote.new.out at.k l size (spans c.next.new.self.rest.now) wrote.ensures in (
      c.in-Some.ensures.steps.0 ∙ at.invariant.0,
      pair-rest w,
      ap length wrote.ensures ∙ length-sets at.out at.k (count_up l size) ∙ at.invariant.2,
      omega (arith, records-pair w),
      at.invariant.4 ∙ ap (sets at.out at.k) (spans-pair w) ∙ range,
    )

pub returns : goal.returns
returns c =
    let cells = c.args.cells.now in
    let out = c.args.out.now in
    let at = c.loop-pair in
    let e = spans-none at.pair-iterator.rest.now (omega (arith, c.in-None.ensures.steps, at.invariant.0)) in
    sym (at.invariant.4 ∙ ap (sets at.out at.k) e)
    ∙ sets-front (spans cells) out (omega (arith, spans-length cells, c.requires.room))
    ∙ ap (λ (numbers : List ℕ). in_front numbers out) (spans-records record_max cells (good-proper cells c.requires.good))

pub shape_of-out : goal.shape_of-out
shape_of-out c = c.loop-pair.invariant.2
