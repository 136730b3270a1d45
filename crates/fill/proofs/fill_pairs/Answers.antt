use Prim.Native.Nat.{ℕ, ◌+◌, ◌*◌, ◌≤◌, ◌<◌}
use native.Mathlib.Omega.{arith}
use mathlib.Core.Path.{◌≡◌}
use mathlib.Core.List.{List}
use lib.ListN.{length}
use Rattle.list.specs.Cell.{numbers_in}
use Rattle.list.proofs.CellLaws.{numbers_in-length}
use Rattle.fill.proofs.FillingLaws.{pairs-side, side-start, side-order, side-step, side-done, side-past, side-out}
use Rattle.fill.proofs.fill_pairs.Goals as goal
use Rattle.fill.proofs.fill_pairs.Goals.{After-number_at-u, In-loop-q}

-- the pair of a turn stands on both sides
abbrev Inside : List ℕ → List ℕ → ℕ → Type 0
Inside lower upper q = (4 * q + 4 ≤ length lower) × (4 * q + 4 ≤ length upper) × (q < length (numbers_in lower))

inside : (c : In-loop-q) → Inside c.args.lower.now c.args.upper.now c.loop-q.q
inside c =
    let long = numbers_in-length c.args.lower.now in
    let longer = numbers_in-length c.args.upper.now in
    let even = c.requires.apart.long in
    let test = c.loop-q-test.true in
    (omega arith, omega arith, omega arith)

-- and ends behind its start, and not before base
ahead : (c : After-number_at-u) → let u = c.number_at-u.result in (c.number_at-l.result ≤ u) × (c.args.base ≤ u)
ahead c =
    side-order (pairs-side c.requires.apart) c.loop-q.invariant (inside (goal.at.After-number_at-u c).In-loop-q).2 c.number_at-l.ensures
    c.number_at-u.ensures

-- the window is as long as it was
same-long : (c : After-number_at-u) → length c.loop-q.ws ≡ length c.args.ws.now
same-long c = c.loop-q.invariant.filling.long

pub returns-then-end-l : goal.returns-then-end-l
returns-then-end-l c =
    let test = c.if-end-l.true in
    side-past (pairs-side c.requires.apart) c.loop-q.invariant c.number_at-l.ensures (omega arith)

pub returns-then-end-u : goal.returns-then-end-u
returns-then-end-u c =
    let test = c.if-end-u.true in
    let long = same-long (goal.at.returns-then-end-u c).After-number_at-u in
    let apart = c.requires.apart in
    let up = c.number_at-u.ensures in
    side-out (pairs-side apart) c.loop-q.invariant (inside (goal.at.returns-then-end-u c).In-loop-q).2 c.number_at-l.ensures up
    (λ more. omega (arith, apart.next c.loop-q.q more)) (omega arith) (omega arith)
    (rw c.saturating_sub-a.ensures at c.fill_range.ensures)

pub loop-q-preserved : goal.loop-q-preserved
loop-q-preserved c = side-step (pairs-side c.requires.apart) c.loop-q.invariant (inside (goal.at.loop-q-preserved c).In-loop-q).2
    c.number_at-l.ensures
    c.number_at-u.ensures (rw c.saturating_sub-a.ensures at c.fill_range-in-loop-q.ensures)

pub returns : goal.returns
returns c =
    let test = c.loop-q-test.false in
    side-done (pairs-side c.requires.apart) c.loop-q.invariant (omega (arith, numbers_in-length c.args.lower.now))

pub loop-q-init : goal.loop-q-init
loop-q-init c = side-start (pairs-side c.requires.apart) c.requires.begins

pub number_at-u-requires : goal.number_at-u-requires
number_at-u-requires c = (inside (goal.at.number_at-u-requires c).In-loop-q).1

pub overflow_sub-u : goal.overflow_sub-u
overflow_sub-u c =
    let w = ahead (goal.at.overflow_sub-u c).After-number_at-u in omega arith
