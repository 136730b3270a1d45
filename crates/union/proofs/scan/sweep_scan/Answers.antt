use Rattle.std.proofs.Common.{rules}
use Prim.Native.Nat.{ℕ, ◌+◌, ◌%◌, ◌≤◌, ◌<◌}
use mathlib.Core.Path.{refl}
use native.Mathlib.Omega.{arith}
use lib.ListN.{length}
use borrow.Author.Tests.{eqb-true}
use Rattle.merge.proofs.ListsLaws.{asked_entry}
use Rattle.merge.proofs.DueLaws.{GoesAt, on_fits, left_less}
use Rattle.union.proofs.ScanLaws.{scan-start, scan-list, lower-goes, lower-few, lower-step, upper-goes, upper-some, upper_fits, upper-step, scan-end}
use Rattle.union.proofs.scan.sweep_scan.Goals as goal
use Rattle.union.proofs.scan.sweep_scan.Goals.{Else-key-eq0, After-least-key, Then-key-eq0}

-- the list whose bound is the least
abbrev j : After-least-key → ℕ
j c = c.least-key.result % 16

list : (c : After-least-key) → j c < length c.args.entries.now
list c = scan-list c.requires.sound c.loop-keys.invariant c.loop-keys-test.true c.least-key.ensures

-- behind a lower bound
few : (c : Then-key-eq0) → c.loop-keys.count + 1 ≤ 16
few c = lower-few c.requires.sound c.loop-keys.invariant c.loop-keys-test.true c.least-key.ensures c.if-key-eq0.true

-- at an upper bound
goes : (c : Else-key-eq0) → GoesAt c.args.index.now c.args.entries.now c.loop-keys.places (j (goal.at.Else-key-eq0 c).After-least-key)
goes c = upper-goes c.requires.sound c.loop-keys.invariant c.loop-keys-test.true c.least-key.ensures c.if-key-eq0.false

pub loop-keys-init : goal.loop-keys-init
loop-keys-init c =
    let filled = c.fill-keys.ensures in
    scan-start c.requires.sound c.fill-keys.result.long filled.fills (search rules) c.all_at_start-places.ensures (search rules) (search rules) refl

pub to_upper_heap-requires-clause-entry : goal.to_upper_heap-requires-clause-entry
to_upper_heap-requires-clause-entry c =
    let a = c.requires.sound in
    asked_entry a (j (goal.at.to_upper_heap-requires-clause-entry c).After-least-key) (list (goal.at.to_upper_heap-requires-clause-entry c).After-least-key)

pub to_upper_heap-requires-clause-goes : goal.to_upper_heap-requires-clause-goes
to_upper_heap-requires-clause-goes c =
    let a = c.requires.sound in
    let inv = c.loop-keys.invariant in
    let some = c.loop-keys-test.true in
    let least = c.least-key.ensures in
    lower-goes a inv some least c.if-key-eq0.true

pub loop-keys-preserved-then-key-eq0 : goal.loop-keys-preserved-then-key-eq0
loop-keys-preserved-then-key-eq0 c = rw c.to_upper_heap.ensures.keeps (lower-step c.requires.sound c.loop-keys.invariant c.loop-keys-test.true c.least-key.ensures c.if-key-eq0.true
    c.begun-lower.ensures c.to_upper_heap.ensures.refills)

pub overflow_sub-count : goal.overflow_sub-count
overflow_sub-count c = omega (arith, upper-some c.requires.sound c.loop-keys.invariant c.loop-keys-test.true c.least-key.ensures c.if-key-eq0.false)

pub overflow_sub-stretch : goal.overflow_sub-stretch
overflow_sub-stretch c = (upper_fits c.requires.sound c.loop-keys.invariant c.loop-keys-test.true c.least-key.ensures c.if-key-eq0.false c.requires.room).0

pub put_where-tally-requires : goal.put_where-tally-requires
put_where-tally-requires c = λ e. (upper_fits c.requires.sound c.loop-keys.invariant c.loop-keys-test.true c.least-key.ensures c.if-key-eq0.false c.requires.room).1 (eqb-true _ 0 e)

pub refill_heap-requires-clause-entry : goal.refill_heap-requires-clause-entry
refill_heap-requires-clause-entry c =
    let a = c.requires.sound in
    asked_entry a (j (goal.at.refill_heap-requires-clause-entry c).After-least-key) (list (goal.at.refill_heap-requires-clause-entry c).After-least-key)

pub refill_heap-requires-clause-place : goal.refill_heap-requires-clause-place
refill_heap-requires-clause-place c =
    let a = c.requires.sound in
    let inv = c.loop-keys.invariant in
    let on = on_fits a inv.over.read (j (goal.at.refill_heap-requires-clause-place c).After-least-key) (list (goal.at.refill_heap-requires-clause-place c).After-least-key) (goes (goal.at.refill_heap-requires-clause-place c).Else-key-eq0) c.moved_on-places.ensures in
    on

pub loop-keys-smaller : goal.loop-keys-smaller
loop-keys-smaller c =
    let less = left_less c.requires.sound c.loop-keys.invariant.over.read (j (goal.at.loop-keys-smaller c).After-least-key) (list (goal.at.loop-keys-smaller c).After-least-key) (goes (goal.at.loop-keys-smaller c).Else-key-eq0)
    c.moved_on-places.ensures in
    omega arith

pub loop-keys-preserved : goal.loop-keys-preserved
loop-keys-preserved c = upper-step c.requires.sound c.loop-keys.invariant c.loop-keys-test.true c.least-key.ensures
    c.if-key-eq0.false
    c.put_where-tally.ensures c.moved_on-places.ensures
    c.refill_heap.ensures

pub returns : goal.returns
returns c = scan-end c.requires.sound c.loop-keys.invariant c.loop-keys-test.false c.requires.room

pub bounds-entries-j : goal.bounds-entries-j
bounds-entries-j c = list (goal.at.bounds-entries-j c).After-least-key

pub overflow_add-count : goal.overflow_add-count
overflow_add-count c = omega (arith, few (goal.at.overflow_add-count c).Then-key-eq0)

pub loop-keys-smaller-then-key-eq0 : goal.loop-keys-smaller-then-key-eq0
loop-keys-smaller-then-key-eq0 c = omega (arith, few (goal.at.loop-keys-smaller-then-key-eq0 c).Then-key-eq0)

pub moved_on-places-requires-clause-entry : goal.moved_on-places-requires-clause-entry
moved_on-places-requires-clause-entry c = asked_entry c.requires.sound (j (goal.at.moved_on-places-requires-clause-entry c).After-least-key) (list (goal.at.moved_on-places-requires-clause-entry c).After-least-key)

pub moved_on-places-requires-clause-goes : goal.moved_on-places-requires-clause-goes
moved_on-places-requires-clause-goes c = goes (goal.at.moved_on-places-requires-clause-goes c).Else-key-eq0
