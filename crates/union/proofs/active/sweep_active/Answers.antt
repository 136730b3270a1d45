use Rattle.std.proofs.Common.{rules}
use Prim.Native.Nat.{ℕ, ◌/◌, ◌%◌, ◌<◌}
use mathlib.Core.Path.{ap}
use lib.ListN.{length}
use Rattle.merge.proofs.ListsLaws.{asked_entry}
use Rattle.merge.proofs.DueLaws.{GoesAt, on_fits, left_less}
use Rattle.union.proofs.ActiveLaws.{line-start, line-list, line-goes, line-next, line-fits, line_step, line-last, line-end}
use Rattle.union.proofs.active.sweep_active.Goals as goal
use Rattle.union.proofs.active.sweep_active.Goals.{After-least-key}

-- the list whose lower bound is the least: it goes on
abbrev j : After-least-key → ℕ
j c = c.least-key.result % 16

list : (c : After-least-key) → j c < length c.args.entries.now
list c = line-list c.requires.sound c.loop-keys.invariant c.loop-keys-test.true c.least-key.ensures

goes : (c : After-least-key) → GoesAt c.args.index.now c.args.entries.now c.loop-keys.places (j c)
goes c = line-goes c.requires.sound c.loop-keys.invariant c.loop-keys-test.true c.least-key.ensures

pub loop-keys-init : goal.loop-keys-init
loop-keys-init c =
    let filled = c.fill-keys.ensures in
    line-start c.requires.sound c.fill-keys.result.long filled.fills (search rules) c.all_at_start-places.ensures (search rules) (search rules) (ap (λ (y : ℕ). y / 32) c.least-first.ensures) (ap (λ (y : ℕ). y / 32) c.least-first.ensures)

pub put_where-tally-requires : goal.put_where-tally-requires
put_where-tally-requires c =
    let inv = c.loop-keys.invariant in
    let some = c.loop-keys-test.true in
    let least = c.least-key.ensures in
    let read = c.next_interval-next.ensures in
    let a = c.requires.sound in
    rw c.apart.ensures (line-fits a inv some least (line-next a inv some least read.lower read.upper) c.requires.room)

pub refill_heap-requires-clause-entry : goal.refill_heap-requires-clause-entry
refill_heap-requires-clause-entry c =
    let a = c.requires.sound in
    asked_entry a (j (goal.at.refill_heap-requires-clause-entry c).After-least-key) (list (goal.at.refill_heap-requires-clause-entry c).After-least-key)

pub refill_heap-requires-clause-place : goal.refill_heap-requires-clause-place
refill_heap-requires-clause-place c =
    let a = c.requires.sound in
    let inv = c.loop-keys.invariant in
    let on = on_fits a inv.state.read (j (goal.at.refill_heap-requires-clause-place c).After-least-key) (list (goal.at.refill_heap-requires-clause-place c).After-least-key) (goes (goal.at.refill_heap-requires-clause-place c).After-least-key) c.moved_on-places.ensures in
    on

pub loop-keys-smaller : goal.loop-keys-smaller
loop-keys-smaller c = left_less c.requires.sound c.loop-keys.invariant.state.read (j (goal.at.loop-keys-smaller c).After-least-key) (list (goal.at.loop-keys-smaller c).After-least-key) (goes (goal.at.loop-keys-smaller c).After-least-key) c.moved_on-places.ensures

pub loop-keys-preserved : goal.loop-keys-preserved
loop-keys-preserved c =
    let inv = c.loop-keys.invariant in
    let some = c.loop-keys-test.true in
    let least = c.least-key.ensures in
    let a = c.requires.sound in
    let read = c.next_interval-next.ensures in
    line_step a inv some least (line-next a inv some least read.lower read.upper) (rw c.apart.ensures at c.put_where-tally.ensures)
    c.joined-active.ensures c.moved_on-places.ensures c.refill_heap.ensures

pub put-requires : goal.put-requires
put-requires c = line-last c.requires.sound c.loop-keys.invariant c.loop-keys-test.false c.requires.room

pub returns : goal.returns
returns c = line-end c.requires.sound c.loop-keys.invariant c.loop-keys-test.false c.requires.room c.put.ensures

pub bounds-entries-j : goal.bounds-entries-j
bounds-entries-j c = list (goal.at.bounds-entries-j c).After-least-key

pub next_interval-next-requires-clause-entry : goal.next_interval-next-requires-clause-entry
next_interval-next-requires-clause-entry c = asked_entry c.requires.sound (j (goal.at.next_interval-next-requires-clause-entry c).After-least-key) (list (goal.at.next_interval-next-requires-clause-entry c).After-least-key)

pub next_interval-next-requires-clause-goes : goal.next_interval-next-requires-clause-goes
next_interval-next-requires-clause-goes c = goes (goal.at.next_interval-next-requires-clause-goes c).After-least-key

pub moved_on-places-requires-clause-entry : goal.moved_on-places-requires-clause-entry
moved_on-places-requires-clause-entry c = asked_entry c.requires.sound (j (goal.at.moved_on-places-requires-clause-entry c).After-least-key) (list (goal.at.moved_on-places-requires-clause-entry c).After-least-key)

pub moved_on-places-requires-clause-goes : goal.moved_on-places-requires-clause-goes
moved_on-places-requires-clause-goes c = goes (goal.at.moved_on-places-requires-clause-goes c).After-least-key
