use Prim.Native.Nat.{ℕ, ◌+◌, ◌-◌, ◌≤◌, ◌<◌}
use mathlib.Core.Bool.{false}
use mathlib.Core.Path.{◌≡◌, sym, ◌∙◌}
use native.Mathlib.Omega.{arith}
use lib.ListN.{length, get_or}
use borrow.Author.Tests.{leb-true}
use Rattle.limits.specs.Limits.{record_max}
use Rattle.list.specs.Kept.{start}
use Rattle.merge.specs.Places.{used_up}
use Rattle.merge.proofs.TallyLaws.{Tallied}
use Rattle.merge.proofs.ListsLaws.{asked_entry}
use Rattle.merge.proofs.DueLaws.{on_fits, go-start, first_high}
use Rattle.merge.specs.Every.{in_all}
use Rattle.twin.specs.Twin.{next_lower, next_upper}
use Rattle.std.proofs.Common.{rules}
use Rattle.twin.proofs.FrontierLaws.{whose, frontier-filled}
use Rattle.twin.proofs.LowersLaws.{Largest, lowers-filled, lowers-some}
use Rattle.twin.proofs.TwinLaws.{turning-start, turn-standing, turn-list, turn-goes, turn-front, turn-largest}
use Rattle.twin.proofs.TwinLaws.{overlap-fits, turn_end, turn-next-goes, turn-next-bounds, turn-lowers, turn-next, turn-falls}
use Rattle.twin.proofs.TwinLaws.{turned-out}
use Rattle.twin.proofs.sweep_twin.Goals as goal
use Rattle.twin.proofs.sweep_twin.Goals.{After-least-least, Else-used_up, Then-used_up}

-- the list whose upper bound is the least
abbrev j : After-least-least → ℕ
j c = whose c.least-least.result

list : (c : After-least-least) → j c < length c.args.entries.now
list c = turn-list c.requires.sound c.loop-places.invariant.0 c.least-least.ensures

-- the largest lower bound is the first of the heap
largest : (c : After-least-least) → Largest c.args.index.now c.args.entries.now (λ k. get_or c.loop-places.places k start) (length c.args.entries.now)
    (record_max + 1 - c.least-largest.result)
largest c =
    let room = c.with_room.ensures in
    rw c.least-largest.ensures (turn-largest c.requires.sound c.loop-places.invariant.0 room.fills c.with_room.new.lowers.long room.room)

-- the list has moved on, and is not used up
goes_on : (c : Else-used_up) → used_up c.args.index.now (get_or c.args.entries.now (j (goal.at.Else-used_up c).After-least-least) 0) (get_or c.moved_on-places.result (j (goal.at.Else-used_up c).After-least-least) start) ≡ false
goes_on c = sym c.used_up.ensures ∙ c.if-used_up.false

-- or it is, and all is swept
swept : (c : Then-used_up) → let a = c.args in let put = c.put_where-tally in
    Tallied (in_all a.index.now a.entries.now) a.writing a.out.now put.new.out put.result (record_max + 1)
swept c =
    turn_end c.requires.sound c.loop-places.invariant.0 c.least-least.ensures c.moved_on-places.ensures (largest (goal.at.Then-used_up c).After-least-least)
    (rw c.is_overlap.ensures at c.put_where-tally.ensures) (sym c.used_up.ensures ∙ c.if-used_up.true)

pub loop-places-init : goal.loop-places-init
loop-places-init c =
    let asked = c.requires.sound in
    let e = c.all_at_start-places.ensures in
    let uppers = c.push_each.ensures in
    let lowers = c.push_each-2.ensures in
    let none : c.default-tally.result ≡ record { intervals = 0; records = 0 } = search rules in
    rw e (
      rw none (turning-start asked c.push_each.new.heap.long (frontier-filled (rw e at uppers.pushes) (λ j x h e. search rules))),
      rw lowers.size (lowers-filled (rw e at lowers.pushes) (λ j x h e. search rules)),
      uppers.size,
    )

pub push_each-requires : goal.push_each-requires
push_each-requires c =
    let asked = c.requires.sound in
    let few = asked.few in
    let e = c.all_at_start-places.ensures in
    (omega arith, (asked, (rw e (go-start asked), (omega arith, rw e (λ j h. ((first_high asked j h).1, omega arith))))))

pub push_each-requires-2 : goal.push_each-requires-2
push_each-requires-2 c =
    let asked = c.requires.sound in
    let e = c.all_at_start-places.ensures in
    (omega arith, (asked, (rw e (go-start asked), (omega arith, rw e (λ j h. (first_high asked j h).0)))))

pub with_room-requires-clause-stands : goal.with_room-requires-clause-stands
with_room-requires-clause-stands c =
    let inv = c.loop-places.invariant in
    turn-standing c.requires.sound inv.0

pub least-largest-requires : goal.least-largest-requires
least-largest-requires c = (omega arith, lowers-some c.with_room.ensures.fills c.requires.sound.some)

pub overflow_sub-largest : goal.overflow_sub-largest
overflow_sub-largest c =
    let room = c.with_room.ensures in
    let f = turn-front c.requires.sound c.loop-places.invariant.0 room.fills c.with_room.new.lowers.long room.room in
    omega arith

pub put_where-tally-requires : goal.put_where-tally-requires
put_where-tally-requires c = rw c.is_overlap.ensures (λ e. overlap-fits c.requires.sound c.loop-places.invariant.0 c.least-least.ensures (largest (goal.at.put_where-tally-requires c).After-least-least) c.requires.room (leb-true _ _ e))

pub used_up-requires-clause-entry : goal.used_up-requires-clause-entry
used_up-requires-clause-entry c = asked_entry c.requires.sound (j (goal.at.used_up-requires-clause-entry c).After-least-least) (list (goal.at.used_up-requires-clause-entry c).After-least-least)

pub used_up-requires-clause-place : goal.used_up-requires-clause-place
used_up-requires-clause-place c =
    let w = c.loop-places.invariant.0 in
    let f = on_fits c.requires.sound w.read (j (goal.at.used_up-requires-clause-place c).After-least-least) (list (goal.at.used_up-requires-clause-place c).After-least-least) (turn-goes c.requires.sound w c.least-least.ensures) c.moved_on-places.ensures in
    f

-- the bounds of the interval that is next then
next-bounds : (c : Else-used_up) → let a = c.args in
    let at = get_or c.moved_on-places.result (j (goal.at.Else-used_up c).After-least-least) start in
    (1 ≤ next_lower a.index.now a.entries.now (j (goal.at.Else-used_up c).After-least-least) at)
    × (next_lower a.index.now a.entries.now (j (goal.at.Else-used_up c).After-least-least) at ≤ next_upper a.index.now a.entries.now (j (goal.at.Else-used_up c).After-least-least) at)
    × (next_upper a.index.now a.entries.now (j (goal.at.Else-used_up c).After-least-least) at ≤ record_max)
next-bounds c = turn-next-bounds c.requires.sound c.loop-places.invariant.0 c.least-least.ensures c.moved_on-places.ensures (goes_on c)

pub next_interval-next-requires-clause-entry : goal.next_interval-next-requires-clause-entry
next_interval-next-requires-clause-entry c = asked_entry c.requires.sound (j (goal.at.next_interval-next-requires-clause-entry c).After-least-least) (list (goal.at.next_interval-next-requires-clause-entry c).After-least-least)

pub next_interval-next-requires-clause-goes : goal.next_interval-next-requires-clause-goes
next_interval-next-requires-clause-goes c = turn-next-goes c.requires.sound c.loop-places.invariant.0 c.least-least.ensures c.moved_on-places.ensures (goes_on c)

pub loop-places-smaller : goal.loop-places-smaller
loop-places-smaller c =
    let r = rw (c.loop-places.invariant.2, c.key_of.ensures, c.next_interval-next.ensures.upper) at c.replace_least.ensures.replaces in
    turn-falls c.requires.sound c.loop-places.invariant.0 c.least-least.ensures c.moved_on-places.ensures (goes_on (goal.at.loop-places-smaller c).Else-used_up) r

pub loop-places-preserved : goal.loop-places-preserved
loop-places-preserved c =
    let inv = c.loop-places.invariant in
    let asked = c.requires.sound in
    let least = c.least-least.ensures in
    let moved = c.moved_on-places.ensures in
    let put = rw c.is_overlap.ensures at c.put_where-tally.ensures in
    let next = c.next_interval-next.ensures in
    let more = goes_on (goal.at.loop-places-preserved c).Else-used_up in
    let r = rw (inv.2, c.key_of.ensures, next.upper) at c.replace_least.ensures.replaces in
    let p = rw (c.lack_of.ensures, next.lower) at c.push.ensures.pushes in (
      turn-next asked inv.0 least moved (largest (goal.at.loop-places-preserved c).After-least-least) put more r,
      rw c.push.ensures.more (turn-lowers asked inv.0 least moved more c.with_room.ensures.fills p),
      rw c.replace_least.ensures.keeps inv.2,
    )

pub bounds-entries-j : goal.bounds-entries-j
bounds-entries-j c = list (goal.at.bounds-entries-j c).After-least-least

pub moved_on-places-requires-clause-entry : goal.moved_on-places-requires-clause-entry
moved_on-places-requires-clause-entry c = asked_entry c.requires.sound (j (goal.at.moved_on-places-requires-clause-entry c).After-least-least) (list (goal.at.moved_on-places-requires-clause-entry c).After-least-least)

pub moved_on-places-requires-clause-goes : goal.moved_on-places-requires-clause-goes
moved_on-places-requires-clause-goes c = turn-goes c.requires.sound c.loop-places.invariant.0 c.least-least.ensures

pub returns-then-used_up : goal.returns-then-used_up
returns-then-used_up c = turned-out _ _ (swept c) c.requires.room

pub key_of-requires-clause-high : goal.key_of-requires-clause-high
key_of-requires-clause-high c = rw c.next_interval-next.ensures.upper (next-bounds (goal.at.key_of-requires-clause-high c).Else-used_up).2

pub lack_of-requires : goal.lack_of-requires
lack_of-requires c =
    let b = next-bounds (goal.at.lack_of-requires c).Else-used_up in
    omega (arith, c.next_interval-next.ensures.lower)
