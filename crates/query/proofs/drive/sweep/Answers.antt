use mathlib.Core.Path.{◌≡◌, refl, sym, ◌∙◌}
use Prim.Native.Nat.{ℕ, ◌+◌, ◌≤◌, ◌<◌}
use native.Mathlib.Omega.{arith}
use mathlib.Core.Bool.{Bool, false}
use mathlib.Core.List.{map}
use Rattle.list.proofs.SweepLaws.{Swept, swept-start, swept-count, swept-length, swept-cells-few, swept-records-few}
use Rattle.question.specs.Grammar.{Tree}
use Rattle.window.specs.Flips.{odd}
use borrow.Author.Rules.{rules}
use Rattle.slots.specs.Having.{having}
use Rattle.slots.proofs.RowLaws.{stay-both, stay-having, read_again}
use Rattle.query.specs.Drive.{test_of, Fits, Stands}
use Rattle.window.proofs.StepLaws.{step_room, swept_step, close-room, swept-close}
use Rattle.query.proofs.TestLaws.{test-above, swept-tallied}
use Rattle.query.proofs.drive.sweep.Given.{Over}
use Rattle.query.proofs.drive.sweep.Goals as goal
use Rattle.query.proofs.drive.sweep.Goals.{At-loop-at}

abbrev had : (g : Over) → At-loop-at g → ℕ → ℕ → Bool
had g c = let a = c.args in having a.over.main.now a.over.arrivals.now a.row.now

abbrev fit : (g : Over) (c : At-loop-at g) → let a = c.args in Fits (map g.C.AsCode.code a.codes.now) (had g c) a.pass a.out.now
fit g c = c.requires.room

swept : (g : Over) (c : At-loop-at g) → let a = c.args in let l = c.loop-at in
    Swept (test_of (had g c) (fit g c).tree) a.pass.n a.pass.writing a.out.now l.out (odd l.at.cells) l.at.x l.at.cells l.at.records
swept g c = c.loop-at.invariant.5 (fit g c).tree (fit g c).reads

-- no record above the last satisfies a tree
above : (g : Over) (c : At-loop-at g) (t : Tree) (y : ℕ) → c.args.pass.n < y → test_of (had g c) t y ≡ false
above g c t y h = test-above c.requires.ends t y h

pub loop-at-init : goal.loop-at-init
loop-at-init g c =
    let a = c.args in (
      record { slots = refl },
      c.requires.window,
      omega arith,
      omega arith,
      c.requires.slotted.sensed,
      λ t o. swept-start (test_of (having a.over.main.now a.over.arrivals.now a.row.now) t) a.pass.n a.pass.writing a.out.now,
    )

stands : (g : Over) (c : At-loop-at g) → c.loop-at.at.x ≤ c.args.pass.n → Stands c.args.pass.n c.loop-at.at
stands g c more = record {
  some = c.loop-at.invariant.2;
  most = c.loop-at.invariant.3;
  begun = (swept g c).near.0;
  more = more;
  near = c.requires.ends.near;
  few = swept-cells-few (swept g c);
  counted = swept-records-few (swept g c);
}

pub step-at-requires-clause-lends : goal.step-at-requires-clause-lends
step-at-requires-clause-lends g c =
    let inv = c.loop-at.invariant in
    read_again c.requires.lends inv.0

pub step-at-requires-clause-window : goal.step-at-requires-clause-window
step-at-requires-clause-window g c =
    let inv = c.loop-at.invariant in
    inv.1

pub step-at-requires-clause-slotted : goal.step-at-requires-clause-slotted
step-at-requires-clause-slotted g c =
    let a = c.args in
    let slotted = c.requires.slotted in
    let inv = c.loop-at.invariant in
    let same = stay-having a.over.main.now a.over.arrivals.now inv.0 in
    rw same (record { few = slotted.few; all = slotted.all; sensed = inv.4 })

pub step-at-requires-clause-stands : goal.step-at-requires-clause-stands
step-at-requires-clause-stands g c =
    let begun = (swept g (goal.at.step-at-requires-clause-stands g c).At-loop-at).near.0 in
    stands g (goal.at.step-at-requires-clause-stands g c).At-loop-at (omega (arith, begun, c.loop-at-test.true))

pub step-at-requires-clause-room : goal.step-at-requires-clause-room
step-at-requires-clause-room g c =
    let a = c.args in
    let slotted = c.requires.slotted in
    let inv = c.loop-at.invariant in
    let same = stay-having a.over.main.now a.over.arrivals.now inv.0 in
    let more = c.loop-at-test.true in
    rw same
    (record {
      tree = (fit g (goal.at.step-at-requires-clause-room g c).At-loop-at).tree;
      reads = (fit g (goal.at.step-at-requires-clause-room g c).At-loop-at).reads;
      room = λ w m h. step_room (swept g (goal.at.step-at-requires-clause-room g c).At-loop-at) (above g (goal.at.step-at-requires-clause-room g c).At-loop-at (fit g (goal.at.step-at-requires-clause-room g c).At-loop-at).tree) m h (omega arith) w ((fit g (goal.at.step-at-requires-clause-room g c).At-loop-at).room w);
    })

pub loop-at-smaller : goal.loop-at-smaller
loop-at-smaller g c =
    let a = c.args in
    let more = c.loop-at-test.true in
    let moves = rw (stay-having a.over.main.now a.over.arrivals.now c.loop-at.invariant.0) at c.step-at.ensures.moves in
    let moved = moves (fit g (goal.at.loop-at-smaller g c).At-loop-at).tree (fit g (goal.at.loop-at-smaller g c).At-loop-at).reads in
    omega (arith, moved.to, moved.some, (swept g (goal.at.loop-at-smaller g c).At-loop-at).near)

pub loop-at-preserved : goal.loop-at-preserved
loop-at-preserved g c =
    let a = c.args in
    let inv = c.loop-at.invariant in
    let same = stay-having a.over.main.now a.over.arrivals.now inv.0 in
    let more = c.loop-at-test.true in
    let e = c.step-at.ensures in
    let moves = rw same at e.moves in (
      stay-both inv.0 e.slots,
      e.long ∙ inv.1,
      e.some,
      e.most,
      rw same at e.sensed,
      λ t o. let moved = moves t o in rw moved.to (swept_step (inv.5 t o) (above g (goal.at.loop-at-preserved g c).At-loop-at t) moved.far moved.some (omega arith) moved.step),
    )

pub put_turn-cells-requires-clause-begun : goal.put_turn-cells-requires-clause-begun
put_turn-cells-requires-clause-begun g c =
    let l = c.loop-at in
    let fits = c.requires.room in
    let done = l.invariant.5 fits.tree fits.reads in
    done.near.0

pub put_turn-cells-requires-clause-fits : goal.put_turn-cells-requires-clause-fits
put_turn-cells-requires-clause-fits g c =
    let l = c.loop-at in
    let fits = c.requires.room in
    let done = l.invariant.5 fits.tree fits.reads in
    let over = c.loop-at-test.false in
    let few = swept-cells-few done in
    let near = c.requires.ends.near in
    let e : l.at.x ≡ c.args.pass.n + 1 = omega (arith, done.near) in
    omega arith

pub put_turn-cells-requires-clause-room : goal.put_turn-cells-requires-clause-room
put_turn-cells-requires-clause-room g c =
    let l = c.loop-at in
    let fits = c.requires.room in
    let done = l.invariant.5 fits.tree fits.reads in
    let over = c.loop-at-test.false in
    let few = swept-cells-few done in
    let near = c.requires.ends.near in
    let e : l.at.x ≡ c.args.pass.n + 1 = omega (arith, done.near) in
    λ w. rw e (close-room (rw e at done) w (fits.room w))

pub returns-clause-slots : goal.returns-clause-slots
returns-clause-slots g c =
    let l = c.loop-at in
    l.invariant.0

pub returns-clause-tallies : goal.returns-clause-tallies
returns-clause-tallies g c =
    let l = c.loop-at in
    let fits = c.requires.room in
    let done = l.invariant.5 fits.tree fits.reads in
    let over = c.loop-at-test.false in
    let e : l.at.x ≡ c.args.pass.n + 1 = omega (arith, done.near) in
    let last = rw e at c.put_turn-cells.ensures in
    let mine = swept-close (rw e at done) last in
    let m = swept-count mine in
    λ t o.
    let yours = swept-close (rw e at (l.invariant.5 t o)) last in
    let y = swept-count yours in
    swept-tallied yours (λ w. let room = fits.room w in omega arith)

pub shape_of-ws : goal.shape_of-ws
shape_of-ws g c = c.loop-at.invariant.1 ∙ sym c.requires.window

pub shape_of-out : goal.shape_of-out
shape_of-out g c =
    let same = swept-length (swept g (goal.at.shape_of-out g c).At-loop-at) in search rules
