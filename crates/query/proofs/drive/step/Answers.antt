-- A look says how far a jump may go; a jump and a window are both steps of the sweep, to the record behind them or to n + 1. Neither changes what a slot has.
use mathlib.Core.Path.{refl}
use Prim.Native.Nat.{ℕ, ◌-◌, ◌*◌}
use native.Mathlib.Omega.{arith}
use mathlib.Core.Bool.{Bool}
use borrow.Author.Rules.{rules}
use Rattle.slots.specs.Having.{having}
use Rattle.slots.proofs.RowLaws.{stay-both, stay-having, read_again}
use Rattle.query.specs.Drive.{test_of, Stands}
use Rattle.senses.proofs.KeptSenses.{sensed-later}
use Rattle.query.proofs.TestLaws.{steady-constant, jump-room, part-width}
use Rattle.query.proofs.drive.step.Given.{Over}
use Rattle.query.proofs.drive.step.Goals as goal
use Rattle.query.proofs.drive.step.Goals.{After-look_at-sight, After-take_window-done}

stood : (g : Over) (c : After-look_at-sight g) → Stands c.args.pass.n c.args.at
stood g c = c.requires.stands

-- what the slots have
abbrev had : (g : Over) → After-look_at-sight g → ℕ → ℕ → Bool
had g c = let a = c.args in having a.over.main.now a.over.arrivals.now a.row.now

window-stood : (g : Over) (c : After-take_window-done g) → let a = c.args in Stands a.pass.n a.at
window-stood g c = stood g (goal.at.After-take_window-done g c).After-look_at-sight

pub look_at-sight-requires-clause-lends : goal.look_at-sight-requires-clause-lends
look_at-sight-requires-clause-lends g c = c.requires.lends

pub look_at-sight-requires-clause-near : goal.look_at-sight-requires-clause-near
look_at-sight-requires-clause-near g c =
    let stands = c.requires.stands in
    omega arith

pub look_at-sight-requires-clause-slotted : goal.look_at-sight-requires-clause-slotted
look_at-sight-requires-clause-slotted g c = c.requires.slotted

pub take_jump-done-requires-clause-room : goal.take_jump-done-requires-clause-room
take_jump-done-requires-clause-room g c =
    let a = c.args in
    let stands = stood g (goal.at.take_jump-done-requires-clause-room g c).After-look_at-sight in
    let roomy = c.requires.room in
    let y = c.min-y.result in
    let until = c.min-y.ensures in
    let p = test_of (had g (goal.at.take_jump-done-requires-clause-room g c).After-look_at-sight) roomy.tree in
    let steady = c.look_at-sight.ensures.steady roomy.tree roomy.reads in
    let constant = steady-constant p a.at.x y _ _ steady (omega arith) in
    let room = jump-room p a.at.x y _ a.at.cells a.out.now (omega arith) constant in
    λ w. room (roomy.room w (y - a.at.x) (omega arith))

pub returns-then-x-y-clause-slots : goal.returns-then-x-y-clause-slots
returns-then-x-y-clause-slots g c =
    let look = c.look_at-sight.ensures in
    look.slots

pub returns-then-x-y-clause-long : goal.returns-then-x-y-clause-long
returns-then-x-y-clause-long g c = refl

pub returns-then-x-y-clause-sensed : goal.returns-then-x-y-clause-sensed
returns-then-x-y-clause-sensed g c =
    let a = c.args in
    let stands = stood g (goal.at.returns-then-x-y-clause-sensed g c).After-look_at-sight in
    let look = c.look_at-sight.ensures in
    let y = c.min-y.result in
    let until = c.min-y.ensures in
    let taken = c.if-x-y.true in
    sensed-later (had g (goal.at.returns-then-x-y-clause-sensed g c).After-look_at-sight) _ a.at.x look.sensed y (omega arith)

pub returns-then-x-y-clause-moves : goal.returns-then-x-y-clause-moves
returns-then-x-y-clause-moves g c =
    let a = c.args in
    let stands = stood g (goal.at.returns-then-x-y-clause-moves g c).After-look_at-sight in
    let look = c.look_at-sight.ensures in
    let y = c.min-y.result in
    let until = c.min-y.ensures in
    let taken = c.if-x-y.true in
    λ t o.
    let p = test_of (had g (goal.at.returns-then-x-y-clause-moves g c).After-look_at-sight) t in
    record {
      far = y - a.at.x;
      some = omega arith;
      to = omega arith;
      step = c.take_jump-done.ensures p (steady-constant p a.at.x y _ _ (look.steady t o) (omega arith));
    }

pub take_window-done-requires-clause-lends : goal.take_window-done-requires-clause-lends
take_window-done-requires-clause-lends g c =
    let stays = c.look_at-sight.ensures.slots in
    read_again c.requires.lends stays

pub take_window-done-requires-clause-sensed : goal.take_window-done-requires-clause-sensed
take_window-done-requires-clause-sensed g c =
    let a = c.args in
    let stays = c.look_at-sight.ensures.slots in
    rw (stay-having a.over.main.now a.over.arrivals.now stays) c.look_at-sight.ensures.sensed

pub take_window-done-requires-clause-within : goal.take_window-done-requires-clause-within
take_window-done-requires-clause-within g c =
    let a = c.args in
    let stays = c.look_at-sight.ensures.slots in
    let stands = stood g (goal.at.take_window-done-requires-clause-within g c).After-look_at-sight in
    let width = part-width a.at.width a.ws.now (omega (arith, c.requires.window)) in
    record { wide = width; some = stands.some; most = stands.most; begun = omega arith; near = omega arith; few = omega arith; counted = omega arith }

pub take_window-done-requires-clause-room : goal.take_window-done-requires-clause-room
take_window-done-requires-clause-room g c =
    let a = c.args in
    let stays = c.look_at-sight.ensures.slots in
    rw (stay-having a.over.main.now a.over.arrivals.now stays) c.requires.room

-- the window is lent back as long as it was
pub shape_of-ws : goal.shape_of-ws
shape_of-ws g c = search rules

pub returns-clause-slots : goal.returns-clause-slots
returns-clause-slots g c =
    let look = c.look_at-sight.ensures in
    let window = c.take_window-done.ensures in
    stay-both look.slots window.moved.stay

pub returns-clause-long : goal.returns-clause-long
returns-clause-long g c = search rules

pub returns-clause-sensed : goal.returns-clause-sensed
returns-clause-sensed g c =
    let a = c.args in
    let stands = stood g (goal.at.returns-clause-sensed g c).After-look_at-sight in
    let look = c.look_at-sight.ensures in
    let window = c.take_window-done.ensures in
    let next = c.min.ensures in
    rw window.moved.senses (sensed-later (had g (goal.at.returns-clause-sensed g c).After-look_at-sight) _ a.at.x look.sensed c.min.result (omega arith))

pub returns-clause-some : goal.returns-clause-some
returns-clause-some g c =
    let stands = stood g (goal.at.returns-clause-some g c).After-look_at-sight in
    c.doubled.ensures.some stands.some

pub returns-clause-moves : goal.returns-clause-moves
returns-clause-moves g c =
    let a = c.args in
    let stands = stood g (goal.at.returns-clause-moves g c).After-look_at-sight in
    let look = c.look_at-sight.ensures in
    let window = c.take_window-done.ensures in
    let next = c.min.ensures in
    λ t o.
    record {
      far = 64 * a.at.width;
      some = omega arith;
      to = next;
      step = rw (stay-having a.over.main.now a.over.arrivals.now look.slots) at window.steps t o;
    }

pub overflow_add-n : goal.overflow_add-n
overflow_add-n g c =
    let stands = stood g (goal.at.overflow_add-n g c).After-look_at-sight in omega arith

pub overflow_add-x : goal.overflow_add-x
overflow_add-x g c =
    let stands = stood g (goal.at.overflow_add-x g c).After-look_at-sight in omega arith

pub overflow_cast-width : goal.overflow_cast-width
overflow_cast-width g c =
    let stands = window-stood g (goal.at.overflow_cast-width g c).After-take_window-done in omega arith

pub overflow_mul-width : goal.overflow_mul-width
overflow_mul-width g c =
    let stands = window-stood g (goal.at.overflow_mul-width g c).After-take_window-done in omega arith

pub overflow_add-x-2 : goal.overflow_add-x-2
overflow_add-x-2 g c =
    let stands = window-stood g (goal.at.overflow_add-x-2 g c).After-take_window-done in omega arith

pub overflow_add-n-2 : goal.overflow_add-n-2
overflow_add-n-2 g c =
    let stands = window-stood g (goal.at.overflow_add-n-2 g c).After-take_window-done in omega arith
