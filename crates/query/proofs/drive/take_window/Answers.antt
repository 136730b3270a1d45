-- The blank window holds the question's test once it is evaluated; its cells and its records are those of the test.
use mathlib.Core.Path.{◌≡◌, ap, ◌∙◌}
use Prim.Native.Nat.{ℕ, ◌+◌, ◌*◌}
use native.Mathlib.Omega.{arith}
use lib.ListN.{length}
use Rattle.slots.specs.Having.{having}
use Rattle.query.specs.Drive.{test_of}
use Rattle.window.proofs.StepLaws.{stepped-window}
use Rattle.query.proofs.TestLaws.{tree-holds, blank-length, blank-again, evaluated-length, window-room, members-few}
use Rattle.query.proofs.drive.take_window.Given.{Over}
use Rattle.query.proofs.drive.take_window.Goals as goal
use Rattle.query.proofs.drive.take_window.Goals.{After-eval_level}

-- the window is as long as it was lent
same : (g : Over) (c : After-eval_level g) → length c.eval_level.new.ws ≡ length c.args.ws.now
same g c = evaluated-length c.args.ws.now c.eval_level.ensures.long c.clear.ensures

pub eval_level-requires : goal.eval_level-requires
eval_level-requires g c =
    let blank = c.clear.ensures in
    let long = blank-length _ c.args.ws.now blank in
    let within = c.requires.within in
    record { lent = c.requires.lends; sensed = c.requires.sensed; inside = omega arith; blank = blank-again _ c.args.ws.now blank; size = omega arith; near = omega arith }

pub put_flips-cells-requires-clause-near : goal.put_flips-cells-requires-clause-near
put_flips-cells-requires-clause-near g c = omega (arith, same g (goal.at.put_flips-cells-requires-clause-near g c).After-eval_level)

pub put_flips-cells-requires-clause-fits : goal.put_flips-cells-requires-clause-fits
put_flips-cells-requires-clause-fits g c = omega (arith, same g (goal.at.put_flips-cells-requires-clause-fits g c).After-eval_level)

pub put_flips-cells-requires-clause-room : goal.put_flips-cells-requires-clause-room
put_flips-cells-requires-clause-room g c =
    let a = c.args in
    let long = same g (goal.at.put_flips-cells-requires-clause-room g c).After-eval_level in
    let roomy = c.requires.room in
    let v = having a.over.main.now a.over.arrivals.now a.row.now in
    λ w. window-room (test_of v roomy.tree) a.at.x a.at.cells _ a.out.now
    (tree-holds roomy.reads {v = v} c.eval_level.ensures.reads) (roomy.room w _ (omega arith))

pub count_members-requires : goal.count_members-requires
count_members-requires g c = omega (arith, same g (goal.at.count_members-requires g c).After-eval_level)

pub overflow_add-result : goal.overflow_add-result
overflow_add-result g c = omega (arith, same g (goal.at.overflow_add-result g c).After-eval_level, members-few _ _ c.count_members.ensures)

pub returns-clause-steps : goal.returns-clause-steps
returns-clause-steps g c =
    let a = c.args in
    let v = having a.over.main.now a.over.arrivals.now a.row.now in
    λ t o. rw (ap (λ (m : ℕ). 64 * m) (same g (goal.at.returns-clause-steps g c).After-eval_level ∙ c.requires.within.wide)) at
    (stepped-window (test_of v t) a.at.x a.at.cells a.at.records _ a.writing a.out.now _ _ _
    (tree-holds o {v = v} c.eval_level.ensures.reads) c.put_flips-cells.ensures
    (ap (λ (m : ℕ). a.at.records + m) (c.count_members.ensures a.at.x)))
