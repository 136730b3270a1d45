-- The loop keeps the sweep of every tree that the codes read as; behind the last step the open stretch is closed.
use mathlib.Core.Path.{◌≡◌}
use Prim.Native.Nat.{◌+◌, ◌-◌, ◌≤◌}
use mathlib.Core.List.{map}
use lib.ListN.{length}
use Rattle.list.proofs.SweepLaws.{Swept}
use Rattle.window.specs.Flips.{odd}
use Rattle.slots.specs.Row.{SlotsStay}
use Rattle.slots.specs.Having.{having}
use Rattle.senses.specs.Senses.{Sensed}
use Rattle.window.specs.Tuning.{window_most}
use Rattle.query.specs.Drive.{OfEach}
use Rattle.query.proofs.drive.sweep.Given as goal

abbrev pub invariant-loop-at : goal.invariant-loop-at
invariant-loop-at g l =
    SlotsStay l.initial.row l.row × (length l.ws ≡ window_most) × (1 ≤ l.at.width) × (l.at.width ≤ window_most) × Sensed (having l.over.main.now l.over.arrivals.now l.initial.row) l.row.senses l.at.x ×
    OfEach (map g.C.AsCode.code l.codes) (having l.over.main.now l.over.arrivals.now l.initial.row) (λ p. Swept p l.pass.n l.pass.writing l.initial.out l.out (odd l.at.cells) l.at.x l.at.cells l.at.records)

abbrev pub decreases-loop-at : goal.decreases-loop-at
decreases-loop-at g l = l.pass.n + 1 - l.at.x
