use Prim.Native.Nat.{◌+◌}
use native.Mathlib.Omega.{arith}
use mathlib.Core.Path.{◌≡◌, refl}
use Rattle.list.specs.Sense.{Steady}
use Rattle.index.proofs.SoundLaws.{sound-trailer}
use Rattle.slots.specs.Row.{entries_at}
use Rattle.slots.specs.Having.{entry_has}
use Rattle.slots.proofs.RowLaws.{moved_none}
use Rattle.senses.proofs.PairedSenses.{steady-is}
use Rattle.senses.proofs.RangeSenses.{entry-steady, range-begun, range-next, range-in}
use Rattle.senses.proofs.kept.sense_entries.Goals as goal
use Rattle.senses.proofs.kept.sense_entries.Goals.{After-sense_by-inside}

says : (c : After-sense_by-inside) →
    let r = c.sense_by-inside.result in
    Steady (entry_has c.args.index.now ((entries_at c.args.row.now.ranges c.args.j).first + c.loop-m.m)) c.args.x r.inside r.until
says c =
    let a = c.args in
    let l = c.loop-m in
    let said = rw l.invariant.0.stay.slots at
    (c.sense_by-inside.ensures.steady ((entries_at l.row.ranges a.j).first + l.m) c.regions_in-regions.ensures) in
    entry-steady ((entries_at a.row.now.ranges a.j).first + l.m) refl (omega (arith, c.loop-m-test.true, c.requires.among.within)) said

pub loop-m-init : goal.loop-m-init
loop-m-init c = (moved_none c.args.row.now, range-begun c.args.index.now c.args.x (entries_at c.args.row.now.ranges c.args.j).first c.requires.near)

pub hint_number-hint-requires-clause-few : goal.hint_number-hint-requires-clause-few
hint_number-hint-requires-clause-few c =
    omega (arith, c.loop-m-test.true, c.requires.among.within, (sound-trailer c.args.index.now c.requires.sound).count-bound)

pub returns-then-inside-clause-steady : goal.returns-then-inside-clause-steady
returns-then-inside-clause-steady c =
    let e = entries_at c.args.row.now.ranges c.args.j in
    range-in c.args.index.now c.args.x e.first c.loop-m.m e.count (omega (arith, c.loop-m-test.true))
    (steady-is c.if-inside.true (says (goal.at.returns-then-inside-clause-steady c).After-sense_by-inside))

pub loop-m-preserved : goal.loop-m-preserved
loop-m-preserved c =
    let l = c.loop-m in (
      record { stay = record { slots = l.invariant.0.stay.slots }; senses = l.invariant.0.senses },
      rw c.min-out.ensures
          (range-next c.args.index.now c.args.x (entries_at c.args.row.now.ranges c.args.j).first l.m l.invariant.1
          (steady-is c.if-inside.false (says (goal.at.loop-m-preserved c).After-sense_by-inside))),
    )

pub returns-clause-steady : goal.returns-clause-steady
returns-clause-steady c =
    let l = c.loop-m in
    let e : l.m ≡ (entries_at c.args.row.now.ranges c.args.j).count = omega (arith, c.loop-m-test.false) in
    rw e at l.invariant.1
