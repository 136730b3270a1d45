use native.Mathlib.Omega.{arith}
use Rattle.list.specs.Sense.{Steady}
use Rattle.slots.proofs.RowLaws.{moved-both}
use Rattle.senses.proofs.PairedSenses.{steady-is}
use Rattle.senses.proofs.RangeSenses.{in_half, half-said, half_in, halves-out, half-empty, halves-over}
use Rattle.senses.proofs.kept.look_slot.Goals as goal
use Rattle.senses.proofs.kept.look_slot.Goals.{then-row-j-ne0+else-inside, else-row-j-ne0}

pub returns-then-inside-clause-steady : goal.returns-then-inside-clause-steady
returns-then-inside-clause-steady c =
    let a = c.args in
    let l = c.loop-half in
    half_in a.over.main.now a.over.arrivals.now a.row.now a.k l.half (omega (arith, c.loop-half-test.true))
    (half-said a.over.main.now a.over.arrivals.now a.row.now a.k l.half l.row l.invariant.0.stay.slots c.half-index.ensures
    (steady-is c.if-inside.true c.sense_entries-inside.ensures.steady))

-- behind a half, looked at or without a list
pub loop-half-preserved : goal.loop-half-preserved
loop-half-preserved c =
    let a = c.args in
    let l = c.loop-half in
    elim c.if-row-j-ne0.branch [
      | then-row-j-ne0+else-inside w ↦
          let r = w.sense_entries-inside.result in
          let said : Steady (in_half a.over.main.now a.over.arrivals.now a.row.now a.k l.half) a.x r.inside r.until =
          half-said a.over.main.now a.over.arrivals.now a.row.now a.k l.half l.row l.invariant.0.stay.slots w.half-index.ensures
          w.sense_entries-inside.ensures.steady in (
            rw w.row-is (moved-both l.invariant.0 w.sense_entries-inside.ensures.moved),
            rw (w.out-is, w.min-out.ensures)
                (halves-out a.over.main.now a.over.arrivals.now a.row.now a.k l.half (omega (arith, c.loop-half-test.true)) l.invariant.1
                (steady-is w.if-inside.false said)),
          )
      | else-row-j-ne0 w ↦ (
        rw w.row-is l.invariant.0,
        rw w.out-is
            (half-empty a.over.main.now a.over.arrivals.now a.row.now a.k l.half (omega (arith, c.loop-half-test.true))
            (rw l.invariant.0.stay.slots at w.if-row-j-ne0.false) l.invariant.1),
      )
    ]

pub returns-clause-steady : goal.returns-clause-steady
returns-clause-steady c =
    let a = c.args in
    let l = c.loop-half in
    halves-over a.over.main.now a.over.arrivals.now a.row.now a.k {half = l.half} (omega (arith, c.loop-half-test.false)) l.invariant.1
