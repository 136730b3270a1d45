use Rattle.slots.proofs.CompileLaws.{halves-more, alone-more}
use Rattle.slots.proofs.compile.fill_halves.Goals as goal

pub loop-half-preserved : goal.loop-half-preserved
loop-half-preserved c =
    let kept = c.keep_entries.ensures in
    let a = c.args in
    let l = c.loop-half in
    let stands = rw c.half.ensures at c.entries_for-entries.ensures in (
      halves-more a.over.main.now a.over.arrivals.now a.word.now a.k l.half a.row.now.ranges l.row.ranges _ kept.kept kept.others l.invariant.0 stands,
      alone-more a.over.main.now a.over.arrivals.now a.word.now a.k l.half a.row.now.ranges l.row.ranges _ kept.kept kept.others l.invariant.1,
    )
