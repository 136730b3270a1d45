use Rattle.probing.proofs.ProbingLaws.{cut-start, cut_fits, cut-next, cut-end-fits, cut-end}
use Rattle.probing.proofs.put_within.Goals as goal

pub close_piece-tally-requires-clause-fits : goal.close_piece-tally-requires-clause-fits
close_piece-tally-requires-clause-fits c =
    let inv = c.loop-x.invariant in
    let asked = c.requires in
    cut_fits inv asked.within.high asked.fits c.probe-sense.ensures.steady c.probe-sense.ensures.near

pub loop-x-preserved : goal.loop-x-preserved
loop-x-preserved c =
    let s = c.probe-sense.ensures in
    rw (c.then_some-piece.ensures, c.unwrap_or.ensures) (cut-next c.loop-x.invariant s.steady s.near c.close_piece-tally.ensures)

pub close_piece-requires-clause-fits : goal.close_piece-requires-clause-fits
close_piece-requires-clause-fits c =
    let inv = c.loop-x.invariant in
    let asked = c.requires in
    cut-end-fits inv asked.within.high asked.fits c.loop-x-test.false

pub returns : goal.returns
returns c =
    let inv = c.loop-x.invariant in
    cut-end inv c.loop-x-test.false c.close_piece.ensures

pub loop-x-init : goal.loop-x-init
loop-x-init c = cut-start c.requires.order
