use native.Mathlib.Omega.{arith}
use Rattle.probing.proofs.ProbingLaws.{best-start, best-same, best-other}
use Rattle.probing.proofs.shortest.Goals as goal
use Rattle.probing.proofs.shortest.Goals.{then-count-fewest, else-count-fewest}

pub loop-j-preserved : goal.loop-j-preserved
loop-j-preserved c =
    let inv = c.loop-j.invariant in
    let h = c.loop-j-test.true in
    let e = c.interval_count-count.ensures.is in
    elim c.if-count-fewest.branch [
      | then-count-fewest w ↦ rw (w.best-is, w.fewest-is) (best-other inv h e w.if-count-fewest.true)
      | else-count-fewest w ↦ rw (w.best-is, w.fewest-is) (best-same inv h e w.if-count-fewest.false)
    ]

pub returns : goal.returns
returns c =
    let b = c.loop-j.invariant in
    let h = c.loop-j-test.false in
    record { inside = b.inside; least = λ j g. let l = b.least j (omega arith) in omega (arith, b.counts) }

pub loop-j-init : goal.loop-j-init
loop-j-init c = best-start c.requires.some c.interval_count-fewest.ensures.is
