use mathlib.Core.Path.{sym, ◌∙◌}
use native.Mathlib.Omega.{arith}
use Rattle.script.proofs.NumberLaws.{numbers-from, numbers-end}
use Rattle.script.proofs.ReadsLaws.{left-all, left_one, left-full, left-none, reads-counts}
use Rattle.script.proofs.number.read_numbers.Goals as goal

pub loop-at-preserved : goal.loop-at-preserved
loop-at-preserved c =
    let s = c.args.s.now in
    let part = c.part_end-end in
    let next = numbers-from s c.loop-at.at part.result (omega arith) part.ensures.place in
    left_one c.number32.result _ c.loop-at.invariant (omega arith) (next ∙ sym (rw c.number32.ensures))

pub returns-clause-reads : goal.returns-clause-reads
returns-clause-reads c =
    let reads = left-none c.loop-at.invariant (numbers-end c.args.s.now c.loop-at.at (omega arith)) in
    reads

pub returns-clause-counts : goal.returns-clause-counts
returns-clause-counts c =
    let reads = left-none c.loop-at.invariant (numbers-end c.args.s.now c.loop-at.at (omega arith)) in
    reads-counts reads

pub loop-at-init : goal.loop-at-init
loop-at-init c = left-all _ _ _

pub shape_of-out-then-out-count : goal.shape_of-out-then-out-count
shape_of-out-then-out-count c = c.loop-at.invariant.same

pub returns-then-out-count-clause-reads : goal.returns-then-out-count-clause-reads
returns-then-out-count-clause-reads c =
    let reads = left-full c.loop-at.invariant (omega arith) in
    reads

pub returns-then-out-count-clause-counts : goal.returns-then-out-count-clause-counts
returns-then-out-count-clause-counts c =
    let reads = left-full c.loop-at.invariant (omega arith) in
    reads-counts reads

pub shape_of-out : goal.shape_of-out
shape_of-out c = c.loop-at.invariant.same
