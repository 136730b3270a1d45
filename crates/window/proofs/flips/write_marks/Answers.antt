use Prim.Native.Nat.{◌+◌, ◌<◌}
use mathlib.Core.Path.{◌≡◌, sym, ◌∙◌}
use native.Mathlib.Omega.{arith}
use lib.ListN.{length, length-set}
use Rattle.window.specs.Flips.{marks}
use Rattle.window.proofs.MarkLaws.{cleared, cleared-less}
use Rattle.window.proofs.WordFlips.{mark-count, mark-write, mark-write-end, mark-count-end}
use Rattle.window.proofs.flips.write_marks.Goals as goal
use Rattle.window.proofs.flips.write_marks.Goals.{In-loop-x}

-- a turn takes one mark
taken : (c : In-loop-x) → let l = c.loop-x in l.k + 1 + length (marks (cleared l.x)) ≡ l.k + length (marks l.x)
taken c = let l = c.loop-x in mark-count l.x (omega arith) l.invariant.1 l.k

pub loop-x-preserved : goal.loop-x-preserved
loop-x-preserved c =
    let l = c.loop-x in
    let some : 0 < l.x = omega arith in
    let less = cleared-less l.x some in (
      simp length-set l.invariant.0,
      omega arith,
      taken c ∙ l.invariant.2,
      l.invariant.3 ∙ mark-write l.x some l.invariant.1 l.out c.args.base l.k,
    )

pub returns-clause-writes : goal.returns-clause-writes
returns-clause-writes c =
    let l = c.loop-x in
    let e : l.x ≡ 0 = c.loop-x-test.false in
    sym (l.invariant.3 ∙ rw e (mark-write-end l.out c.args.base l.k))

pub returns-clause-counts : goal.returns-clause-counts
returns-clause-counts c =
    let l = c.loop-x in
    let e : l.x ≡ 0 = c.loop-x-test.false in
    sym (sym l.invariant.2 ∙ rw e (mark-count-end l.k))

pub bounds-out-k : goal.bounds-out-k
bounds-out-k c = omega (arith, taken c)
