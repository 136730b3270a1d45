use Rattle.std.specs.Prelude.{Some, None}
use mathlib.Core.Path.{◌≡◌, ◌∙◌}
use Prim.Native.Nat.{◌+◌}
use native.Mathlib.Omega.{arith}
use mathlib.Core.Bool.{true}
use Rattle.refusal.specs.First.{first}
use Rattle.refusal.proofs.FirstLaws.{first-start, first-hit, first-miss, first-end}
use Rattle.build.specs.Lent.{sum_to, bad_count}
use Rattle.build.specs.Build.{count_fault}
use Rattle.build.proofs.CountLaws.{sum-next, count-missing, count-bad, count-good, rest-bad, rest-none, sum-none}
use Rattle.build.proofs.counts.check_counts.Goals as goal
use Rattle.build.proofs.counts.check_counts.Goals.{After-loop-i, In-loop-i}

pub loop-i-init : goal.loop-i-init
loop-i-init c = (
  sum-none c.args.counts.now c.args.total,
  first-start (bad_count c.args.counts.now c.args.total) c.args.words,
)

-- ---- the count of the turn

hit : (c : In-loop-i) → bad_count c.args.counts.now c.args.total c.loop-i.i ≡ true →
    Some c.loop-i.i ≡ count_fault c.args.counts.now c.args.total c.args.words
hit c bad =
    let a = c.args in
    rw (c.loop-i.invariant.1 ∙ first-hit (bad_count a.counts.now a.total) c.loop-i.i a.words c.loop-i-test.true bad)

pub returns-then-count-eq0 : goal.returns-then-count-eq0
returns-then-count-eq0 c = hit (goal.at.returns-then-count-eq0 c).In-loop-i (count-bad _ _ _ _ c.if-counts-i.false c.loop-i.invariant.0 c.then-count-eq0.either)

pub loop-i-preserved : goal.loop-i-preserved
loop-i-preserved c =
    let at = c.loop-i in
    let counts = c.args.counts.now in
    let good = count-good counts c.args.total at.i at.left c.if-counts-i.false c.if-count-eq0.false at.invariant.0
    c.if-left-count.false in
    let s = sum-next counts at.i in
    (omega arith, at.invariant.1 ∙ first-miss (bad_count counts c.args.total) at.i c.args.words c.loop-i-test.true good)

-- ---- behind the words

none : (c : After-loop-i) → first (bad_count c.args.counts.now c.args.total) c.args.words ≡ None
none c =
    let a = c.args in
    c.loop-i.invariant.1 ∙ first-end (bad_count a.counts.now a.total) c.loop-i.i a.words c.loop-i-test.false

sum : (c : After-loop-i) → sum_to c.args.counts.now c.args.words + c.loop-i.left ≡ c.args.total
sum c = let all : c.loop-i.i ≡ c.args.words = omega arith in rw (← all) c.loop-i.invariant.0

pub returns : goal.returns
returns c = rw (none (goal.at.returns c).After-loop-i, rest-none _ _ _ _ c.if-words-counts.false (sum (goal.at.returns c).After-loop-i) c.if-left-gt0.false)

pub returns-then-counts-i : goal.returns-then-counts-i
returns-then-counts-i c = hit (goal.at.returns-then-counts-i c).In-loop-i (count-missing _ _ _ c.if-counts-i.true)

pub returns-then-words-counts : goal.returns-then-words-counts
returns-then-words-counts c =
    let after = (goal.at.returns-then-words-counts c).After-loop-i in
    rw (none after, rest-bad _ _ _ _ (sum after) c.then-words-counts.either)
