use mathlib.Core.Path.{sym, ◌∙◌}
use native.Mathlib.Omega.{arith}
use lib.ListN.{length}
use Rattle.refusal.proofs.FirstLaws.{first-start, first-end}
use Rattle.question.specs.Reading.{long_at}
use Rattle.question.proofs.FaultLaws.{long-here, long-past, long-none}
use borrow.Author.Rules.{rules}
use Rattle.question.proofs.faults.first_long.Goals as goal

pub loop-i-init : goal.loop-i-init
loop-i-init c = (search rules, first-start (long_at c.args.s.now) (length c.args.s.now))

pub returns-then-end-i-gt-WORD_MAX : goal.returns-then-end-i-gt-WORD_MAX
returns-then-end-i-gt-WORD_MAX c =
    let at = c.loop-i in
    sym (at.invariant.1 ∙ long-here c.args.s.now at.i c.run_end-end.result c.run_end-end.ensures.ends
    c.if-end-i-gt-WORD_MAX.true c.loop-i-test.true)

pub returns-then-s-end : goal.returns-then-s-end
returns-then-s-end c =
    let at = c.loop-i in
    sym (at.invariant.1 ∙ long-none c.args.s.now at.i c.run_end-end.result
    c.run_end-end.ensures.ends c.if-end-i-gt-WORD_MAX.false (omega arith))

pub loop-i-preserved : goal.loop-i-preserved
loop-i-preserved c =
    let at = c.loop-i in (
      omega arith,
      at.invariant.1 ∙ long-past c.args.s.now at.i c.run_end-end.result
          c.run_end-end.ensures.ends c.if-end-i-gt-WORD_MAX.false (omega arith),
    )

pub returns : goal.returns
returns c =
    let s = c.args.s.now in
    let at = c.loop-i in
    sym (at.invariant.1 ∙ first-end (long_at s) at.i (length s) c.loop-i-test.false)
