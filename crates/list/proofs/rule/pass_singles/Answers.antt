-- The single that is next stops the pass, breaks the rule, or is passed.
use Prim.Native.Nat.{ℕ, ◌/◌, ◌<◌}
use mathlib.Core.Path.{◌≡◌, sym, ap, ◌∙◌}
use native.Mathlib.Omega.{arith}
use mathlib.Core.List.{List}
use lib.ListN.{length}
use Rattle.list.specs.Cell.{numbers_in}
use Rattle.list.proofs.CellLaws.{numbers_in-length}
use Rattle.list.proofs.PassedLaws.{passed-end, passed-stop, passed-bad, passed_on, ended}
use Rattle.list.proofs.rule.pass_singles.Goals as goal
use Rattle.list.proofs.rule.pass_singles.Goals.{After-number_at-s, At-loop-i}

abbrev S : At-loop-i → List ℕ
S c = numbers_in c.args.singles.now

here : (c : After-number_at-s) → c.loop-i.i < length (S (goal.at.After-number_at-s c).At-loop-i)
here c = omega (arith, numbers_in-length c.args.singles.now, c.loop-i-test.true)

pub returns-then-bound-s : goal.returns-then-bound-s
returns-then-bound-s c =
    let l = c.loop-i in
    sym (l.invariant ∙ passed-stop c.args.bound l.least (S (goal.at.returns-then-bound-s c).At-loop-i) l.i (here (goal.at.returns-then-bound-s c).After-number_at-s) (omega (arith, c.number_at-s.ensures, c.if-bound-s.true)))

pub returns-then-s-least : goal.returns-then-s-least
returns-then-s-least c =
    let l = c.loop-i in
    let e = c.number_at-s.ensures in
    sym (l.invariant ∙ passed-bad c.args.bound l.least (S (goal.at.returns-then-s-least c).At-loop-i) l.i (here (goal.at.returns-then-s-least c).After-number_at-s) (omega (arith, c.if-bound-s.false)) (omega (arith, c.if-s-least.true)))

pub loop-i-preserved : goal.loop-i-preserved
loop-i-preserved c =
    let l = c.loop-i in
    let e = c.number_at-s.ensures in
    let on = passed_on c.args.bound l.least (S (goal.at.loop-i-preserved c).At-loop-i) l.i (here (goal.at.loop-i-preserved c).After-number_at-s) (omega (arith, c.if-bound-s.false))
    (omega (arith, c.if-s-least.false)) in
    rw e (l.invariant ∙ on)

pub returns : goal.returns
returns c =
    let l = c.loop-i in
    let i-end = l.auto.i-end c.requires.from in
    let at : l.i ≡ length c.args.singles.now / 4 = omega (arith, c.loop-i-test.false) in
    sym (l.invariant ∙ passed-end c.args.bound l.least (S (goal.at.returns c).At-loop-i) l.i (omega (arith, numbers_in-length c.args.singles.now)) ∙ ap (λ (v : ℕ). ended v l.least) at)
