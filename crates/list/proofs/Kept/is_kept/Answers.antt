-- A pair breaks the rule, by itself or by the singles before it, or the rule is left to what follows it.
use Prim.Native.Nat.{ℕ, ◌+◌, ◌<◌}
use mathlib.Core.Path.{◌≡◌, refl, sym, ap, ◌∙◌}
use native.Mathlib.Omega.{arith}
use mathlib.Core.List.{List}
use lib.Dec.{eqb}
use lib.ListN.{length, drop}
use Rattle.list.specs.Passed.{passed}
use Rattle.list.specs.Cell.{numbers_in}
use Rattle.list.proofs.CellLaws.{numbers_in-length}
use Rattle.list.proofs.PassedLaws.{kept-start, kept-pair-short, kept-pair-over, turn_near, turn_on, end-decides}
use Rattle.list.proofs.Kept.is_kept.Goals as goal
use Rattle.list.proofs.Kept.is_kept.Goals.{After-number_at-u, Start}

abbrev S : Start → List ℕ
S c = numbers_in c.args.self.singles.now

abbrev L : Start → List ℕ
L c = numbers_in c.args.self.lower.now

abbrev U : Start → List ℕ
U c = numbers_in c.args.self.upper.now

long : (c : Start) → length (L c) ≡ length (U c)
long c = omega (arith, numbers_in-length c.args.self.lower.now, numbers_in-length c.args.self.upper.now, c.requires.paired)

here : (c : After-number_at-u) → c.loop-q.q < length (L (goal.at.After-number_at-u c).Start)
here c = omega (arith, numbers_in-length c.args.self.lower.now, c.loop-q-test.true)

pub loop-q-init : goal.loop-q-init
loop-q-init c = record { single = omega arith; rule = kept-start _ _ _ _ }

pub returns-then-u-l : goal.returns-then-u-l
returns-then-u-l c =
    let l = c.loop-q in
    let s = (goal.at.returns-then-u-l c).Start in
    sym (l.invariant.rule ∙ kept-pair-short c.args.n (S s) (L s) (U s) l.least l.p.0 l.q (long s) l.invariant.single (here (goal.at.returns-then-u-l c).After-number_at-u)
    (omega (arith, c.number_at-l.ensures, c.number_at-u.ensures, c.if-u-l.true)))

pub returns-then-n-u : goal.returns-then-n-u
returns-then-n-u c =
    let l = c.loop-q in
    let s = (goal.at.returns-then-n-u c).Start in
    sym (l.invariant.rule ∙ kept-pair-over c.args.n (S s) (L s) (U s) l.least l.p.0 l.q (long s) l.invariant.single (here (goal.at.returns-then-n-u c).After-number_at-u)
    (omega (arith, c.number_at-u.ensures, c.if-n-u.true)))

pub pass_singles-pass-requires-clause-from : goal.pass_singles-pass-requires-clause-from
pass_singles-pass-requires-clause-from c = omega (arith, numbers_in-length c.args.self.singles.now, c.loop-q.invariant.single)

pub returns-then-l-pass : goal.returns-then-l-pass
returns-then-l-pass c =
    let l = c.loop-q in
    let s = (goal.at.returns-then-l-pass c).Start in
    sym
    (l.invariant.rule
    ∙ turn_near c.args.n (S s) (L s) (U s) c.requires.limit (long s) l.least l.p.0 l.q l.invariant.single
    _ _ _ (here (goal.at.returns-then-l-pass c).After-number_at-u) c.number_at-l.ensures c.number_at-u.ensures c.if-u-l.false
    c.if-n-u.false c.pass_singles-pass.ensures c.if-l-pass.true)

pub loop-q-preserved : goal.loop-q-preserved
loop-q-preserved c =
    let l = c.loop-q in
    let s = (goal.at.loop-q-preserved c).Start in
    let t =
    turn_on c.args.n (S s) (L s) (U s) c.requires.limit (long s) l.least l.p.0 l.q l.invariant.single
    _ _ _ (here (goal.at.loop-q-preserved c).After-number_at-u) c.number_at-l.ensures c.number_at-u.ensures c.if-u-l.false c.if-n-u.false c.pass_singles-pass.ensures
    c.if-l-pass.false in
    record { single = t.0; rule = l.invariant.rule ∙ t.1 }

pub passes_all-requires-clause-from : goal.passes_all-requires-clause-from
passes_all-requires-clause-from c = omega (arith, numbers_in-length c.args.self.singles.now, c.loop-q.invariant.single)

pub returns : goal.returns
returns c =
    let l = c.loop-q in
    let s = (goal.at.returns c).Start in
    let rest = passed (c.args.n + 1) l.least l.p.0 (drop l.p.0 (S s)) in
    let decides =
    end-decides c.args.n (S s) (L s) (U s) c.requires.limit (long s) l.least l.p.0 l.q l.invariant.single rest
    (omega (arith, numbers_in-length c.args.self.lower.now, l.auto.q-end, c.loop-q-test.false)) refl in
    c.passes_all.ensures ∙ sym (l.invariant.rule ∙ decides ∙ ap (λ (v : ℕ). eqb rest.p.0 v) (numbers_in-length c.args.self.singles.now))
