use mathlib.Core.Path.{refl, sym, ap, ◌∙◌}
use Prim.Native.Nat.{ℕ}
use native.Mathlib.Omega.{arith}
use mathlib.Core.List.{List, ◌∷◌}
use lib.Dec.{eqb}
use lib.ListN.{length, drop}
use Rattle.convert.specs.Convert.{intervals_of}
use Rattle.convert.proofs.RunLaws.{intervals-none}
use Rattle.layout.proofs.WriteLaws.{kept_plan, PlacedFor, kept-laid, placed_on, laid-length, kept-done, placed-start, kept-start}
use Rattle.layout.proofs.kept.write_list.Goals as goal
use Rattle.layout.proofs.kept.write_list.Goals.{After-next_run-run, Start}

pub loop-i-init : goal.loop-i-init
loop-i-init c =
    let kept = c.args.kept in
    let is = c.requires.counted in
    let cells = intervals_of c.args.numbers.now in
    (omega arith, refl, placed-start cells kept.singles kept.pairs is.singles is.pairs (length c.args.out.now) c.requires.room, refl)

-- what stands behind the run
abbrev rest : After-next_run-run → List ℕ
rest c = intervals_of (drop c.next_run-run.result.next c.args.numbers.now)

abbrev room : After-next_run-run → ℕ
room c = length c.args.out.now

here : (c : After-next_run-run) →
    PlacedFor c.loop-i.at (c.next_run-run.result.lower ∷ c.next_run-run.result.upper ∷ rest c) (room c)
here c = rw c.next_run-run.ensures.cells at c.loop-i.invariant.2

pub put_interval-at-requires : goal.put_interval-at-requires
put_interval-at-requires c =
    let at = c.loop-i in
    rw at.invariant.1 (placed_on at.at c.next_run-run.result.lower c.next_run-run.result.upper (rest (goal.at.put_interval-at-requires c).After-next_run-run) (here (goal.at.put_interval-at-requires c).After-next_run-run)).0

pub loop-i-preserved : goal.loop-i-preserved
loop-i-preserved c =
    let at = c.loop-i in
    let l = c.next_run-run.result.lower in
    let u = c.next_run-run.result.upper in
    let put = c.put_interval-at.ensures in (
      c.next_run-run.ensures.within,
      rw put.puts (laid-length (eqb l u) at.out at.at l u ∙ at.invariant.1),
      rw put.moves (placed_on at.at l u (rest (goal.at.loop-i-preserved c).After-next_run-run) (here (goal.at.loop-i-preserved c).After-next_run-run)).1,
      rw (put.puts, put.moves) (at.invariant.3 ∙ ap (kept_plan at.out at.at) c.next_run-run.ensures.cells ∙ kept-laid at.at l u (rest (goal.at.loop-i-preserved c).After-next_run-run) (here (goal.at.loop-i-preserved c).After-next_run-run) at.out),
    )

pub returns : goal.returns
returns c =
    let at = c.loop-i in
    let xs = c.args.numbers.now in
    let kept = c.args.kept in
    let is = c.requires.counted in
    sym (at.invariant.3 ∙ ap (kept_plan at.out at.at) (intervals-none xs at.i c.loop-i-test.false) ∙ kept-done at.out at.at)
    ∙ kept-start (intervals_of xs) kept.singles kept.pairs is.singles is.pairs c.args.out.now c.requires.room
