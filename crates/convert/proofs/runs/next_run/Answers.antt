use mathlib.Core.Path.{◌≡◌, ◌∙◌}
use Prim.Native.Nat.{ℕ}
use native.Mathlib.Omega.{arith}
use mathlib.Core.List.{List, ◌∷◌}
use lib.ListN.{length, drop, get_or}
use Rattle.limits.specs.Limits.{record_max}
use Rattle.convert.specs.Runs.{RunAt}
use Rattle.convert.proofs.NumberLaws.{good-number-small}
use Rattle.convert.proofs.RunLaws.{runs_from, runs, runs-at, runs_from-on, runs_from-off, runs_from-end, run-ended}
use Rattle.convert.proofs.runs.next_run.Goals as goal
use Rattle.convert.proofs.runs.next_run.Goals.{At-loop-next}

pub loop-next-init : goal.loop-next-init
loop-next-init c =
    let xs = c.args.numbers.now in
    let i = c.args.i in
    (omega (arith, c.requires.within), omega arith, good-number-small record_max xs c.requires.good i c.requires.within, omega arith, runs-at xs i c.requires.within)

abbrev xs : At-loop-next → List ℕ
xs c = c.args.numbers.now

abbrev lower : At-loop-next → ℕ
lower c = get_or (xs c) c.args.i 0

-- the run ends before place `next`
ended : (c : At-loop-next) →
    runs_from (lower c) c.loop-next.upper (drop c.loop-next.next (xs c)) ≡ lower c ∷ c.loop-next.upper ∷ runs (drop c.loop-next.next (xs c)) →
    RunAt (xs c) c.args.i (record { lower = lower c; upper = c.loop-next.upper; next = c.loop-next.next })
ended c e =
    let inv = c.loop-next.invariant in
    record {
      cells = run-ended (xs c) c.args.i (lower c) c.loop-next.upper c.loop-next.next c.requires.good (omega (arith, c.requires.within)) inv.0 inv.4 e;
      forward = inv.1;
      width = inv.3;
      within = inv.0;
    }

pub returns-then-x-upper : goal.returns-then-x-upper
returns-then-x-upper c = ended (goal.at.returns-then-x-upper c).At-loop-next (runs_from-off (lower (goal.at.returns-then-x-upper c).At-loop-next) c.loop-next.upper (xs (goal.at.returns-then-x-upper c).At-loop-next) c.loop-next.next (omega arith) c.if-x-upper.true)

pub loop-next-preserved : goal.loop-next-preserved
loop-next-preserved c =
    let at = c.loop-next in
    let xs = c.args.numbers.now in
    let on = runs_from-on (get_or xs c.args.i 0) at.upper xs at.next (omega arith) c.if-x-upper.false in (
      omega arith,
      omega (arith, at.invariant.1),
      good-number-small record_max xs c.requires.good at.next (omega arith),
      omega (arith, at.invariant.1, at.invariant.3),
      at.invariant.4 ∙ on,
    )

pub returns : goal.returns
returns c =
    let e : c.loop-next.next ≡ length c.args.numbers.now = omega arith in
    rw (← e) (ended (goal.at.returns c).At-loop-next (runs_from-end (lower (goal.at.returns c).At-loop-next) c.loop-next.upper (xs (goal.at.returns c).At-loop-next) c.loop-next.next c.loop-next-test.false))
