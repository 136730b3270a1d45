-- What ends before a and what begins by b is counted on each side; of what begins by b, the others overlap.
use Prim.Native.Nat.{ℕ, ◌+◌, ◌≤◌, ◌<◌}
use native.Mathlib.Omega.{arith}
use mathlib.Core.List.{List}
use Rattle.limits.specs.Limits.{record_max}
use Rattle.list.specs.Cell.{numbers_in}
use Rattle.list.specs.Seek.{count_below}
use Rattle.list.proofs.SeekLaws.{count-mono}
use Rattle.list.proofs.WalkLaws.{walked-below}
use Rattle.list.proofs.KeptLaws.{Kept, kept-facts}
use Rattle.list.proofs.ProbeLaws.{ended-begun, probe-overlap}
use Rattle.list.proofs.Kept.probe.Goals as goal
use Rattle.list.proofs.Kept.probe.Goals.{After-count_below-4, Start}

abbrev S : Start → List ℕ
S s = numbers_in s.args.self.singles.now

abbrev L : Start → List ℕ
L s = numbers_in s.args.self.lower.now

abbrev U : Start → List ℕ
U s = numbers_in s.args.self.upper.now

facts : (s : Start) → Kept record_max (S s) (L s) (U s)
facts s = kept-facts record_max (S s) (L s) (U s) s.requires.kept

-- what has ended before a has begun by b
singles-begun : (s : Start) → count_below s.args.a (S s) ≤ count_below (s.args.b + 1) (S s)
singles-begun s = count-mono s.args.a (s.args.b + 1) (S s) (omega (arith, s.requires.ordered))

pairs-begun : (s : Start) → count_below s.args.a (U s) ≤ count_below (s.args.b + 1) (L s)
pairs-begun s = ended-begun record_max s.args.a s.args.b (S s) (L s) (U s) (facts s) s.requires.ordered

pub count_below-requires-3-clause-ascends : goal.count_below-requires-3-clause-ascends
count_below-requires-3-clause-ascends c = (facts (goal.at.count_below-requires-3-clause-ascends c).Start).singles-ascend

pub count_below-requires-3-clause-low : goal.count_below-requires-3-clause-low
count_below-requires-3-clause-low c = omega (arith, c.count_below.ensures, singles-begun (goal.at.count_below-requires-3-clause-low c).Start)

pub count_below-requires-4-clause-ascends : goal.count_below-requires-4-clause-ascends
count_below-requires-4-clause-ascends c = (facts (goal.at.count_below-requires-4-clause-ascends c).Start).lower-ascend

pub count_below-requires-4-clause-low : goal.count_below-requires-4-clause-low
count_below-requires-4-clause-low c = omega (arith, c.count_below-2.ensures, pairs-begun (goal.at.count_below-requires-4-clause-low c).Start)

-- what the needs behind the four counts take: both sums fit, and what has ended has begun
abbrev Sums : ℕ → ℕ → ℕ → ℕ → Type 0
Sums p q p' q' = (p + q < 18446744073709551616) × (p' + q' < 18446744073709551616) × (p + q ≤ p' + q')

sums : (c : After-count_below-4) →
    Sums c.count_below.result c.count_below-2.result c.count_below-3.result c.count_below-4.result
sums c =
    let cs = c.count_below.ensures in
    let cu = c.count_below-2.ensures in
    let ds = c.count_below-3.ensures in
    let dl = c.count_below-4.ensures in
    let m = singles-begun (goal.at.After-count_below-4 c).Start in
    let e = pairs-begun (goal.at.After-count_below-4 c).Start in
    (omega arith, omega arith, omega arith)

pub returns-clause-below : goal.returns-clause-below
returns-clause-below c =
    let cs = c.count_below.ensures in
    let cu = c.count_below-2.ensures in
    let ds = c.count_below-3.ensures in
    let dl = c.count_below-4.ensures in
    let f = walked-below (S (goal.at.returns-clause-below c).Start) (L (goal.at.returns-clause-below c).Start) (U (goal.at.returns-clause-below c).Start) (facts (goal.at.returns-clause-below c).Start).long c.args.a in
    let g = probe-overlap record_max c.args.a c.args.b (S (goal.at.returns-clause-below c).Start) (L (goal.at.returns-clause-below c).Start) (U (goal.at.returns-clause-below c).Start) (facts (goal.at.returns-clause-below c).Start) c.requires.ordered in
    omega arith

pub returns-clause-overlapping : goal.returns-clause-overlapping
returns-clause-overlapping c =
    let cs = c.count_below.ensures in
    let cu = c.count_below-2.ensures in
    let ds = c.count_below-3.ensures in
    let dl = c.count_below-4.ensures in
    let f = walked-below (S (goal.at.returns-clause-overlapping c).Start) (L (goal.at.returns-clause-overlapping c).Start) (U (goal.at.returns-clause-overlapping c).Start) (facts (goal.at.returns-clause-overlapping c).Start).long c.args.a in
    let g = probe-overlap record_max c.args.a c.args.b (S (goal.at.returns-clause-overlapping c).Start) (L (goal.at.returns-clause-overlapping c).Start) (U (goal.at.returns-clause-overlapping c).Start) (facts (goal.at.returns-clause-overlapping c).Start) c.requires.ordered in
    omega arith

pub count_below-requires-clause-ascends : goal.count_below-requires-clause-ascends
count_below-requires-clause-ascends c = (facts (goal.at.count_below-requires-clause-ascends c).Start).singles-ascend

pub count_below-requires-2-clause-ascends : goal.count_below-requires-2-clause-ascends
count_below-requires-2-clause-ascends c = (facts (goal.at.count_below-requires-2-clause-ascends c).Start).upper-ascend

pub overflow_sub-result : goal.overflow_sub-result
overflow_sub-result c =
    let s = sums (goal.at.overflow_sub-result c).After-count_below-4 in omega arith
