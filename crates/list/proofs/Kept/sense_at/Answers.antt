-- A single at x, a pair that has begun, or nothing before what is next on either side.
use Prim.Native.Nat.{ℕ, ◌≤◌, ◌<◌}
use mathlib.Core.Path.{◌≡◌, ◌∙◌, ap}
use native.Mathlib.Omega.{arith}
use mathlib.Core.List.{List}
use lib.ListN.{length, get_or}
use Rattle.limits.specs.Limits.{record_max}
use Rattle.list.specs.declared.Place.{Place}
use Rattle.list.specs.Cell.{numbers_in}
use Rattle.list.specs.Seek.{count_below}
use Rattle.list.specs.Sense.{number_or_end}
use Rattle.list.proofs.CellLaws.{numbers_in-length}
use Rattle.list.proofs.KeptLaws.{Kept, kept-facts}
use Rattle.list.proofs.SenseLaws.{number-found, sense-single, sense-pair, sense-none}
use Rattle.list.proofs.Kept.sense_at.Goals as goal
use Rattle.list.proofs.Kept.sense_at.Goals.{After-number_at, Start, Then-l-x}

abbrev S : Start → List ℕ
S s = numbers_in s.args.self.singles.now

abbrev L : Start → List ℕ
L s = numbers_in s.args.self.lower.now

abbrev U : Start → List ℕ
U s = numbers_in s.args.self.upper.now

facts : (s : Start) → Kept record_max (S s) (L s) (U s)
facts s = kept-facts record_max (S s) (L s) (U s) s.requires.kept

-- the place of x
single-place : (s : Start) → s.args.at.p.0 ≡ count_below s.args.x (S s)
single-place s = ap (λ (w : Place). w.p.0) s.requires.place

pair_place : (s : Start) → s.args.at.q.0 ≡ count_below s.args.x (U s)
pair_place s = ap (λ (w : Place). w.q.0) s.requires.place

pub returns-then-s-x : goal.returns-then-s-x
returns-then-s-x c =
    let f = number-found (S (goal.at.returns-then-s-x c).Start) (count_below c.args.x (S (goal.at.returns-then-s-x c).Start)) c.args.x _
    (c.number_or_end-s.ensures ∙ ap (λ (i : ℕ). number_or_end (S (goal.at.returns-then-s-x c).Start) i) (single-place (goal.at.returns-then-s-x c).Start)) c.if-s-x.true c.requires.within in
    sense-single (S (goal.at.returns-then-s-x c).Start) (L (goal.at.returns-then-s-x c).Start) (U (goal.at.returns-then-s-x c).Start) record_max c.args.x (facts (goal.at.returns-then-s-x c).Start) (omega arith) f.0 f.1

-- the pair that is next has begun
begun : (c : Then-l-x) →
    (count_below c.args.x (U (goal.at.Then-l-x c).Start) < length (L (goal.at.Then-l-x c).Start))
    × (get_or (L (goal.at.Then-l-x c).Start) (count_below c.args.x (U (goal.at.Then-l-x c).Start)) 0 ≤ c.args.x)
begun c =
    number-found (L (goal.at.Then-l-x c).Start) (count_below c.args.x (U (goal.at.Then-l-x c).Start)) c.args.x _ (c.number_or_end-l.ensures ∙ ap (λ (i : ℕ). number_or_end (L (goal.at.Then-l-x c).Start) i) (pair_place (goal.at.Then-l-x c).Start))
    c.if-l-x.true c.requires.within

pub number_at-requires : goal.number_at-requires
number_at-requires c =
    let h = (begun (goal.at.number_at-requires c).Then-l-x).0 in
    let long = (facts (goal.at.number_at-requires c).Start).long in
    omega (arith, pair_place (goal.at.number_at-requires c).Start, numbers_in-length c.args.self.upper.now)

-- its upper bound
upper : (c : After-number_at) → c.number_at.result ≡ get_or (U (goal.at.After-number_at c).Start) (count_below c.args.x (U (goal.at.After-number_at c).Start)) 0
upper c = c.number_at.ensures ∙ ap (λ (i : ℕ). get_or (U (goal.at.After-number_at c).Start) i 0) (pair_place (goal.at.After-number_at c).Start)

pub overflow_add-result-then-l-x : goal.overflow_add-result-then-l-x
overflow_add-result-then-l-x c =
    let u = (facts (goal.at.overflow_add-result-then-l-x c).Start).pair-at (count_below c.args.x (U (goal.at.overflow_add-result-then-l-x c).Start)) (begun (goal.at.overflow_add-result-then-l-x c).Then-l-x).0 in
    omega (arith, upper c)

pub returns-then-l-x : goal.returns-then-l-x
returns-then-l-x c =
    let h = begun (goal.at.returns-then-l-x c).Then-l-x in
    rw (upper c) (sense-pair (S (goal.at.returns-then-l-x c).Start) (L (goal.at.returns-then-l-x c).Start) (U (goal.at.returns-then-l-x c).Start) record_max c.args.x (facts (goal.at.returns-then-l-x c).Start) (omega arith) h.0 h.1)

pub returns : goal.returns
returns c =
    let es = c.number_or_end-s.ensures ∙ ap (λ (i : ℕ). number_or_end (S (goal.at.returns c).Start) i) (single-place (goal.at.returns c).Start) in
    let el = c.number_or_end-l.ensures ∙ ap (λ (i : ℕ). number_or_end (L (goal.at.returns c).Start) i) (pair_place (goal.at.returns c).Start) in
    rw c.min.ensures
    (sense-none (S (goal.at.returns c).Start) (L (goal.at.returns c).Start) (U (goal.at.returns c).Start) record_max c.args.x (facts (goal.at.returns c).Start) _ _ es el (omega arith) c.if-s-x.false c.if-l-x.false)
