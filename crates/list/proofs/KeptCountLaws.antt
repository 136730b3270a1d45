-- Reference 3.4: the kept form has no more cells than records, for a single names one number and a pair two or more.
use mathlib.Core.Path.{◌≡◌, refl}
use Prim.Native.Nat.{ℕ, zero, suc, ◌+◌, ◌-◌, ◌*◌, ◌≤◌}
use native.Mathlib.Omega.{arith}
use mathlib.Core.Bool.{Bool, true, false, cond}
use mathlib.Core.List.{List}
use lib.ListN.{length, get_or}
use Rattle.laws.proofs.Tests.{and_both}
use Rattle.list.specs.declared.Place.{Place}
use Rattle.list.specs.Interval.{is_proper, records}
use Rattle.list.specs.Kept.{start, single_next, moved, walk_from, walked, are_longer, is_kept}
use Rattle.list.proofs.WalkLaws.{single-next-left, pair-next-left}
use Rattle.list.proofs.KeptLaws.{longer-long, longer-at}

-- the numbers that S, L and U hold from a place on
abbrev held_from : List ℕ → List ℕ → Place → ℕ
held_from S L at = (length S - at.p.0) + 2 * (length L - at.q.0)

-- k intervals are left at a place
abbrev Left : List ℕ → List ℕ → Place → ℕ → Type 0
Left S L at k = (at.p.0 ≤ length S) × (at.q.0 ≤ length L) × ((length S - at.p.0) + (length L - at.q.0) ≡ k)

count-step : (S L U : List ℕ) (at : Place) (k : ℕ) (v : Bool) → are_longer L U ≡ true → single_next S L at.p.0 at.q.0 ≡ v → Left S L at (suc k) →
    ((to : Place) → Left S L to k → held_from S L to ≤ records (walk_from S L U to k)) →
    held_from S L at ≤ cond v (get_or S at.p.0 0) (get_or U at.q.0 0) + 1 - cond v (get_or S at.p.0 0) (get_or L at.q.0 0)
    + records (walk_from S L U (moved v at) k)
count-step S L U at k true e f w ih =
    let h = single-next-left S L at.p.0 at.q.0 f in
    omega (arith, ih (moved true at) (omega arith, w.1, omega arith))
count-step S L U at k false e f w ih =
    let h = pair-next-left S L at.p.0 at.q.0 f w.0 (let l = w.2 in omega arith) in
    omega (arith, longer-at L U e at.q.0 h, ih (moved false at) (w.0, omega arith, omega arith))

walk-count : (S L U : List ℕ) (at : Place) (k : ℕ) → are_longer L U ≡ true → Left S L at k → held_from S L at ≤ records (walk_from S L U at k)
unfolding walk_from records
walk-count S L U at zero e w = omega arith
walk-count S L U at (suc k) e w =
    count-step S L U at k (single_next S L at.p.0 at.q.0) e refl w (λ to g. walk-count S L U to k e g)

pub kept-count : (n : ℕ) (S L U : List ℕ) → is_kept n S L U ≡ true → length S + length L + length U ≤ records (walked S L U)
unfolding is_kept walked
kept-count n S L U e =
    let a = (and_both (are_longer L U) (is_proper n (walked S L U)) e).0 in
    omega (arith, longer-long L U a, walk-count S L U start (length S + length L) a (omega arith, omega arith, omega arith))
