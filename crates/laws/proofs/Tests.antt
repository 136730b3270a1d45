-- Laws of tests: what a conjunction and a disjunction say, and when two tests agree.
use mathlib.Core.Path.{◌≡◌, refl, sym}
use mathlib.Core.Logic.{◌⊎◌, inl, inr}
use Prim.Native.Nat.{ℕ, ◌≤◌, ◌<◌}
use native.Mathlib.Omega.{arith}
use mathlib.Core.Bool.{Bool, true, false, ◌&&◌, ◌||◌}
use lib.Dec.{eqb, leb}
use borrow.Author.Tests.{eqb-true, eq-eqb, le-leb, leb-true, leb-false}

pub true-false : {A : Type 0} → true ≡ false → A
true-false e = absurd (let z : ◌≡◌ {A = ℕ} 0 1 = cc in omega arith)

pub and_both : (a b : Bool) → a && b ≡ true → (a ≡ true) × (b ≡ true)
and_both true b e = (refl, e)
and_both false b e = true-false (sym e)

pub both-and : (a b : Bool) → a ≡ true → b ≡ true → a && b ≡ true
both-and a b e f = rw (e, f)

pub or-either : (a b : Bool) → a || b ≡ true → (a ≡ true) ⊎ (b ≡ true)
or-either true b e = inl refl
or-either false b e = inr e

pub or-neither : (a b : Bool) → a || b ≡ false → (a ≡ false) × (b ≡ false)
or-neither true b e = true-false e
or-neither false b e = (refl, e)

-- a test by its two outcomes
pub by-test : {A : Type 0} (t : Bool) → (t ≡ true → A) → (t ≡ false → A) → A
by-test true f g = f refl
by-test false f g = g refl

-- two tests that imply each other are equal
pub same_test : (a b : Bool) → (a ≡ true → b ≡ true) → (b ≡ true → a ≡ true) → a ≡ b
same_test true b f g = sym (f refl)
same_test false true f g = g refl
same_test false false f g = refl

-- a number against another: which way a comparison falls
pub leb-cases : {A : Type 0} (a b : ℕ) → (a ≤ b → A) → (b < a → A) → A
leb-cases a b f g = by-test (leb a b) (λ e. f (leb-true a b e)) (λ e. g (leb-false a b e))

-- neither below the other
pub leb-both : (a b : ℕ) → leb b a && leb a b ≡ eqb a b
leb-both a b =
    same_test (leb b a && leb a b) (eqb a b)
    (λ e. let w = and_both (leb b a) (leb a b) e in let p = leb-true b a w.0 in let q = leb-true a b w.1 in eq-eqb a b (omega arith))
    (λ e. let p = eqb-true a b e in both-and (leb b a) (leb a b) (le-leb b a (omega arith)) (le-leb a b (omega arith)))
