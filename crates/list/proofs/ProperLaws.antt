-- A proper list as facts, which the proofs take apart, and as the test of the definitions.
use mathlib.Core.Path.{◌≡◌, refl, sym}
use Prim.Native.Nat.{ℕ, ◌+◌, ◌≤◌}
use native.Mathlib.Omega.{arith}
use mathlib.Core.Bool.{true, ◌&&◌}
use mathlib.Core.List.{List, [], ◌∷◌}
use lib.Dec.{leb}
use borrow.Author.Tests.{leb-true, le-leb}
use Rattle.laws.proofs.Tests.{true-false, and_both}
use Rattle.list.specs.Interval.{proper_from}

abbrev pub ProperFrom : ℕ → ℕ → List ℕ → Type 0
ProperFrom n k [] = Unit {0}
ProperFrom n k (l ∷ []) = ⊥
ProperFrom n k (l ∷ u ∷ r) = (k ≤ l) × (l ≤ u) × (u ≤ n) × ProperFrom n (u + 2) r

pub proper-facts : (n k : ℕ) (c : List ℕ) → proper_from n k c ≡ true → ProperFrom n k c
unfolding proper_from
proper-facts n k [] e = tt
proper-facts n k (l ∷ []) e = true-false (sym e)
proper-facts n k (l ∷ u ∷ r) e =
    let a = and_both (leb k l && leb l u && leb u n) (proper_from n (u + 2) r) e in
    let b = and_both (leb k l && leb l u) (leb u n) a.0 in
    let d = and_both (leb k l) (leb l u) b.0 in
    (leb-true k l d.0, leb-true l u d.1, leb-true u n b.1, proper-facts n (u + 2) r a.1)

pub facts-proper : (n k : ℕ) (c : List ℕ) → ProperFrom n k c → proper_from n k c ≡ true
unfolding proper_from
facts-proper n k [] p = refl
facts-proper n k (l ∷ []) p = absurd p
facts-proper n k (l ∷ u ∷ r) p = rw (le-leb k l p.0, le-leb l u p.1, le-leb u n p.2) (facts-proper n (u + 2) r p.3)

-- a lower bound may be taken lower, an upper one higher
pub proper-weaker : (n m j k : ℕ) (c : List ℕ) → n ≤ m → j ≤ k → ProperFrom n k c → ProperFrom m j c
proper-weaker n m j k [] g h p = tt
proper-weaker n m j k (l ∷ u ∷ r) g h p = (omega arith, p.1, omega arith, proper-weaker n m (u + 2) (u + 2) r g (omega arith) p.3)
proper-weaker n m j k (l ∷ []) g h p = elim p [ ]
