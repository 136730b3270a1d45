-- What cells name: one interval apart from the rest, and of a proper list nothing outside its limits.
use mathlib.Core.Path.{◌≡◌, refl, ◌∙◌}
use mathlib.Core.Logic.{◌⊎◌, inl, inr}
use Prim.Native.Nat.{ℕ, ◌+◌, ◌≤◌, ◌<◌}
use native.Mathlib.Omega.{arith}
use mathlib.Core.Bool.{true, false, ◌&&◌, and-false}
use mathlib.Core.List.{List, [], ◌∷◌}
use lib.Dec.{leb}
use borrow.Author.Tests.{leb-true, le-leb, lt-leb}
use Rattle.laws.proofs.Tests.{and_both, or-either}
use Rattle.list.specs.Interval.{is_proper, names}
use Rattle.list.proofs.ProperLaws.{ProperFrom, proper-facts}

-- ---- the first interval and the rest, of any cells

pub names_in : (l u x : ℕ) (r : List ℕ) → l ≤ x → x ≤ u → names (l ∷ u ∷ r) x ≡ true
unfolding names
names_in l u x r h g = rw (le-leb l x h, le-leb x u g)

pub names-past : (l u x : ℕ) (r : List ℕ) → u < x → names (l ∷ u ∷ r) x ≡ names r x
unfolding names
names-past l u x r h = rw (lt-leb x u h, and-false (leb l x))

-- what is named stands in the first interval, or the rest names it
pub names-either : (l u x : ℕ) (r : List ℕ) → names (l ∷ u ∷ r) x ≡ true → ((l ≤ x) × (x ≤ u)) ⊎ (names r x ≡ true)
unfolding names
names-either l u x r e = go (or-either (leb l x && leb x u) (names r x) e)
  where
    go : (leb l x && leb x u ≡ true) ⊎ (names r x ≡ true) → ((l ≤ x) × (x ≤ u)) ⊎ (names r x ≡ true)
    go (inl h) = let b = and_both (leb l x) (leb x u) h in inl (leb-true l x b.0, leb-true x u b.1)
    go (inr h) = inr h

-- ---- a proper list

-- nothing below its first number
pub names-below : (n k x : ℕ) (c : List ℕ) → ProperFrom n k c → x < k → names c x ≡ false
unfolding names
names-below n k x [] p h = refl
names-below n k x (l ∷ u ∷ r) p h = rw (lt-leb l x (omega arith)) (names-below n (u + 2) x r p.3 (omega arith))
names-below n k x (l ∷ []) p h = elim p [ ]

-- nothing above its limit
pub names-above : (n k x : ℕ) (c : List ℕ) → ProperFrom n k c → n < x → names c x ≡ false
unfolding names
names-above n k x [] p h = refl
names-above n k x (l ∷ u ∷ r) p h = rw (lt-leb x u (omega arith), and-false (leb l x)) (names-above n (u + 2) x r p.3 h)
names-above n k x (l ∷ []) p h = elim p [ ]

-- nothing between its first interval and the next
pub names-gap : (n k l u x : ℕ) (r : List ℕ) → ProperFrom n k (l ∷ u ∷ r) → u < x → x < u + 2 → names (l ∷ u ∷ r) x ≡ false
names-gap n k l u x r p h g = names-past l u x r h ∙ names-below n (u + 2) x r p.3 g

-- neither 0 nor a number above n
pub proper-names-zero : (n : ℕ) (c : List ℕ) → is_proper n c ≡ true → names c 0 ≡ false
unfolding is_proper
proper-names-zero n c e = names-below n 1 0 c (proper-facts n 1 c e) (omega arith)

pub proper-names-above : (n x : ℕ) (c : List ℕ) → is_proper n c ≡ true → n < x → names c x ≡ false
unfolding is_proper
proper-names-above n x c e h = names-above n 1 x c (proper-facts n 1 c e) h
