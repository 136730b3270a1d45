-- Laws of the numbers in a region: how many there are, which stands at a place, and those of a part and of two regions one behind the other.
use mathlib.Core.Path.{◌≡◌, refl, ap}
use Prim.Native.Nat.{ℕ, zero, suc, ◌+◌, ◌*◌, ◌/◌, ◌%◌, ◌≤◌}
use native.Mathlib.Omega.{arith}
use native.Mathlib.Numerals.{add-one, add-two, add-three}
use mathlib.Core.List.{List, [], ◌∷◌, ◌++◌}
use lib.ListN.{length, get_or, take, drop}
use Rattle.list.specs.Cell.{cell, cell_at, numbers_in}

four-more : (i : ℕ) → 4 * suc i ≡ suc (suc (suc (suc (4 * i))))
four-more i = omega arith

pub numbers_in-length : (bs : List ℕ) → length (numbers_in bs) ≡ length bs / 4
unfolding numbers_in
numbers_in-length [] = refl
numbers_in-length (a ∷ []) = refl
numbers_in-length (a ∷ b ∷ []) = refl
numbers_in-length (a ∷ b ∷ c ∷ []) = refl
numbers_in-length (a ∷ b ∷ c ∷ d ∷ r) = let h = numbers_in-length r in omega arith

pub numbers_in-at : (bs : List ℕ) (i : ℕ) → 4 * i + 4 ≤ length bs → get_or (numbers_in bs) i 0 ≡ cell_at bs (4 * i)
unfolding numbers_in
numbers_in-at [] i h = absurd (omega arith)
numbers_in-at (a ∷ []) i h = absurd (omega arith)
numbers_in-at (a ∷ b ∷ []) i h = absurd (omega arith)
numbers_in-at (a ∷ b ∷ c ∷ []) i h = absurd (omega arith)
numbers_in-at (a ∷ b ∷ c ∷ d ∷ r) zero h = refl
numbers_in-at (a ∷ b ∷ c ∷ d ∷ r) (suc i) h =
    let ih = numbers_in-at r i (omega arith) in
    rw (add-one (4 * suc i), add-two (4 * suc i), add-three (4 * suc i), four-more i) (rw (add-one (4 * i), add-two (4 * i), add-three (4 * i)) at ih)

pub numbers_in-take : (k : ℕ) (bs : List ℕ) → numbers_in (take (4 * k) bs) ≡ take k (numbers_in bs)
unfolding numbers_in
numbers_in-take zero bs = refl
numbers_in-take (suc k) [] = rw (four-more k)
numbers_in-take (suc k) (a ∷ []) = rw (four-more k)
numbers_in-take (suc k) (a ∷ b ∷ []) = rw (four-more k)
numbers_in-take (suc k) (a ∷ b ∷ c ∷ []) = rw (four-more k)
numbers_in-take (suc k) (a ∷ b ∷ c ∷ d ∷ r) = rw (four-more k) (ap (λ (l : List ℕ). cell a b c d ∷ l) (numbers_in-take k r))

pub numbers_in-drop : (k : ℕ) (bs : List ℕ) → numbers_in (drop (4 * k) bs) ≡ drop k (numbers_in bs)
unfolding numbers_in
numbers_in-drop zero bs = refl
numbers_in-drop (suc k) [] = rw (four-more k)
numbers_in-drop (suc k) (a ∷ []) = rw (four-more k)
numbers_in-drop (suc k) (a ∷ b ∷ []) = rw (four-more k)
numbers_in-drop (suc k) (a ∷ b ∷ c ∷ []) = rw (four-more k)
numbers_in-drop (suc k) (a ∷ b ∷ c ∷ d ∷ r) = rw (four-more k) (numbers_in-drop k r)

pub numbers_in-append : (xs ys : List ℕ) → length xs % 4 ≡ 0 → numbers_in (xs ++ ys) ≡ numbers_in xs ++ numbers_in ys
unfolding numbers_in
numbers_in-append [] ys h = refl
numbers_in-append (a ∷ []) ys h = absurd (omega arith)
numbers_in-append (a ∷ b ∷ []) ys h = absurd (omega arith)
numbers_in-append (a ∷ b ∷ c ∷ []) ys h = absurd (omega arith)
numbers_in-append (a ∷ b ∷ c ∷ d ∷ r) ys h = ap (λ (l : List ℕ). cell a b c d ∷ l) (numbers_in-append r ys (omega arith))
