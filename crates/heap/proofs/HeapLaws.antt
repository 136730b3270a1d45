-- Laws of bags and heaps: what a store, a swap and one cell more do to a bag, where a number stands, and that the least is at the front.
use mathlib.Core.Path.{◌≡◌, refl, sym}
use mathlib.Core.Logic.{◌⊎◌, inl, inr}
use Prim.Native.Nat.{ℕ, zero, suc, ◌+◌, ◌-◌, ◌/◌, ◌≤◌, ◌<◌}
use native.Mathlib.Omega.{arith}
use native.Mathlib.Numerals.{add-one}
use native.Mathlib.Decide.{ℕ_discrete}
use mathlib.Core.List.{List, [], ◌∷◌, ◌++◌}
use lib.Dec.{eqb}
use lib.ListN.{length, get_or, take, set}
use lib.Seq.{get_or-take, take-set-lt, take-suc, length-take-le}
use borrow.Author.Tests.{eqb-true, eq-eqb}
use Rattle.laws.proofs.Tests.{by-test}
use Rattle.list.specs.Ginix.{one}
use Rattle.heap.specs.Heap.{count_of, IsHeap, Pushed}

-- ---- how often a number stands in a list

pub count-append : (y : ℕ) (xs ys : List ℕ) → count_of y (xs ++ ys) ≡ count_of y xs + count_of y ys
unfolding count_of
count-append y [] ys = omega arith
count-append y (x ∷ xs) ys = omega (arith, count-append y xs ys)

pub count-bound : (y : ℕ) (xs : List ℕ) → count_of y xs ≤ length xs
unfolding count_of
count-bound y [] = omega arith
count-bound y (x ∷ xs) = let b = count-bound y xs in by-test (eqb y x) (λ e. rw e (omega arith)) (λ e. rw e (omega arith))

-- a store takes one number out and puts one in
pub count_set : (y : ℕ) (xs : List ℕ) (i v : ℕ) → i < length xs → count_of y (set xs i v) + one (eqb y (get_or xs i 0)) ≡ one (eqb y v) + count_of y xs
unfolding count_of
count_set y [] i v h = absurd (omega arith)
count_set y (x ∷ xs) zero v h = omega arith
count_set y (x ∷ xs) (suc i) v h = let r = count_set y xs i v (omega arith) in omega arith

-- the same in the first n cells
pub count-set-take : (y n : ℕ) (xs : List ℕ) (i v : ℕ) → i < n → n ≤ length xs →
    count_of y (take n (set xs i v)) + one (eqb y (get_or xs i 0)) ≡ one (eqb y v) + count_of y (take n xs)
count-set-take y n xs i v h g =
    let e = get_or-take n xs i 0 h in
    let l = length-take-le n xs g in
    rw (take-set-lt n xs i v h, ← e) (count_set y (take n xs) i v (omega arith))

-- one cell more
pub count-more : (y : ℕ) (xs : List ℕ) (n : ℕ) → n < length xs → count_of y (take (n + 1) xs) ≡ one (eqb y (get_or xs n 0)) + count_of y (take n xs)
unfolding count_of
count-more y xs n h = rw (add-one n, take-suc xs n 0 h, count-append y (take n xs) (get_or xs n 0 ∷ [])) (omega arith)

-- what stands in a cell is counted
pub count_at : (xs : List ℕ) (i : ℕ) → i < length xs → 0 < count_of (get_or xs i 0) xs
unfolding count_of
count_at [] i h = absurd (omega arith)
count_at (x ∷ xs) zero h = rw (eq-eqb x x refl) (omega arith)
count_at (x ∷ xs) (suc i) h = let r = count_at xs i (omega arith) in omega arith

-- what is counted stands in a cell
pub count-where : (y : ℕ) (xs : List ℕ) → 0 < count_of y xs → (i : ℕ) × (i < length xs) × (get_or xs i 0 ≡ y)
unfolding count_of
count-where y [] h = absurd (omega arith)
count-where y (x ∷ xs) h = by-test (eqb y x)
    (λ e. (0, omega arith, sym (eqb-true y x e)))
    (λ e. let r = count-where y xs (let g = rw e at h in omega arith) in (suc r.0, omega arith, r.2))

-- nothing stands in no cells
pub count_none : (y : ℕ) (xs : List ℕ) → count_of y (take 0 xs) ≡ 0
unfolding count_of
count_none y [] = refl
count_none y (x ∷ xs) = refl

-- ---- the least is at the front

-- from any cell up to the first, in at most k steps
front-from : (xs : List ℕ) → IsHeap xs → (k i : ℕ) → i ≤ k → i < length xs → get_or xs 0 0 ≤ get_or xs i 0
front-from xs p zero i h g = let e : i ≡ 0 = omega arith in rw e (omega arith)
front-from xs p (suc k) i h g = go (front-from xs p k ((i - 1) / 2) (omega arith) (omega arith)) (ℕ_discrete i 0)
  where
    go : get_or xs 0 0 ≤ get_or xs ((i - 1) / 2) 0 → Dec (i ≡ 0) → get_or xs 0 0 ≤ get_or xs i 0
    go r (yes e) = rw e (omega arith)
    go r (no ne) = omega (arith, p i (omega arith) g)

least_first : (y : ℕ) (xs : List ℕ) → IsHeap xs → 0 < count_of y xs → get_or xs 0 0 ≤ y
least_first y xs p h = let w = count-where y xs h in omega (arith, front-from xs p w.0 w.0 (omega arith) w.1, w.2)

-- the same of the first n cells of a slice
pub least-front : (y n : ℕ) (xs : List ℕ) → 0 < n → IsHeap (take n xs) → 0 < count_of y (take n xs) → get_or xs 0 0 ≤ y
least-front y n xs h p g = rw (get_or-take n xs 0 0 h) at (least_first y (take n xs) p g)

pub front-counted : (n : ℕ) (xs : List ℕ) → 0 < n → n ≤ length xs → 0 < count_of (get_or xs 0 0) (take n xs)
front-counted n xs h g = let l = length-take-le n xs g in rw (get_or-take n xs 0 0 h) at (count_at (take n xs) 0 (omega arith))

-- ---- who is in the new bag

one-itself : (x : ℕ) → one (eqb x x) ≡ 1
one-itself x = rw (eq-eqb x x refl)

-- a count that grows by one only at x
came : (y x a b : ℕ) → b ≤ one (eqb y x) + a → 0 < b → (y ≡ x) ⊎ (0 < a)
came y x a b h g = by-test (eqb y x) (λ e. inl (eqb-true y x e)) (λ e. inr (let k = rw e at h in omega arith))

module _ {size x : ℕ} {old new : List ℕ} (p : Pushed size x old new) where
  pub pushed-either : (y : ℕ) → 0 < count_of y (take (size + 1) new) → (y ≡ x) ⊎ (0 < count_of y (take size old))
  pushed-either y h = came y x (count_of y (take size old)) (count_of y (take (size + 1) new)) (omega (arith, p.bag y)) h

  pub pushed-kept : (y : ℕ) → 0 < count_of y (take size old) → 0 < count_of y (take (size + 1) new)
  pushed-kept y h = omega (arith, p.bag y)

  pub pushed-new : 0 < count_of x (take (size + 1) new)
  pushed-new = omega (arith, p.bag x, one-itself x)
