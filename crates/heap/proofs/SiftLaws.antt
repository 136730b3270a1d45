-- Laws of one cell on its way through a heap: cell i is free, its number stands elsewhere too, and x is to come into it.
use mathlib.Core.Path.{◌≡◌, refl, ◌∙◌}
use Prim.Native.Nat.{ℕ, ◌+◌, ◌-◌, ◌*◌, ◌/◌, ◌≤◌, ◌<◌}
use native.Mathlib.Omega.{arith}
use native.Mathlib.Decide.{ℕ_discrete}
use mathlib.Core.List.{List}
use lib.Dec.{eqb}
use lib.ListN.{length, get_or, take, set, length-take, length-set}
use lib.Seq.{get_or-take, get_or-set_same, get_or-set_other, length-take-le}
use Rattle.list.specs.Ginix.{one}
use Rattle.heap.specs.Heap.{count_of, IsHeap, Pushed, Replaced, Dropped, Lesser}
use Rattle.heap.proofs.HeapLaws.{count-set-take, count-more}

-- ---- a heap in the first n cells of a slice

abbrev pub Rising : ℕ → List ℕ → Type 0
Rising n xs = (j : ℕ) → 0 < j → j < n → get_or xs ((j - 1) / 2) 0 ≤ get_or xs j 0

pub heap-rising : (n : ℕ) (xs : List ℕ) → n ≤ length xs → IsHeap (take n xs) → Rising n xs
heap-rising n xs h p j g k =
    let l = length-take-le n xs h in
    let r = p j g (omega arith) in
    rw (get_or-take n xs ((j - 1) / 2) 0 (omega arith), get_or-take n xs j 0 k) at r

pub rising-heap : (n : ℕ) (xs : List ℕ) → Rising n xs → IsHeap (take n xs)
rising-heap n xs p j g k =
    let h : j < n = omega (arith, length-take n xs) in
    rw (get_or-take n xs ((j - 1) / 2) 0 (omega arith), get_or-take n xs j 0 h) (p j g h)

-- the first cells of a heap are one
pub heap-fewer : (m n : ℕ) (xs : List ℕ) → m ≤ n → n ≤ length xs → IsHeap (take n xs) → IsHeap (take m xs)
heap-fewer m n xs h g p = rising-heap m xs (λ j k w. heap-rising n xs g p j k (omega arith))

-- v comes into cell i: it is at least the number above and at most those below
pub set-rising : (n i v : ℕ) (xs : List ℕ)
    → i < length xs
    → ((j : ℕ) → 0 < j → j < n → (j ≡ i → ⊥) → get_or xs ((j - 1) / 2) 0 ≤ get_or xs j 0)
    → (0 < i → get_or xs ((i - 1) / 2) 0 ≤ v)
    → ((j : ℕ) → 0 < j → j < n → (j - 1) / 2 ≡ i → v ≤ get_or xs j 0)
    → Rising n (set xs i v)
set-rising n i v xs h apart above below j g k = go (ℕ_discrete j i)
  where
    under : (j ≡ i → ⊥) → Dec ((j - 1) / 2 ≡ i) → get_or (set xs i v) ((j - 1) / 2) 0 ≤ get_or (set xs i v) j 0
    under ne (yes e) = rw (get_or-set_other xs i j v 0 ne, e, get_or-set_same xs i v 0 h) (below j g k e)
    under ne (no m) = rw (get_or-set_other xs i j v 0 ne, get_or-set_other xs i ((j - 1) / 2) v 0 m) (apart j g k ne)

    go : Dec (j ≡ i) → get_or (set xs i v) ((j - 1) / 2) 0 ≤ get_or (set xs i v) j 0
    go (yes e) = rw (e, get_or-set_same xs i v 0 h, get_or-set_other xs i ((i - 1) / 2) v 0 (λ (m : (i - 1) / 2 ≡ i). omega arith)) (above (omega arith))
    go (no ne) = under ne (ℕ_discrete ((j - 1) / 2) i)

-- ---- up: the free cell moves to the front

pub record GoingUp (size x : ℕ) (old xs : List ℕ) (i : ℕ) : Type 0 where
  pub fits : size < length old
  pub place : i ≤ size
  pub room : length xs ≡ length old
  pub apart : (j : ℕ) → 0 < j → j < size + 1 → (j ≡ i → ⊥) → get_or xs ((j - 1) / 2) 0 ≤ get_or xs j 0
  pub under : (j : ℕ) → 0 < j → j < size + 1 → (j - 1) / 2 ≡ i → x ≤ get_or xs j 0
  pub past : (j : ℕ) → 0 < i → 0 < j → j < size + 1 → (j - 1) / 2 ≡ i → get_or xs ((i - 1) / 2) 0 ≤ get_or xs j 0
  pub bag : (y : ℕ) → count_of y (take (size + 1) xs) ≡ one (eqb y (get_or xs i 0)) + count_of y (take size old)

pub up_start : {size x : ℕ} {old : List ℕ} → size < length old → IsHeap (take size old) → GoingUp size x old old size
up_start {size} {x} {old} fits p = record {
  fits = fits;
  place = omega arith;
  room = refl;
  apart = λ j h g ne. heap-rising size old (omega arith) p j h (omega arith);
  under = λ j h g e. absurd (omega arith);
  past = λ j k h g e. absurd (omega arith);
  bag = λ y. count-more y old size fits;
}

module _ {size x : ℕ} {old xs : List ℕ} {i : ℕ} (u : GoingUp size x old xs i) where
  pub up_step : 0 < i → x < get_or xs ((i - 1) / 2) 0 → GoingUp size x old (set xs i (get_or xs ((i - 1) / 2) 0)) ((i - 1) / 2)
  up_step h g =
      let p = (i - 1) / 2 in
      let v = get_or xs p 0 in
      let rising = set-rising (size + 1) i v xs (omega arith) u.apart (λ k. omega arith) (λ j k m e. u.past j h k m e) in
      let same = get_or-set_other xs i p v 0 (λ (m : p ≡ i). omega arith) in
      record {
        fits = u.fits;
        place = omega arith;
        room = length-set xs i v ∙ u.room;
        apart = λ j k m ne. rising j k m;
        under = λ j k m e. omega (arith, rw e at (rising j k m));
        past = λ j n k m e. omega (arith, rw e at (rising j k m), rising p n (omega arith));
        bag = λ y. rw same (omega (arith, count-set-take y (size + 1) xs i v (omega arith) (omega arith), u.bag y));
      }

  pub up-end : (0 < i → get_or xs ((i - 1) / 2) 0 ≤ x) → Pushed size x old (set xs i x)
  up-end h = record {
    room = length-set xs i x ∙ u.room;
    heap = rising-heap (size + 1) (set xs i x) (set-rising (size + 1) i x xs (omega arith) u.apart h u.under);
    bag = λ y. omega (arith, count-set-take y (size + 1) xs i x (omega arith) (omega arith), u.bag y);
  }

-- ---- down: the free cell moves to the end

pub record GoingDown (size x : ℕ) (old xs : List ℕ) (i : ℕ) : Type 0 where
  pub fits : size ≤ length old
  pub place : i < size
  pub room : length xs ≡ length old
  pub rising : Rising size xs
  pub above : 0 < i → get_or xs i 0 ≤ x
  pub bag : (y : ℕ) → count_of y (take size xs) + one (eqb y (get_or old 0 0)) ≡ one (eqb y (get_or xs i 0)) + count_of y (take size old)

pub down-start : {size x : ℕ} {old : List ℕ} → 0 < size → size ≤ length old → IsHeap (take size old) → GoingDown size x old old 0
down-start {size} {x} {old} h fits p = record {
  fits = fits;
  place = h;
  room = refl;
  rising = heap-rising size old fits p;
  above = λ k. absurd (omega arith);
  bag = λ y. omega arith;
}

module _ {size x : ℕ} {old xs : List ℕ} {i : ℕ} (d : GoingDown size x old xs i) where
  pub down_step : {m : ℕ} → Lesser size i xs m → get_or xs m 0 < x → GoingDown size x old (set xs i (get_or xs m 0)) m
  down_step {m} s g =
      let v = get_or xs m 0 in
      let first = rw s.under at (d.rising m (omega arith) s.within) in
      let same = get_or-set_other xs i m v 0 (λ (e : m ≡ i). omega arith) in
      record {
        fits = d.fits;
        place = s.within;
        room = length-set xs i v ∙ d.room;
        rising = set-rising size i v xs (omega arith) (λ j k n ne. d.rising j k n) (λ k. omega (arith, d.rising i k d.place)) s.least;
        above = λ k. rw same (omega arith);
        bag = λ y. rw same (omega (arith, count-set-take y size xs i v d.place (omega arith), d.bag y));
      }

  ends : ((j : ℕ) → 0 < j → j < size → (j - 1) / 2 ≡ i → x ≤ get_or xs j 0) → Replaced size x old (set xs i x)
  ends h = record {
    room = length-set xs i x ∙ d.room;
    heap = rising-heap size (set xs i x)
        (set-rising size i x xs (omega arith) (λ j k n ne. d.rising j k n) (λ k. omega (arith, d.above k, d.rising i k d.place)) h);
    bag = λ y. omega (arith, count-set-take y size xs i x d.place (omega arith), d.bag y);
  }

  -- x is at most the lesser number below the free cell
  pub down-stop : {m : ℕ} → Lesser size i xs m → x ≤ get_or xs m 0 → Replaced size x old (set xs i x)
  down-stop s g = ends (λ j h k e. omega (arith, s.least j h k e))

  -- there is none below it
  pub down-end : size ≤ 2 * i + 1 → Replaced size x old (set xs i x)
  down-end g = ends (λ j h k e. absurd (omega arith))

-- ---- the last number comes in the place of the least

last-counted : (size y : ℕ) (old : List ℕ) → 0 < size → size ≤ length old →
    count_of y (take size old) ≡ one (eqb y (get_or old (size - 1) 0)) + count_of y (take (size - 1) old)
last-counted size y old h g = let e : size - 1 + 1 ≡ size = omega arith in rw e at (count-more y old (size - 1) (omega arith))

module _ {size : ℕ} {old : List ℕ} (some : 0 < size) (fits : size ≤ length old) where
  pub drop-replaced : {new : List ℕ} → Replaced (size - 1) (get_or old (size - 1) 0) old new → Dropped size old new
  drop-replaced r = record { room = r.room; heap = r.heap; bag = λ y. omega (arith, r.bag y, last-counted size y old some fits) }

  -- the only number is the least
  pub drop-only : IsHeap (take size old) → size - 1 ≤ 0 → Dropped size old old
  drop-only p h =
      let e : size - 1 ≡ 0 = omega arith in
      record {
        room = refl;
        heap = heap-fewer (size - 1) size old (omega arith) fits p;
        bag = λ y. let k = rw e at (last-counted size y old some fits) in rw e (omega arith);
      }
