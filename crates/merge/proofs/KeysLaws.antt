-- Laws of sums over the lists, and of the heap of their keys: the front is the least mark, and says whose it is.
use mathlib.Core.Path.{◌≡◌, refl, sym, ap, subst, ◌∙◌}
use Prim.Native.Nat.{ℕ, zero, suc, ◌+◌, ◌*◌, ◌/◌, ◌%◌, ◌≤◌, ◌<◌}
use native.Mathlib.Omega.{arith}
use native.Mathlib.Numerals.{add-one}
use native.Mathlib.Decide.{ℕ_discrete}
use mathlib.Core.List.{List, [], ◌∷◌, ◌++◌}
use lib.Dec.{eqb, leb}
use lib.ListN.{length, get_or, take, length-append, get_or-append}
use lib.Seq.{get_or-append_seam, take_all}
use borrow.Author.Tests.{eqb-true, eq-eqb, leb-true, leb-false}
use Rattle.laws.proofs.Tests.{by-test}
use Rattle.list.specs.Ginix.{one}
use Rattle.heap.specs.Heap.{count_of, Pushed}
use Rattle.heap.proofs.HeapLaws.{count_none, count-append, count-more, least-front, front-counted}
use Rattle.merge.specs.Keys.{sum_of, is_key, Heaped, Keys, Refilled}

-- ---- sums

sum_more : (f : ℕ → ℕ) (n : ℕ) → sum_of f (n + 1) ≡ f n + sum_of f n
unfolding sum_of
sum_more f n = rw (add-one n)

sum_same : (f g : ℕ → ℕ) (n : ℕ) → ((i : ℕ) → i < n → f i ≡ g i) → sum_of f n ≡ sum_of g n
unfolding sum_of
sum_same f g zero h = refl
sum_same f g (suc n) h = rw (h n (omega arith), sum_same f g n (λ i k. h i (omega arith)))

-- one term alone changes
pub sum-change : (f g : ℕ → ℕ) (n j : ℕ) → j < n → ((i : ℕ) → i < n → (i ≡ j → ⊥) → f i ≡ g i) → sum_of f n + g j ≡ sum_of g n + f j
unfolding sum_of
sum-change f g zero j h e = absurd (omega arith)
sum-change f g (suc n) j h e = go (λ k. sum-change f g n j k (λ i l w. e i (omega arith) w)) (ℕ_discrete n j)
  where
    go : (j < n → sum_of f n + g j ≡ sum_of g n + f j) → Dec (n ≡ j) → f n + sum_of f n + g j ≡ g n + sum_of g n + f j
    go r (yes m) = let s = sum_same f g n (λ i k. e i (omega arith) (λ (w : i ≡ j). omega arith)) in let a = ap f m in let b = ap g m in omega arith
    go r (no m) = let s = r (omega arith) in let a = e n (omega arith) m in omega arith

pub sum-at : (f : ℕ → ℕ) (n j : ℕ) → j < n → f j ≤ sum_of f n
unfolding sum_of
sum-at f zero j h = absurd (omega arith)
sum-at f (suc n) j h = go (λ k. sum-at f n j k) (ℕ_discrete j n)
  where
    go : (j < n → f j ≤ sum_of f n) → Dec (j ≡ n) → f j ≤ f n + sum_of f n
    go r (yes m) = let a = ap f m in omega arith
    go r (no m) = let s = r (omega arith) in omega arith

pub sum-where : (f : ℕ → ℕ) (n : ℕ) → 0 < sum_of f n → (j : ℕ) × (j < n) × (0 < f j)
unfolding sum_of
sum-where f zero h = absurd (omega arith)
sum-where f (suc n) h = by-test (leb (f n) 0)
    (λ e. let w = sum-where f n (let z = leb-true (f n) 0 e in omega arith) in (w.0, omega arith, w.2))
    (λ e. (n, omega arith, leb-false (f n) 0 e))

pub sum-most : (f : ℕ → ℕ) (n : ℕ) → ((i : ℕ) → f i ≤ 1) → sum_of f n ≤ n
unfolding sum_of
sum-most f zero h = omega arith
sum-most f (suc n) h = omega (arith, h n, sum-most f n h)

-- ---- keys

-- the only key of a list
key_one : (j m : ℕ) (ms : List ℕ) → one (is_key (m * 16 + j) j (m ∷ ms)) ≡ 1
key_one j m ms = rw (eq-eqb (m * 16 + j) (m * 16 + j) refl)

key-mark : (y j : ℕ) (ms : List ℕ) → 0 < one (is_key y j ms) → (m : ℕ) × (r : List ℕ) × (ms ≡ m ∷ r) × (y ≡ m * 16 + j)
key-mark y j [] h = absurd (omega arith)
key-mark y j (m ∷ r) h = by-test (eqb y (m * 16 + j)) (λ e. (m, r, refl, eqb-true y (m * 16 + j) e)) (λ e. absurd (let k = rw e at h in omega arith))

-- key y says whose it is
pub record Front (n y : ℕ) (due : ℕ → List ℕ) : Type 0 where
  pub list : y % 16 < n
  pub rest : List ℕ
  pub mark : due (y % 16) ≡ (y / 16) ∷ rest
  pub least : (i m : ℕ) (r : List ℕ) → i < n → due i ≡ m ∷ r → y / 16 ≤ m

module _ {n size : ℕ} {cells : List ℕ} {due : ℕ → List ℕ} (few : n ≤ 16) (k : Keys n size cells due) where
  counted : (i m : ℕ) (r : List ℕ) → i < n → due i ≡ m ∷ r → 0 < count_of (m * 16 + i) (take size cells)
  counted i m r h e =
      let y = m * 16 + i in
      let s = sum-at (λ j. one (is_key y j (due j))) n i h in
      let o : one (is_key y i (due i)) ≡ 1 = rw e (key_one i m r) in
      omega (arith, k.bag y)

  pub keys-front : 0 < size → size ≤ length cells → Front n (get_or cells 0 0) due
  keys-front h g =
      let y = get_or cells 0 0 in
      let w = sum-where (λ j. one (is_key y j (due j))) n (omega (arith, k.bag y, front-counted size cells h g)) in
      let m = key-mark y w.0 (due w.0) w.2 in
      let e : y % 16 ≡ w.0 = let a = m.3 in let b = w.1 in omega arith in
      let d : y / 16 ≡ m.0 = let a = m.3 in let b = w.1 in omega arith in
      record {
        list = let b = w.1 in omega arith;
        rest = m.1;
        mark = rw (e, d) m.2;
        least = λ i z r b q. let l = least-front (z * 16 + i) size cells h k.heap (counted i z r b q) in omega arith;
      }

  pub keys_none : size ≡ 0 → (i : ℕ) → i < n → due i ≡ []
  keys_none e i h = go (due i) refl
    where
      go : (ms : List ℕ) → due i ≡ ms → due i ≡ []
      go [] q = q
      go (m ∷ r) q = absurd (let c = rw e at (counted i m r h q) in omega (arith, count_none (m * 16 + i) cells))

  -- the list at the front, whose key is y, goes on
  pub keys-refill : {size' y : ℕ} {cells' : List ℕ} {due' : ℕ → List ℕ} → y ≡ get_or cells 0 0 → Front n y due
      → Refilled (y % 16) (due' (y % 16)) size cells size' cells'
      → ((i : ℕ) → (i ≡ y % 16 → ⊥) → due i ≡ due' i)
      → Keys n size' cells' due'
  keys-refill {size'} {y} {cells'} {due'} e f r same = record {
    heap = r.heap;
    bag = λ z.
        let j = y % 16 in
        let c = sum-change (λ i. one (is_key z i (due i))) (λ i. one (is_key z i (due' i))) n j f.list
        (λ i h ne. ap (λ (ms : List ℕ). one (is_key z i ms)) (same i ne)) in
        let own : one (is_key z j (due j)) ≡ one (eqb z (get_or cells 0 0)) =
        ap (λ (ms : List ℕ). one (is_key z j ms)) f.mark ∙ ap (λ (k : ℕ). one (eqb z k)) (omega arith) in
        omega (arith, r.bag z, k.bag z);
  }

-- ---- filling

module _ {P : ℕ → ℕ → Type 0} {n : ℕ} {cells : List ℕ} (f : Heaped P n cells) where
  -- one list more
  module _ {x : ℕ} (own : P n x) where
    more-number : (j : ℕ) → j < n + 1 → P j (get_or (f.numbers ++ x ∷ []) j 0)
    more-number j h = go (ℕ_discrete j n)
      where
        go : Dec (j ≡ n) → P j (get_or (f.numbers ++ x ∷ []) j 0)
        go (yes e) =
            let z : j ≡ length f.numbers = let l = f.long in omega arith in
            let v : get_or (f.numbers ++ x ∷ []) j 0 ≡ x = ap (λ (k : ℕ). get_or (f.numbers ++ x ∷ []) k 0) z ∙ get_or-append_seam f.numbers x [] 0 in
            let Q : ℕ → Type 0 = λ y. P j y in
            let R : ℕ → Type 0 = λ i. P i x in
            subst Q (sym v) (subst R (sym e) own)
        go (no ne) =
            let l = f.long in
            let v = get_or-append f.numbers (x ∷ []) 0 j (omega arith) in
            let Q : ℕ → Type 0 = λ y. P j y in
            subst Q (sym v) (f.number j (omega arith))

    pub heaped-more : {cells' : List ℕ} → Pushed n x cells cells' → Heaped P (n + 1) cells'
    unfolding count_of
    heaped-more p = record {
      heap = p.heap;
      numbers = f.numbers ++ x ∷ [];
      long = let l = f.long in omega (arith, length-append f.numbers (x ∷ []));
      number = more-number;
      bag = λ y. omega (arith, p.bag y, f.bag y, count-append y f.numbers (x ∷ []));
    }

  -- the numbers are keys of what is due
  module _ {due : ℕ → List ℕ} (is : (j x : ℕ) → j < n → P j x → (m : ℕ) × (due j ≡ m ∷ []) × (x ≡ m * 16 + j)) where
    counted-so : (y k : ℕ) → k ≤ n → count_of y (take k f.numbers) ≡ sum_of (λ j. one (is_key y j (due j))) k
    unfolding sum_of
    counted-so y zero h = count_none y f.numbers
    counted-so y (suc k) h =
        let l = f.long in
        let s = add-one k in
        let w = is k (get_or f.numbers k 0) (omega arith) (f.number k (omega arith)) in
        let own : one (is_key y k (due k)) ≡ one (eqb y (get_or f.numbers k 0)) =
        ap (λ (q : List ℕ). one (is_key y k q)) w.1 ∙ ap (λ (z : ℕ). one (eqb y z)) (sym w.2) in
        rw (← s) (omega (arith, count-more y f.numbers k (omega arith), counted-so y k (omega arith), sum_more (λ j. one (is_key y j (due j))) k))

    pub keys-filled : Keys n n cells due
    keys-filled = record {
      heap = f.heap;
      bag = λ y. let c = counted-so y n (omega arith) in let e = take_all n f.numbers (omega (arith, f.long)) in f.bag y ∙ rw e at c;
    }
