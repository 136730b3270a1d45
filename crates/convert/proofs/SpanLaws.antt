-- Intervals turned to numbers one after another: of a proper list these are the numbers that it names, in order.
use mathlib.Core.Path.{◌≡◌, refl, sym, ap, ◌∙◌}
use Prim.Native.Nat.{ℕ, zero, suc, ◌+◌, ◌-◌, ◌≤◌, ◌<◌}
use native.Mathlib.Omega.{arith}
use native.Mathlib.Nat.{lt_of_not-le}
use native.Mathlib.Decide.{dec_le}
use mathlib.Core.Bool.{Bool, true, false}
use mathlib.Core.List.{List, [], ◌∷◌, ◌++◌}
use lib.ListN.{length, get_or, length-append}
use lib.Seq.{sets}
use borrow.Author.Tests.{le-leb}
use Rattle.laws.proofs.Lists.{sets-append}
use Rattle.list.specs.Interval.{is_proper, names, records}
use Rattle.list.specs.Stretches.{cons_if, records_from, records_of}
use Rattle.list.proofs.ProperLaws.{ProperFrom, proper-facts}
use Rattle.list.proofs.NamesLaws.{names_in, names-past, names-below}
use Rattle.list.proofs.RecordLaws.{proper-count, records-length}
use Rattle.convert.proofs.IntervalLaws.{Pair}

-- k numbers from x on
abbrev pub count_up : ℕ → ℕ → List ℕ
count_up x k = records_from (λ (y : ℕ). true) x k

-- the numbers of the intervals, one interval after another
unfoldable pub spans : List ℕ → List ℕ
spans [] = []
spans (l ∷ []) = []
spans (l ∷ u ∷ r) = count_up l (u + 1 - l) ++ spans r

-- ---- a range

count-up-next : (x k : ℕ) → 0 < k → count_up x k ≡ x ∷ count_up (x + 1) (k - 1)
unfolding records_from
count-up-next x zero h = absurd (omega arith)
count-up-next x (suc k) h = let e : suc k - 1 ≡ k = omega arith in rw e

count-up-length : (x k : ℕ) → length (count_up x k) ≡ k
unfolding records_from
count-up-length x zero = refl
count-up-length x (suc k) = ap suc (count-up-length (x + 1) k)

-- the numbers from x to below e, at x
pub range_at : (x e : ℕ) → x < e → count_up x (e - x) ≡ x ∷ count_up (x + 1) (e - (x + 1))
range_at x e h =
    let s : e - x - 1 ≡ e - (x + 1) = omega arith in
    count-up-next x (e - x) (omega arith) ∙ rw s

pub range-end : (x e : ℕ) → e ≤ x → count_up x (e - x) ≡ []
unfolding records_from
range-end x e h = let s : e - x ≡ 0 = omega arith in rw s

-- ---- the intervals of a slice

module _ {n k : ℕ} {c pair rest : List ℕ} (w : Pair n k c pair rest) where
  pub spans-pair : spans c ≡ count_up (get_or pair 0 0) (get_or pair 1 0 + 1 - get_or pair 0 0) ++ spans rest
  unfolding spans
  spans-pair = rw w.is

  pub records-pair : records c ≡ get_or pair 1 0 + 1 - get_or pair 0 0 + records rest
  unfolding records
  records-pair = rw w.is

pub spans-none : (c : List ℕ) → length c < 2 → spans c ≡ []
unfolding spans
spans-none [] h = refl
spans-none (l ∷ []) h = refl
spans-none (l ∷ u ∷ r) h = absurd (omega arith)

pub records-none : (c : List ℕ) → length c < 2 → records c ≡ 0
unfolding records
records-none [] h = refl
records-none (l ∷ []) h = refl
records-none (l ∷ u ∷ r) h = absurd (omega arith)

pub records-small : (n : ℕ) (c : List ℕ) → is_proper n c ≡ true → records c ≤ n
records-small n c e = omega (arith, proper-count n c e, records-length (names c) n)

pub spans-length : (c : List ℕ) → length (spans c) ≡ records c
unfolding spans records
spans-length [] = refl
spans-length (l ∷ []) = refl
spans-length (l ∷ u ∷ r) = simp (length-append, count-up-length, spans-length r)

-- what is stored in two parts, the first of them a range
pub sets-range : (out out' : List ℕ) (k x m : ℕ) (ws : List ℕ) → out' ≡ sets out k (count_up x m) → sets out k (count_up x m ++ ws) ≡ sets out' (k + m) ws
sets-range out out' k x m ws e = sets-append out k (count_up x m) ws ∙ rw (← e, count-up-length x m)

-- ---- they are the numbers that a proper list names. p is a test that agrees with the list from x on

-- a number before the first interval
before-step : (p : ℕ → Bool) (n x m l u : ℕ) (r : List ℕ) → ProperFrom n l (l ∷ u ∷ r) → x < l → p x ≡ names (l ∷ u ∷ r) x →
    records_from p (x + 1) m ≡ spans (l ∷ u ∷ r) → cons_if (p x) x (records_from p (x + 1) m) ≡ spans (l ∷ u ∷ r)
before-step p n x m l u r a h e ih = rw (e ∙ names-below n l x (l ∷ u ∷ r) a h) ih

-- the first number of an interval with more
first_step : (p : ℕ → Bool) (m l u : ℕ) (r : List ℕ) → l < u → p l ≡ names (l ∷ u ∷ r) l →
    records_from p (l + 1) m ≡ spans ((l + 1) ∷ u ∷ r) → cons_if (p l) l (records_from p (l + 1) m) ≡ spans (l ∷ u ∷ r)
unfolding spans
first_step p m l u r h e ih = rw (e ∙ names_in l u l r (omega arith) (omega arith), ih, range_at l (u + 1) (omega arith))

-- the last number of an interval
last_step : (p : ℕ → Bool) (m l u : ℕ) (r : List ℕ) → l ≡ u → p l ≡ names (l ∷ u ∷ r) l →
    records_from p (l + 1) m ≡ spans r → cons_if (p l) l (records_from p (l + 1) m) ≡ spans (l ∷ u ∷ r)
unfolding spans
last_step p m l u r h e ih =
    rw (e ∙ names_in l u l r (omega arith) (omega arith), ih, range_at l (u + 1) (omega arith), range-end (l + 1) (u + 1) (omega arith))

-- one number of the interval taken away
names-shorter : (l u y : ℕ) (r : List ℕ) → l + 1 ≤ y → names (l ∷ u ∷ r) y ≡ names ((l + 1) ∷ u ∷ r) y
unfolding names
names-shorter l u y r h = rw (le-leb l y (omega arith), le-leb (l + 1) y h)

-- the recursive calls are handed in
spans_step : (p : ℕ → Bool) (n x m k l u : ℕ) (r : List ℕ) → ProperFrom n k (l ∷ u ∷ r) → x ≤ k → ((y : ℕ) → x ≤ y → p y ≡ names (l ∷ u ∷ r) y) →
    ((k : ℕ) (c : List ℕ) → ProperFrom n k c → x + 1 ≤ k → ((y : ℕ) → x + 1 ≤ y → p y ≡ names c y) → records_from p (x + 1) m ≡ spans c) →
    Dec (l ≤ x) → Dec (u ≤ x) → cons_if (p x) x (records_from p (x + 1) m) ≡ spans (l ∷ u ∷ r)
spans_step p n x m k l u r a h f ih (no d) w =
    let g = lt_of_not-le d in
    let b : ProperFrom n l (l ∷ u ∷ r) = (omega arith, a.1, a.2, a.3) in
    before-step p n x m l u r b g (f x (omega arith)) (ih l (l ∷ u ∷ r) b (omega arith) (λ y i. f y (omega arith)))
spans_step p n x m k l u r a h f ih (yes d) (no w) =
    let g = lt_of_not-le w in
    let e : x ≡ l = omega arith in
    let b : ProperFrom n (l + 1) ((l + 1) ∷ u ∷ r) = (omega arith, omega arith, a.2, a.3) in
    let i = ih (l + 1) ((l + 1) ∷ u ∷ r) b (omega arith) (λ y j. f y (omega arith) ∙ names-shorter l u y r (omega arith)) in
    rw e (first_step p m l u r (omega arith) (f l (omega arith)) (rw e at i))
spans_step p n x m k l u r a h f ih (yes d) (yes w) =
    let e : x ≡ l = omega arith in
    let i = ih (u + 2) r a.3 (omega arith) (λ y j. f y (omega arith) ∙ names-past l u y r (omega arith)) in
    rw e (last_step p m l u r (omega arith) (f l (omega arith)) (rw e at i))

past-none : (p : ℕ → Bool) (x m : ℕ) → p x ≡ false → records_from p (x + 1) m ≡ [] → cons_if (p x) x (records_from p (x + 1) m) ≡ []
past-none p x m e ih = rw e ih

spans-from : (p : ℕ → Bool) (n x m k : ℕ) (c : List ℕ) → ProperFrom n k c → x ≤ k → x + m ≡ n + 1 → ((y : ℕ) → x ≤ y → p y ≡ names c y) →
    records_from p x m ≡ spans c
unfolding records_from spans names
spans-from p n x zero k [] a h e f = refl
spans-from p n x zero k (l ∷ u ∷ r) a h e f = absurd (omega arith)
spans-from p n x (suc m) k [] a h e f = past-none p x m (f x (omega arith))
    (spans-from p n (x + 1) m (x + 1) [] tt (omega arith) (omega arith) (λ y i. f y (omega arith)))
spans-from p n x (suc m) k (l ∷ u ∷ r) a h e f =
    spans_step p n x m k l u r a h f (λ k c b i g. spans-from p n (x + 1) m k c b i (omega arith) g) (dec_le l x) (dec_le u x)
spans-from p n x zero k (l ∷ []) a h e f = elim a [ ]
spans-from p n x (suc m) k (l ∷ []) a h e f = elim a [ ]

pub spans-records : (n : ℕ) (c : List ℕ) → is_proper n c ≡ true → spans c ≡ records_of (names c) n
unfolding is_proper records_of
spans-records n c e = sym (spans-from (names c) n 1 n 1 c (proper-facts n 1 c e) (omega arith) (omega arith) (λ y h. refl))
