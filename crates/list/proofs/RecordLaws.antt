-- The numbers of a test in order: how many they are, that they ascend, and which they are.
use mathlib.Core.Path.{◌≡◌, refl, sym, ap, ◌∙◌}
use Prim.Native.Nat.{ℕ, zero, suc, ◌+◌, ◌-◌, ◌≤◌, ◌<◌}
use native.Mathlib.Nat.{le_antisymm}
use native.Mathlib.Omega.{arith}
use mathlib.Core.Bool.{Bool, true, false}
use mathlib.Core.List.{List, [], ◌∷◌, ◌++◌}
use lib.ListN.{length}
use borrow.Author.Tests.{eq-eqb, ne_eqb}
use Rattle.laws.proofs.Tests.{true-false, leb-cases}
use Rattle.list.specs.Interval.{is_proper, names, records}
use Rattle.list.specs.Stretches.{turned, stretches, cells_of, cons_if, records_from, records_of}
use Rattle.list.specs.Among.{among}
use Rattle.list.proofs.StretchLaws.{proper-cells}

-- ---- tests that agree

pub records_from-same : (p q : ℕ → Bool) (x k : ℕ) → ((y : ℕ) → x ≤ y → y < x + k → p y ≡ q y) → records_from p x k ≡ records_from q x k
unfolding records_from
records_from-same p q x zero h = refl
records_from-same p q x (suc k) h =
    let e : p x ≡ q x = h x (omega arith) (omega arith) in
    rw e (ap (λ (r : List ℕ). cons_if (q x) x r) (records_from-same p q (x + 1) k (λ y f g. h y (omega arith) (omega arith))))

pub records-same : (p q : ℕ → Bool) (n : ℕ) → ((x : ℕ) → 1 ≤ x → x ≤ n → p x ≡ q x) → records_of p n ≡ records_of q n
unfolding records_of
records-same p q n h = records_from-same p q 1 n (λ y f g. h y f (omega arith))

-- ---- the numbers of two parts

kept_append : (v : Bool) (x : ℕ) (r s : List ℕ) → cons_if v x (r ++ s) ≡ cons_if v x r ++ s
kept_append true x r s = refl
kept_append false x r s = refl

pub records_from-parts : (p : ℕ → Bool) (x j k : ℕ) → records_from p x (j + k) ≡ records_from p x j ++ records_from p (x + j) k
unfolding records_from
records_from-parts p x zero k =
    let e : 0 + k ≡ k = omega arith in
    let z : x + 0 ≡ x = omega arith in
    rw (e, z)
records_from-parts p x (suc j) k =
    let e : suc j + k ≡ suc (j + k) = omega arith in
    let z : x + 1 + j ≡ x + suc j = omega arith in
    rw (e, records_from-parts p (x + 1) j k, z) (kept_append (p x) x (records_from p (x + 1) j) (records_from p (x + suc j) k))

-- ---- how many

-- the numbers of an open stretch that began at l, up to below x
abbrev begun : Bool → ℕ → ℕ → ℕ
begun true l x = x - l
begun false l x = 0

count-step : (p : ℕ → Bool) (l x k : ℕ) (b v : Bool) → l < x →
    ((h : ℕ) → h < x + 1 → records (cons_if v h (stretches p v (x + 1) k)) ≡ begun v h (x + 1) + length (records_from p (x + 1) k)) →
    records (cons_if b l (turned b v x (stretches p v (x + 1) k))) ≡ begun b l x + length (cons_if v x (records_from p (x + 1) k))
unfolding records
count-step p l x k false false h ih = ih l (omega arith)
count-step p l x k false true h ih = omega (arith, ih x (omega arith))
count-step p l x k true false h ih = omega (arith, ih l (omega arith))
count-step p l x k true true h ih = omega (arith, ih l (omega arith))

count-last : (l x : ℕ) (b : Bool) → l < x → records (cons_if b l (turned b false x [])) ≡ begun b l x + 0
unfolding records
count-last l x false h = refl
count-last l x true h = omega arith

stretches-count : (p : ℕ → Bool) (l x k : ℕ) (b : Bool) → l < x → records (cons_if b l (stretches p b x k)) ≡ begun b l x + length (records_from p x k)
unfolding stretches records_from
stretches-count p l x zero b h = count-last l x b h
stretches-count p l x (suc k) b h = count-step p l x k b (p x) h (λ i g. stretches-count p i (x + 1) k (p x) g)

-- the same from any number on, where none is open
pub stretches-records : (p : ℕ → Bool) (x k : ℕ) → 0 < x → records (stretches p false x k) ≡ length (records_from p x k)
stretches-records p x k h = omega (arith, stretches-count p 0 x k false h)

-- Reference 3.1: the record count is how many records there are
pub records-count : (p : ℕ → Bool) (n : ℕ) → records (cells_of p n) ≡ length (records_of p n)
unfolding cells_of records_of
records-count p n = omega (arith, stretches-count p 0 1 n false (omega arith))

pub proper-count : (n : ℕ) (c : List ℕ) → is_proper n c ≡ true → records c ≡ length (records_of (names c) n)
proper-count n c e = ap records (proper-cells n c e) ∙ records-count (names c) n

pub kept-length : (v : Bool) (x : ℕ) (r : List ℕ) → length (cons_if v x r) ≤ length r + 1
kept-length true x r = omega arith
kept-length false x r = omega arith

pub kept-least : (v : Bool) (x : ℕ) (r : List ℕ) → length r ≤ length (cons_if v x r)
kept-least true x r = omega arith
kept-least false x r = omega arith

pub records_from-length : (p : ℕ → Bool) (x k : ℕ) → length (records_from p x k) ≤ k
unfolding records_from
records_from-length p x zero = omega arith
records_from-length p x (suc k) = omega (arith, kept-length (p x) x (records_from p (x + 1) k), records_from-length p (x + 1) k)

pub records-length : (p : ℕ → Bool) (n : ℕ) → length (records_of p n) ≤ n
unfolding records_of
records-length p n = records_from-length p 1 n

-- ---- they ascend

-- each number is above the one before it, the first above k, and none is above n
abbrev pub Ascends : ℕ → ℕ → List ℕ → Type 0
Ascends n k [] = Unit {0}
Ascends n k (x ∷ xs) = (k < x) × (x ≤ n) × Ascends n x xs

ascends-step : (p : ℕ → Bool) (n j x k : ℕ) (v : Bool) → j < x → x ≤ n →
    ((i : ℕ) → i < x + 1 → Ascends n i (records_from p (x + 1) k)) → Ascends n j (cons_if v x (records_from p (x + 1) k))
ascends-step p n j x k true h g ih = (h, g, ih x (omega arith))
ascends-step p n j x k false h g ih = ih j (omega arith)

records_from-ascends : (p : ℕ → Bool) (n j x k : ℕ) → j < x → x + k ≤ n + 1 → Ascends n j (records_from p x k)
unfolding records_from
records_from-ascends p n j x zero h g = tt
records_from-ascends p n j x (suc k) h g =
    ascends-step p n j x k (p x) h (omega arith) (λ i f. records_from-ascends p n i (x + 1) k f (omega arith))

pub records-ascend : (p : ℕ → Bool) (n : ℕ) → Ascends n 0 (records_of p n)
unfolding records_of
records-ascend p n = records_from-ascends p n 0 1 n (omega arith) (omega arith)

-- ---- which they are

-- an ascending list has no number up to k, and none above n
pub among_below : (n k x : ℕ) (xs : List ℕ) → Ascends n k xs → x ≤ k → among xs x ≡ false
unfolding among
among_below n k x [] p h = refl
among_below n k x (y ∷ ys) p h = rw (ne_eqb x y (λ (e : x ≡ y). omega arith)) (among_below n y x ys p.2 (omega arith))

pub among-above : (n k x : ℕ) (xs : List ℕ) → Ascends n k xs → n < x → among xs x ≡ false
unfolding among
among-above n k x [] p h = refl
among-above n k x (y ∷ ys) p h = rw (ne_eqb x y (λ (e : x ≡ y). omega arith)) (among-above n y x ys p.2 h)

among_first : (p : ℕ → Bool) (x k : ℕ) (v : Bool) → among (cons_if v x (records_from p (x + 1) k)) x ≡ v
unfolding among
among_first p x k true = rw (eq-eqb x x refl)
among_first p x k false = among_below (x + k) x x (records_from p (x + 1) k) (records_from-ascends p (x + k) x (x + 1) k (omega arith) (omega arith))
    (omega arith)

among_later : (p : ℕ → Bool) (x k y : ℕ) (v : Bool) → x < y → among (records_from p (x + 1) k) y ≡ p y → among (cons_if v x (records_from p (x + 1) k)) y ≡ p y
unfolding among
among_later p x k y true h ih = rw (ne_eqb y x (λ (e : y ≡ x). omega arith)) ih
among_later p x k y false h ih = ih

records_from-among : (p : ℕ → Bool) (x k y : ℕ) → x ≤ y → y < x + k → among (records_from p x k) y ≡ p y
unfolding records_from
records_from-among p x zero y h g = absurd (omega arith)
records_from-among p x (suc k) y h g =
    leb-cases y x (λ d. let e : y ≡ x = omega arith in rw e (among_first p x k (p x)))
    (λ d. among_later p x k y (p x) d (records_from-among p (x + 1) k y (omega arith) (omega arith)))

pub records-among : (p : ℕ → Bool) (n x : ℕ) → 1 ≤ x → x ≤ n → among (records_of p n) x ≡ p x
unfolding records_of
records-among p n x h g = records_from-among p 1 n x h (omega arith)

pub records-among-zero : (p : ℕ → Bool) (n : ℕ) → among (records_of p n) 0 ≡ false
records-among-zero p n = among_below n 0 0 (records_of p n) (records-ascend p n) (omega arith)

pub records-among-above : (p : ℕ → Bool) (n x : ℕ) → n < x → among (records_of p n) x ≡ false
records-among-above p n x h = among-above n 0 x (records_of p n) (records-ascend p n) h

-- ---- one ascending list has given members

among-head : (x : ℕ) (xs : List ℕ) → among (x ∷ xs) x ≡ true
unfolding among
among-head x xs = rw (eq-eqb x x refl)

among-past : (x y : ℕ) (ys : List ℕ) → y < x → among (y ∷ ys) x ≡ among ys x
unfolding among
among-past x y ys h = rw (ne_eqb x y (λ (e : x ≡ y). omega arith))

-- the first number is not before the other's first
head-not-before : (n k x y : ℕ) (xs ys : List ℕ) → Ascends n k (y ∷ ys) → among (x ∷ xs) x ≡ among (y ∷ ys) x → y ≤ x
head-not-before n k x y xs ys q e =
    leb-cases y x (λ h. h) (λ g. true-false (sym (among-head x xs) ∙ e ∙ among_below n x x (y ∷ ys) (g, q.1, q.2) (omega arith)))

tail-same : (n k x y z : ℕ) (xs ys : List ℕ) → x ≡ y → Ascends n k (x ∷ xs) → Ascends n k (y ∷ ys) →
    among (x ∷ xs) z ≡ among (y ∷ ys) z → among xs z ≡ among ys z
tail-same n k x y z xs ys exy p q e =
    leb-cases z x (λ h. among_below n x z xs p.2 h ∙ sym (among_below n y z ys q.2 (omega arith)))
    (λ g. sym (among-past z x xs g) ∙ e ∙ among-past z y ys (omega arith))

ascends-step-unique : (n k x y : ℕ) (xs ys : List ℕ) → x ≡ y → Ascends n k (x ∷ xs) → Ascends n k (y ∷ ys) →
    ((z : ℕ) → among (x ∷ xs) z ≡ among (y ∷ ys) z) →
    (Ascends n x xs → Ascends n x ys → ((z : ℕ) → among xs z ≡ among ys z) → xs ≡ ys) → ◌≡◌ {A = List ℕ} (x ∷ xs) (y ∷ ys)
ascends-step-unique n k x y xs ys exy p q f ih =
    let q' : Ascends n x ys = rw exy q.2 in
    let e = ih p.2 q' (λ z. tail-same n k x y z xs ys exy p q (f z)) in
    cc

pub ascends-unique : (n k : ℕ) (xs ys : List ℕ) → Ascends n k xs → Ascends n k ys → ((z : ℕ) → among xs z ≡ among ys z) → xs ≡ ys
unfolding among
ascends-unique n k [] [] p q f = refl
ascends-unique n k [] (y ∷ ys) p q f = true-false (sym (among-head y ys) ∙ sym (f y))
ascends-unique n k (x ∷ xs) [] p q f = true-false (sym (among-head x xs) ∙ f x)
ascends-unique n k (x ∷ xs) (y ∷ ys) p q f =
    let e : x ≡ y = le_antisymm (head-not-before n k y x ys xs p (sym (f y))) (head-not-before n k x y xs ys q (f x)) in
    ascends-step-unique n k x y xs ys e p q f (ascends-unique n x xs ys)

-- what an algorithm has to show of the numbers that it wrote
pub is-records : (p : ℕ → Bool) (n : ℕ) (xs : List ℕ) → Ascends n 0 xs → ((x : ℕ) → 1 ≤ x → x ≤ n → among xs x ≡ p x) → xs ≡ records_of p n
is-records p n xs a f =
    ascends-unique n 0 xs (records_of p n) a (records-ascend p n)
    (λ x. leb-cases 1 x
    (λ h. leb-cases x n (λ g. f x h g ∙ sym (records-among p n x h g)) (λ w. among-above n 0 x xs a w ∙ sym (records-among-above p n x w)))
    (λ w. let z : x ≡ 0 = omega arith in rw z (among_below n 0 0 xs a (omega arith) ∙ sym (records-among-zero p n))))
