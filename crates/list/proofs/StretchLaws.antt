-- The proper list of a test: it is proper, names just the numbers of the test, and is the only such list.
use mathlib.Core.Path.{◌≡◌, refl, sym, ap, ◌∙◌}
use Prim.Native.Nat.{ℕ, zero, suc, ◌+◌, ◌-◌, ◌*◌, ◌≤◌, ◌<◌}
use native.Mathlib.Nat.{le_antisymm, add-zero, sub-zero}
use native.Mathlib.Omega.{arith}
use mathlib.Core.Bool.{Bool, true, false}
use mathlib.Core.List.{List, [], ◌∷◌, ◌++◌}
use lib.ListN.{length}
use Rattle.laws.proofs.Tests.{true-false, leb-cases}
use Rattle.list.specs.Interval.{is_proper, names, intervals}
use Rattle.list.specs.Stretches.{turned, stretches, cells_of, cons_if}
use Rattle.list.proofs.ProperLaws.{ProperFrom, proper-facts, facts-proper}
use Rattle.list.proofs.NamesLaws.{names_in, names-past, names-below, names-gap, proper-names-zero, proper-names-above}

-- ---- it is proper. `cons_if b l` puts the lower bound l in front of the cells from x on, where a stretch is open there

abbrev Begun : Bool → ℕ → ℕ → ℕ → Type 0
Begun true j l x = (j ≤ l) × (l < x)
Begun false j l x = j ≤ x

proper-step : (p : ℕ → Bool) (m j l x k : ℕ) (b v : Bool) → Begun b j l x → x + suc k ≤ m + 1 →
    ((i h : ℕ) → Begun v i h (x + 1) → ProperFrom m i (cons_if v h (stretches p v (x + 1) k))) →
    ProperFrom m j (cons_if b l (turned b v x (stretches p v (x + 1) k)))
proper-step p m j l x k false false g r ih = ih j l (omega arith)
proper-step p m j l x k false true g r ih = ih j x (omega arith, omega arith)
proper-step p m j l x k true false g r ih = (g.0, omega arith, omega arith, ih (x - 1 + 2) l (omega arith))
proper-step p m j l x k true true g r ih = ih j l (g.0, omega arith)

proper-last : (m j l x : ℕ) (b : Bool) → Begun b j l x → x ≤ m + 1 → ProperFrom m j (cons_if b l (turned b false x []))
proper-last m j l x false g r = tt
proper-last m j l x true g r = (g.0, omega arith, omega arith, tt)

stretches-proper : (p : ℕ → Bool) (m j l x k : ℕ) (b : Bool) → Begun b j l x → x + k ≤ m + 1 → ProperFrom m j (cons_if b l (stretches p b x k))
unfolding stretches
stretches-proper p m j l x zero b g r = proper-last m j l x b g (omega arith)
stretches-proper p m j l x (suc k) b g r = proper-step p m j l x k b (p x) g r (λ i h f. stretches-proper p m i h (x + 1) k (p x) f (omega arith))

pub cells-proper-from : (p : ℕ → Bool) (n m : ℕ) → n ≤ m → ProperFrom m 1 (cells_of p n)
unfolding cells_of
cells-proper-from p n m h = stretches-proper p m 1 0 1 n false (omega arith) (omega arith)

pub cells-proper : (p : ℕ → Bool) (n m : ℕ) → n ≤ m → is_proper m (cells_of p n) ≡ true
unfolding is_proper
cells-proper p n m h = facts-proper m 1 (cells_of p n) (cells-proper-from p n m h)

-- ---- it names the numbers of the test

stretches-below : (p : ℕ → Bool) (x k y : ℕ) → y < x → names (stretches p false x k) y ≡ false
stretches-below p x k y h = names-below (x + k) x y (stretches p false x k) (stretches-proper p (x + k) x 0 x k false (omega arith) (omega arith)) h

-- the numbers of the stretch that is open
open_step : (p : ℕ → Bool) (l x k y : ℕ) (v : Bool) → l ≤ y → y < x → names (l ∷ stretches p true (x + 1) k) y ≡ true →
    names (l ∷ turned true v x (stretches p v (x + 1) k)) y ≡ true
open_step p l x k y false h g ih = names_in l (x - 1) y (stretches p false (x + 1) k) h (omega arith)
open_step p l x k y true h g ih = ih

names-open : (p : ℕ → Bool) (l x k y : ℕ) → l ≤ y → y < x → names (l ∷ stretches p true x k) y ≡ true
unfolding stretches
names-open p l x zero y h g = names_in l (x - 1) y [] h (omega arith)
names-open p l x (suc k) y h g = open_step p l x k y (p x) h g (names-open p l (x + 1) k y h (omega arith))

-- the number x itself, and one behind it
names-first : (p : ℕ → Bool) (l x k : ℕ) (b v : Bool) → l < x → names (cons_if b l (turned b v x (stretches p v (x + 1) k))) x ≡ v
names-first p l x k false false h = stretches-below p (x + 1) k x (omega arith)
names-first p l x k false true h = names-open p x (x + 1) k x (omega arith) (omega arith)
names-first p l x k true false h =
    names-past l (x - 1) x (stretches p false (x + 1) k) (omega arith) ∙ stretches-below p (x + 1) k x (omega arith)
names-first p l x k true true h = names-open p l (x + 1) k x (omega arith) (omega arith)

names-later : (p : ℕ → Bool) (l x k y : ℕ) (b v : Bool) → l < x → x < y →
    ((h : ℕ) → h < x + 1 → names (cons_if v h (stretches p v (x + 1) k)) y ≡ p y) →
    names (cons_if b l (turned b v x (stretches p v (x + 1) k))) y ≡ p y
names-later p l x k y false false h g ih = ih l (omega arith)
names-later p l x k y false true h g ih = ih x (omega arith)
names-later p l x k y true false h g ih = names-past l (x - 1) y (stretches p false (x + 1) k) (omega arith) ∙ ih l (omega arith)
names-later p l x k y true true h g ih = ih l (omega arith)

stretches-names : (p : ℕ → Bool) (l x k y : ℕ) (b : Bool) → l < x → x ≤ y → y < x + k → names (cons_if b l (stretches p b x k)) y ≡ p y
unfolding stretches
stretches-names p l x zero y b h g f = absurd (omega arith)
stretches-names p l x (suc k) y b h g f =
    leb-cases y x (λ d. let e : y ≡ x = omega arith in rw e (names-first p l x k b (p x) h))
    (λ d. names-later p l x k y b (p x) h d (λ i j. stretches-names p i (x + 1) k y (p x) j (omega arith) (omega arith)))

pub cells-names : (p : ℕ → Bool) (n x : ℕ) → 1 ≤ x → x ≤ n → names (cells_of p n) x ≡ p x
unfolding cells_of
cells-names p n x h g = stretches-names p 0 1 n x false (omega arith) h (omega arith)

pub cells-names-zero : (p : ℕ → Bool) (n : ℕ) → names (cells_of p n) 0 ≡ false
cells-names-zero p n = proper-names-zero n (cells_of p n) (cells-proper p n n (omega arith))

pub cells-names-above : (p : ℕ → Bool) (n x : ℕ) → n < x → names (cells_of p n) x ≡ false
cells-names-above p n x h = proper-names-above n x (cells_of p n) (cells-proper p n n (omega arith)) h

-- ---- two tests have the same cells exactly when they agree from 1 to n

stretches-same : (p q : ℕ → Bool) (b : Bool) (x k : ℕ) → ((y : ℕ) → x ≤ y → y < x + k → p y ≡ q y) → stretches p b x k ≡ stretches q b x k
unfolding stretches
stretches-same p q b x zero h = refl
stretches-same p q b x (suc k) h =
    let e : p x ≡ q x = h x (omega arith) (omega arith) in
    rw e (ap (λ (r : List ℕ). turned b (q x) x r) (stretches-same p q (q x) (x + 1) k (λ y f g. h y (omega arith) (omega arith))))

pub cells_same : (p q : ℕ → Bool) (n : ℕ) → ((x : ℕ) → 1 ≤ x → x ≤ n → p x ≡ q x) → cells_of p n ≡ cells_of q n
unfolding cells_of
cells_same p q n h = stretches-same p q false 1 n (λ y f g. h y f (omega arith))

pub cells_agree : (p q : ℕ → Bool) (n : ℕ) → cells_of p n ≡ cells_of q n → (x : ℕ) → 1 ≤ x → x ≤ n → p x ≡ q x
cells_agree p q n e x h g = sym (cells-names p n x h g) ∙ ap (λ (c : List ℕ). names c x) e ∙ cells-names q n x h g

-- ---- Reference 3.2: one list for one set

-- of two lists that name the same, the first interval neither starts nor ends before the other's
first-start : (n k l u : ℕ) (r d : List ℕ) → l ≤ u → ProperFrom n k d → names (l ∷ u ∷ r) l ≡ names d l → k ≤ l
first-start n k l u r d h q e =
    leb-cases k l (λ w. w) (λ w. true-false (sym (names_in l u l r (omega arith) h) ∙ e ∙ names-below n k l d q w))

first-end : (n k l u l' u' : ℕ) (r r' : List ℕ) → l ≡ l' → ProperFrom n k (l' ∷ u' ∷ r') →
    ((x : ℕ) → names (l ∷ u ∷ r) x ≡ names (l' ∷ u' ∷ r') x) → u ≤ u'
first-end n k l u l' u' r r' e q f =
    leb-cases u u' (λ w. w)
    (λ w. true-false (sym (names_in l u (u' + 1) r (omega arith) (omega arith)) ∙ f (u' + 1) ∙ names-gap n k l' u' (u' + 1) r' q (omega arith) (omega arith)))

-- what follows the first interval names the same too
rest-same : (n k l u l' u' x : ℕ) (r r' : List ℕ) → u ≡ u' → ProperFrom n k (l ∷ u ∷ r) → ProperFrom n k (l' ∷ u' ∷ r') →
    names (l ∷ u ∷ r) x ≡ names (l' ∷ u' ∷ r') x → names r x ≡ names r' x
rest-same n k l u l' u' x r r' eu p q e =
    leb-cases x u (λ w. names-below n (u + 2) x r p.3 (omega arith) ∙ sym (names-below n (u' + 2) x r' q.3 (omega arith)))
    (λ w. sym (names-past l u x r w) ∙ e ∙ names-past l' u' x r' (omega arith))

unique-step : (n k l u l' u' : ℕ) (r r' : List ℕ) → l ≡ l' → u ≡ u' → ProperFrom n k (l ∷ u ∷ r) → ProperFrom n k (l' ∷ u' ∷ r') →
    ((x : ℕ) → names (l ∷ u ∷ r) x ≡ names (l' ∷ u' ∷ r') x) →
    (ProperFrom n (u + 2) r → ProperFrom n (u + 2) r' → ((x : ℕ) → names r x ≡ names r' x) → r ≡ r') →
    ◌≡◌ {A = List ℕ} (l ∷ u ∷ r) (l' ∷ u' ∷ r')
unique-step n k l u l' u' r r' el eu p q f ih =
    let q' : ProperFrom n (u + 2) r' = rw eu q.3 in
    let e = ih p.3 q' (λ x. rest-same n k l u l' u' x r r' eu p q (f x)) in
    cc

unique-from : (n k : ℕ) (c d : List ℕ) → ProperFrom n k c → ProperFrom n k d → ((x : ℕ) → names c x ≡ names d x) → c ≡ d
unfolding names
unique-from n k [] [] p q f = refl
unique-from n k [] (l ∷ u ∷ r) p q f = true-false (sym (names_in l u l r (omega arith) q.1) ∙ sym (f l))
unique-from n k (l ∷ u ∷ r) [] p q f = true-false (sym (names_in l u l r (omega arith) p.1) ∙ f l)
unique-from n k (l ∷ u ∷ r) (l' ∷ u' ∷ r') p q f =
    let p' : ProperFrom n l (l ∷ u ∷ r) = (omega arith, p.1, p.2, p.3) in
    let q' : ProperFrom n l' (l' ∷ u' ∷ r') = (omega arith, q.1, q.2, q.3) in
    let el : l ≡ l' = le_antisymm (first-start n l l' u' r' (l ∷ u ∷ r) q.1 p' (sym (f l'))) (first-start n l' l u r (l' ∷ u' ∷ r') p.1 q' (f l)) in
    let eu : u ≡ u' = le_antisymm (first-end n k l u l' u' r r' el q f) (first-end n k l' u' l u r' r (sym el) p (λ x. sym (f x))) in
    unique-step n k l u l' u' r r' el eu p q f (unique-from n (u + 2) r r')
unique-from n k [] (l ∷ []) p q f = elim q [ ]
unique-from n k (l ∷ []) d p q f = elim p [ ]
unique-from n k (l ∷ (u ∷ r)) (l' ∷ []) p q f = elim q [ ]

pub proper-unique : (n : ℕ) (c d : List ℕ) → is_proper n c ≡ true → is_proper n d ≡ true → ((x : ℕ) → names c x ≡ names d x) → c ≡ d
unfolding is_proper
proper-unique n c d e g f = unique-from n 1 c d (proper-facts n 1 c e) (proper-facts n 1 d g) f

-- what an algorithm has to show of the cells that it wrote
pub is-cells : (p : ℕ → Bool) (n : ℕ) (c : List ℕ) → is_proper n c ≡ true → ((x : ℕ) → 1 ≤ x → x ≤ n → names c x ≡ p x) → c ≡ cells_of p n
is-cells p n c e f =
    proper-unique n c (cells_of p n) e (cells-proper p n n (omega arith))
    (λ x. leb-cases 1 x
    (λ h. leb-cases x n (λ g. f x h g ∙ sym (cells-names p n x h g)) (λ w. proper-names-above n x c e w ∙ sym (cells-names-above p n x w)))
    (λ w. let z : x ≡ 0 = omega arith in rw z (proper-names-zero n c e ∙ sym (cells-names-zero p n))))

-- a proper list is the list of what it names
pub proper-cells : (n : ℕ) (c : List ℕ) → is_proper n c ≡ true → c ≡ cells_of (names c) n
proper-cells n c e = is-cells (names c) n c e (λ x h g. refl)

-- a limit above which nothing is in may be taken higher
pub cells-limit : (p : ℕ → Bool) (n m : ℕ) → n ≤ m → ((x : ℕ) → n < x → x ≤ m → p x ≡ false) → cells_of p n ≡ cells_of p m
cells-limit p n m h f =
    is-cells p m (cells_of p n) (cells-proper p n m h)
    (λ x g w. leb-cases x n (λ d. cells-names p n x g d) (λ d. cells-names-above p n x d ∙ sym (f x d w)))

-- ---- the cell that a number brings

pub turned_same : (v : Bool) (x : ℕ) (r : List ℕ) → turned v v x r ≡ r
turned_same true x r = refl
turned_same false x r = refl

pub turned-append : (b v : Bool) (x : ℕ) (r s : List ℕ) → turned b v x (r ++ s) ≡ turned b v x r ++ s
turned-append false false x r s = refl
turned-append false true x r s = refl
turned-append true false x r s = refl
turned-append true true x r s = refl

pub turned-length : (b v : Bool) (x : ℕ) (r : List ℕ) → length (turned b v x r) ≤ length r + 1
turned-length false false x r = omega arith
turned-length false true x r = omega arith
turned-length true false x r = omega arith
turned-length true true x r = omega arith

-- ---- the jump over numbers of one value

-- j numbers of the value before them bring no cell
pub stretches-skip : (p : ℕ → Bool) (v : Bool) (j x k : ℕ) → j ≤ k → ((y : ℕ) → x ≤ y → y < x + j → p y ≡ v) →
    stretches p v x k ≡ stretches p v (x + j) (k - j)
unfolding stretches
stretches-skip p v zero x k h q = rw (add-zero, sub-zero)
stretches-skip p v (suc j) x zero h q = absurd (omega arith)
stretches-skip p v (suc j) x (suc k) h q =
    let e : p x ≡ v = q x (omega arith) (omega arith) in
    let s : x + 1 + j ≡ x + suc j = omega arith in
    let t : k - j ≡ suc k - suc j = omega arith in
    let i : stretches p v (x + 1) k ≡ stretches p v (x + 1 + j) (k - j) =
    stretches-skip p v j (x + 1) k (omega arith) (λ y f g. q y (omega arith) (omega arith)) in
    rw (e, turned_same v x (stretches p v (x + 1) k), i, s, t)

-- from x to below y the value is v: x alone can bring a cell
pub stretches-jump : (p : ℕ → Bool) (b v : Bool) (x y k : ℕ) → x < y → y ≤ x + k → ((z : ℕ) → x ≤ z → z < y → p z ≡ v) →
    stretches p b x k ≡ turned b v x (stretches p v y (k - (y - x)))
unfolding stretches
stretches-jump p b v x y zero h g q = absurd (omega arith)
stretches-jump p b v x y (suc k) h g q =
    let e : p x ≡ v = q x (omega arith) (omega arith) in
    let s : x + 1 + (y - (x + 1)) ≡ y = omega arith in
    let t : k - (y - (x + 1)) ≡ suc k - (y - x) = omega arith in
    let i : stretches p v (x + 1) k ≡ stretches p v (x + 1 + (y - (x + 1))) (k - (y - (x + 1))) =
    stretches-skip p v (y - (x + 1)) (x + 1) k (omega arith) (λ z f w. q z (omega arith) (omega arith)) in
    rw (e, i, s, t)

-- ---- a walk through the numbers 1 to n, at x: how it starts, jumps and ends

pub cells-start : (p : ℕ → Bool) (n : ℕ) → cells_of p n ≡ stretches p false 1 (n + 1 - 1)
unfolding cells_of
cells-start p n = let e : n + 1 - 1 ≡ n = omega arith in rw e

pub stretches-on : (p : ℕ → Bool) (b v : Bool) (n x y : ℕ) → x < y → y ≤ n + 1 → ((z : ℕ) → x ≤ z → z < y → p z ≡ v) →
    stretches p b x (n + 1 - x) ≡ turned b v x (stretches p v y (n + 1 - y))
stretches-on p b v n x y h g q =
    let s : n + 1 - x - (y - x) ≡ n + 1 - y = omega arith in
    rw (← s) (stretches-jump p b v x y (n + 1 - x) h (omega arith) q)

pub stretches-end : (p : ℕ → Bool) (b : Bool) (n x : ℕ) → n < x → stretches p b x (n + 1 - x) ≡ turned b false x []
unfolding stretches
stretches-end p b n x h = let z : n + 1 - x ≡ 0 = omega arith in rw z

-- ---- lengths

pub proper-even : (n k : ℕ) (c : List ℕ) → ProperFrom n k c → 2 * intervals c ≡ length c
proper-even n k [] p = refl
proper-even n k (l ∷ u ∷ r) p = omega (arith, proper-even n (u + 2) r p.3)
proper-even n k (l ∷ []) p = elim p [ ]

-- a proper list has whole intervals
pub proper-length : (n : ℕ) (c : List ℕ) → is_proper n c ≡ true → 2 * intervals c ≡ length c
unfolding is_proper
proper-length n c e = proper-even n 1 c (proper-facts n 1 c e)

pub cells-even : (p : ℕ → Bool) (n : ℕ) → 2 * intervals (cells_of p n) ≡ length (cells_of p n)
cells-even p n = proper-even n 1 (cells_of p n) (cells-proper-from p n n (omega arith))

pub stretches-length : (p : ℕ → Bool) (b : Bool) (x k : ℕ) → length (stretches p b x k) ≤ k + 1
unfolding stretches
stretches-length p b x zero = turned-length b false x []
stretches-length p b x (suc k) =
    omega (arith, turned-length b (p x) x (stretches p (p x) (x + 1) k), stretches-length p (p x) (x + 1) k)

pub cells-length : (p : ℕ → Bool) (n : ℕ) → length (cells_of p n) ≤ n + 1
unfolding cells_of
cells-length p n = stretches-length p false 1 n
