-- Laws of flips: in two parts, over a constant stretch, by agreeing tests; how many there are says whether the number before is in.
use mathlib.Core.Path.{◌≡◌, refl, sym, ap, ◌∙◌}
use Prim.Native.Nat.{ℕ, zero, suc, ◌+◌, ◌-◌, ◌%◌, ◌≤◌, ◌<◌}
use native.Mathlib.Nat.{zero-add, add-zero, suc-add}
use native.Mathlib.Omega.{arith}
use mathlib.Core.List.{List, [], ◌∷◌, ◌++◌}
use mathlib.Core.Bool.{Bool, true, false, not}
use lib.ListN.{length}
use Rattle.list.specs.Stretches.{turned, stretches}
use Rattle.list.proofs.StretchLaws.{turned_same, turned-append, turned-length}
use Rattle.window.specs.Bit.{set?}
use Rattle.window.specs.Flips.{odd, flips, last_in}

-- ---- in two parts

pub before-next : (p : ℕ → Bool) (x k : ℕ) → last_in p (p x) (x + 1) k ≡ p (x + k)
before-next p x zero = ap p (omega arith)
before-next p x (suc k) = let e : x + 1 + k ≡ x + suc k = omega arith in ap p e

pub flips-add : (p : ℕ → Bool) (b : Bool) (x m k : ℕ) → flips p b x (m + k) ≡ flips p b x m ++ flips p (last_in p b x m) (x + m) k
unfolding flips
flips-add p b x zero k = rw (zero-add k, add-zero x)
flips-add p b x (suc m) k =
    let e : x + 1 + m ≡ x + suc m = omega arith in
    rw suc-add
    (ap (turned b (p x) x) (flips-add p (p x) (x + 1) m k ∙ rw (before-next p x m, e))
    ∙ turned-append b (p x) x (flips p (p x) (x + 1) m) (flips p (p (x + m)) (x + suc m) k))

pub stretches-add : (p : ℕ → Bool) (b : Bool) (x m k : ℕ) → stretches p b x (m + k) ≡ flips p b x m ++ stretches p (last_in p b x m) (x + m) k
unfolding flips stretches
stretches-add p b x zero k = rw (zero-add k, add-zero x)
stretches-add p b x (suc m) k =
    let e : x + 1 + m ≡ x + suc m = omega arith in
    rw suc-add
    (ap (turned b (p x) x) (stretches-add p (p x) (x + 1) m k ∙ rw (before-next p x m, e))
    ∙ turned-append b (p x) x (flips p (p x) (x + 1) m) (stretches p (p (x + m)) (x + suc m) k))

-- ---- by agreeing tests

-- tests that agree on the numbers from x on agree at x, and on those from x + 1 on
agree-first : (p q : ℕ → Bool) (x k : ℕ) → ((i : ℕ) → i < suc k → p (x + i) ≡ q (x + i)) → p x ≡ q x
agree-first p q x k h = let z : x + 0 ≡ x = omega arith in rw z at (h 0 (omega arith))

agree-next : (p q : ℕ → Bool) (x k : ℕ) → ((i : ℕ) → i < suc k → p (x + i) ≡ q (x + i)) → (i : ℕ) → i < k → p (x + 1 + i) ≡ q (x + 1 + i)
agree-next p q x k h i l = let s : x + suc i ≡ x + 1 + i = omega arith in rw s at (h (suc i) (omega arith))

pub flips-agree : (p q : ℕ → Bool) (b : Bool) (x k : ℕ) → ((i : ℕ) → i < k → p (x + i) ≡ q (x + i)) → flips p b x k ≡ flips q b x k
unfolding flips
flips-agree p q b x zero h = refl
flips-agree p q b x (suc k) h =
    rw (agree-first p q x k h) (ap (turned b (q x) x) (flips-agree p q (q x) (x + 1) k (agree-next p q x k h)))

-- ---- over a constant stretch

pub flips-still : (p : ℕ → Bool) (v : Bool) (x k : ℕ) → ((i : ℕ) → i < k → p (x + i) ≡ v) → flips p v x k ≡ []
unfolding flips
flips-still p v x zero h = refl
flips-still p v x (suc k) h =
    rw (agree-first p (λ n. v) x k h) (ap (turned v v x) (flips-still p v (x + 1) k (agree-next p (λ n. v) x k h)) ∙ turned_same v x [])

pub flips-constant : (p : ℕ → Bool) (b v : Bool) (x k : ℕ) → 1 ≤ k → ((i : ℕ) → i < k → p (x + i) ≡ v) → flips p b x k ≡ turned b v x []
unfolding flips
flips-constant p b v x zero l h = absurd (omega arith)
flips-constant p b v x (suc k) l h =
    rw (agree-first p (λ n. v) x k h) (ap (turned b v x) (flips-still p v (x + 1) k (agree-next p (λ n. v) x k h)))

-- numbers behind the end that are not in bring no cell
stretches-out : (p : ℕ → Bool) (b : Bool) (x m : ℕ) → ((i : ℕ) → i < m → p (x + i) ≡ false) → stretches p b x m ≡ turned b false x []
unfolding stretches
stretches-out p b x zero h = refl
stretches-out p b x (suc m) h =
    rw (agree-first p (λ n. false) x m h) (ap (turned b false x) (stretches-out p false (x + 1) m (agree-next p (λ n. false) x m h)))

pub stretches-past : (p : ℕ → Bool) (b : Bool) (x k m : ℕ) → ((i : ℕ) → i < m → p (x + k + i) ≡ false) → stretches p b x (k + m) ≡ stretches p b x k
unfolding stretches
stretches-past p b x k m h =
    stretches-add p b x k m
    ∙ ap (λ (r : List ℕ). flips p b x k ++ r) (stretches-out p (last_in p b x k) (x + k) m h)
    ∙ sym (stretches-add p b x k 0)
    ∙ ap (stretches p b x) (add-zero k)

-- ---- how many there are

odd-turn : (k : ℕ) (t u : ℕ) → k % 2 ≡ t → (k + 1) % 2 ≡ u → set? u ≡ not (set? t)
odd-turn k zero zero e f = absurd (omega arith)
odd-turn k zero (suc u) e f = refl
odd-turn k (suc t) zero e f = refl
odd-turn k (suc t) (suc u) e f = absurd (omega arith)

pub odd-next : (k : ℕ) → odd (k + 1) ≡ not (odd k)
odd-next k = odd-turn k (k % 2) ((k + 1) % 2) refl refl

-- one cell more, and then as many as r has
one_more : (k : ℕ) (v : ℕ) (r : List ℕ) → k + 1 + length r ≡ k + length (v ∷ r)
one_more k v r = omega arith

parity-turn : (b c t : Bool) (x k : ℕ) (r : List ℕ) → odd k ≡ b → ((j : ℕ) → odd j ≡ c → odd (j + length r) ≡ t) → odd (k + length (turned b c x r)) ≡ t
parity-turn false false t x k r e f = f k e
parity-turn false true t x k r e f = rw (one_more k x r) at (f (k + 1) (odd-next k ∙ ap not e))
parity-turn true false t x k r e f = rw (one_more k (x - 1) r) at (f (k + 1) (odd-next k ∙ ap not e))
parity-turn true true t x k r e f = f k e

pub flips-parity : (p : ℕ → Bool) (b : Bool) (x m k : ℕ) → odd k ≡ b → odd (k + length (flips p b x m)) ≡ last_in p b x m
unfolding flips
flips-parity p b x zero k e = rw (add-zero k) e
flips-parity p b x (suc m) k e =
    parity-turn b (p x) (p (x + m)) x k (flips p (p x) (x + 1) m) e (λ j g. flips-parity p (p x) (x + 1) m j g ∙ before-next p x m)

pub flips-short : (p : ℕ → Bool) (b : Bool) (x k : ℕ) → length (flips p b x k) ≤ k
unfolding flips
flips-short p b x zero = omega arith
flips-short p b x (suc k) =
    let h = flips-short p (p x) (x + 1) k in
    let g = turned-length b (p x) x (flips p (p x) (x + 1) k) in
    omega arith
