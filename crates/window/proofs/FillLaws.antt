-- A stretch of bits set in a window, word by word: within one word, or the first, those between, and the last.
use mathlib.Core.Path.{◌≡◌, refl, sym, ap, ap₂, ◌∙◌}
use Prim.Native.Nat.{ℕ, ◌+◌, ◌-◌, ◌*◌, ◌/◌, ◌%◌, ◌^◌, ◌≤◌, ◌<◌}
use native.Mathlib.Decide.{ℕ_discrete}
use native.Mathlib.Omega.{arith}
use mathlib.Core.List.{List}
use mathlib.Core.Bool.{Bool, true, false, ◌||◌, ◌&&◌, and-true, and-false, or-true, or-false, or_assoc}
use lib.Bits.{bit_and, bit_or}
use lib.Dec.{leb, ltb}
use lib.ListN.{length, get_or, set, length-set, replicate}
use lib.Seq.{get_or-set_same, get_or-set_other}
use borrow.Rule.Slice.PartMut.{mid_of, put_mid}
use Rattle.std.proofs.lemmas.Grind.{common_steps}
use borrow.Author.Tests.{le-leb, lt-leb, lt-ltb, le-ltb}
use Rattle.laws.proofs.Tests.{leb-cases}
use Rattle.window.specs.Bit.{on}
use Rattle.window.specs.Window.{bit_at}
use Rattle.window.specs.Filled.{within, Filled}
use Rattle.window.proofs.BitLaws.{on_and, on_or, on-from, on-upto, on-ones, on_one}

pub within_in : (a e n : ℕ) → a ≤ n → n < e → within a e n ≡ true
within_in a e n h g = rw (le-leb a n h, lt-ltb n e g)

pub within-past : (a e n : ℕ) → e ≤ n → within a e n ≡ false
within-past a e n h = rw (le-ltb n e h, and-false (leb a n))

pub within-before : (a e n : ℕ) → n < a → within a e n ≡ false
within-before a e n h = rw (lt-leb a n h)

pub filled_none : (ws : List ℕ) (a : ℕ) → Filled ws a a ws
filled_none ws a = record {
  long = refl;
  bits = λ n h. sym (ap (λ (t : Bool). bit_at ws n || t) (leb-cases a n (within-past a a n) (within-before a a n)) ∙ or-false (bit_at ws n));
}

bit-set-same : (ws : List ℕ) (k v n : ℕ) → k < length ws → n / 64 ≡ k → bit_at (set ws k v) n ≡ on v (n % 64)
unfolding bit_at
bit-set-same ws k v n h e = rw e (ap (λ (x : ℕ). on x (n % 64)) (get_or-set_same ws k v 0 h))

bit-set-other : (ws : List ℕ) (k v n : ℕ) → (n / 64 ≡ k → ⊥) → bit_at (set ws k v) n ≡ bit_at ws n
unfolding bit_at
bit-set-other ws k v n q = ap (λ (x : ℕ). on x (n % 64)) (get_or-set_other ws k (n / 64) v 0 q)

-- the range grown from e to e', which lies in word k
module _ {ws₀ ws : List ℕ} {a e e' k : ℕ} (v : ℕ) (f : Filled ws₀ a e ws) (l : k < length ws₀) (o : a ≤ e) (p : e ≤ e') (q : 64 * k ≤ e) (r : e' ≤ 64 * k + 64)
    (on-v : (i : ℕ) → i < 64 → on v i ≡ bit_at ws₀ (64 * k + i) || within a e' (64 * k + i)) where
  other : (n : ℕ) → (n / 64 ≡ k → ⊥) → within a e n ≡ within a e' n
  other n w =
      leb-cases (64 * k) n
      (λ d. within-past a e n (omega arith) ∙ sym (within-past a e' n (omega arith)))
      (λ d. ap (λ (t : Bool). leb a n && t) (lt-ltb n e (omega arith) ∙ sym (lt-ltb n e' (omega arith))))

  at : (n : ℕ) → n < 64 * length ws₀ → Dec (n / 64 ≡ k) → bit_at (set ws k v) n ≡ bit_at ws₀ n || within a e' n
  at n h (yes w) =
      let z = f.long in
      let s : 64 * k + n % 64 ≡ n = omega arith in
      bit-set-same ws k v n (omega arith) w ∙ on-v (n % 64) (omega arith) ∙ ap (λ (x : ℕ). bit_at ws₀ x || within a e' x) s
  at n h (no w) = bit-set-other ws k v n w ∙ f.bits n h ∙ ap (λ (t : Bool). bit_at ws₀ n || t) (other n w)

  filled_more : Filled ws₀ a e' (set ws k v)
  filled_more = record { long = length-set ws k v ∙ f.long; bits = λ n h. at n h (ℕ_discrete (n / 64) k) }

-- ---- the words that are stored

-- word k with the bits of m set, bit by bit
or_word : (ws : List ℕ) (k m i : ℕ) → i < 64 → on (bit_or (get_or ws k 0) m) i ≡ bit_at ws (64 * k + i) || on m i
unfolding bit_at
or_word ws k m i h =
    let a : (64 * k + i) / 64 ≡ k = omega arith in
    let b : (64 * k + i) % 64 ≡ i = omega arith in
    rw (a, b) (on_or (get_or ws k 0) m i)

abbrev pub first_mask : ℕ → ℕ
first_mask a = (2 ^ 64 - 1) * 2 ^ (a % 64) % 2 ^ 64

abbrev last_mask : ℕ → ℕ
last_mask b = (2 ^ 64 - 1) / 2 ^ (63 - b % 64)

on-first : (a k i : ℕ) → a / 64 ≡ k → i < 64 → leb (a % 64) i ≡ leb a (64 * k + i)
on-first a k i e h =
    leb-cases (a % 64) i
    (λ d. le-leb (a % 64) i d ∙ sym (le-leb a (64 * k + i) (omega arith)))
    (λ d. lt-leb (a % 64) i d ∙ sym (lt-leb a (64 * k + i) (omega arith)))

on-last : (b k i : ℕ) → b / 64 ≡ k → i < 64 → leb i (b % 64) ≡ ltb (64 * k + i) (b + 1)
on-last b k i e h =
    leb-cases i (b % 64)
    (λ d. le-leb i (b % 64) d ∙ sym (lt-ltb (64 * k + i) (b + 1) (omega arith)))
    (λ d. lt-leb i (b % 64) d ∙ sym (le-ltb (64 * k + i) (b + 1) (omega arith)))

-- what is set in word k, where nothing was set before
fill-fresh : (ws : List ℕ) (a e k m : ℕ) → k < length ws → a / 64 ≡ k → a ≤ e → e ≤ 64 * k + 64 →
    ((i : ℕ) → i < 64 → on m i ≡ within a e (64 * k + i)) → Filled ws a e (set ws k (bit_or (get_or ws k 0) m))
fill-fresh ws a e k m l s o p on-m =
    filled_more (bit_or (get_or ws k 0) m) (filled_none ws a) l (omega arith) o (omega arith) p
    (λ i h. or_word ws k m i h ∙ ap (λ (t : Bool). bit_at ws (64 * k + i) || t) (on-m i h))

-- both ends in word k
pub fill_one : (ws : List ℕ) (a b k : ℕ) → k < length ws → a / 64 ≡ k → b / 64 ≡ k → a ≤ b →
    Filled ws a (b + 1) (set ws k (bit_or (get_or ws k 0) (bit_and (first_mask a) (last_mask b))))
fill_one ws a b k l ea eb o =
    fill-fresh ws a (b + 1) k (bit_and (first_mask a) (last_mask b)) l ea (omega arith) (omega arith)
    (λ i h. on_and (first_mask a) (last_mask b) i
    ∙ ap₂ ◌&&◌ (on-from (a % 64) i h ∙ on-first a k i ea h) (on-upto (b % 64) i (omega arith) ∙ on-last b k i eb h))

-- one bit
pub fill-bit : (ws : List ℕ) (a k : ℕ) → k < length ws → a / 64 ≡ k → Filled ws a (a + 1) (set ws k (bit_or (get_or ws k 0) (1 * 2 ^ (a % 64) % 2 ^ 64)))
fill-bit ws a k l e =
    fill-fresh ws a (a + 1) k (1 * 2 ^ (a % 64) % 2 ^ 64) l e (omega arith) (omega arith)
    (λ i h. on_one (a % 64) i h ∙ ap₂ ◌&&◌ (on-first a k i e h) (on-last a k i e h))

-- the first of several
pub fill-first : (ws : List ℕ) (a k : ℕ) → k < length ws → a / 64 ≡ k → Filled ws a (64 * k + 64) (set ws k (bit_or (get_or ws k 0) (first_mask a)))
fill-first ws a k l ea =
    fill-fresh ws a (64 * k + 64) k (first_mask a) l ea (omega arith) (omega arith)
    (λ i h. on-from (a % 64) i h ∙ on-first a k i ea h ∙ sym (rw (lt-ltb (64 * k + i) (64 * k + 64) (omega arith)) (and-true (leb a (64 * k + i)))))

-- those between, which are the k words from i on
pub fill-between : {xs ys : List ℕ} {a e : ℕ} (i k : ℕ) → a ≡ 64 * i → e ≡ 64 * (i + k) → i + k ≤ length xs →
    ys ≡ replicate (length (mid_of i k xs)) (2 ^ 64 - 1) → Filled xs a e (put_mid i k xs ys)
unfolding bit_at
fill-between {xs} {ys} {a} {e} i k f g l v = record {
  long = grind (arith, common_steps);
  bits = λ n h. leb-cases i (n / 64) (λ p. leb-cases (i + k) (n / 64) (past n) (λ q. between n p q)) (before n);
}
  where
    past : (n : ℕ) → i + k ≤ n / 64 → bit_at (put_mid i k xs ys) n ≡ bit_at xs n || within a e n
    past n p =
        let w : get_or (put_mid i k xs ys) (n / 64) 0 ≡ get_or xs (n / 64) 0 = grind (arith, common_steps) in
        rw (w, within-past a e n (omega arith), or-false (bit_at xs n))

    between : (n : ℕ) → i ≤ n / 64 → n / 64 < i + k → bit_at (put_mid i k xs ys) n ≡ bit_at xs n || within a e n
    between n p q =
        let w : get_or (put_mid i k xs ys) (n / 64) 0 ≡ 2 ^ 64 - 1 = grind (arith, common_steps) in
        rw (w, within_in a e n (omega arith) (omega arith), or-true (bit_at xs n)) (on-ones 64 (n % 64) (omega arith))

    before : (n : ℕ) → n / 64 < i → bit_at (put_mid i k xs ys) n ≡ bit_at xs n || within a e n
    before n p =
        let w : get_or (put_mid i k xs ys) (n / 64) 0 ≡ get_or xs (n / 64) 0 = grind (arith, common_steps) in
        rw (w, within-before a e n (omega arith), or-false (bit_at xs n))

-- the last
pub fill-last : {ws₀ ws : List ℕ} {a : ℕ} (b k : ℕ) → k < length ws₀ → a ≤ 64 * k → b / 64 ≡ k → Filled ws₀ a (64 * k) ws →
    Filled ws₀ a (b + 1) (set ws k (bit_or (get_or ws k 0) (last_mask b)))
fill-last {ws₀} {ws} {a} b k l o eb f =
    filled_more (bit_or (get_or ws k 0) (last_mask b)) f l o (omega arith) (omega arith) (omega arith)
    (λ i h.
    let old : bit_at ws (64 * k + i) ≡ bit_at ws₀ (64 * k + i) =
    f.bits (64 * k + i) (omega arith) ∙ rw (within-past a (64 * k) (64 * k + i) (omega arith)) (or-false (bit_at ws₀ (64 * k + i))) in
    or_word ws k (last_mask b) i h
    ∙ ap₂ ◌||◌ old (on-upto (b % 64) i (omega arith) ∙ on-last b k i eb h
    ∙ ap (λ (t : Bool). t && ltb (64 * k + i) (b + 1)) (sym (le-leb a (64 * k + i) (omega arith)))))

-- two ranges that meet
meet : (a e e' n : ℕ) → a ≤ e → e ≤ e' → within a e n || within e e' n ≡ within a e' n
meet a e e' n p q =
    leb-cases e n
    (λ g. ap₂ ◌||◌ (within-past a e n g) (ap (λ (t : Bool). t && ltb n e') (le-leb e n g ∙ sym (le-leb a n (omega arith)))))
    (λ g. ap₂ ◌||◌ (ap (λ (t : Bool). leb a n && t) (lt-ltb n e g ∙ sym (lt-ltb n e' (omega arith)))) (within-before e e' n g) ∙ or-false (within a e' n))

pub filled-join : {xs ys zs : List ℕ} {a e e' : ℕ} → a ≤ e → e ≤ e' → Filled xs a e ys → Filled ys e e' zs → Filled xs a e' zs
filled-join {xs} {ys} {zs} {a} {e} {e'} p q f g = record {
  long = g.long ∙ f.long;
  bits = λ n h. let w = f.long in
      g.bits n (omega arith) ∙ ap (λ (t : Bool). t || within e e' n) (f.bits n h) ∙ or_assoc (bit_at xs n) (within a e n) (within e e' n)
      ∙ ap (λ (t : Bool). bit_at xs n || t) (meet a e e' n p q);
}
