-- The bits of what the machine's operations make: and, or, exclusive or, shifts, remainders, and the masks of 64 digits.
use mathlib.Core.Path.{◌≡◌, refl, sym, ap, ◌∙◌}
use Prim.Native.Nat.{ℕ, zero, suc, ◌+◌, ◌-◌, ◌*◌, ◌/◌, ◌%◌, ◌^◌, ◌≤◌, ◌<◌}
use native.Mathlib.Nat.{mod-lt, zero-lt-suc, div-eq_of_lt, mul_assoc, mul-div_cancel, lt_of_lt_of_le}
use native.Mathlib.Numerals.{one-add}
use native.Mathlib.Omega.{arith}
use mathlib.Core.Bool.{Bool, true, false, not, ◌&&◌, ◌||◌}
use lib.Dec.{leb}
use lib.Bits.{bit_and, bit_or, bit_xor, and_shr, or_shr, xor_shr, and_mod, or_mod, xor_mod, shifted_even}
use lib.Pow.{pow-add, pow_pos, pow_mono, shr-shr, shl-shr, field, mod-mod-pow, ones_split, ones_lt, high, low}
use borrow.Author.Tests.{le-leb, lt-leb}
use Rattle.laws.proofs.Tests.{leb-cases}
use Rattle.window.specs.Bit.{on, set?}

abbrev pub differs : Bool → Bool → Bool
differs true b = not b
differs false b = b

-- ---- word by word

-- an operation on words that goes digit by digit, as op does on the digits 0 and 1
module _ (op : ℕ → ℕ → ℕ) (f : Bool → Bool → Bool)
    (neither : set? (op 0 0) ≡ f false false) (second : set? (op 0 1) ≡ f false true) (first : set? (op 1 0) ≡ f true false)
    (both : set? (op 1 1) ≡ f true true) where
  digit-by : (x y : ℕ) → x < 2 → y < 2 → set? (op x y) ≡ f (set? x) (set? y)
  digit-by zero zero h g = neither
  digit-by zero (suc zero) h g = second
  digit-by zero (suc (suc y)) h g = absurd (omega arith)
  digit-by (suc zero) zero h g = first
  digit-by (suc zero) (suc zero) h g = both
  digit-by (suc zero) (suc (suc y)) h g = absurd (omega arith)
  digit-by (suc (suc x)) y h g = absurd (omega arith)

  on-by : ((a b i : ℕ) → op a b / 2 ^ i ≡ op (a / 2 ^ i) (b / 2 ^ i)) → ((a b i : ℕ) → op a b % 2 ^ i ≡ op (a % 2 ^ i) (b % 2 ^ i)) →
      (a b i : ℕ) → on (op a b) i ≡ f (on a i) (on b i)
  unfolding on
  on-by shr rem a b i =
      ap (λ (x : ℕ). set? (x % 2)) (shr a b i) ∙ ap set? (rem (a / 2 ^ i) (b / 2 ^ i) 1)
      ∙ digit-by (a / 2 ^ i % 2) (b / 2 ^ i % 2) (mod-lt (a / 2 ^ i) (zero-lt-suc 1)) (mod-lt (b / 2 ^ i) (zero-lt-suc 1))

pub on_and : (a b i : ℕ) → on (bit_and a b) i ≡ on a i && on b i
on_and = on-by bit_and ◌&&◌ refl refl refl refl and_shr and_mod

pub on_or : (a b i : ℕ) → on (bit_or a b) i ≡ on a i || on b i
on_or = on-by bit_or ◌||◌ refl refl refl refl or_shr or_mod

pub on_xor : (a b i : ℕ) → on (bit_xor a b) i ≡ differs (on a i) (on b i)
on_xor = on-by bit_xor differs refl refl refl refl xor_shr xor_mod

-- ---- shifts and remainders

-- above all its digits
pub on-high : (n i : ℕ) → n < 2 ^ i → on n i ≡ false
unfolding on
on-high n i h = ap (λ (x : ℕ). set? (x % 2)) (div-eq_of_lt h)

pub on-shr : (w k i : ℕ) → on (w / 2 ^ k) i ≡ on w (k + i)
unfolding on
on-shr w k i = ap (λ (x : ℕ). set? (x % 2)) (shr-shr w k i)

-- the next digit
pub on-suc : (w i : ℕ) → on w (suc i) ≡ on (w / 2) i
on-suc w i = sym (on-shr w 1 i ∙ ap (on w) (one-add i))

-- the low digits of a remainder
pub on-low : (n k i : ℕ) → i < k → on (n % 2 ^ k) i ≡ on n i
unfolding on
on-low n k i h =
    let e : k ≡ k - i - 1 + 1 + i = omega arith in
    ap (λ (x : ℕ). set? (n % 2 ^ x / 2 ^ i % 2)) e ∙ ap (λ (x : ℕ). set? (x % 2)) (field n (k - i - 1 + 1) i) ∙ ap set? (mod-mod-pow (n / 2 ^ i) (k - i - 1) 1)

-- a shift up
pub on-up : (w k i : ℕ) → on (w * 2 ^ k) (k + i) ≡ on w i
on-up w k i = sym (on-shr (w * 2 ^ k) k i) ∙ ap (λ (x : ℕ). on x i) (shl-shr w k)

pub on_below : (w k i : ℕ) → i < k → on (w * 2 ^ k) i ≡ false
unfolding on
on_below w k i h =
    let j = k - i - 1 in
    let e : k ≡ suc j + i = omega arith in
    ap (λ (x : ℕ). set? (w * 2 ^ x / 2 ^ i % 2)) e ∙ ap (λ (x : ℕ). set? (w * x / 2 ^ i % 2)) (pow-add 2 (suc j) i)
    ∙ ap (λ (x : ℕ). set? (x / 2 ^ i % 2)) (sym (mul_assoc w (2 ^ suc j) (2 ^ i)))
    ∙ ap (λ (x : ℕ). set? (x % 2)) (mul-div_cancel (w * 2 ^ suc j) (pow_pos i))
    ∙ ap set? (shifted_even w j)

-- all digits set
pub on-ones : (k i : ℕ) → i < k → on (2 ^ k - 1) i ≡ true
unfolding on
on-ones k i h =
    let j = k - i - 1 in
    let e : k ≡ j + 1 + i = omega arith in
    ap (λ (x : ℕ). set? ((2 ^ x - 1) / 2 ^ i % 2)) e ∙ ap (λ (x : ℕ). set? (x / 2 ^ i % 2)) (ones_split (j + 1) i)
    ∙ ap (λ (x : ℕ). set? (x % 2)) (high (2 ^ (j + 1) - 1) i (ones_lt i))
    ∙ ap (λ (x : ℕ). set? (x % 2)) (ones_split j 1) ∙ ap set? (low (2 ^ j - 1) 1 (ones_lt 1))

-- the lowest digit
pub on-zero : (w : ℕ) → on w 0 ≡ set? (w % 2)
unfolding on
on-zero w = let e : w / 1 ≡ w = omega arith in ap (λ (x : ℕ). set? (x % 2)) e

-- ---- the masks of 64 digits: from a up, up to b, and one bit alone

pub on-from : (a i : ℕ) → i < 64 → on ((2 ^ 64 - 1) * 2 ^ a % 2 ^ 64) i ≡ leb a i
on-from a i h =
    on-low ((2 ^ 64 - 1) * 2 ^ a) 64 i h
    ∙ leb-cases a i
    (λ d. let e : i ≡ a + (i - a) = omega arith in
    ap (on ((2 ^ 64 - 1) * 2 ^ a)) e ∙ on-up (2 ^ 64 - 1) a (i - a) ∙ on-ones 64 (i - a) (omega arith) ∙ sym (le-leb a i d))
    (λ l. on_below (2 ^ 64 - 1) a i l ∙ sym (lt-leb a i l))

pub on-upto : (b i : ℕ) → b < 64 → on ((2 ^ 64 - 1) / 2 ^ (63 - b)) i ≡ leb i b
on-upto b i h =
    on-shr (2 ^ 64 - 1) (63 - b) i
    ∙ leb-cases i b
    (λ d. on-ones 64 (63 - b + i) (omega arith) ∙ sym (le-leb i b d))
    (λ l. let g : 64 ≤ 63 - b + i = omega arith in
    on-high (2 ^ 64 - 1) (63 - b + i) (lt_of_lt_of_le (ones_lt 64) (pow_mono g)) ∙ sym (lt-leb i b l))

pub on_one : (s i : ℕ) → i < 64 → on (1 * 2 ^ s % 2 ^ 64) i ≡ leb s i && leb i s
on_one s i h =
    on-low (1 * 2 ^ s) 64 i h
    ∙ leb-cases s i
    (λ d. let e : i ≡ s + (i - s) = omega arith in
    ap (on (1 * 2 ^ s)) e ∙ on-up 1 s (i - s) ∙ first (i - s) i s (omega arith) ∙ sym (ap (λ (t : Bool). t && leb i s) (le-leb s i d)))
    (λ l. on_below 1 s i l ∙ sym (ap (λ (t : Bool). t && leb i s) (lt-leb s i l)))
  where
    first : (j i s : ℕ) → i ≡ s + j → on 1 j ≡ leb i s
    first zero i s e = on-ones 1 0 (omega arith) ∙ sym (le-leb i s (omega arith))
    first (suc j) i s e =
        let one : 1 < 2 ^ 1 = omega arith in
        let p : 1 ≤ suc j = omega arith in
        on-high 1 (suc j) (lt_of_lt_of_le one (pow_mono p)) ∙ sym (lt-leb i s (omega arith))
