-- The places of a word's set bits: how the machine walks them (the lowest by its trailing zeros, then x & (x - 1)) and counts them.
use mathlib.Core.Path.{◌≡◌, refl, sym, ap, ap₂, ◌∙◌}
use Prim.Native.Nat.{ℕ, zero, suc, ◌+◌, ◌-◌, ◌*◌, ◌/◌, ◌%◌, ◌^◌, ◌<◌, min}
use native.Mathlib.Nat.{pow-suc, zero-min, min-zero, add-zero, zero-add}
use native.Mathlib.Numerals.{one-add}
use native.Mathlib.Omega.{arith}
use mathlib.Core.List.{List, [], ◌∷◌}
use mathlib.Core.Bool.{Bool}
use lib.Bits.{bit_and, and_step, and_self, and_le_r}
use lib.Count.{count_trailing_zeros, ones, ones_in, ones_step}
use lib.ListN.{length}
use Rattle.list.specs.Stretches.{cons_if, records_from}
use Rattle.window.specs.Bit.{on, set?}
use Rattle.window.specs.Flips.{marks}
use Rattle.window.proofs.BitLaws.{on-suc, on-zero}

-- digit by digit: the places, counted from at, of the set ones among n's d lowest digits
unfoldable pub places : ℕ → ℕ → ℕ → List ℕ
places zero at n = []
places (suc d) at n = cons_if (set? (n % 2)) at (places d (at + 1) (n / 2))

pub places-records : (p : ℕ → Bool) (d at n : ℕ) → ((i : ℕ) → i < d → on n i ≡ p (at + i)) → places d at n ≡ records_from p at d
unfolding places records_from
places-records p zero at n h = refl
places-records p (suc d) at n h =
    let z : at + 0 ≡ at = omega arith in
    let first : set? (n % 2) ≡ p at = sym (on-zero n) ∙ h 0 (omega arith) ∙ ap p z in
    rw first (ap (cons_if (p at) at) (places-records p d (at + 1) (n / 2)
    (λ i l. let s : at + suc i ≡ at + 1 + i = omega arith in sym (on-suc n i) ∙ h (suc i) (omega arith) ∙ ap p s)))

pub marks-places : (w : ℕ) → marks w ≡ places 64 0 w
unfolding marks
marks-places w = sym (places-records (on w) 64 0 w (λ i h. ap (on w) (sym (zero-add i))))

places-none : (d at : ℕ) → places d at 0 ≡ []
unfolding places
places-none zero at = refl
places-none (suc d) at = places-none d (at + 1)

places-double : (d at m : ℕ) → places (suc d) at (m * 2) ≡ places d (at + 1) m
unfolding places
places-double d at m =
    let e : m * 2 % 2 ≡ 0 = omega arith in
    let f : m * 2 / 2 ≡ m = omega arith in
    rw (e, f)

-- x & (x - 1): the lowest set digit cleared
abbrev pub cleared : ℕ → ℕ
cleared n = bit_and n (n - 1)

cleared-odd : (n : ℕ) → n % 2 ≡ 1 → cleared n ≡ n / 2 * 2
cleared-odd n e =
    let f : (n - 1) / 2 ≡ n / 2 = omega arith in
    let g : (n - 1) % 2 ≡ 0 = omega arith in
    and_step n (n - 1) ∙ ap₂ (λ (x y : ℕ). bit_and (n / 2) x * 2 + min (n % 2) y) f g ∙ ap₂ (λ (x y : ℕ). x * 2 + y) (and_self (n / 2)) (min-zero (n % 2))
    ∙ add-zero (n / 2 * 2)

cleared-even : (n : ℕ) → n % 2 ≡ 0 → cleared n ≡ cleared (n / 2) * 2
cleared-even n e =
    let f : (n - 1) / 2 ≡ n / 2 - 1 = omega arith in
    and_step n (n - 1) ∙ ap₂ (λ (x y : ℕ). bit_and (n / 2) x * 2 + min y ((n - 1) % 2)) f e
    ∙ ap (λ (y : ℕ). bit_and (n / 2) (n / 2 - 1) * 2 + y) (zero-min ((n - 1) % 2)) ∙ add-zero (cleared (n / 2) * 2)

places-clear : (d at n : ℕ) → n % 2 ≡ 0 → places (suc d) at n ≡ places d (at + 1) (n / 2)
unfolding places
places-clear d at n e = rw e

places-set : (d at n : ℕ) → n % 2 ≡ 1 → places (suc d) at n ≡ at ∷ places d (at + 1) (n / 2)
unfolding places
places-set d at n e = rw e

step-turn : (d at n t : ℕ) → 0 < n → n % 2 ≡ t →
    (0 < n / 2 → places d (at + 1) (n / 2) ≡ (at + 1 + count_trailing_zeros d (n / 2)) ∷ places d (at + 1) (cleared (n / 2))) →
    places (suc d) at n ≡ (at + count_trailing_zeros (suc d) n) ∷ places (suc d) at (cleared n)
unfolding count_trailing_zeros
step-turn d at n zero h e ih =
    let a : at + 1 + count_trailing_zeros d (n / 2) ≡ at + suc (count_trailing_zeros d (n / 2)) = omega arith in
    rw (cleared-even n e, places-double d at (cleared (n / 2)), e)
    (places-clear d at n e ∙ ih (omega arith) ∙ ap (λ (x : ℕ). x ∷ places d (at + 1) (cleared (n / 2))) a)
step-turn d at n (suc zero) h e ih = rw (cleared-odd n e, places-double d at (n / 2), e)
    (places-set d at n e ∙ ap (λ (x : ℕ). x ∷ places d (at + 1) (n / 2)) (sym (add-zero at)))
step-turn d at n (suc (suc t)) h e ih = absurd (omega arith)

places-step : (d at n : ℕ) → 0 < n → n < 2 ^ d → places d at n ≡ (at + count_trailing_zeros d n) ∷ places d at (cleared n)
places-step zero at n h g = absurd (omega arith)
places-step (suc d) at n h g = step-turn d at n (n % 2) h refl (λ l. places-step d (at + 1) (n / 2) l (let q = rw (pow-suc 2 d) at g in omega arith))

-- as many as the machine counts
count_turn : (d at n t : ℕ) → n % 2 ≡ t → length (places d (at + 1) (n / 2)) ≡ ones (n / 2) → length (places (suc d) at n) ≡ n % 2 + ones (n / 2)
count_turn d at n zero e ih = rw (places-clear d at n e, e) (ih ∙ sym (zero-add (ones (n / 2))))
count_turn d at n (suc zero) e ih = rw (places-set d at n e, e) (ap suc ih ∙ sym (one-add (ones (n / 2))))
count_turn d at n (suc (suc t)) e ih = absurd (omega arith)

pub places_count : (d at n : ℕ) → n < 2 ^ d → length (places d at n) ≡ ones n
unfolding places ones ones_in
places_count zero at n h = let e : n ≡ 0 = omega arith in rw e
places_count (suc d) at n h = count_turn d at n (n % 2) refl (places_count d (at + 1) (n / 2) (let q = rw (pow-suc 2 d) at h in omega arith))
    ∙ sym (ones_step n)

-- ---- a turn of the loop that walks them

pub cleared-less : (x : ℕ) → 0 < x → cleared x < x
cleared-less x h = let l = and_le_r x (x - 1) in omega arith

pub marks-none : marks 0 ≡ []
marks-none = marks-places 0 ∙ places-none 64 0

pub marks-next : (x : ℕ) → 0 < x → x < 2 ^ 64 → marks x ≡ count_trailing_zeros 64 x ∷ marks (cleared x)
marks-next x h g = rw (marks-places x, marks-places (cleared x))
    (places-step 64 0 x h g ∙ ap (λ (t : ℕ). t ∷ places 64 0 (cleared x)) (zero-add (count_trailing_zeros 64 x)))

pub marks-count : (x : ℕ) → x < 2 ^ 64 → length (marks x) ≡ ones x
marks-count x h = ap length (marks-places x) ∙ places_count 64 0 x h
