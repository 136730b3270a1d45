-- Laws of a line's texts: what `io::decimal` spells is the numeral, how the text of intervals goes on, and how long texts are.
use mathlib.Core.Path.{◌≡◌, refl, ap}
use mathlib.Core.Bool.{Bool, true, false, cond}
use mathlib.Core.List.{List, [], ◌∷◌, ◌++◌}
use Prim.Native.Nat.{ℕ, zero, suc, ◌+◌, ◌*◌, ◌-◌, ◌/◌, ◌%◌, ◌^◌, ◌≤◌, ◌<◌}
use native.Mathlib.Nat.{pow-suc, pow-succ', one-le-pow, mod-lt, mod-eq_of_lt, div-lt_iff_lt-mul, le-div_iff_mul-le}
use native.Mathlib.Omega.{arith}
use lib.Dec.{ltb}
use lib.ListN.{length, get_or, take, length-append, length-take}
use borrow.Author.Tests.{lt-ltb, le-ltb}
use Rattle.io.specs.Digits.{last_digits, IsDigitCount}
use Rattle.list.specs.declared.answer.Tally.{Tally}
use Rattle.std.proofs.Common.{Result, Ok, Err}
use Rattle.refusal.specs.declared.Refusal.{Refusal}
use Rattle.refusal.specs.Refusal.{number_of, value_of}
use Rattle.lines.specs.Room.{answer_cells, line_room}
use Rattle.lines.specs.Line.{numeral_in, numeral, interval_text, intervals_text, head_text, tally_text, line_of}

-- a number that needs two digits or more, and its digits but the last
ten-le : (j n : ℕ) → IsDigitCount 10 1 n (suc (suc j)) → 10 ≤ n
ten-le j n w =
    let e : suc (suc j) - 1 ≡ suc j = omega arith in
    let low : 10 ^ suc j ≤ n = rw e at (w.2 (omega arith)) in
    omega (arith, pow-succ' 10 j, one-le-pow j 10 (omega arith))

fewest-rest : (j n : ℕ) → IsDigitCount 10 1 n (suc (suc j)) → IsDigitCount 10 1 (n / 10) (suc j)
fewest-rest j n w =
    let e : suc (suc j) - 1 ≡ suc j = omega arith in
    let e₁ : suc j - 1 ≡ j = omega arith in
    let low : 10 ^ j * 10 ≤ n = rw (pow-suc 10 j) at (rw e at (w.2 (omega arith))) in
    let high : n < 10 ^ suc j * 10 = rw (pow-suc 10 (suc j)) at w.1 in
    (omega arith, (div-lt_iff_lt-mul {k = 10} (omega arith)).1 high, λ more. rw e₁ ((le-div_iff_mul-le {k = 10} (omega arith)).1 low))

-- the fewest digits, one digit at a time from the last
digits-numeral : (f k n : ℕ) → n < 10 ^ suc f → IsDigitCount 10 1 n k → last_digits 10 k n ≡ numeral_in (suc f) n
unfolding numeral_in
digits-numeral f zero n h w = absurd (omega (arith, w.0))
digits-numeral f (suc zero) n h w =
    let small : n < 10 = w.1 in
    rw (mod-eq_of_lt small, lt-ltb n 10 small)
digits-numeral zero (suc (suc j)) n h w = absurd (omega (arith, ten-le j n w, let z : n < 10 = h in z))
digits-numeral (suc f) (suc (suc j)) n h w =
    let last = lt-ltb (n % 10) 10 (mod-lt n (omega arith)) in
    let fewer : n / 10 < 10 ^ suc f = (div-lt_iff_lt-mul {k = 10} (omega arith)).1 (rw (pow-suc 10 (suc f)) at h) in
    rw (le-ltb n 10 (ten-le j n w), last) (ap (λ (ds : List ℕ). ds ++ ((48 + n % 10) ∷ [])) (digits-numeral f (suc j) (n / 10) fewer (fewest-rest j n w)))

-- of a number of 64 bits
pub digits_are : (k n : ℕ) → n < 18446744073709551616 → IsDigitCount 10 1 n k → last_digits 10 k n ≡ numeral n
unfolding numeral
digits_are k n h w = digits-numeral 19 k n (omega arith) w

-- the first interval, and those behind it
pub intervals-next : {cells : List ℕ} (pair rest : List ℕ) → cells ≡ pair ++ rest → length pair ≡ 2 →
    intervals_text cells ≡ interval_text (get_or pair 0 0) (get_or pair 1 0) ++ intervals_text rest
unfolding intervals_text
intervals-next (l ∷ u ∷ []) rest e h = rw e
intervals-next [] rest e h = absurd (omega (arith, h))
intervals-next (l ∷ []) rest e h = absurd (omega (arith, h))
intervals-next (l ∷ u ∷ m ∷ r) rest e h = absurd (omega (arith, h))

pub intervals-end : (cells : List ℕ) → length cells < 2 → intervals_text cells ≡ []
unfolding intervals_text
intervals-end [] h = refl
intervals-end (l ∷ []) h = refl
intervals-end (l ∷ u ∷ r) h = absurd (omega (arith, h))

length-step : (k n : ℕ) (t : Bool) → length (numeral_in k (n / 10)) ≤ k → length (cond t ((48 + n) ∷ []) (numeral_in k (n / 10) ++ ((48 + n % 10) ∷ []))) ≤ suc k
length-step k n true h = omega arith
length-step k n false h = rw (length-append (numeral_in k (n / 10)) ((48 + n % 10) ∷ [])) (omega arith)

numeral_in-short : (k n : ℕ) → length (numeral_in k n) ≤ k
unfolding numeral_in
numeral_in-short zero n = omega arith
numeral_in-short (suc k) n = length-step k n (ltb n 10) (numeral_in-short k (n / 10))

numeral-short : (n : ℕ) → length (numeral n) ≤ 20
unfolding numeral
numeral-short n = numeral_in-short 20 n

intervals-short : (cells : List ℕ) → length (intervals_text cells) ≤ 21 * length cells
unfolding intervals_text
intervals-short [] = omega arith
intervals-short (l ∷ []) = omega arith
intervals-short (l ∷ u ∷ r) = simp length-append (omega (arith, intervals-short r, numeral-short l, numeral-short u))

-- the line by the answer's case
pub listed-line : (number : ℕ) (answer : Result Tally Refusal) (cells : List ℕ) (tally : Tally) → answer ≡ Ok tally →
    line_of number answer cells ≡ head_text number 0 0 ++ tally_text tally cells ++ (10 ∷ [])
listed-line number answer cells tally e = rw e

pub refused-line : (number : ℕ) (answer : Result Tally Refusal) (cells : List ℕ) (refusal : Refusal) (a b : ℕ) →
    answer ≡ Err refusal → a ≡ number_of refusal → b ≡ value_of refusal → line_of number answer cells ≡ head_text number a b ++ (10 ∷ [])
refused-line number answer cells refusal a b e f g = rw (e, f, g)

-- the line of an answer in the cells that are lent
pub line-short : (number : ℕ) (answer : Result Tally Refusal) (cells : List ℕ) → length cells ≤ answer_cells → length (line_of number answer cells) ≤ line_room
line-short number (Ok tally) cells h =
    simp length-append
    (omega (
      arith,
      numeral-short number,
      numeral-short 0,
      numeral-short tally.intervals,
      numeral-short tally.records,
      intervals-short (take (2 * tally.intervals) cells),
      length-take (2 * tally.intervals) cells,
    ))
line-short number (Err refusal) cells h =
    simp length-append (omega (arith, numeral-short number, numeral-short (number_of refusal), numeral-short (value_of refusal)))
