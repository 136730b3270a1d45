-- The flips within one word: w ^ (c | w << 1) marks them, where c is the bit before; written out they are the cells of the word's 64 numbers.
use mathlib.Core.Path.{◌≡◌, refl, sym, ap, ap₂, ◌∙◌}
use Prim.Native.Nat.{ℕ, zero, suc, ◌+◌, ◌-◌, ◌*◌, ◌/◌, ◌%◌, ◌^◌, ◌≤◌, ◌<◌}
use native.Mathlib.Nat.{add-zero, pow-suc, mod-lt}
use native.Mathlib.Numerals.{one-add}
use native.Mathlib.Omega.{arith}
use mathlib.Core.List.{List, [], ◌∷◌, ◌++◌}
use mathlib.Core.Bool.{Bool, true, false, ◌||◌, or-false}
use lib.Bits.{bit_or, bit_xor, or_lt, xor_lt}
use lib.Count.{count_trailing_zeros, ones, ones-le}
use lib.ListN.{length, get_or, set, length-append}
use lib.Pow.{pow_pos, shr_lt}
use lib.Seq.{sets}
use Rattle.laws.proofs.Lists.{sets-one, sets-append}
use Rattle.list.specs.Stretches.{turned, cons_if}
use Rattle.window.specs.Bit.{on, set?}
use Rattle.window.specs.Window.{member}
use Rattle.window.specs.Flips.{odd, flips, window_cells, last_in, marks, cells_at}
use Rattle.window.proofs.BitLaws.{differs, on_or, on_xor, on-suc, on-zero, on-low, on-up, on_below, on-high}
use Rattle.window.proofs.MarkLaws.{places, marks-places, marks-count, cleared, marks-next, marks-none}
use Rattle.window.proofs.FlipLaws.{flips-add, flips-parity, before-next}
use Rattle.window.proofs.MemberLaws.{member-word}

-- ---- a truth value as a digit

abbrev digit : Bool → ℕ
digit true = 1
digit false = 0

digit-of : (t : ℕ) → t < 2 → t ≡ digit (set? t)
digit-of zero h = refl
digit-of (suc zero) h = refl
digit-of (suc (suc t)) h = absurd (omega arith)

digit-odd : (k : ℕ) → k % 2 ≡ digit (odd k)
digit-odd k = digit-of (k % 2) (omega arith)

digit-first : (b : Bool) → on (digit b) 0 ≡ b
unfolding on
digit-first true = refl
digit-first false = refl

digit-le : (b : Bool) → digit b ≤ 1
digit-le true = omega arith
digit-le false = omega arith

digit-small : (b : Bool) (i : ℕ) → digit b < 2 ^ suc i
digit-small b i = rw (pow-suc 2 i) (let q = pow_pos i in let r = digit-le b in omega arith)

-- ---- the word of a word's flips

abbrev pub flipped : ℕ → ℕ → ℕ
flipped w c = bit_xor w (bit_or c (w * 2 ^ 1 % 2 ^ 64))

flipped-fits : (w c : ℕ) → w < 2 ^ 64 → c < 2 → flipped w c < 2 ^ 64
flipped-fits w c h l = xor_lt 64 w (bit_or c (w * 2 ^ 1 % 2 ^ 64)) h (or_lt 64 c (w * 2 ^ 1 % 2 ^ 64) (omega arith) (mod-lt (w * 2 ^ 1) (pow_pos 64)))

-- so it has at most 64
pub flipped-few : (w k c : ℕ) → w < 2 ^ 64 → c ≡ k % 2 → ones (flipped w c) ≤ 64
flipped-few w k c h e = ones-le 64 (flipped w c) (flipped-fits w c h (omega arith))

-- the places of a word's flips, where k cells are written
abbrev pub flip_marks : ℕ → ℕ → List ℕ
flip_marks w k = marks (flipped w (k % 2))

pub flip-count : (w k : ℕ) → w < 2 ^ 64 → length (flip_marks w k) ≡ ones (flipped w (k % 2))
flip-count w k h = marks-count (flipped w (k % 2)) (flipped-fits w (k % 2) h (omega arith))

on-flipped : (p : ℕ → Bool) (b : Bool) (x w : ℕ) → ((i : ℕ) → i < 64 → on w i ≡ p (x + i)) →
    (i : ℕ) → i < 64 → on (flipped w (digit b)) i ≡ differs (p (x + i)) (last_in p b x i)
on-flipped p b x w h zero l =
    on_xor w (bit_or (digit b) (w * 2 ^ 1 % 2 ^ 64)) 0
    ∙ ap₂ differs (h 0 l)
    (on_or (digit b) (w * 2 ^ 1 % 2 ^ 64) 0 ∙ ap₂ ◌||◌ (digit-first b) (on-low (w * 2 ^ 1) 64 0 l ∙ on_below w 1 0 (omega arith)) ∙ or-false b)
on-flipped p b x w h (suc i) l =
    on_xor w (bit_or (digit b) (w * 2 ^ 1 % 2 ^ 64)) (suc i)
    ∙ ap₂ differs (h (suc i) l)
    (on_or (digit b) (w * 2 ^ 1 % 2 ^ 64) (suc i)
    ∙ ap₂ ◌||◌ (on-high (digit b) (suc i) (digit-small b i))
    (on-low (w * 2 ^ 1) 64 (suc i) l ∙ ap (on (w * 2 ^ 1)) (sym (one-add i)) ∙ on-up w 1 i ∙ h i (omega arith)))

-- ---- its marks are the cells

-- one digit: whether it is set, by what is before and what is now
turn : (x k at : ℕ) (b c : Bool) (ms : List ℕ) (r : List ℕ) → k % 2 ≡ digit b →
    ((j : ℕ) → j % 2 ≡ digit c → cells_at x j ms ≡ r) → cells_at x k (cons_if (differs c b) at ms) ≡ turned b c (x + at) r
unfolding cells_at
turn x k at false false ms r e f = f k e
turn x k at false true ms r e f = let z : x + at - 0 ≡ x + at = omega arith in rw (e, f (k + 1) (omega arith), z)
turn x k at true false ms r e f = rw (e, f (k + 1) (omega arith))
turn x k at true true ms r e f = f k e

cells-flips : (p : ℕ → Bool) (b : Bool) (x k d at n : ℕ) → k % 2 ≡ digit b →
    ((i : ℕ) → i < d → on n i ≡ differs (p (x + at + i)) (last_in p b (x + at) i)) →
    cells_at x k (places d at n) ≡ flips p b (x + at) d
unfolding places flips cells_at
cells-flips p b x k zero at n e h = refl
cells-flips p b x k (suc d) at n e h =
    let z : x + at + 0 ≡ x + at = omega arith in
    let s : x + at + 1 ≡ x + (at + 1) = omega arith in
    let first : set? (n % 2) ≡ differs (p (x + at)) b = sym (on-zero n) ∙ h 0 (omega arith) ∙ ap (λ (m : ℕ). differs (p m) b) z in
    rw (first, s) (turn x k at b (p (x + at)) (places d (at + 1) (n / 2)) (flips p (p (x + at)) (x + (at + 1)) d) e
    (λ j g. cells-flips p (p (x + at)) x j d (at + 1) (n / 2) g
    (λ i l. let u : x + at + suc i ≡ x + (at + 1) + i = omega arith in
    sym (on-suc n i) ∙ h (suc i) (omega arith) ∙ rw (u, ← s, before-next p (x + at) i))))

cells-length : (x k : ℕ) (ms : List ℕ) → length (cells_at x k ms) ≡ length ms
unfolding cells_at
cells-length x k [] = refl
cells-length x k (m ∷ ms) = ap suc (cells-length x (k + 1) ms)

-- one word w of p from x on, where k cells are written
module _ (p : ℕ → Bool) (x k w : ℕ) (h : (i : ℕ) → i < 64 → on w i ≡ p (x + i)) where
  word_cells : cells_at x k (flip_marks w k) ≡ flips p (odd k) x 64
  word_cells =
      let z : x + 0 ≡ x = omega arith in
      let g : (i : ℕ) → i < 64 → on (flipped w (k % 2)) i ≡ differs (p (x + 0 + i)) (last_in p (odd k) (x + 0) i) =
      rw z (λ i l. ap (λ (c : ℕ). on (flipped w c) i) (digit-odd k) ∙ on-flipped p (odd k) x w h i l) in
      ap (cells_at x k) (marks-places (flipped w (k % 2)))
      ∙ cells-flips p (odd k) x k 64 0 (flipped w (k % 2)) (digit-odd k) g
      ∙ ap (λ (n : ℕ). flips p (odd k) n 64) z

  word-last : last_in p (odd k) x 64 ≡ odd (k + length (flip_marks w k))
  word-last = sym (rw (← cells-length x k (flip_marks w k), word_cells) (flips-parity p (odd k) x 64 k refl))

  -- the cells of the numbers from x on, one word on
  word-turn : (m : ℕ) → flips p (odd k) x (64 + m) ≡ cells_at x k (flip_marks w k) ++ flips p (odd (k + length (flip_marks w k))) (x + 64) m
  word-turn m = flips-add p (odd k) x 64 m ∙ ap₂ (λ (xs : List ℕ) (b : Bool). xs ++ flips p b (x + 64) m) (sym word_cells) word-last

-- the top bit of a word is the carry into the next
top_bit : (w : ℕ) → w < 2 ^ 64 → w / 2 ^ 63 ≡ digit (on w 63)
unfolding on
top_bit w h =
    let l : w / 2 ^ 63 < 2 = shr_lt 1 63 h in
    let e : w / 2 ^ 63 % 2 ≡ w / 2 ^ 63 = omega arith in
    digit-of (w / 2 ^ 63) l ∙ sym (ap (λ (x : ℕ). digit (set? x)) e)

-- ---- a turn of the loops over a window's words

-- the cells of the words from i on of a window whose first bit is record x, where k cells are written
abbrev pub cells_left : List ℕ → ℕ → ℕ → ℕ → List ℕ
cells_left ws x k i = flips (member ws x) (odd k) (x + 64 * i) (64 * (length ws - i))

pub left-all : (ws : List ℕ) (x k : ℕ) → cells_left ws x k 0 ≡ window_cells ws x k
left-all ws x k = let e : length ws - 0 ≡ length ws = omega arith in let f : x + 64 * 0 ≡ x = omega arith in rw (e, f)

pub left-none : (ws : List ℕ) (x k i : ℕ) → length ws ≤ i → cells_left ws x k i ≡ []
unfolding flips
left-none ws x k i h = let e : length ws - i ≡ 0 = omega arith in rw e

module _ (ws : List ℕ) (x k i : ℕ) (h : i < length ws) where
  left-turn : cells_left ws x k i ≡ cells_at (x + 64 * i) k (flip_marks (get_or ws i 0) k) ++ cells_left ws x (k + length (flip_marks (get_or ws i 0) k)) (i + 1)
  left-turn =
      let e : 64 * (length ws - i) ≡ 64 + 64 * (length ws - (i + 1)) = omega arith in
      let z : x + 64 * i + 64 ≡ x + 64 * (i + 1) = omega arith in
      rw e (rw z at (word-turn (member ws x) (x + 64 * i) k (get_or ws i 0) (λ j g. member-word ws x (x + 64 * i) i j refl g) (64 * (length ws - (i + 1)))))

  pub left-count : k + length (cells_left ws x k i) ≡
      k + length (flip_marks (get_or ws i 0) k) + length (cells_left ws x (k + length (flip_marks (get_or ws i 0) k)) (i + 1))
  left-count = rw (left-turn, length-append) (let q = cells-length (x + 64 * i) k (flip_marks (get_or ws i 0) k) in omega arith)

  pub left-write : (out : List ℕ) → sets out k (cells_left ws x k i) ≡
      sets (sets out k (cells_at (x + 64 * i) k (flip_marks (get_or ws i 0) k))) (k + length (flip_marks (get_or ws i 0) k))
      (cells_left ws x (k + length (flip_marks (get_or ws i 0) k)) (i + 1))
  left-write out =
      rw left-turn (sets-append out k (cells_at (x + 64 * i) k (flip_marks (get_or ws i 0) k)) (cells_left ws x (k + length (flip_marks (get_or ws i 0) k)) (i + 1))
      ∙ rw (cells-length (x + 64 * i) k (flip_marks (get_or ws i 0) k)))

pub left-carry : (ws : List ℕ) (k i : ℕ) → get_or ws i 0 < 2 ^ 64 → get_or ws i 0 / 2 ^ 63 ≡ (k + length (flip_marks (get_or ws i 0) k)) % 2
left-carry ws k i f =
    let word : (j : ℕ) → j < 64 → on (get_or ws i 0) j ≡ member ws 0 (64 * i + j) = λ j g. member-word ws 0 (64 * i) i j (omega arith) g in
    top_bit (get_or ws i 0) f ∙ ap digit (word 63 (omega arith) ∙ word-last (member ws 0) (64 * i) k (get_or ws i 0) word)
    ∙ sym (digit-odd (k + length (flip_marks (get_or ws i 0) k)))

-- ---- a turn of the loop that writes one word's cells

module _ (x : ℕ) (some : 0 < x) (fits : x < 2 ^ 64) where
  pub mark-count : (k : ℕ) → k + 1 + length (marks (cleared x)) ≡ k + length (marks x)
  mark-count k = rw (marks-next x some fits) (omega arith)

  pub mark-write : (out : List ℕ) (base k : ℕ) →
      sets out k (cells_at base k (marks x)) ≡ sets (set out k (base + count_trailing_zeros 64 x - k % 2)) (k + 1) (cells_at base (k + 1) (marks (cleared x)))
  unfolding cells_at
  mark-write out base k = rw (marks-next x some fits) (sets-one out k (base + count_trailing_zeros 64 x - k % 2) (cells_at base (k + 1) (marks (cleared x))))

pub mark-write-end : (out : List ℕ) (base k : ℕ) → sets out k (cells_at base k (marks 0)) ≡ out
unfolding cells_at
mark-write-end out base k = rw marks-none

pub mark-count-end : (k : ℕ) → k + length (marks 0) ≡ k
mark-count-end k = rw marks-none (add-zero k)
