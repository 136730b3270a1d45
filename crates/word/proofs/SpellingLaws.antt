-- The operators: by length and letters, in small letters and in every spelling, and what bars them from being words.
use Prim.Native.Nat.{ℕ, zero, suc, ◌+◌, ◌*◌, ◌/◌, ◌%◌, ◌≤◌, ◌<◌}
use native.Mathlib.Omega.{arith}
use mathlib.Core.Path.{◌≡◌, refl, sym, ap, ◌∙◌}
use mathlib.Core.Logic.{◌⊎◌, inl, inr, ⊎_elim}
use mathlib.Core.List.{List, [], ◌∷◌, map}
use mathlib.Core.Bool.{Bool, true, false, not, cond, ◌&&◌, and-true}
use lib.Bits.{bit_or, or_add_and, or_zero_r, and_high}
use lib.Dec.{eqb, leb}
use lib.ListN.{length, get_or, length-map}
use borrow.Author.Tests.{eqb-true, eq-eqb, leb-true, le-leb, not-true}
use Rattle.laws.proofs.Tests.{true-false, and_both, both-and, by-test, same_test, leb-cases}
use Rattle.limits.specs.Limits.{word_max}
use Rattle.std.specs.Prelude.{Option, Some, None, is_some}
use Rattle.word.specs.declared.Op.{Op}
use Rattle.word.specs.declared.Op.TheVariants.{And, Or, Not}
use Rattle.word.specs.Word.{between, all_word_bytes, same, small_letter, small_operator_of, operator_of, is_small_operator, is_operator, is_barred, is_word}
use Rattle.word.proofs.WordLaws.{same-equal, differ-length}

-- ---- in small letters, by length and bytes

and-three : (a b c : Bool) → a && (b && (c && true)) ≡ a && b && c
and-three true true c = and-true c
and-three true false c = refl
and-three false b c = refl

same-two : (w : List ℕ) (a b : ℕ) → length w ≡ 2 → same w (a ∷ b ∷ []) ≡ eqb (get_or w 0 0) a && eqb (get_or w 1 0) b
unfolding same
same-two [] a b h = absurd (omega arith)
same-two (x ∷ []) a b h = absurd (omega arith)
same-two (x ∷ y ∷ []) a b h = ap (λ (t : Bool). eqb x a && t) (and-true (eqb y b))
same-two (x ∷ y ∷ z ∷ r) a b h = absurd (omega arith)

same-three : (w : List ℕ) (a b c : ℕ) → length w ≡ 3 → same w (a ∷ b ∷ c ∷ []) ≡ eqb (get_or w 0 0) a && eqb (get_or w 1 0) b && eqb (get_or w 2 0) c
unfolding same
same-three [] a b c h = absurd (omega arith)
same-three (x ∷ []) a b c h = absurd (omega arith)
same-three (x ∷ y ∷ []) a b c h = absurd (omega arith)
same-three (x ∷ y ∷ z ∷ []) a b c h = and-three (eqb x a) (eqb y b) (eqb z c)
same-three (x ∷ y ∷ z ∷ u ∷ r) a b c h = absurd (omega arith)

small-two : (w : List ℕ) → length w ≡ 2 → small_operator_of w ≡ cond (eqb (get_or w 0 0) 111 && eqb (get_or w 1 0) 114) (Some Or) None
unfolding small_operator_of
small-two w h =
    rw (differ-length w (97 ∷ 110 ∷ 100 ∷ []) (λ e. omega arith), differ-length w (110 ∷ 111 ∷ 116 ∷ []) (λ e. omega arith), same-two w 111 114 h)

small-three : (w : List ℕ) → length w ≡ 3 →
    small_operator_of w
    ≡ cond (eqb (get_or w 0 0) 97 && eqb (get_or w 1 0) 110 && eqb (get_or w 2 0) 100) (Some And)
    (cond (eqb (get_or w 0 0) 110 && eqb (get_or w 1 0) 111 && eqb (get_or w 2 0) 116) (Some Not) None)
unfolding small_operator_of
small-three w h = rw (differ-length w (111 ∷ 114 ∷ []) (λ e. omega arith), same-three w 97 110 100 h, same-three w 110 111 116 h)

small-other : (w : List ℕ) → (length w ≡ 2 → ⊥) → (length w ≡ 3 → ⊥) → small_operator_of w ≡ None
unfolding small_operator_of
small-other w n m = rw (differ-length w (97 ∷ 110 ∷ 100 ∷ []) m, differ-length w (111 ∷ 114 ∷ []) n, differ-length w (110 ∷ 111 ∷ 116 ∷ []) m)

-- ---- where every spelling counts, or the small letters' alone

-- a byte as it is compared, and a run of them
abbrev letter_by : Bool → ℕ → ℕ
letter_by every b = cond every (small_letter b) b

abbrev spelt : Bool → List ℕ → List ℕ
spelt every w = cond every (map small_letter w) w

abbrev pub operator_by : Bool → List ℕ → Option Op
operator_by every w = cond every (operator_of w) (small_operator_of w)

-- ---- a letter with its bit 5 set: of the small letters it is set, of the capital ones it is not

set-bit : (b : ℕ) → bit_or b 32 + b / 32 % 2 * 32 ≡ b + 32
set-bit b = omega (arith, or_add_and b 32, and_high b 1 5)

no-capital : (b : ℕ) → between 65 90 b ≡ false → (b < 65) ⊎ (90 < b)
no-capital b e =
    leb-cases 65 b
    (λ l. leb-cases b 90 (λ u. true-false (sym (both-and (leb 65 b) (leb b 90) (le-leb 65 b l) (le-leb b 90 u)) ∙ e)) (λ u. inr u)) (λ l. inl l)

letter-small : (b l : ℕ) → 97 ≤ l → l ≤ 122 → eqb (bit_or b 32) l ≡ eqb (small_letter b) l
unfolding small_letter
letter-small b l h k = by-test (between 65 90 b) capital other
  where
    capital : between 65 90 b ≡ true → eqb (bit_or b 32) l ≡ eqb (small_letter b) l
    capital e =
        let p = and_both (leb 65 b) (leb b 90) e in
        let sum : bit_or b 32 ≡ b + 32 = omega (arith, set-bit b, leb-true 65 b p.0, leb-true b 90 p.1) in
        rw (e, sum)

    other : between 65 90 b ≡ false → eqb (bit_or b 32) l ≡ eqb (small_letter b) l
    other e =
        rw e
        (
        same_test (eqb (bit_or b 32) l) (eqb b l)
        (λ t. let n = eqb-true (bit_or b 32) l t in
        eq-eqb b l (⊎_elim (λ o. omega (arith, set-bit b)) (λ o. omega (arith, set-bit b)) (no-capital b e)))
        (λ t. let n = eqb-true b l t in eq-eqb (bit_or b 32) l (omega (arith, set-bit b)))
        )

-- so it is the letter as it is compared
letter-by : (every : Bool) (b l : ℕ) → between 97 122 l ≡ true → eqb (bit_or b (cond every 32 0)) l ≡ eqb (letter_by every b) l
letter-by true b l e = let p = and_both (leb 97 l) (leb l 122) e in letter-small b l (leb-true 97 l p.0) (leb-true l 122 p.1)
letter-by false b l e = ap (λ (x : ℕ). eqb x l) (or_zero_r b)

-- ---- the bytes as they are compared

small_at : (w : List ℕ) (i : ℕ) → get_or (map small_letter w) i 0 ≡ small_letter (get_or w i 0)
unfolding small_letter
small_at [] i = refl
small_at (b ∷ bs) zero = refl
small_at (b ∷ bs) (suc i) = small_at bs i

spelt-at : (every : Bool) (w : List ℕ) (i : ℕ) → get_or (spelt every w) i 0 ≡ letter_by every (get_or w i 0)
spelt-at true w i = small_at w i
spelt-at false w i = refl

spelt-length : (every : Bool) (w : List ℕ) → length (spelt every w) ≡ length w
spelt-length true w = length-map w small_letter
spelt-length false w = refl

by-spelt : (every : Bool) (w : List ℕ) → operator_by every w ≡ small_operator_of (spelt every w)
unfolding operator_of
by-spelt true w = refl
by-spelt false w = refl

-- what is asked of two letters and of three, each with a bit set
abbrev letter_at : List ℕ → ℕ → ℕ → ℕ
letter_at w bit i = bit_or (get_or w i 0) bit

abbrev pub are_two : List ℕ → ℕ → ℕ → ℕ → Bool
are_two w bit a b = eqb (letter_at w bit 0) a && eqb (letter_at w bit 1) b

abbrev pub are_three : List ℕ → ℕ → ℕ → ℕ → ℕ → Bool
are_three w bit a b c = eqb (letter_at w bit 0) a && eqb (letter_at w bit 1) b && eqb (letter_at w bit 2) c

module _ (every : Bool) (w : List ℕ) where
  module _ (bit : ℕ) (is : bit ≡ cond every 32 0) where
    letter-is : (i l : ℕ) → between 97 122 l ≡ true → eqb (get_or (spelt every w) i 0) l ≡ eqb (letter_at w bit i) l
    letter-is i l e = rw (spelt-at every w i, is) (sym (letter-by every (get_or w i 0) l e))

    pub operator-two : length w ≡ 2 → (t : Bool) → are_two w bit 111 114 ≡ t → operator_by every w ≡ cond t (Some Or) None
    operator-two h t e =
        by-spelt every w ∙ small-two (spelt every w) (spelt-length every w ∙ h)
        ∙ rw (letter-is 0 111 refl, letter-is 1 114 refl, e)

    pub operator-three : length w ≡ 3 → (s t : Bool) → are_three w bit 97 110 100 ≡ s → are_three w bit 110 111 116 ≡ t →
        operator_by every w ≡ cond s (Some And) (cond t (Some Not) None)
    operator-three h s t d e =
        by-spelt every w ∙ small-three (spelt every w) (spelt-length every w ∙ h)
        ∙ rw (letter-is 0 97 refl, letter-is 1 110 refl, letter-is 2 100 refl, letter-is 0 110 refl, letter-is 1 111 refl, letter-is 2 116 refl, d, e)

  pub operator-other : (length w ≡ 2 → ⊥) → (length w ≡ 3 → ⊥) → operator_by every w ≡ None
  operator-other n m =
      let l = spelt-length every w in
      by-spelt every w ∙ small-other (spelt every w) (λ e. n (sym l ∙ e)) (λ e. m (sym l ∙ e))

  pub barred-some : is_barred every w ≡ is_some (operator_by every w)
  unfolding is_operator is_small_operator
  barred-some = go every
    where
      go : (t : Bool) → is_barred t w ≡ is_some (operator_by t w)
      go true = refl
      go false = refl

pub neither-none : (w : List ℕ) → operator_of w ≡ None → is_operator w ≡ false
unfolding is_operator
neither-none w e = ap is_some e

-- ---- what bars every spelling bars the small letters'

-- an operator in small letters is one in any spelling
small_any : (w : List ℕ) → is_small_operator w ≡ true → is_operator w ≡ true
unfolding is_small_operator is_operator operator_of small_operator_of small_letter same
small_any w e = go (same w (97 ∷ 110 ∷ 100 ∷ [])) (same w (111 ∷ 114 ∷ [])) (same w (110 ∷ 111 ∷ 116 ∷ [])) refl refl refl e
  where
    go : (a o n : Bool) → same w (97 ∷ 110 ∷ 100 ∷ []) ≡ a → same w (111 ∷ 114 ∷ []) ≡ o → same w (110 ∷ 111 ∷ 116 ∷ []) ≡ n →
        is_some (cond a (Some And) (cond o (Some Or) (cond n (Some Not) None))) ≡ true → is_operator w ≡ true
    go true o n p q r e = rw (same-equal w (97 ∷ 110 ∷ 100 ∷ []) p)
    go false true n p q r e = rw (same-equal w (111 ∷ 114 ∷ []) q)
    go false false true p q r e = rw (same-equal w (110 ∷ 111 ∷ 116 ∷ []) r)
    go false false false p q r e = true-false (sym e)

less-barred : (every : Bool) (w : List ℕ) → is_barred every w ≡ false → is_small_operator w ≡ false
less-barred true w e = by-test (is_small_operator w) (λ h. true-false (sym (small_any w h) ∙ e)) (λ h. h)
less-barred false w e = e

-- so a word, whatever is barred, is one where the small letters' alone are
pub word_small : (every : Bool) (w : List ℕ) → is_word every w ≡ true → is_word false w ≡ true
unfolding is_word
word_small every w e =
    let p = and_both (between 1 word_max (length w) && all_word_bytes w) (not (is_barred every w)) e in
    rw (p.0, less-barred every w (not-true (is_barred every w) p.1))
