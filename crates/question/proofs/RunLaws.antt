-- Laws of runs of word bytes and of spaces: byte by byte, and their bounds.
use Prim.Native.Nat.{ℕ, suc, ◌+◌, ◌≤◌, ◌<◌}
use native.Mathlib.Omega.{arith}
use mathlib.Core.Path.{◌≡◌, refl, sym, ◌∙◌}
use mathlib.Core.List.{List, [], ◌∷◌}
use mathlib.Core.Bool.{Bool, true, false, not, cond}
use Rattle.std.specs.Prelude.{Option, Some, None, unwrap_or, nat_lt, position}
use Rattle.std.specs.List.{position_or_len}
use Rattle.std.proofs.lemmas.Grind.{common_steps}
use Rattle.std.proofs.lemmas.List.Recursion.{is_position_or_len}
use Rattle.std.proofs.lemmas.List.Sums.{prefix_len-le-length}
use lib.ListN.{length, get_or, drop}
use lib.Dec.{eqb}
use Rattle.laws.proofs.Lists.{drop-next, drop-none}
use Rattle.word.specs.Word.{is_word_byte}
use Rattle.question.specs.Token.{choose, run, spaces}

pub run_end : (s : List ℕ) (i : ℕ) → length s ≤ i → run (drop i s) ≡ 0
unfolding run
run_end s i h = rw (drop-none s i h)

pub run_more : (s : List ℕ) (i : ℕ) → i < length s → is_word_byte (get_or s i 0) ≡ true → run (drop i s) ≡ suc (run (drop (i + 1) s))
unfolding run
run_more s i h e = rw (drop-next s i h, e)

-- ---- where a run ends, as the library looks for it

turned : (t : Bool) (n : ℕ) → choose t (λ _. suc n) (λ _. 0) ≡ cond (not t) 0 (1 + n)
turned true n = omega arith
turned false n = refl

run-position : (l : List ℕ) → run l ≡ position_or_len (λ b. not (is_word_byte b)) l
unfolding run
run-position = is_position_or_len run (λ b. not (is_word_byte b)) refl (λ b bs. turned (is_word_byte b) (run bs))

spaces-position : (l : List ℕ) → spaces l ≡ position_or_len (λ b. not (eqb b 32)) l
unfolding spaces
spaces-position = is_position_or_len spaces (λ b. not (eqb b 32)) refl (λ b bs. turned (eqb b 32) (spaces bs))

-- what the library finds in the bytes from place `at` on
module _ (s : List ℕ) (at : ℕ) {o : Option ℕ} {n : ℕ} where
  position-end : (test : ℕ → Bool) (rest : List ℕ) → rest ≡ drop at s → o ≡ position test rest → n ≡ unwrap_or o (length rest) →
      n ≡ position_or_len test (drop at s)
  position-end test rest r e f =
      rw (← r) (f ∙ rw e (go (position_or_len test rest) (length rest) (prefix_len-le-length (λ b. not (test b)) rest)))
    where
      go : (k m : ℕ) → k ≤ m → unwrap_or (cond (nat_lt k m) (Some k) None) m ≡ k
      go k m h = grind (arith, common_steps)

  pub run-found : {rest : List ℕ} → o ≡ position (λ b. not (is_word_byte b)) rest → n ≡ unwrap_or o (length rest) → rest ≡ drop at s → n ≡ run (drop at s)
  run-found {rest} e f r = position-end (λ b. not (is_word_byte b)) rest r e f ∙ sym (run-position (drop at s))

  pub spaces-found : {rest : List ℕ} → o ≡ position (λ b. not (eqb b 32)) rest → n ≡ unwrap_or o (length rest) → rest ≡ drop at s → n ≡ spaces (drop at s)
  spaces-found {rest} e f r = position-end (λ b. not (eqb b 32)) rest r e f ∙ sym (spaces-position (drop at s))

pub run-le : (l : List ℕ) → run l ≤ length l
unfolding run
run-le [] = omega arith
run-le (b ∷ bs) = go (is_word_byte b) (run-le bs)
  where
    go : (t : Bool) → run bs ≤ length bs → choose t (λ _. suc (run bs)) (λ _. 0) ≤ suc (length bs)
    go true h = omega arith
    go false h = omega arith

pub spaces-le : (l : List ℕ) → spaces l ≤ length l
unfolding spaces
spaces-le [] = omega arith
spaces-le (b ∷ bs) = go (eqb b 32) (spaces-le bs)
  where
    go : (t : Bool) → spaces bs ≤ length bs → choose t (λ _. suc (spaces bs)) (λ _. 0) ≤ suc (length bs)
    go true h = omega arith
    go false h = omega arith

-- no space stands behind the spaces
pub after-spaces : (l : List ℕ) → spaces l < length l → eqb (get_or l (spaces l) 0) 32 ≡ false
unfolding spaces
after-spaces [] h = let f : ⊥ = omega arith in absurd f
after-spaces (b ∷ bs) h = go (eqb b 32) refl (after-spaces bs) h
  where
    go : (t : Bool) → eqb b 32 ≡ t → (spaces bs < length bs → eqb (get_or bs (spaces bs) 0) 32 ≡ false) → spaces (b ∷ bs) < length (b ∷ bs) →
        eqb (get_or (b ∷ bs) (spaces (b ∷ bs)) 0) 32 ≡ false
    go true e i h =
        let z : spaces (b ∷ bs) ≡ suc (spaces bs) = rw e in
        rw z (i (omega arith))
    go false e i h =
        let z : spaces (b ∷ bs) ≡ 0 = rw e in
        rw z e
