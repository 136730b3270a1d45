-- Laws of the faults of single bytes and words: how a search passes a whole run, and the refusals in their order.
use Prim.Native.Nat.{ℕ, zero, suc, ◌+◌, ◌-◌, ◌≤◌, ◌<◌}
use native.Mathlib.Omega.{arith}
use mathlib.Core.Path.{◌≡◌, refl, sym, ap, ◌∙◌}
use mathlib.Core.List.{List, [], ◌∷◌}
use mathlib.Core.Bool.{Bool, true, false}
use lib.ListN.{length, get_or, drop}
use lib.Seq.{drop-drop}
use borrow.Author.Tests.{lt-ltb, le-ltb}
use Rattle.word.specs.Word.{is_word_byte}
use Rattle.refusal.specs.First.{first_from, first}
use Rattle.std.specs.Prelude.{Some, None, Err, position}
use Rattle.std.specs.List.{position_from}
use Rattle.std.proofs.lemmas.Iterator.Adapters.{position_from-zero}
use Rattle.refusal.specs.declared.Refusal.TheVariants.{QuestionLength, QuestionByte, QuestionWord}
use Rattle.refusal.proofs.FirstLaws.{first-hit, first-miss, first-end}
use Rattle.question.specs.Token.{choose, run}
use Rattle.question.specs.Grammar.{Rule, whole}
use Rattle.question.specs.Reading.{foreign_at, long_at, outcome, parsed, answer}

-- ---- places at which the test fails are passed at once

skip_by : (t : ℕ → Bool) (d i n : ℕ) → i + d ≤ n → ((j : ℕ) → i ≤ j → j < i + d → t j ≡ false) → first_from t i (n - i) ≡ first_from t (i + d) (n - (i + d))
skip_by t zero i n h f = let e : i + 0 ≡ i = omega arith in rw e
skip_by t (suc d) i n h f =
    let e : i + suc d ≡ i + 1 + d = omega arith in
    first-miss t i n (omega arith) (f i (omega arith) (omega arith)) ∙ rw e (skip_by t d (i + 1) n (omega arith) (λ j l u. f j (omega arith) (omega arith)))

pub first-skip : (t : ℕ → Bool) (i m n : ℕ) → i ≤ m → m ≤ n → ((j : ℕ) → i ≤ j → j < m → t j ≡ false) → first_from t i (n - i) ≡ first_from t m (n - m)
first-skip t i m n h k f =
    let e : i + (m - i) ≡ m = omega arith in
    rw e at (skip_by t (m - i) i n (omega arith) (λ j l u. f j l (omega arith)))

-- ---- the first place as the library looks for it

from-first : (t u : ℕ → Bool) (i : ℕ) (xs : List ℕ) → ((j : ℕ) → j < length xs → u (i + j) ≡ t (get_or xs j 0)) → position_from t i xs ≡ first_from u i (length xs)
unfolding first_from
from-first t u i [] h = refl
from-first t u i (x ∷ xs) h =
    let here : u i ≡ t x = ap u (let e : i ≡ i + 0 = omega arith in e) ∙ h 0 (omega arith) in
    rw (here, from-first t u (i + 1) xs (λ j l. ap u (let e : i + 1 + j ≡ i + suc j = omega arith in e) ∙ h (suc j) (omega arith)))

pub position-first : (t : ℕ → Bool) (xs : List ℕ) → position t xs ≡ first (λ i. t (get_or xs i 0)) (length xs)
unfolding first
position-first t xs = position_from-zero t xs ∙ from-first t (λ i. t (get_or xs i 0)) 0 xs (λ j l. let e : 0 + j ≡ j = omega arith in rw e)

-- ---- a run from a place inside it

run-tail : (l : List ℕ) (k : ℕ) → k ≤ run l → run (drop k l) ≡ run l - k
unfolding run
run-tail [] zero h = omega arith
run-tail [] (suc k) h = absurd (omega arith)
run-tail (b ∷ bs) zero h = omega arith
run-tail (b ∷ bs) (suc k) h = go (is_word_byte b) refl (run-tail bs k) h
  where
    go : (t : Bool) → is_word_byte b ≡ t → (k ≤ run bs → run (drop k bs) ≡ run bs - k) → suc k ≤ choose t (λ _. suc (run bs)) (λ _. 0) →
        run (drop k bs) ≡ choose t (λ _. suc (run bs)) (λ _. 0) - suc k
    go true e ih h = ih (omega arith) ∙ (omega arith)
    go false e ih h = absurd (omega arith)

run_inside : (s : List ℕ) (i j : ℕ) → i ≤ j → j ≤ i + run (drop i s) → run (drop j s) ≡ i + run (drop i s) - j
run_inside s i j h k =
    let e : i + (j - i) ≡ j = omega arith in
    let w : run (drop (j - i) (drop i s)) ≡ run (drop i s) - (j - i) = run-tail (drop i s) (j - i) (omega arith) in
    let v : run (drop j s) ≡ run (drop (j - i) (drop i s)) = ap (λ (n : ℕ). run (drop n s)) (sym e) ∙ ap run (sym (drop-drop (j - i) i s)) in
    v ∙ w ∙ (omega arith)

module _ (s : List ℕ) (i end : ℕ) (is : end ≡ i + run (drop i s)) where
  pub long-here : 32 < end - i → i < length s → first_from (long_at s) i (length s - i) ≡ Some i
  long-here h k = first-hit (long_at s) i (length s) k (lt-ltb 32 (run (drop i s)) (omega arith))

  short-run : end - i ≤ 32 → (j : ℕ) → i ≤ j → j ≤ end → long_at s j ≡ false
  short-run h j l u = le-ltb 32 (run (drop j s)) (omega (arith, run_inside s i j l (omega arith)))

  pub long-past : end - i ≤ 32 → end < length s → first_from (long_at s) i (length s - i) ≡ first_from (long_at s) (end + 1) (length s - (end + 1))
  long-past h k = first-skip (long_at s) i (end + 1) (length s) (omega arith) (omega arith) (λ j l u. short-run h j l (omega arith))

  pub long-none : end - i ≤ 32 → end ≡ length s → first_from (long_at s) i (length s - i) ≡ None
  long-none h k = first-skip (long_at s) i (length s) (length s) (omega arith) (omega arith) (λ j l u. short-run h j l (omega arith))
      ∙ first-end (long_at s) (length s) (length s) (omega arith)

-- ---- the refusals in their order, whatever the rule

module _ (rule : Rule) (s : List ℕ) where
  pub reading-length : 256 < length s → answer (parsed rule s) ≡ Err (QuestionLength (length s))
  unfolding parsed
  reading-length h = rw (lt-ltb 256 (length s) h)

  module _ (short : length s ≤ 256) where
    pub reading-foreign : (i : ℕ) → first (foreign_at s) (length s) ≡ Some i → answer (parsed rule s) ≡ Err (QuestionByte i)
    unfolding parsed
    reading-foreign i e = rw (le-ltb 256 (length s) short, e)

    module _ (proper : first (foreign_at s) (length s) ≡ None) where
      pub reading-long : (i : ℕ) → first (long_at s) (length s) ≡ Some i → answer (parsed rule s) ≡ Err (QuestionWord i)
      unfolding parsed
      reading-long i e = rw (le-ltb 256 (length s) short, proper, e)

      pub reading-else : first (long_at s) (length s) ≡ None → answer (parsed rule s) ≡ answer (outcome (length s) (whole rule s))
      unfolding parsed
      reading-else e = rw (le-ltb 256 (length s) short, proper, e)
