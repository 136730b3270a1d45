-- What an index has of a word: the list of the one entry whose word it is, or nothing.
use mathlib.Core.Path.{◌≡◌, refl, sym, ◌∙◌}
use Prim.Native.Nat.{ℕ, zero, suc, ◌<◌}
use native.Mathlib.Omega.{arith}
use native.Mathlib.Decide.{ℕ_discrete}
use mathlib.Core.Bool.{true, false, ◌&&◌, ◌||◌, or-false}
use mathlib.Core.List.{List}
use Rattle.laws.proofs.Tests.{and_both, by-test, leb-cases}
use Rattle.word.specs.Word.{same}
use Rattle.word.proofs.WordLaws.{same-equal, equal-same}
use Rattle.list.specs.Interval.{is_proper, names}
use Rattle.list.specs.Kept.{are_longer, walked, is_kept}
use Rattle.index.specs.Format.{word_count, highest, word_of, list_of, entry_singles, entry_lowers, entry_uppers}
use Rattle.index.specs.Sound.{Sound}
use Rattle.index.proofs.SoundLaws.{word-injective, sound-list}
use Rattle.directory.specs.Has.{has_within, has}

-- ---- among the first k entries

module _ (index word : List ℕ) (x : ℕ) where
  none_within : (k : ℕ) → ((j : ℕ) → j < k → same (word_of index j) word ≡ false) → has_within index k word x ≡ false
  unfolding has_within
  none_within zero f = refl
  none_within (suc k) f = rw (f k (omega arith)) (none_within k (λ j h. f j (omega arith)))

  one-within : (k i : ℕ) → i < k → same (word_of index i) word ≡ true →
      ((j : ℕ) → j < k → (j ≡ i → ⊥) → same (word_of index j) word ≡ false) → has_within index k word x ≡ names (list_of index i) x
  unfolding has_within
  one-within zero i h e f = absurd (omega arith)
  one-within (suc k) i h e f = go (ℕ_discrete k i) (λ n. one-within k i n e (λ j l m. f j (omega arith) m))
    where
      go : Dec (k ≡ i) → (i < k → has_within index k word x ≡ names (list_of index i) x) →
          (same (word_of index k) word && names (list_of index k) x) || has_within index k word x ≡ names (list_of index i) x
      go (yes q) ih = rw (q, e, none_within i (λ j l. f j (omega arith) (λ r. omega arith))) (or-false (names (list_of index i) x))
      go (no q) ih = rw (f k (omega arith) q) (ih (leb-cases k i (λ d. absurd (q (omega arith))) (λ d. d)))

  -- Reference 5.5: a word without an entry
  pub has-nowhere : ((j : ℕ) → j < word_count index → same (word_of index j) word ≡ false) → has index word x ≡ false
  unfolding has
  has-nowhere f = none_within (word_count index) f

-- ---- what a sound index has of a word

pub list-proper : (index : List ℕ) → Sound index → (i : ℕ) → i < word_count index → is_proper (highest index) (list_of index i) ≡ true
unfolding list_of is_kept
list-proper index s i h =
    let S = entry_singles index i in
    let L = entry_lowers index i in
    let U = entry_uppers index i in
    (and_both (are_longer L U) (is_proper (highest index) (walked S L U)) (sound-list index s i h)).1

module _ (index : List ℕ) (s : Sound index) (word : List ℕ) where
  -- no two entries have the word
  pub word-others : (i j : ℕ) → i < word_count index → j < word_count index → word_of index i ≡ word → (j ≡ i → ⊥) → same (word_of index j) word ≡ false
  word-others i j h k e n =
      by-test (same (word_of index j) word) (λ t. absurd (n (word-injective index s j i k h (same-equal (word_of index j) word t ∙ sym e)))) (λ t. t)

  -- Reference 5.5: what the list of its entry names
  pub has-entry : (i x : ℕ) → i < word_count index → word_of index i ≡ word → has index word x ≡ names (list_of index i) x
  unfolding has
  has-entry i x h e =
      one-within index word x (word_count index) i h (equal-same (word_of index i) word e) (λ j k n. word-others i j h k e n)
