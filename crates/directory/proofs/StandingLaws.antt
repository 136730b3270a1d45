-- Where bytes stand among the words of a sound index: the words split there and nowhere else, and a word of the index stands at its own entry.
use mathlib.Core.Path.{◌≡◌, refl, sym, ◌∙◌}
use Prim.Native.Nat.{ℕ, zero, suc, ◌+◌, ◌≤◌, ◌<◌}
use native.Mathlib.Omega.{arith}
use mathlib.Core.Bool.{Bool, true, false}
use mathlib.Core.List.{List}
use Rattle.laws.proofs.Tests.{true-false, by-test, leb-cases}
use Rattle.std.specs.Prelude.{Option, Some, None, Result, Ok, Err}
use Rattle.refusal.specs.First.{first}
use Rattle.refusal.proofs.FirstLaws.{first-is, first-none, first-none-is, first-at}
use Rattle.word.specs.Word.{same, before}
use Rattle.word.proofs.WordLaws.{same-equal, equal-same, before-irreflexive, before-transitive}
use Rattle.list.specs.Interval.{names}
use Rattle.list.specs.Ginix.{one}
use Rattle.index.specs.Format.{word_count, word_of, list_of}
use Rattle.index.specs.Sound.{Sound}
use Rattle.index.proofs.SoundLaws.{words-ascend}
use Rattle.directory.specs.Has.{has}
use Rattle.directory.specs.Standing.{below_within, word_place, standing_by, standing_of, Splits, Stands}
use Rattle.directory.proofs.HasLaws.{word-others, has-entry, has-nowhere}

-- ---- the words split at a place, and at no other

splits-count : (index word : List ℕ) (p k : ℕ) → Splits index word k p → below_within index k word ≡ p
unfolding below_within
splits-count index word p zero w = let h = w.within in omega arith
splits-count index word p (suc k) w =
    leb-cases p k
    (λ d.
    let fewer = splits-count index word p k (record { within = d; below = w.below; rest = λ j l u. w.rest j l (omega arith) }) in
    rw (w.rest k d (omega arith), fewer) (omega arith))
    (λ d.
    let h = w.within in
    let all =
    splits-count index word k k (record { within = omega arith; below = λ j l. w.below j (omega arith); rest = λ j l u. absurd (omega arith) }) in
    rw (w.below k d, all) (omega arith))

module _ (index : List ℕ) (s : Sound index) (word : List ℕ) where
  -- a word below it has below it all the words before it, and one not below it has none of those behind it
  pub below-down : (i j : ℕ) → i < word_count index → before (word_of index i) word ≡ true → j ≤ i → before (word_of index j) word ≡ true
  below-down i j h e l =
      leb-cases i j (λ d. let q : j ≡ i = omega arith in rw q e)
      (λ d. before-transitive (word_of index j) (word_of index i) word (words-ascend index s j i d h) e)

  rest_up : (i j : ℕ) → before (word_of index i) word ≡ false → i ≤ j → j < word_count index → before (word_of index j) word ≡ false
  rest_up i j e l h = by-test (before (word_of index j) word) (λ t. true-false (sym (below-down j i h t l) ∙ e)) (λ t. t)

  split_step : (k : ℕ) → k < word_count index → (t : Bool) → before (word_of index k) word ≡ t → Splits index word k (below_within index k word) →
      Splits index word (suc k) (one t + below_within index k word)
  split_step k h true e w =
      let all : Splits index word k k =
      record { within = omega arith; below = λ j l. below-down k j h e (omega arith); rest = λ j l u. absurd (omega arith) } in
      let q : below_within index k word ≡ k = splits-count index word k k all in
      record { within = omega arith; below = λ j l. below-down k j h e (omega arith); rest = λ j l u. absurd (omega arith) }
  split_step k h false e w =
      let z : 0 + below_within index k word ≡ below_within index k word = omega arith in
      let inside = w.within in
      rw z
      (record {
        within = omega arith;
        below = w.below;
        rest = λ j l u. leb-cases k j (λ d. let q : j ≡ k = omega arith in rw q e) (λ d. w.rest j l d);
      })

  splits-to : (k : ℕ) → k ≤ word_count index → Splits index word k (below_within index k word)
  unfolding below_within
  splits-to zero h = record { within = omega arith; below = λ j l. absurd (omega arith); rest = λ j l u. absurd (omega arith) }
  splits-to (suc k) h = split_step k (omega arith) (before (word_of index k) word) refl (splits-to k (omega arith))

  pub place-splits : Splits index word (word_count index) (word_place index word)
  unfolding word_place
  place-splits = splits-to (word_count index) (omega arith)

  splits-place : (p : ℕ) → Splits index word (word_count index) p → word_place index word ≡ p
  unfolding word_place
  splits-place p w = splits-count index word p (word_count index) w

  -- one comparison tells on which side of a word the place lies
  pub place-behind : (i : ℕ) → i < word_count index → before (word_of index i) word ≡ true → i + 1 ≤ word_place index word
  place-behind i h e =
      leb-cases (word_place index word) i (λ d. true-false (sym e ∙ place-splits.rest i d h)) (λ d. omega arith)

  pub place-not-behind : (i : ℕ) → before (word_of index i) word ≡ false → word_place index word ≤ i
  place-not-behind i e = leb-cases (word_place index word) i (λ d. d) (λ d. true-false (sym (place-splits.below i d) ∙ e))

  -- ---- where bytes stand

  -- an entry whose word they are stands at their place
  pub entry_place_lem : (i : ℕ) → i < word_count index → word_of index i ≡ word → word_place index word ≡ i
  entry_place_lem i h e =
      splits-place i
      (record {
        within = omega arith;
        below = λ j l. rw (← e) (words-ascend index s j i l h);
        rest = λ j l u. rest_up i j (rw (← e) (before-irreflexive (word_of index i))) l u;
      })

  pub standing_here : (i : ℕ) → i < word_count index → word_of index i ≡ word → standing_of index word ≡ Ok i
  unfolding standing_of
  standing_here i h e =
      let found = first-is (λ j. same (word_of index j) word) i (word_count index)
      (record {
        below = h;
        holds = equal-same (word_of index i) word e;
        before = λ j l. word-others index s word i j h (omega arith) e (λ q. omega arith);
      }) in
      rw found

  -- what does not stand at its place stands nowhere
  pub standing-absent : (p : ℕ) → p ≡ word_place index word → (p < word_count index → word_of index p ≡ word → ⊥) → standing_of index word ≡ Err p
  unfolding standing_of
  standing-absent p q n =
      let nowhere = first-none-is (λ j. same (word_of index j) word) (word_count index)
      (λ j h. by-test (same (word_of index j) word) (λ t. absurd (clash j h (same-equal (word_of index j) word t))) (λ t. t)) in
      rw (nowhere, q)
    where
      clash : (j : ℕ) → j < word_count index → word_of index j ≡ word → ⊥
      clash j h e = let r : p ≡ j = q ∙ entry_place_lem j h e in n (rw r h) (rw r e)

  -- ---- what is said of it holds, and of nothing else

  -- Reference 8.2: words below the number stand before the bytes, and those from it on do not
  pub standing-stands : Stands index word (standing_of index word)
  unfolding standing_of
  standing-stands = go (first (λ j. same (word_of index j) word) (word_count index)) refl
    where
      go : (f : Option ℕ) → first (λ j. same (word_of index j) word) (word_count index) ≡ f → Stands index word (standing_by f (word_place index word))
      go (Some i) e =
          let f = first-at (λ j. same (word_of index j) word) i (word_count index) e in
          let w = same-equal (word_of index i) word f.holds in
          (rw (entry_place_lem i f.below w) at place-splits, f.below, w)
      go None e =
          (place-splits, λ j h w. true-false (sym (equal-same (word_of index j) word w) ∙ first-none (λ j. same (word_of index j) word) (word_count index) e j h))

  pub stands_at : (found : Result ℕ ℕ) → standing_of index word ≡ found → Stands index word found
  stands_at found e = rw e at standing-stands

  -- no other number would do: this pins the definition
  pub stands-standing : (found : Result ℕ ℕ) → Stands index word found → standing_of index word ≡ found
  stands-standing (Ok i) w = standing_here i w.1 w.2
  stands-standing (Err p) w = standing-absent p (sym (splits-place p w.0)) (λ h e. w.1 p h e)

  -- ---- what the index has of a word, by where it stands

  pub here-has : (i x : ℕ) → standing_of index word ≡ Ok i → has index word x ≡ names (list_of index i) x
  here-has i x e = let w = stands_at (Ok i) e in has-entry index s word i x w.1 w.2

  pub absent-has : (p x : ℕ) → standing_of index word ≡ Err p → has index word x ≡ false
  absent-has p x e =
      let w = stands_at (Err p) e in
      has-nowhere index word x (λ j h. by-test (same (word_of index j) word) (λ t. absurd (w.1 j h (same-equal (word_of index j) word t))) (λ t. t))
