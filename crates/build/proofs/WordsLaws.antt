-- One pass over the words that are lent: where the next one ends, what is left behind it, and what the words passed so far were.
use Rattle.std.specs.Prelude.{Some, None}
use mathlib.Core.Path.{◌≡◌, refl, sym, ◌∙◌}
use Prim.Native.Nat.{ℕ, suc, ◌+◌, ◌-◌, ◌≤◌, ◌<◌}
use native.Mathlib.Omega.{arith}
use native.Mathlib.Numerals.{add-one}
use mathlib.Core.Logic.{◌⊎◌, inl, inr}
use mathlib.Core.Bool.{Bool, true, false, cond, not, ◌&&◌, ◌||◌}
use mathlib.Core.List.{List, [], ◌∷◌, ◌++◌, append-nil, append_assoc}
use lib.Dec.{eqb, leb}
use lib.ListN.{length, get_or, take, drop, length-append, length-drop}
use lib.Seq.{drop-cons, drop-drop}
use borrow.Author.Tests.{le-leb, lt-leb}
use Rattle.laws.proofs.Tests.{and_both, leb-cases, true-false}
use Rattle.laws.proofs.Lists.{drop-none}
use Rattle.limits.specs.Limits.{words_max}
use Rattle.refusal.specs.First.{first}
use Rattle.refusal.proofs.FirstLaws.{first-is, first-none-is}
use Rattle.word.specs.Word.{before, is_word}
use Rattle.parts.specs.Part.{part_length}
use Rattle.build.specs.Lent.{words_from, lent_words, rest_from, rest_of, one-if-any, word_total, lent_before, bad_lent}
use Rattle.layout.specs.Layout.{words_bytes}
use Rattle.layout.proofs.BytesLaws.{Next, next_of}
use Rattle.build.proofs.LentLaws.{LentWord}

-- ---- one word on

-- the first word ends at k, and behind it stand the other words and the rest
abbrev Ended : List ℕ → List (List ℕ) → List ℕ → List ℕ → ℕ → Type 0
Ended acc ws rest bs k = (ws ≡ (acc ++ take k bs) ∷ words_from [] (drop (k + 1) bs)) × (rest ≡ rest_from [] (drop (k + 1) bs))

ended-step : (acc : List ℕ) (b : ℕ) (bs : List ℕ) (t : Bool) → cond t 0 (suc (part_length 10 bs)) < suc (length bs) →
    ((acc : List ℕ) → part_length 10 bs < length bs → Ended acc (words_from acc bs) (rest_from acc bs) bs (part_length 10 bs)) →
    Ended acc (cond t (acc ∷ words_from [] bs) (words_from (acc ++ b ∷ []) bs)) (cond t (rest_from [] bs) (rest_from (acc ++ b ∷ []) bs)) (b ∷ bs)
    (cond t 0 (suc (part_length 10 bs)))
ended-step acc b bs true h ih = (rw (append-nil acc), refl)
ended-step acc b bs false h ih =
    let e : suc (part_length 10 bs) + 1 ≡ suc (part_length 10 bs + 1) = omega arith in
    let w = ih (acc ++ b ∷ []) (omega arith) in
    (w.0 ∙ rw (e, append_assoc acc (b ∷ []) (take (part_length 10 bs) bs)), w.1 ∙ rw e)

words-ended : (acc bs : List ℕ) → part_length 10 bs < length bs → Ended acc (words_from acc bs) (rest_from acc bs) bs (part_length 10 bs)
unfolding words_from rest_from part_length
words-ended acc [] h = absurd (omega arith)
words-ended acc (b ∷ bs) h = ended-step acc b bs (eqb b 10) h (λ acc g. words-ended acc bs g)

open_step : (acc : List ℕ) (b : ℕ) (bs : List ℕ) (t : Bool) → suc (length bs) ≤ cond t 0 (suc (part_length 10 bs)) →
    ((acc : List ℕ) → length bs ≤ part_length 10 bs → (words_from acc bs ≡ []) × (rest_from acc bs ≡ acc ++ bs)) →
    (cond t (acc ∷ words_from [] bs) (words_from (acc ++ b ∷ []) bs) ≡ []) × (cond t (rest_from [] bs) (rest_from (acc ++ b ∷ []) bs) ≡ acc ++ b ∷ bs)
open_step acc b bs true h ih = absurd (omega arith)
open_step acc b bs false h ih = let w = ih (acc ++ b ∷ []) (omega arith) in (w.0, w.1 ∙ append_assoc acc (b ∷ []) bs)

words_open : (acc bs : List ℕ) → length bs ≤ part_length 10 bs → (words_from acc bs ≡ []) × (rest_from acc bs ≡ acc ++ bs)
unfolding words_from rest_from part_length
words_open acc [] h = (refl, sym (append-nil acc))
words_open acc (b ∷ bs) h = open_step acc b bs (eqb b 10) h (λ acc g. words_open acc bs g)

module _ (bytes : List ℕ) {start end : ℕ} (is : end ≡ start + part_length 10 (drop start bytes)) where
  -- the word that starts at start, and those behind it
  pub next_word : start ≤ length bytes → end < length bytes →
      (words_from [] (drop start bytes) ≡ take (end - start) (drop start bytes) ∷ words_from [] (drop (end + 1) bytes))
      × (rest_from [] (drop start bytes) ≡ rest_from [] (drop (end + 1) bytes))
  next_word g h =
      let bs = drop start bytes in
      let e : part_length 10 bs ≡ end - start = omega arith in
      let f : start + (end - start + 1) ≡ end + 1 = omega arith in
      let w = words-ended [] bs (omega (arith, length-drop start bytes)) in
      (w.0 ∙ rw (e, drop-drop (end - start + 1) start bytes, f), w.1 ∙ rw (e, drop-drop (end - start + 1) start bytes, f))

  -- nothing ends it
  pub last_word : start ≤ length bytes → end ≡ length bytes → (words_from [] (drop start bytes) ≡ []) × (rest_from [] (drop start bytes) ≡ drop start bytes)
  last_word g h = words_open [] (drop start bytes) (omega (arith, length-drop start bytes))

-- ---- all words

bytes-step : (acc : List ℕ) (b : ℕ) (bs : List ℕ) (t : Bool) →
    ((acc : List ℕ) → length acc + length bs ≡ length (words_bytes (words_from acc bs)) + length (words_from acc bs) + length (rest_from acc bs)) →
    length acc + suc (length bs)
    ≡ length (words_bytes (cond t (acc ∷ words_from [] bs) (words_from (acc ++ b ∷ []) bs)))
    + length (cond t (acc ∷ words_from [] bs) (words_from (acc ++ b ∷ []) bs))
    + length (cond t (rest_from [] bs) (rest_from (acc ++ b ∷ []) bs))
unfolding words_bytes
bytes-step acc b bs true ih = omega (arith, ih [], length-append acc (words_bytes (words_from [] bs)))
bytes-step acc b bs false ih = omega (arith, ih (acc ++ b ∷ []), length-append acc (b ∷ []))

bytes-from : (acc bs : List ℕ) → length acc + length bs ≡ length (words_bytes (words_from acc bs)) + length (words_from acc bs) + length (rest_from acc bs)
unfolding words_from rest_from words_bytes
bytes-from acc [] = omega arith
bytes-from acc (b ∷ bs) = bytes-step acc b bs (eqb b 10) (λ acc. bytes-from acc bs)

any-one : (bs : List ℕ) → 1 ≤ length bs → one-if-any bs ≡ 1
any-one [] h = absurd (omega arith)
any-one (b ∷ bs) h = refl

-- where no word is bad, all are ended
module _ (bytes : List ℕ) (good : (i : ℕ) → i < word_total bytes → LentWord (lent_words bytes) i) where
  all-ended : length (rest_of bytes) ≡ 0
  unfolding word_total
  all-ended =
      leb-cases (length (rest_of bytes)) 0 (λ h. omega arith)
      (λ h. absurd (let n = length (lent_words bytes) in omega (arith, (good n (omega (arith, any-one (rest_of bytes) h))).within)))

  pub words-bytes-length : length (words_bytes (lent_words bytes)) + length (lent_words bytes) ≡ length bytes
  unfolding lent_words rest_of
  words-bytes-length = omega (arith, bytes-from [] bytes, all-ended)

-- ---- the pass

-- the words before start are passed, count of them, and none is bad; prior is the last of them
pub record Passing (bytes prior : List ℕ) (start count : ℕ) : Type 0 where
  pub within : start ≤ length bytes
  pub few : count ≤ start
  pub limit : count ≤ words_max
  pub seen : count ≤ length (lent_words bytes)
  pub words : words_from [] (drop start bytes) ≡ drop count (lent_words bytes)
  pub rest : rest_from [] (drop start bytes) ≡ rest_of bytes
  pub last : prior ≡ lent_before (lent_words bytes) count
  pub good : (j : ℕ) → j < count → bad_lent (lent_words bytes) j ≡ false

pub pass-start : (bytes : List ℕ) → Passing bytes [] 0 0
unfolding lent_words rest_of
pass-start bytes =
    record {
      within = omega arith;
      few = omega arith;
      limit = omega arith;
      seen = omega arith;
      words = refl;
      rest = refl;
      last = refl;
      good = λ j h. absurd (omega arith);
    }

none_left : (ws : List (List ℕ)) (i : ℕ) → [] ≡ drop i ws → length ws ≤ i
none_left ws i e =
    leb-cases (length ws) i (λ h. h)
    (λ h. absurd (let f = e ∙ drop-cons ws i [] h in let z : ◌≡◌ {A = ℕ} 0 1 = cc in omega arith))

module _ {bytes prior : List ℕ} {start count : ℕ} (at : Passing bytes prior start count) where
  abbrev ws : List (List ℕ)
  ws = lent_words bytes

  words-within : (i : ℕ) → i < length ws → i < word_total bytes
  unfolding word_total
  words-within i h = omega arith

  pub pass-end : length bytes ≤ start → (first (bad_lent ws) (word_total bytes) ≡ None) × (count ≡ length ws)
  unfolding word_total words_from rest_from
  pass-end h =
      let e = drop-none bytes start h in
      let g = none_left ws count (rw e at at.words) in
      let r : [] ≡ rest_of bytes = rw e at at.rest in
      let o : one-if-any (rest_of bytes) ≡ 0 = rw (← r) in
      (first-none-is (bad_lent ws) (word_total bytes) (λ j k. at.good j (omega arith)), omega (arith, at.seen))

  module _ {end : ℕ} (is : end ≡ start + part_length 10 (drop start bytes)) where
    abbrev word : List ℕ
    word = take (end - start) (drop start bytes)

    -- the last is not ended
    pass-open : start < length bytes → end ≡ length bytes → first (bad_lent ws) (word_total bytes) ≡ Some count
    unfolding word_total bad_lent
    pass-open h g =
        let w = last_word bytes is at.within g in
        let n = none_left ws count (sym w.0 ∙ at.words) in
        let o = any-one (rest_of bytes) (rw (← (sym w.1 ∙ at.rest)) (omega (arith, length-drop start bytes))) in
        first-is (bad_lent ws) count (word_total bytes) (record { below = omega arith; holds = bad (leb words_max count) n; before = at.good })
      where
        bad : (t : Bool) → length ws ≤ count →
            t || leb (length ws) count || not (is_word true (get_or ws count [])) || not (before (lent_before ws count) (get_or ws count [])) ≡ true
        bad true n = refl
        bad false n = rw (le-leb (length ws) count n)

    module _ (h : end < length bytes) where
      here : Next [] ws count word (words_from [] (drop (end + 1) bytes))
      here = next_of [] (sym at.words ∙ (next_word bytes is at.within h).0)

      at-bad : bad_lent ws count ≡ true → first (bad_lent ws) (word_total bytes) ≡ Some count
      at-bad e = first-is (bad_lent ws) count (word_total bytes) (record { below = words-within count here.below; holds = e; before = at.good })

      -- the 65,536th
      pass-full : count ≡ words_max → first (bad_lent ws) (word_total bytes) ≡ Some count
      unfolding bad_lent
      pass-full e = at-bad (rw (le-leb words_max count (omega arith)))

      pub pass-bad : (is_word true word && before prior word) ≡ false → first (bad_lent ws) (word_total bytes) ≡ Some count
      unfolding bad_lent
      pass-bad e = at-bad (rw (here.is, ← at.last)
          (bad (leb words_max count) (leb (length ws) count) (is_word true word) (before prior word) e))
        where
          bad : (a b c d : Bool) → c && d ≡ false → a || b || not c || not d ≡ true
          bad true b c d e = refl
          bad false true c d e = refl
          bad false false true true e = true-false e
          bad false false true false e = refl
          bad false false false d e = refl

      pub pass-next : (count ≡ words_max → ⊥) → (is_word true word && before prior word) ≡ true →
          Passing bytes word (end + 1) (count + 1)
      unfolding bad_lent
      pass-next f e =
          let b = and_both (is_word true word) (before prior word) e in
          let l : count < words_max = leb-cases words_max count (λ g. absurd (f (omega (arith, at.limit)))) (λ g. g) in
          let n = here in
          record {
            within = omega arith;
            few = omega (arith, at.few);
            limit = omega arith;
            seen = omega (arith, n.below);
            words = sym n.rest;
            rest = sym (next_word bytes is at.within h).1 ∙ at.rest;
            last = rw (add-one count) (sym n.is);
            good = λ j k. leb-cases count j
                (λ g. let q : j ≡ count = omega arith in rw (q, lt-leb words_max count l, lt-leb (length ws) count n.below, n.is, b.0, ← at.last, b.1))
                (λ g. at.good j g);
          }

    -- it is not ended, or is one too many
    pub pass-over : start < length bytes → end ≤ length bytes → (end ≡ length bytes) ⊎ ((end ≡ length bytes → ⊥) × count ≡ words_max) →
        first (bad_lent ws) (word_total bytes) ≡ Some count
    pass-over h g (inl e) = pass-open h e
    pass-over h g (inr w) = let d = w.0 in pass-full (omega arith) w.1
