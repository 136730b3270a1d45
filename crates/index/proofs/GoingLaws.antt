-- The pass over the entries: what is known where the first i are good.
use Prim.Native.Nat.{ℕ, ◌+◌, ◌-◌, ◌*◌, ◌≤◌, ◌<◌}
use mathlib.Core.Path.{◌≡◌, refl, sym, ap, ◌∙◌}
use native.Mathlib.Omega.{arith}
use native.Mathlib.Numerals.{add-one}
use mathlib.Core.Bool.{true, false, not, cond, ◌&&◌, ◌||◌, not-not}
use mathlib.Core.List.{List}
use lib.Dec.{eqb}
use lib.ListN.{take, drop}
use borrow.Author.Tests.{eq-eqb, ne_eqb}
use Rattle.std.specs.Prelude.{Some, None}
use Rattle.refusal.specs.First.{first, first_from}
use Rattle.refusal.proofs.FirstLaws.{first-start, first-hit, first-miss, first-end}
use Rattle.word.specs.Word.{is_word, before}
use Rattle.index.specs.declared.entry.Entry.{Entry}
use Rattle.index.specs.Format.{words_start, directory_start, word_count, word_start, word_length, list_length, words_end, lists_end, word_of}
use Rattle.index.specs.Read.{EntryCells}
use Rattle.index.specs.Sound.{bad_directory, bad_word, bad_entry, bad_end, word_before}
use Rattle.index.specs.Check.{bad_entry_of}
use Rattle.index.proofs.SoundLaws.{words_end-next, lists_end-next, directory-facts}
use Rattle.index.proofs.RuleLaws.{word-rule}

-- the first i entries are good, and add up to words and lists; the word before entry i's starts at prior and ends at words
pub record Going (index : List ℕ) (prior words lists i : ℕ) : Type 0 where
  pub within : i ≤ word_count index
  pub words-sum : words ≡ words_end index i
  pub lists-sum : lists ≡ lists_end index i
  pub words-room : words ≤ directory_start index
  pub lists-room : lists ≤ words_start index
  pub prior-first : prior ≤ words
  pub prior-word : take (words - prior) (drop prior index) ≡ word_before index i
  pub left : first (bad_entry index) (word_count index) ≡ first_from (bad_entry index) i (word_count index - i)

pub going_start : (index : List ℕ) (w : ℕ) → w ≡ words_start index → words_start index ≤ directory_start index → Going index w w 0 0
unfolding words_end lists_end
going_start index w e h =
    let z : w - w ≡ 0 = omega arith in
    record {
      within = omega arith;
      words-sum = e;
      lists-sum = refl;
      words-room = omega arith;
      lists-room = omega arith;
      prior-first = omega arith;
      prior-word = rw z;
      left = first-start (bad_entry index) (word_count index);
    }

module _ (index : List ℕ) (i : ℕ) where
  pub entry-misplaced : bad_directory index i ≡ true → bad_entry index i ≡ true
  unfolding bad_entry
  entry-misplaced e = rw e

  pub entry-misspelt : bad_directory index i ≡ false → bad_word index i ≡ true → bad_entry index i ≡ true
  unfolding bad_entry
  entry-misspelt e f = rw (e, f)

  pub entry-good : bad_directory index i ≡ false → bad_word index i ≡ false → bad_entry index i ≡ false
  unfolding bad_entry
  entry-good e f = rw (e, f)

  -- the part from words to next is the word of entry i
  pub word-part : (words next : ℕ) → words ≡ word_start index i → next ≡ words + word_length index i → take (next - words) (drop words index) ≡ word_of index i
  unfolding word_of
  word-part words next e f =
      let z : next - words ≡ word_length index i = omega arith in
      rw (z, e)

  pub next-within : bad_directory index i ≡ false → words_end index i + word_length index i ≤ directory_start index
  next-within e = rw (← words_end-next index i) (directory-facts index i e).3

module _ {index : List ℕ} {prior words lists i : ℕ} (g : Going index prior words lists i) (h : i < word_count index) where
  pub going-hit : bad_entry index i ≡ true → first (bad_entry index) (word_count index) ≡ Some i
  going-hit b = g.left ∙ first-hit (bad_entry index) i (word_count index) h b

  -- what the code asks of the two parts is the word rule
  pub going-word : {e : Entry} → EntryCells index i e → bad_directory index i ≡ false →
      is_word false (take (words + e.word_length - words) (drop words index))
      && before (take (words - prior) (drop prior index)) (take (words + e.word_length - words) (drop words index))
      ≡ not (bad_word index i)
  going-word {e} of d =
      let f = directory-facts index i d in
      let p = word-part index i words (words + e.word_length) (g.words-sum ∙ sym f.0) (ap (λ n. words + n) of.word-length) in
      rw (p, g.prior-word, word-rule index i) (sym (not-not (is_word false (word_of index i) && before (word_before index i) (word_of index i))))

  pub going_step : {e : Entry} → EntryCells index i e → bad_directory index i ≡ false → bad_word index i ≡ false →
      Going index words (words + e.word_length) (lists + 4 * (e.singles + 2 * e.pairs)) (i + 1)
  unfolding list_length
  going_step {e} of d b =
      let f = directory-facts index i d in
      let w = words_end-next index i in
      let l = lists_end-next index i in
      let p = word-part index i words (words + e.word_length) (g.words-sum ∙ sym f.0) (ap (λ n. words + n) of.word-length) in
      record {
        within = omega arith;
        words-sum = omega arith;
        lists-sum = omega arith;
        words-room = omega arith;
        lists-room = omega arith;
        prior-first = omega arith;
        prior-word = rw (add-one i) p;
        left = g.left ∙ first-miss (bad_entry index) i (word_count index) h (entry-good index i d b);
      }

module _ {index : List ℕ} {prior words lists i : ℕ} (g : Going index prior words lists i) (h : word_count index ≤ i) where
  going-none : first (bad_entry index) (word_count index) ≡ None
  going-none = g.left ∙ first-end (bad_entry index) i (word_count index) h

  ends : bad_entry_of index
      ≡ cond (not (eqb lists (words_start index)) || not (eqb words (directory_start index))) (Some (word_count index)) None
  unfolding bad_end
  ends =
      let n : i ≡ word_count index = omega arith in
      rw (going-none, g.words-sum, g.lists-sum, n)

  pub going-lists-short : (lists ≡ words_start index → ⊥) → bad_entry_of index ≡ Some (word_count index)
  going-lists-short d = ends ∙ rw (ne_eqb lists (words_start index) d)

  pub going-words-short : lists ≡ words_start index → (words ≡ directory_start index → ⊥) →
      bad_entry_of index ≡ Some (word_count index)
  going-words-short e d = ends ∙ rw (eq-eqb lists (words_start index) e, ne_eqb words (directory_start index) d)

  pub going-whole : lists ≡ words_start index → words ≡ directory_start index →
      bad_entry_of index ≡ None
  going-whole e f = ends ∙ rw (eq-eqb lists (words_start index) e, eq-eqb words (directory_start index) f)
