-- What a sound index says, as facts: the bounds of its trailer, where each entry's word and list stand, the order of its words, and its lists.
use mathlib.Core.Path.{◌≡◌, refl, sym, ◌∙◌}
use Prim.Native.Nat.{ℕ, zero, suc, ◌+◌, ◌-◌, ◌*◌, ◌≤◌, ◌<◌}
use native.Mathlib.Omega.{arith}
use native.Mathlib.Numerals.{add-one}
use mathlib.Core.Bool.{true, false, not, ◌||◌}
use mathlib.Core.List.{List}
use lib.Dec.{eqb, ltb}
use lib.ListN.{length, length-drop, length-take}
use borrow.Author.Tests.{ltb-false, eqb-true, eqb-false, not-false}
use Rattle.laws.proofs.Tests.{true-false, or-neither, leb-cases}
use Rattle.limits.specs.Limits.{index_max, index_min, record_max, words_max}
use Rattle.word.specs.Word.{before, is_word}
use Rattle.word.proofs.WordLaws.{before-irreflexive, before-transitive}
use Rattle.list.specs.Kept.{is_kept}
use Rattle.index.specs.Format.{words_start, directory_start, word_count, highest, edition, entry_place, word_start, word_length, list_start, single_count, pair_count, list_length, words_end, lists_end, part, word_of, singles_of, lower_of, upper_of, entry_singles, entry_lowers, entry_uppers}
use Rattle.index.specs.Sound.{bad_length, bad_edition, bad_trailer, bad_directory, bad_word, bad_entry, bad_end, bad_list, word_before, Sound}

-- ---- the trailer

pub sound-length : (index : List ℕ) → Sound index → (index_min ≤ length index) × (length index ≤ index_max)
unfolding bad_length
sound-length index s =
    let w = or-neither (ltb (length index) index_min) (ltb index_max (length index)) s.size in
    (ltb-false (length index) index_min w.0, ltb-false index_max (length index) w.1)

pub sound-edition : (index : List ℕ) → Sound index → edition index ≡ 1
unfolding bad_edition
sound-edition index s = eqb-true (edition index) 1 (not-false (eqb (edition index) 1) s.edition-one)

pub record TrailerFacts (index : List ℕ) : Type 0 where
  pub highest-bound : highest index ≤ record_max
  pub count-bound : word_count index ≤ words_max
  pub words-below : words_start index ≤ directory_start index
  pub total : directory_start index + 20 * word_count index + 20 ≡ length index

pub trailer-facts : (index : List ℕ) → bad_trailer index ≡ false → TrailerFacts index
unfolding bad_trailer
trailer-facts index h =
    let a = ltb record_max (highest index) in
    let b = ltb words_max (word_count index) in
    let c = ltb (directory_start index) (words_start index) in
    let d = eqb (directory_start index + 20 * word_count index + 20) (length index) in
    let u = or-neither (a || b || c) (not d) h in
    let v = or-neither (a || b) c u.0 in
    let w = or-neither a b v.0 in
    record {
      highest-bound = ltb-false record_max (highest index) w.0;
      count-bound = ltb-false words_max (word_count index) w.1;
      words-below = ltb-false (directory_start index) (words_start index) v.1;
      total = eqb-true (directory_start index + 20 * word_count index + 20) (length index) (not-false d u.1);
    }

pub sound-trailer : (index : List ℕ) → Sound index → TrailerFacts index
sound-trailer index s = trailer-facts index s.trailer

-- ---- the directory

pub words_end-next : (index : List ℕ) (i : ℕ) → words_end index (i + 1) ≡ words_end index i + word_length index i
unfolding words_end
words_end-next index i = rw (add-one i)

pub lists_end-next : (index : List ℕ) (i : ℕ) → lists_end index (i + 1) ≡ lists_end index i + list_length index i
unfolding lists_end
lists_end-next index i = rw (add-one i)

-- entry i: where it, its word and its list stand
pub record EntryFacts (index : List ℕ) (i : ℕ) : Type 0 where
  pub entry-within : entry_place index i + index_min ≤ length index - 20
  pub word-start : word_start index i ≡ words_end index i
  pub word-within : word_start index i + word_length index i ≤ directory_start index
  pub list-start : list_start index i ≡ lists_end index i
  pub list-within : list_start index i + list_length index i ≤ words_start index
  pub list-some : 1 ≤ single_count index i + pair_count index i

pub directory-facts : (index : List ℕ) (i : ℕ) → bad_directory index i ≡ false →
    (word_start index i ≡ words_end index i)
    × (list_start index i ≡ lists_end index i)
    × (1 ≤ single_count index i + pair_count index i)
    × (words_end index (i + 1) ≤ directory_start index)
    × (lists_end index (i + 1) ≤ words_start index)
unfolding bad_directory
directory-facts index i h =
    let a = eqb (word_start index i) (words_end index i) in
    let b = eqb (list_start index i) (lists_end index i) in
    let c = eqb (single_count index i + pair_count index i) 0 in
    let d = ltb (directory_start index) (words_end index (i + 1)) in
    let e = ltb (words_start index) (lists_end index (i + 1)) in
    let p = or-neither (not a || not b || c || d) e h in
    let q = or-neither (not a || not b || c) d p.0 in
    let r = or-neither (not a || not b) c q.0 in
    let s = or-neither (not a) (not b) r.0 in
    let n : single_count index i + pair_count index i ≡ 0 → ⊥ = eqb-false (single_count index i + pair_count index i) 0 r.1 in (
      eqb-true (word_start index i) (words_end index i) (not-false a s.0),
      eqb-true (list_start index i) (lists_end index i) (not-false b s.1),
      leb-cases 1 (single_count index i + pair_count index i) (λ g. g) (λ g. absurd (n (omega arith))),
      ltb-false (directory_start index) (words_end index (i + 1)) q.1,
      ltb-false (words_start index) (lists_end index (i + 1)) p.1,
    )

sound-directory : (index : List ℕ) → Sound index → (i : ℕ) → i < word_count index → bad_directory index i ≡ false
unfolding bad_entry
sound-directory index s i h = (or-neither (bad_directory index i) (bad_word index i) (s.entries i h)).0

read-entry : (index : List ℕ) (i : ℕ) → entry_place index i ≡ directory_start index + 20 * i
unfolding entry_place
read-entry index i = refl

pub sound-entry : (index : List ℕ) → Sound index → (i : ℕ) → i < word_count index → EntryFacts index i
sound-entry index s i h =
    let t = sound-trailer index s in
    let f = directory-facts index i (sound-directory index s i h) in
    let w = words_end-next index i in
    let l = lists_end-next index i in
    record {
      entry-within = entry-room (directory_start index) i (word_count index) (length index) (entry_place index i) (read-entry index i) h t.total;
      word-start = f.0;
      word-within = rw (f.0, ← w) f.3;
      list-start = f.1;
      list-within = rw (f.1, ← l) f.4;
      list-some = f.2;
    }
  where
    entry-room : (d i n size at : ℕ) → at ≡ d + 20 * i → i < n → d + 20 * n + 20 ≡ size → at + 20 ≤ size - 20
    entry-room d i n size at e h t = omega arith

-- ---- the parts of the index that an entry names

pub part_length : (start size : ℕ) (bytes : List ℕ) → start + size ≤ length bytes → length (part start size bytes) ≡ size
part_length start size bytes h = simp (length-take, length-drop) (omega arith)

-- the word and the list stand below the directory, and so in the index
pub sound-word-room : (index : List ℕ) → Sound index → (i : ℕ) → i < word_count index → word_start index i + word_length index i ≤ length index
sound-word-room index s i h =
    let t = sound-trailer index s in
    let e = sound-entry index s i h in
    within (directory_start index) (word_count index) (length index) (word_start index i + word_length index i) t.total e.word-within
  where
    within : (d n size x : ℕ) → d + 20 * n + 20 ≡ size → x ≤ d → x ≤ size
    within d n size x t h = omega arith

pub sound-list-room : (index : List ℕ) → Sound index → (i : ℕ) → i < word_count index →
    list_start index i + 4 * single_count index i + 8 * pair_count index i ≤ length index
unfolding list_length
sound-list-room index s i h =
    let t = sound-trailer index s in
    let e = sound-entry index s i h in
    within (words_start index) (directory_start index) (word_count index) (length index) (list_start index i) (single_count index i) (pair_count index i)
    t.words-below t.total e.list-within
  where
    within : (w d n size x a b : ℕ) → w ≤ d → d + 20 * n + 20 ≡ size → x + 4 * (a + 2 * b) ≤ w → x + 4 * a + 8 * b ≤ size
    within w d n size x a b l t h = omega arith

pub word-length : (index : List ℕ) → Sound index → (i : ℕ) → i < word_count index → length (word_of index i) ≡ word_length index i
unfolding word_of
word-length index s i h = part_length (word_start index i) (word_length index i) index (sound-word-room index s i h)

pub singles-length : (index : List ℕ) → Sound index → (i : ℕ) → i < word_count index → length (singles_of index i) ≡ 4 * single_count index i
unfolding singles_of
singles-length index s i h = let r = sound-list-room index s i h in part_length (list_start index i) (4 * single_count index i) index (omega arith)

pub lower-length : (index : List ℕ) → Sound index → (i : ℕ) → i < word_count index → length (lower_of index i) ≡ 4 * pair_count index i
unfolding lower_of
lower-length index s i h =
    let r = sound-list-room index s i h in
    part_length (list_start index i + 4 * single_count index i) (4 * pair_count index i) index (omega arith)

pub upper-length : (index : List ℕ) → Sound index → (i : ℕ) → i < word_count index → length (upper_of index i) ≡ 4 * pair_count index i
unfolding upper_of
upper-length index s i h =
    let r = sound-list-room index s i h in
    part_length (list_start index i + 4 * single_count index i + 4 * pair_count index i) (4 * pair_count index i) index (omega arith)

-- ---- the words

word-facts : (index : List ℕ) → Sound index → (i : ℕ) → i < word_count index →
    (is_word false (word_of index i) ≡ true) × (before (word_before index i) (word_of index i) ≡ true)
unfolding bad_entry bad_word
word-facts index s i h =
    let a = is_word false (word_of index i) in
    let b = before (word_before index i) (word_of index i) in
    let w = or-neither (not a) (not b) (or-neither (bad_directory index i) (bad_word index i) (s.entries i h)).1 in
    (not-false a w.0, not-false b w.1)

pub sound-word : (index : List ℕ) → Sound index → (i : ℕ) → i < word_count index → is_word false (word_of index i) ≡ true
sound-word index s i h = (word-facts index s i h).0

-- words ascend: from one to the next, and so from each to every later one
pub words_step : (index : List ℕ) → Sound index → (i : ℕ) → suc i < word_count index → before (word_of index i) (word_of index (suc i)) ≡ true
words_step index s i h = (word-facts index s (suc i) h).1

pub words-ascend : (index : List ℕ) → Sound index → (i j : ℕ) → i < j → j < word_count index → before (word_of index i) (word_of index j) ≡ true
words-ascend index s i zero l h = absurd (omega arith)
words-ascend index s i (suc j) l h =
    leb-cases j i (λ d. let e : i ≡ j = omega arith in rw e (words_step index s j h))
    (λ d. before-transitive (word_of index i) (word_of index j) (word_of index (suc j)) (words-ascend index s i j d (omega arith)) (words_step index s j h))

-- so no word stands in two entries
pub words-differ : (index : List ℕ) → Sound index → (i j : ℕ) → i < j → j < word_count index → word_of index i ≡ word_of index j → ⊥
words-differ index s i j l h e =
    let a : before (word_of index j) (word_of index j) ≡ true = rw e at (words-ascend index s i j l h) in
    true-false (sym a ∙ before-irreflexive (word_of index j))

pub word-injective : (index : List ℕ) → Sound index → (i j : ℕ) → i < word_count index → j < word_count index → word_of index i ≡ word_of index j → i ≡ j
word-injective index s i j h k e =
    leb-cases i j (λ a. leb-cases j i (λ b. omega arith) (λ b. absurd (words-differ index s i j b k e))) (λ a. absurd (words-differ index s j i a h (sym e)))

-- ---- the lists

pub sound-list : (index : List ℕ) → Sound index → (i : ℕ) → i < word_count index →
    is_kept (highest index) (entry_singles index i) (entry_lowers index i) (entry_uppers index i) ≡ true
unfolding bad_list
sound-list index s i h =
    not-false (is_kept (highest index) (entry_singles index i) (entry_lowers index i) (entry_uppers index i)) (s.lists i h)

-- ---- the ends

pub sound-ends : (index : List ℕ) → Sound index →
    (lists_end index (word_count index) ≡ words_start index) × (words_end index (word_count index) ≡ directory_start index)
unfolding bad_end
sound-ends index s =
    let a = eqb (lists_end index (word_count index)) (words_start index) in
    let b = eqb (words_end index (word_count index)) (directory_start index) in
    let w = or-neither (not a) (not b) s.ends in (
      eqb-true (lists_end index (word_count index)) (words_start index) (not-false a w.0),
      eqb-true (words_end index (word_count index)) (directory_start index) (not-false b w.1),
    )
