-- A sound index has one encoding: it is the index of its own N, words and lists, and has of each word what its lists have.
use mathlib.Core.Path.{◌≡◌, refl, sym, ap, ◌∙◌}
use Prim.Native.Nat.{ℕ, zero, suc, ◌+◌, ◌-◌, ◌*◌, ◌≤◌, ◌<◌}
use native.Mathlib.Omega.{arith}
use mathlib.Core.List.{List, [], ◌∷◌, ◌++◌, append-nil, append_assoc}
use mathlib.Core.Bool.{true, false}
use lib.ListN.{length, get_or, drop, length-append, length-drop, take-append-drop, drop_of_length-le}
use lib.Seq.{drop-drop}
use Rattle.laws.proofs.Tests.{true-false}
use Rattle.word.specs.Word.{before, is_word}
use Rattle.list.specs.Interval.{names}
use Rattle.list.specs.Stretches.{records_of}
use Rattle.list.specs.Cell.{cell_at, numbers_in}
use Rattle.list.specs.Among.{among}
use Rattle.list.proofs.CellLaws.{numbers_in-length}
use Rattle.list.proofs.StretchLaws.{cells_same, proper-cells}
use Rattle.list.proofs.RecordLaws.{records-same, records-among, records-ascend, proper-count}
use Rattle.convert.proofs.NumberLaws.{ascends-good}
use Rattle.list.proofs.KeptCountLaws.{kept-count}
use Rattle.index.specs.Format.{words_start, directory_start, word_count, highest, entry_place, word_start, word_length, list_start, single_count, pair_count, list_length, words_end, lists_end, part, word_of, singles_of, lower_of, upper_of, list_of, entry_singles, entry_lowers, entry_uppers}
use Rattle.index.specs.Sound.{Sound}
use Rattle.index.proofs.SoundLaws.{sound-length, sound-edition, sound-word, words_step, sound-trailer, sound-entry, sound-list, sound-ends, words_end-next, lists_end-next, word-length, singles-length, lower-length, upper-length}
use Rattle.directory.specs.Has.{has}
use Rattle.directory.proofs.HasLaws.{list-proper}
use Rattle.build.specs.Lent.{lent_before}
use Rattle.layout.specs.Layout.{cells_bytes, cell_singles, cell_lowers, cell_uppers, kept_bytes, cells_in, lists_bytes, words_bytes, entry_bytes, directory_bytes, trailer_bytes, index_of}
use Rattle.layout.specs.Layout.{Below}
use Rattle.build.specs.ReadsBack.{Indexable, records_for, listed, index_words, records_at, lists_in}
use Rattle.layout.proofs.BytesLaws.{below-take, below-drop, numbers-cells, cell-split}
use Rattle.layout.proofs.KeptBytesLaws.{kept-length, kept-apart}
use Rattle.build.proofs.ReadsBackLaws.{reads-back}

-- ---- an index's words and lists, in order

pub listed_same : (f g : ℕ → List ℕ) (i k : ℕ) → ((j : ℕ) → i ≤ j → j < i + k → f j ≡ g j) → listed f i k ≡ listed g i k
unfolding listed
listed_same f g i zero h = refl
listed_same f g i (suc k) h =
    let e = h i (omega arith) (omega arith) in
    let r = listed_same f g (i + 1) k (λ j l u. h j (omega arith) (omega arith)) in
    cc

pub listed-length : (f : ℕ → List ℕ) (i k : ℕ) → length (listed f i k) ≡ k
unfolding listed
listed-length f i zero = refl
listed-length f i (suc k) = ap suc (listed-length f (i + 1) k)

pub listed_at : (f : ℕ → List ℕ) (i k j : ℕ) → j < k → get_or (listed f i k) j [] ≡ f (i + j)
unfolding listed
listed_at f i zero j h = absurd (omega arith)
listed_at f i (suc k) zero h = ap f (omega arith)
listed_at f i (suc k) (suc j) h = listed_at f (i + 1) k j (omega arith) ∙ ap f (omega arith)

-- nothing stands before a word
word_first : (w : List ℕ) → is_word false w ≡ true → before [] w ≡ true
unfolding before is_word
word_first [] e = true-false (sym e)
word_first (b ∷ w) e = refl

-- ---- bytes, part by part

part-rest : (x a : ℕ) (bytes : List ℕ) → drop x bytes ≡ part x a bytes ++ drop (x + a) bytes
part-rest x a bytes = sym (take-append-drop a (drop x bytes)) ∙ ap (λ (r : List ℕ). part x a bytes ++ r) (drop-drop a x bytes)

three-parts : (x a b c : ℕ) (bytes : List ℕ) → drop x bytes ≡ (part x a bytes ++ part (x + a) b bytes ++ part (x + a + b) c bytes) ++ drop (x + a + b + c) bytes
three-parts x a b c bytes =
    part-rest x a bytes
    ∙ ap (λ (r : List ℕ). part x a bytes ++ r)
    (part-rest (x + a) b bytes ∙ ap (λ (r : List ℕ). part (x + a) b bytes ++ r) (part-rest (x + a + b) c bytes))
    ∙ regroup (part x a bytes) (part (x + a) b bytes) (part (x + a + b) c bytes) (drop (x + a + b + c) bytes)
  where
    regroup : (p q r t : List ℕ) → p ++ (q ++ (r ++ t)) ≡ (p ++ q ++ r) ++ t
    regroup p q r t = simp append_assoc

cells-split : (bytes : List ℕ) (at : ℕ) → Below 256 bytes → at + 20 ≤ length bytes →
    drop at bytes
    ≡ cells_bytes (cell_at bytes at ∷ cell_at bytes (at + 4) ∷ cell_at bytes (at + 8) ∷ cell_at bytes (at + 12) ∷ cell_at bytes (at + 16) ∷ [])
    ++ drop (at + 20) bytes
unfolding cells_bytes
cells-split bytes at b h =
    let p : at + 4 + 4 ≡ at + 8 = omega arith in
    let q : at + 8 + 4 ≡ at + 12 = omega arith in
    let r : at + 12 + 4 ≡ at + 16 = omega arith in
    let s : at + 16 + 4 ≡ at + 20 = omega arith in
    rw (
      cell-split bytes at b (omega arith),
      cell-split bytes (at + 4) b (omega arith),
      p,
      cell-split bytes (at + 8) b (omega arith),
      q,
      cell-split bytes (at + 12) b (omega arith),
      r,
      cell-split bytes (at + 16) b (omega arith),
      s,
    )

-- ---- a sound index, region by region

module _ (index : List ℕ) (s : Sound index) (b : Below 256 index) where
  abbrev N : ℕ
  N = highest index

  -- the list of entry i
  list-cells : (i : ℕ) → i < word_count index → cells_in N (records_at index i) ≡ list_of index i
  list-cells i h =
      cells_same (among (records_at index i)) (names (list_of index i)) N (λ x l u. records-among (names (list_of index i)) N x l u)
      ∙ sym (proper-cells N (list_of index i) (list-proper index s i h))

  apart : (i : ℕ) → i < word_count index →
      (cell_singles (list_of index i) ≡ entry_singles index i) × (cell_lowers (list_of index i) ≡ entry_lowers index i)
      × (cell_uppers (list_of index i) ≡ entry_uppers index i)
  unfolding list_of
  apart i h = kept-apart N (entry_singles index i) (entry_lowers index i) (entry_uppers index i) (sound-list index s i h)

  region-bytes : (start k : ℕ) → length (part start (4 * k) index) ≡ 4 * k → cells_bytes (numbers_in (part start (4 * k) index)) ≡ part start (4 * k) index
  region-bytes start k e =
      numbers-cells (part start (4 * k) index) (below-take 256 (4 * k) (drop start index) (below-drop 256 start index b)) (omega arith)

  region-count : (r : List ℕ) (k : ℕ) → length r ≡ 4 * k → length (numbers_in r) ≡ k
  region-count r k e = omega (arith, numbers_in-length r)

  single-count : (i : ℕ) → i < word_count index → length (cell_singles (list_of index i)) ≡ single_count index i
  single-count i h = ap length (apart i h).0 ∙ region-count (singles_of index i) (single_count index i) (singles-length index s i h)

  pair-count : (i : ℕ) → i < word_count index → length (cell_lowers (list_of index i)) ≡ pair_count index i
  pair-count i h = ap length (apart i h).1 ∙ region-count (lower_of index i) (pair_count index i) (lower-length index s i h)

  kept-size : (i : ℕ) → i < word_count index → length (kept_bytes (list_of index i)) ≡ list_length index i
  unfolding list_length
  kept-size i h = kept-length (list_of index i) ∙ omega (arith, single-count i h, pair-count i h)

  kept-bytes : (i : ℕ) → i < word_count index → kept_bytes (list_of index i) ≡ singles_of index i ++ lower_of index i ++ upper_of index i
  unfolding kept_bytes singles_of lower_of upper_of
  kept-bytes i h =
      let a = apart i h in
      let l = list_start index i in
      let m = single_count index i in
      let k = pair_count index i in
      let p = ap cells_bytes a.0 ∙ region-bytes l m (singles-length index s i h) in
      let q = ap cells_bytes a.1 ∙ region-bytes (l + 4 * m) k (lower-length index s i h) in
      let r = ap cells_bytes a.2 ∙ region-bytes (l + 4 * m + 4 * k) k (upper-length index s i h) in
      rw (p, q, r)

  -- the list of entry i, and what stands behind it
  list-step : (i : ℕ) → i < word_count index → drop (lists_end index i) index ≡ kept_bytes (cells_in N (records_at index i)) ++ drop (lists_end index (i + 1)) index
  unfolding singles_of lower_of upper_of list_length
  list-step i h =
      let e = sound-entry index s i h in
      let l = list_start index i in
      let a = 4 * single_count index i in
      let c = 4 * pair_count index i in
      let z : l + a + c + c ≡ lists_end index (i + 1) = omega (arith, e.list-start, lists_end-next index i) in
      rw (list-cells i h, kept-bytes i h, ← z, ← e.list-start) (three-parts l a c c index)

  lists-from : (i k : ℕ) → i + k ≡ word_count index →
      drop (lists_end index i) index ≡ lists_bytes N (listed (records_at index) i k) ++ drop (lists_end index (word_count index)) index
  unfolding listed lists_bytes
  lists-from i zero e = let f : i ≡ word_count index = omega arith in rw f
  lists-from i (suc k) e =
      list-step i (omega arith)
      ∙ ap (λ (r : List ℕ). kept_bytes (cells_in N (records_at index i)) ++ r) (lists-from (i + 1) k (omega arith))
      ∙ sym (append_assoc (kept_bytes (cells_in N (records_at index i))) (lists_bytes N (listed (records_at index) (i + 1) k))
      (drop (lists_end index (word_count index)) index))

  -- the word of entry i, and what stands behind it
  word-step : (i : ℕ) → i < word_count index → drop (words_end index i) index ≡ word_of index i ++ drop (words_end index (i + 1)) index
  unfolding word_of
  word-step i h =
      let e = sound-entry index s i h in
      rw (words_end-next index i, ← e.word-start) (part-rest (word_start index i) (word_length index i) index)

  words-from : (i k : ℕ) → i + k ≡ word_count index →
      drop (words_end index i) index ≡ words_bytes (listed (word_of index) i k) ++ drop (words_end index (word_count index)) index
  unfolding listed words_bytes
  words-from i zero e = let f : i ≡ word_count index = omega arith in rw f
  words-from i (suc k) e =
      word-step i (omega arith)
      ∙ ap (λ (r : List ℕ). word_of index i ++ r) (words-from (i + 1) k (omega arith))
      ∙ sym (append_assoc (word_of index i) (words_bytes (listed (word_of index) (i + 1) k)) (drop (words_end index (word_count index)) index))

  entry_next : (i : ℕ) → entry_place index (i + 1) ≡ entry_place index i + 20
  unfolding entry_place
  entry_next i = omega arith

  -- entry i, and what stands behind it
  entry-step : (i : ℕ) → i < word_count index →
      drop (entry_place index i) index
      ≡ entry_bytes (words_end index i) (word_of index i) (lists_end index i) (cells_in N (records_at index i)) ++ drop (entry_place index (i + 1)) index
  unfolding word_start word_length list_start single_count pair_count
  entry-step i h =
      let e = sound-entry index s i h in
      rw (list-cells i h, single-count i h, pair-count i h, word-length index s i h, ← e.word-start, ← e.list-start, entry_next i)
      (cells-split index (entry_place index i) b (omega (arith, e.entry-within)))

  words-next : (i : ℕ) → i < word_count index → words_end index (i + 1) ≡ words_end index i + length (word_of index i)
  words-next i h = words_end-next index i ∙ ap (λ (k : ℕ). words_end index i + k) (sym (word-length index s i h))

  lists-next : (i : ℕ) → i < word_count index → lists_end index (i + 1) ≡ lists_end index i + length (kept_bytes (cells_in N (records_at index i)))
  lists-next i h = lists_end-next index i ∙ rw (list-cells i h) (ap (λ (k : ℕ). lists_end index i + k) (sym (kept-size i h)))

  directory-from : (i k : ℕ) → i + k ≡ word_count index →
      drop (entry_place index i) index
      ≡ directory_bytes N (words_end index i) (lists_end index i) (listed (word_of index) i k) (listed (records_at index) i k)
      ++ drop (entry_place index (word_count index)) index
  unfolding listed directory_bytes
  directory-from i zero e = let f : i ≡ word_count index = omega arith in rw f
  directory-from i (suc k) e =
      let h : i < word_count index = omega arith in
      let a = entry_bytes (words_end index i) (word_of index i) (lists_end index i) (cells_in N (records_at index i)) in
      let d = directory_bytes N (words_end index (i + 1)) (lists_end index (i + 1)) (listed (word_of index) (i + 1) k) (listed (records_at index) (i + 1) k) in
      rw (← words-next i h, ← lists-next i h)
      (
      entry-step i h
      ∙ ap (λ (r : List ℕ). a ++ r) (directory-from (i + 1) k (omega arith))
      ∙ sym (append_assoc a d (drop (entry_place index (word_count index)) index))
      )

  entry_first : entry_place index 0 ≡ directory_start index
  unfolding entry_place
  entry_first = omega arith

  entry-last : entry_place index (word_count index) + 20 ≡ length index
  unfolding entry_place
  entry-last = (sound-trailer index s).total

  trailer-at : (at : ℕ) → at + 20 ≡ length index → drop at index ≡ trailer_bytes (words_start index) (directory_start index) (word_count index) N
  trailer-at at e =
      let p₀ : length index - 20 ≡ at = omega arith in
      let p₁ : length index - 16 ≡ at + 4 = omega arith in
      let p₂ : length index - 12 ≡ at + 8 = omega arith in
      let p₃ : length index - 8 ≡ at + 12 = omega arith in
      let p₄ : at + 16 ≡ length index - 4 = omega arith in
      let q : cell_at index (at + 16) ≡ 1 = ap (cell_at index) p₄ ∙ sound-edition index s in
      let f = cell_at index in
      rw (p₀, p₁, p₂, p₃)
      (
      cells-split index at b (omega arith)
      ∙ rw (drop_of_length-le index {i = at + 20} (omega arith), append-nil (cells_bytes (f at ∷ f (at + 4) ∷ f (at + 8) ∷ f (at + 12) ∷ f (at + 16) ∷ [])))
      (ap (λ (k : ℕ). cells_bytes (f at ∷ f (at + 4) ∷ f (at + 8) ∷ f (at + 12) ∷ k ∷ [])) q)
      )

  trailer-bytes : drop (entry_place index (word_count index)) index ≡ trailer_bytes (words_start index) (directory_start index) (word_count index) N
  trailer-bytes = trailer-at (entry_place index (word_count index)) entry-last

  -- ---- where the regions begin

  lists-whole : index ≡ lists_bytes N (lists_in index) ++ drop (words_start index) index
  unfolding lists_in lists_end
  lists-whole = let e = sound-ends index s in rw e.0 at (lists-from 0 (word_count index) (omega arith))

  words-whole : drop (words_start index) index ≡ words_bytes (index_words index) ++ drop (directory_start index) index
  unfolding index_words words_end
  words-whole = let e = sound-ends index s in rw e.1 at (words-from 0 (word_count index) (omega arith))

  directory-whole : drop (directory_start index) index
      ≡ directory_bytes N (words_start index) 0 (index_words index) (lists_in index) ++ trailer_bytes (words_start index) (directory_start index) (word_count index) N
  unfolding index_words lists_in words_end lists_end
  directory-whole = rw (entry_first, trailer-bytes) at (directory-from 0 (word_count index) (omega arith))

  lists-size : length (lists_bytes N (lists_in index)) ≡ words_start index
  lists-size =
      let t = sound-trailer index s in
      omega (arith, ap length lists-whole, length-append (lists_bytes N (lists_in index)) (drop (words_start index) index), length-drop (words_start index) index)

  words_size : words_start index + length (words_bytes (index_words index)) ≡ directory_start index
  words_size =
      let t = sound-trailer index s in
      omega (
        arith,
        ap length words-whole,
        length-append (words_bytes (index_words index)) (drop (directory_start index) index),
        length-drop (words_start index) index,
        length-drop (directory_start index) index,
      )

  words_count : length (index_words index) ≡ word_count index
  unfolding index_words
  words_count = listed-length (word_of index) 0 (word_count index)

  -- a sound index is the index of its N, its words and its lists' records
  pub sound-encoded : index ≡ index_of (highest index) (index_words index) (lists_in index)
  unfolding index_of
  sound-encoded =
      rw (lists-size, words_size, words_count)
      (
      lists-whole
      ∙ ap (λ (r : List ℕ). lists_bytes N (lists_in index) ++ r) (words-whole ∙ ap (λ (r : List ℕ). words_bytes (index_words index) ++ r) directory-whole)
      )

  -- ---- and of these an index is made

  word_at : (i : ℕ) → i < word_count index → get_or (index_words index) i [] ≡ word_of index i
  unfolding index_words
  word_at i h = listed_at (word_of index) 0 (word_count index) i h ∙ ap (word_of index) (omega arith)

  list_at : (i : ℕ) → i < word_count index → get_or (lists_in index) i [] ≡ records_at index i
  unfolding lists_in
  list_at i h = listed_at (records_at index) 0 (word_count index) i h ∙ ap (records_at index) (omega arith)

  words-order : (i : ℕ) → i < word_count index → before (lent_before (index_words index) i) (get_or (index_words index) i []) ≡ true
  words-order zero h = rw (word_at 0 h) (word_first (word_of index 0) (sound-word index s 0 h))
  words-order (suc i) h = rw (word_at i (omega arith), word_at (suc i) h) (words_step index s i h)

  records-some : (i : ℕ) → i < word_count index → 1 ≤ length (records_at index i)
  unfolding list_of
  records-some i h =
      let S = entry_singles index i in
      let L = entry_lowers index i in
      let U = entry_uppers index i in
      omega (
        arith,
        kept-count N S L U (sound-list index s i h),
        proper-count N (list_of index i) (list-proper index s i h),
        region-count (singles_of index i) (single_count index i) (singles-length index s i h),
        region-count (lower_of index i) (pair_count index i) (lower-length index s i h),
        (sound-entry index s i h).list-some,
      )

  lists-count : length (lists_in index) ≡ word_count index
  unfolding lists_in
  lists-count = listed-length (records_at index) 0 (word_count index)

  -- so what is read of a sound index makes it again; a build refuses it where a word is an operator with capital letters
  pub sound-indexable : Indexable false (highest index) (index_words index) (lists_in index)
  sound-indexable =
      let t = sound-trailer index s in
      let c = words_count in
      record {
        limit = t.highest-bound;
        few = omega arith;
        as_many = lists-count ∙ sym c;
        word = λ i h. let k : i < word_count index = omega arith in rw (word_at i k) (sound-word index s i k);
        order = λ i h. words-order i (omega arith);
        some = λ i h. let k : i < word_count index = omega arith in rw (list_at i k) (records-some i k);
        records = λ i h.
            let k : i < word_count index = omega arith in
            rw (list_at i k) (ascends-good (highest index) (records_at index i) (records-ascend (names (list_of index i)) (highest index)));
        size = rw (← sound-encoded) (sound-length index s).1;
      }

  -- and it has of each word just the records that its lists have, of no other any
  pub sound-reads-back : (w : List ℕ) (x : ℕ) → has index w x ≡ among (records_for (index_words index) (lists_in index) w) x
  sound-reads-back w x = ap (λ (i : List ℕ). has i w x) sound-encoded ∙ reads-back sound-indexable w x

-- ---- so two sound indexes with the same N, words and lists are the same bytes

module _ (a b : List ℕ) (same_count : word_count a ≡ word_count b) where
  words_same : ((i : ℕ) → i < word_count a → word_of a i ≡ word_of b i) → index_words a ≡ index_words b
  unfolding index_words
  words_same f = listed_same (word_of a) (word_of b) 0 (word_count a) (λ j l u. f j (omega arith)) ∙ ap (λ (k : ℕ). listed (word_of b) 0 k) same_count

  lists-same : highest a ≡ highest b → ((i x : ℕ) → i < word_count a → names (list_of a i) x ≡ names (list_of b i) x) → lists_in a ≡ lists_in b
  unfolding lists_in
  lists-same e f =
      listed_same (records_at a) (records_at b) 0 (word_count a)
      (λ j l u.
      records-same (names (list_of a j)) (names (list_of b j)) (highest a) (λ x h g. f j x (omega arith))
      ∙ ap (λ (n : ℕ). records_of (names (list_of b j)) n) e)
      ∙ ap (λ (k : ℕ). listed (records_at b) 0 k) same_count

pub one-encoding : (a b : List ℕ) → Sound a → Sound b → Below 256 a → Below 256 b → highest a ≡ highest b → word_count a ≡ word_count b →
    ((i : ℕ) → i < word_count a → word_of a i ≡ word_of b i) → ((i x : ℕ) → i < word_count a → names (list_of a i) x ≡ names (list_of b i) x) → a ≡ b
one-encoding a b s t c d en ec fw fl =
    let p = sound-encoded a s c in
    let q = sound-encoded b t d in
    let w = words_same a b ec fw in
    let l = lists-same a b ec en fl in
    let e : index_of (highest a) (index_words a) (lists_in a) ≡ index_of (highest b) (index_words b) (lists_in b) = cc in
    p ∙ e ∙ sym q
