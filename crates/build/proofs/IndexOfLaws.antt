-- What an index that is built reads as: its trailer, its entries, its words and its lists. So it is sound.
use Rattle.std.specs.Prelude.{Ok}
use mathlib.Core.Path.{◌≡◌, refl, sym, ap, ◌∙◌}
use Prim.Native.Nat.{ℕ, zero, suc, ◌+◌, ◌-◌, ◌*◌, ◌≤◌, ◌<◌}
use native.Mathlib.Omega.{arith}
use mathlib.Core.Bool.{Bool, true, false}
use mathlib.Core.List.{List, [], ◌∷◌, ◌++◌, append-nil, append_assoc}
use lib.ListN.{length, get_or, take, drop, length-append, get_or-append}
use lib.Seq.{get_or-append-add}
use borrow.Author.Tests.{eq-eqb, ne_eqb, le-ltb}
use Rattle.laws.proofs.Tests.{true-false}
use Rattle.limits.specs.Limits.{record_max, words_max}
use Rattle.word.proofs.SpellingLaws.{word_small}
use Rattle.list.specs.Interval.{is_proper, names}
use Rattle.list.specs.Cell.{cell_at, numbers_in}
use Rattle.list.specs.Among.{among}
use Rattle.list.proofs.StretchLaws.{cells-proper, cells-proper-from, cells-names}
use Rattle.list.proofs.RecordLaws.{Ascends}
use Rattle.convert.proofs.NumberLaws.{good-ascends}
use Rattle.index.specs.Format.{words_start, directory_start, word_count, highest, edition, entry_place, word_start, word_length, list_start, single_count, pair_count}
use Rattle.index.specs.Format.{list_length, words_end, lists_end, part, word_of, singles_of, lower_of, upper_of, list_of, entry_singles, entry_lowers, entry_uppers}
use Rattle.index.specs.Sound.{bad_trailer, bad_directory, bad_word, bad_entry, bad_end, bad_list, word_before, Sound}
use Rattle.index.specs.Check.{check_of}
use Rattle.index.proofs.CheckLaws.{length-good, edition-good, sound-good}
use Rattle.build.specs.Lent.{lent_before}
use Rattle.layout.specs.Layout.{cells_bytes, cell_singles, cell_lowers, cell_uppers, kept_bytes, cells_in, lists_bytes, words_bytes, directory_bytes, trailer_bytes, index_of}
use Rattle.layout.specs.Layout.{Below}
use Rattle.build.specs.ReadsBack.{Indexable}
use Rattle.layout.proofs.BytesLaws.{cell_limit, below-append, cells-below, cells-length, cells-append, cells-numbers, cell_at-behind, part-between}
use Rattle.layout.proofs.KeptBytesLaws.{kept-length, uppers-length, cells_count, parts_below, walked-cells, cells-kept}
use Rattle.layout.proofs.LayoutLaws.{words_to, words-split, words-to-next, words-to-bound, words-to-end, word_below, words-below}
use Rattle.layout.proofs.LayoutLaws.{lists_to, lists-split, lists-to-next, lists-to-bound, lists-to-end, lists-below}
use Rattle.layout.proofs.LayoutLaws.{entry_cells, directory_cells, directory-bytes, directory-length, directory-at, directory-below}

pub indexable-ascends : {every : Bool} {n : ℕ} {ws xss : List (List ℕ)} → Indexable every n ws xss → (i : ℕ) → i < length ws → Ascends n 0 (get_or xss i [])
indexable-ascends {n = n} {xss = xss} is i h = good-ascends n (get_or xss i []) (is.records i h)

-- ---- records that are some have a list that is not empty

named_some : (c : List ℕ) (x : ℕ) → names c x ≡ true → 1 ≤ length c
unfolding names
named_some [] x e = true-false (sym e)
named_some (l ∷ r) x e = omega arith

pub cells-some : (n : ℕ) (xs : List ℕ) → Ascends n 0 xs → 1 ≤ length xs → 1 ≤ length (cells_in n xs)
unfolding among
cells-some n [] a h = absurd (omega arith)
cells-some n (x ∷ xs) a h = named_some (cells_in n (x ∷ xs)) x (cells-names (among (x ∷ xs)) n x a.0 a.1 ∙ rw (eq-eqb x x refl))

-- ---- the index as bytes, then cells

abbrev trailer_cells : ℕ → ℕ → ℕ → ℕ → List ℕ
trailer_cells w d count n = w ∷ d ∷ count ∷ n ∷ 1 ∷ []

module _ (n : ℕ) (ws xss : List (List ℕ)) where
  -- where the words and the directory start
  abbrev words_first : ℕ
  words_first = length (lists_bytes n xss)

  abbrev directory_first : ℕ
  directory_first = words_first + length (words_bytes ws)

  -- the directory and the trailer
  abbrev end_cells : List ℕ
  end_cells = directory_cells n words_first 0 ws xss ++ trailer_cells words_first directory_first (length ws) n

  index-cells : index_of n ws xss ≡ (lists_bytes n xss ++ words_bytes ws) ++ cells_bytes end_cells
  unfolding index_of
  index-cells =
      let a = lists_bytes n xss in
      let b = words_bytes ws in
      rw (cells-append (directory_cells n words_first 0 ws xss) (trailer_cells words_first directory_first (length ws) n), directory-bytes n words_first 0 ws xss)
      (sym (append_assoc a b (cells_bytes (directory_cells n words_first 0 ws xss) ++ trailer_bytes words_first directory_first (length ws) n)))

  front_length : length (lists_bytes n xss ++ words_bytes ws) ≡ directory_first
  front_length = length-append (lists_bytes n xss) (words_bytes ws)

  end-length : length xss ≡ length ws → length end_cells ≡ 5 * length ws + 5
  end-length e =
      omega (
        arith,
        length-append (directory_cells n words_first 0 ws xss) (trailer_cells words_first directory_first (length ws) n),
        directory-length n words_first 0 ws xss e,
      )

  -- Reference 5.1, rule 3: the length
  pub index-length : length xss ≡ length ws → length (index_of n ws xss) ≡ directory_first + 20 * length ws + 20
  index-length e =
      rw index-cells (omega (arith, length-append (lists_bytes n xss ++ words_bytes ws) (cells_bytes end_cells), front_length, cells-length end_cells, end-length e))

module _ {every : Bool} {n : ℕ} {ws xss : List (List ℕ)} (is : Indexable every n ws xss) where
  abbrev index : List ℕ
  index = index_of n ws xss

  -- its start of the words and of the directory
  abbrev W : ℕ
  W = words_first n ws xss

  abbrev D : ℕ
  D = directory_first n ws xss

  long : length index ≡ D + 20 * length ws + 20
  long = index-length n ws xss is.as_many

  end_below : Below cell_limit (end_cells n ws xss)
  end_below =
      let h = is.size in
      let e = long in
      below-append cell_limit (directory_cells n W 0 ws xss) (trailer_cells W D (length ws) n)
      (directory-below n W 0 ws xss (omega arith) (omega arith))
      (omega arith, (omega arith, (omega arith, (omega (arith, is.limit), (omega arith, tt)))))

  cell-at : (k at : ℕ) → k < 5 * length ws + 5 → at ≡ D + 4 * k → cell_at index at ≡ get_or (end_cells n ws xss) k 0
  cell-at k at h e =
      rw (index-cells n ws xss)
      (cell_at-behind (lists_bytes n xss ++ words_bytes ws) (end_cells n ws xss) k at end_below (omega (arith, end-length n ws xss is.as_many))
      (omega (arith, front_length n ws xss)))

  -- ---- the trailer

  trailer-at : (j at : ℕ) → j < 5 → at ≡ D + 20 * length ws + 4 * j → cell_at index at ≡ get_or (trailer_cells W D (length ws) n) j 0
  trailer-at j at h e =
      let l = directory-length n W 0 ws xss is.as_many in
      cell-at (5 * length ws + j) at (omega arith) (omega arith)
      ∙ rw (← l) (get_or-append-add (directory_cells n W 0 ws xss) (trailer_cells W D (length ws) n) j 0)

  pub built-words-start : words_start index ≡ W
  built-words-start = trailer-at 0 (length index - 20) (omega arith) (omega (arith, long))

  pub built-directory-start : directory_start index ≡ D
  built-directory-start = trailer-at 1 (length index - 16) (omega arith) (omega (arith, long))

  pub built-word-count : word_count index ≡ length ws
  built-word-count = trailer-at 2 (length index - 12) (omega arith) (omega (arith, long))

  pub built-highest : highest index ≡ n
  built-highest = trailer-at 3 (length index - 8) (omega arith) (omega (arith, long))

  pub built-edition : edition index ≡ 1
  built-edition = trailer-at 4 (length index - 4) (omega arith) (omega (arith, long))

  -- ---- the entries

  entry_place_lem : (i : ℕ) → entry_place index i ≡ D + 20 * i
  unfolding entry_place
  entry_place_lem i = rw built-directory-start

  entry-cell : (i j at : ℕ) → i < length ws → j < 5 → at ≡ entry_place index i + 4 * j →
      cell_at index at ≡ get_or (entry_cells (W + words_to ws i) (get_or ws i []) (0 + lists_to n xss i) (cells_in n (get_or xss i []))) j 0
  entry-cell i j at h g e =
      let l = directory-length n W 0 ws xss is.as_many in
      cell-at (5 * i + j) at (omega arith) (omega (arith, entry_place_lem i))
      ∙ get_or-append (directory_cells n W 0 ws xss) (trailer_cells W D (length ws) n) 0 (5 * i + j) (omega arith)
      ∙ directory-at n W 0 ws xss i j is.as_many h g

  pub built-word-start : (i : ℕ) → i < length ws → word_start index i ≡ W + words_to ws i
  unfolding word_start
  built-word-start i h = entry-cell i 0 (entry_place index i) h (omega arith) (omega arith)

  pub built-word-length : (i : ℕ) → i < length ws → word_length index i ≡ length (get_or ws i [])
  unfolding word_length
  built-word-length i h = entry-cell i 1 (entry_place index i + 4) h (omega arith) (omega arith)

  pub built-list-start : (i : ℕ) → i < length ws → list_start index i ≡ lists_to n xss i
  unfolding list_start
  built-list-start i h = entry-cell i 2 (entry_place index i + 8) h (omega arith) (omega arith) ∙ omega arith

  pub built-single-count : (i : ℕ) → i < length ws → single_count index i ≡ length (cell_singles (cells_in n (get_or xss i [])))
  unfolding single_count
  built-single-count i h = entry-cell i 3 (entry_place index i + 12) h (omega arith) (omega arith)

  pub built-pair-count : (i : ℕ) → i < length ws → pair_count index i ≡ length (cell_lowers (cells_in n (get_or xss i [])))
  unfolding pair_count
  built-pair-count i h = entry-cell i 4 (entry_place index i + 16) h (omega arith) (omega arith)

  built-list-length : (i : ℕ) → i < length ws → list_length index i ≡ length (kept_bytes (cells_in n (get_or xss i [])))
  unfolding list_length
  built-list-length i h = rw (built-single-count i h, built-pair-count i h) (sym (kept-length (cells_in n (get_or xss i []))))

  -- what the entries add up to
  pub built-words-end : (i : ℕ) → i ≤ length ws → words_end index i ≡ W + words_to ws i
  unfolding words_end words_bytes
  built-words-end zero h = built-words-start ∙ omega arith
  built-words-end (suc i) h =
      omega (arith, built-words-end i (omega arith), built-word-length i (omega arith), words-to-next ws i (omega arith))

  pub built-lists-end : (i : ℕ) → i ≤ length ws → lists_end index i ≡ lists_to n xss i
  unfolding lists_end lists_bytes
  built-lists-end zero h = refl
  built-lists-end (suc i) h =
      omega (arith, built-lists-end i (omega arith), built-list-length i (omega arith), lists-to-next n xss i (omega (arith, is.as_many)))

  -- ---- the words

  pub built-word : (i : ℕ) → i < length ws → word_of index i ≡ get_or ws i []
  unfolding word_of index_of
  built-word i h =
      let a = lists_bytes n xss in
      let r = directory_bytes n W 0 ws xss ++ trailer_bytes W D (length ws) n in
      rw (built-word-start i h, built-word-length i h)
      (within a (words_bytes ws) (words_bytes (take i ws)) (get_or ws i []) (words_bytes (drop (suc i) ws)) r (words-split ws i h))
    where
      within : (a b f w t r : List ℕ) → b ≡ f ++ (w ++ t) → part (length a + length f) (length w) (a ++ (b ++ r)) ≡ w
      within a b f w t r e =
          let g : a ++ (b ++ r) ≡ (a ++ f) ++ (w ++ (t ++ r)) = rw e (simp append_assoc) in
          rw g (part-between (a ++ f) w (t ++ r) (length a + length f) (length w) (length-append a f) refl)

  -- ---- the lists

  -- the list of entry i
  abbrev pub list_at : ℕ → List ℕ
  list_at i = cells_in n (get_or xss i [])

  list-proper : (i : ℕ) → is_proper n (list_at i) ≡ true
  list-proper i = cells-proper (among (get_or xss i [])) n n (omega arith)

  abbrev behind : List ℕ
  behind = words_bytes ws ++ (directory_bytes n W 0 ws xss ++ trailer_bytes W D (length ws) n)

  -- a part of the list of entry i
  region : (i : ℕ) → i < length ws → (start size : ℕ) (f s t : List ℕ) → kept_bytes (list_at i) ≡ f ++ (s ++ t) →
      start ≡ list_start index i + length f → size ≡ length s → part start size index ≡ s
  unfolding index_of
  region i h start size f s t e p q =
      within (lists_bytes n (take i xss)) f s t (lists_bytes n (drop (suc i) xss)) behind start size (lists-split n xss i (omega (arith, is.as_many))) e
      (omega (arith, built-list-start i h)) q
    where
      within : (p f s t r b : List ℕ) (start size : ℕ) {l a : List ℕ} → l ≡ p ++ (a ++ r) → a ≡ f ++ (s ++ t) →
          start ≡ length p + length f → size ≡ length s → part start size (l ++ b) ≡ s
      within p f s t r b start size {l} {a} e g x y =
          let w : l ++ b ≡ (p ++ f) ++ (s ++ (t ++ (r ++ b))) = rw (e, g) (simp append_assoc) in
          rw w (part-between (p ++ f) s (t ++ (r ++ b)) start size (length-append p f ∙ sym x) (sym y))

  -- the bytes of its singles, lower and upper bounds
  abbrev bytes_s : ℕ → List ℕ
  bytes_s i = cells_bytes (cell_singles (list_at i))

  abbrev bytes_l : ℕ → List ℕ
  bytes_l i = cells_bytes (cell_lowers (list_at i))

  abbrev bytes_u : ℕ → List ℕ
  bytes_u i = cells_bytes (cell_uppers (list_at i))

  long-singles : (i : ℕ) → i < length ws → 4 * single_count index i ≡ length (bytes_s i)
  long-singles i h = omega (arith, cells-length (cell_singles (list_at i)), built-single-count i h)

  long-lowers : (i : ℕ) → i < length ws → 4 * pair_count index i ≡ length (bytes_l i)
  long-lowers i h = omega (arith, cells-length (cell_lowers (list_at i)), built-pair-count i h)

  pub built-singles : (i : ℕ) → i < length ws → singles_of index i ≡ cells_bytes (cell_singles (list_at i))
  unfolding singles_of kept_bytes
  built-singles i h =
      region i h (list_start index i) (4 * single_count index i) [] (bytes_s i) (bytes_l i ++ bytes_u i) (append_assoc (bytes_s i) (bytes_l i) (bytes_u i))
      (omega arith) (long-singles i h)

  pub built-lowers : (i : ℕ) → i < length ws → lower_of index i ≡ cells_bytes (cell_lowers (list_at i))
  unfolding lower_of kept_bytes
  built-lowers i h =
      region i h (list_start index i + 4 * single_count index i) (4 * pair_count index i) (bytes_s i) (bytes_l i) (bytes_u i)
      (append_assoc (bytes_s i) (bytes_l i) (bytes_u i)) (omega (arith, long-singles i h)) (long-lowers i h)

  pub built-uppers : (i : ℕ) → i < length ws → upper_of index i ≡ cells_bytes (cell_uppers (list_at i))
  unfolding upper_of kept_bytes
  built-uppers i h =
      region i h (list_start index i + 4 * single_count index i + 4 * pair_count index i) (4 * pair_count index i) (bytes_s i ++ bytes_l i) (bytes_u i) []
      (ap (λ (r : List ℕ). bytes_s i ++ bytes_l i ++ r) (sym (append-nil (bytes_u i))))
      (omega (arith, length-append (bytes_s i) (bytes_l i), long-singles i h, long-lowers i h))
      (omega (arith, built-pair-count i h, uppers-length (list_at i), cells-length (cell_uppers (list_at i))))

  below : (i : ℕ) → Below cell_limit (cell_singles (list_at i)) × Below cell_limit (cell_lowers (list_at i)) × Below cell_limit (cell_uppers (list_at i))
  below i = parts_below n cell_limit (omega (arith, is.limit)) 1 (list_at i) (cells-proper-from (among (get_or xss i [])) n n (omega arith))

  built-single-numbers : (i : ℕ) → i < length ws → entry_singles index i ≡ cell_singles (list_at i)
  built-single-numbers i h = ap numbers_in (built-singles i h) ∙ cells-numbers (cell_singles (list_at i)) (below i).0

  built-lower-numbers : (i : ℕ) → i < length ws → entry_lowers index i ≡ cell_lowers (list_at i)
  built-lower-numbers i h = ap numbers_in (built-lowers i h) ∙ cells-numbers (cell_lowers (list_at i)) (below i).1

  built-upper-numbers : (i : ℕ) → i < length ws → entry_uppers index i ≡ cell_uppers (list_at i)
  built-upper-numbers i h = ap numbers_in (built-uppers i h) ∙ cells-numbers (cell_uppers (list_at i)) (below i).2

  pub built-list : (i : ℕ) → i < length ws → list_of index i ≡ cells_in n (get_or xss i [])
  unfolding list_of
  built-list i h = rw (built-single-numbers i h, built-lower-numbers i h, built-upper-numbers i h) (walked-cells n (list_at i) (list-proper i))

  -- ---- it is sound

  list-some : (i : ℕ) → i < length ws → 1 ≤ length (cell_singles (list_at i)) + length (cell_lowers (list_at i))
  list-some i h =
      omega (
        arith,
        cells_count n 1 (list_at i) (cells-proper-from (among (get_or xss i [])) n n (omega arith)),
        cells-some n (get_or xss i []) (indexable-ascends is i h) (is.some i h),
      )

  good-trailer : bad_trailer index ≡ false
  unfolding bad_trailer
  good-trailer =
      let e = built-word-count in
      let d = built-directory-start in
      let w = built-words-start in
      rw (built-highest, e, d, w)
      (
      rw (
        le-ltb record_max n is.limit,
        le-ltb words_max (length ws) is.few,
        le-ltb D W (omega arith),
        eq-eqb (D + 20 * length ws + 20) (length index) (sym long),
      )
      )

  good-directory : (i : ℕ) → i < length ws → bad_directory index i ≡ false
  unfolding bad_directory
  good-directory i h =
      let a = built-words-end i (omega arith) in
      let b = built-lists-end i (omega arith) in
      let a' = built-words-end (i + 1) (omega arith) in
      let b' = built-lists-end (i + 1) (omega arith) in
      let c = list-some i h in
      rw (
        eq-eqb (word_start index i) (words_end index i) (built-word-start i h ∙ sym a),
        eq-eqb (list_start index i) (lists_end index i) (built-list-start i h ∙ sym b),
        ne_eqb (single_count index i + pair_count index i) 0
            (λ (e : single_count index i + pair_count index i ≡ 0). omega (arith, built-single-count i h, built-pair-count i h)),
        le-ltb (directory_start index) (words_end index (i + 1)) (omega (arith, built-directory-start, words-to-bound ws (i + 1))),
        le-ltb (words_start index) (lists_end index (i + 1)) (omega (arith, built-words-start, lists-to-bound n xss (i + 1))),
      )

  same-before : (i : ℕ) → i < length ws → word_before index i ≡ lent_before ws i
  same-before zero h = refl
  same-before (suc i) h = built-word i (omega arith)

  good-word : (i : ℕ) → i < length ws → bad_word index i ≡ false
  unfolding bad_word
  good-word i h = rw (same-before i h, built-word i h, word_small every (get_or ws i []) (is.word i h), is.order i h)

  good-entry : (i : ℕ) → i < length ws → bad_entry index i ≡ false
  unfolding bad_entry
  good-entry i h = rw (good-directory i h, good-word i h)

  good-end : bad_end index ≡ false
  unfolding bad_end
  good-end =
      let c = built-word-count in
      let a = built-lists-end (length ws) (omega arith) in
      let b = built-words-end (length ws) (omega arith) in
      let l = lists-to-end n xss in
      let m = is.as_many in
      rw c
      (
      rw (
        eq-eqb (lists_end index (length ws)) (words_start index) (a ∙ (rw (← m) l) ∙ sym built-words-start),
        eq-eqb (words_end index (length ws)) (directory_start index) (omega (arith, built-directory-start, words-to-end ws)),
      )
      )

  good-list : (i : ℕ) → i < length ws → bad_list index i ≡ false
  unfolding bad_list
  good-list i h =
      rw (built-highest, built-single-numbers i h, built-lower-numbers i h, built-upper-numbers i h, cells-kept n (list_at i) (list-proper i))

  pub built-sound : Sound index
  built-sound =
      record {
        size = length-good index (omega (arith, long)) is.size;
        edition-one = edition-good index built-edition;
        trailer = good-trailer;
        entries = λ i h. good-entry i (omega (arith, built-word-count));
        ends = good-end;
        lists = λ i h. good-list i (omega (arith, built-word-count));
      }

  pub built-good : check_of index ≡ Ok tt
  built-good = sound-good index built-sound

  pub built-below : Below 256 index
  built-below =
      rw (index-cells n ws xss)
      (
      below-append 256 (lists_bytes n xss ++ words_bytes ws) (cells_bytes (end_cells n ws xss))
      (below-append 256 (lists_bytes n xss) (words_bytes ws) (lists-below n xss) (words-below ws (λ i h. word_below every (get_or ws i []) (is.word i h))))
      (cells-below (end_cells n ws xss))
      )
