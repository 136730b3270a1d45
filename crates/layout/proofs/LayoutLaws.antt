-- Where word i, list i and entry i stand in what is written: behind those of the words and lists before them.
use mathlib.Core.Path.{◌≡◌, refl, sym, ap, ◌∙◌}
use Prim.Native.Nat.{ℕ, zero, suc, ◌+◌, ◌*◌, ◌≤◌, ◌<◌}
use native.Mathlib.Omega.{arith}
use mathlib.Core.List.{List, [], ◌∷◌, ◌++◌, append_assoc}
use mathlib.Core.Logic.{⊎_elim}
use mathlib.Core.Bool.{Bool, true, not, ◌&&◌, ◌||◌}
use lib.Dec.{leb}
use lib.ListN.{length, get_or, take, drop, length-append, get_or-append}
use lib.Seq.{take-length, get_or-append-add}
use borrow.Author.Tests.{leb-true}
use Rattle.laws.proofs.Tests.{and_both, or-either}
use Rattle.word.specs.Word.{between, is_word_byte, all_word_bytes, is_barred, is_word}
use Rattle.layout.specs.Layout.{cells_bytes, cell_singles, cell_lowers, kept_bytes, cells_in, lists_bytes, words_bytes, entry_bytes, directory_bytes}
use Rattle.layout.specs.Layout.{Below}
use Rattle.layout.proofs.BytesLaws.{cell_limit, below-append, cells-append}
use Rattle.layout.proofs.KeptBytesLaws.{kept-length, kept-below}

-- ---- words

-- what the first i words take
abbrev pub words_to : List (List ℕ) → ℕ → ℕ
words_to ws i = length (words_bytes (take i ws))

pub words-split : (ws : List (List ℕ)) (i : ℕ) → i < length ws →
    words_bytes ws ≡ words_bytes (take i ws) ++ (get_or ws i [] ++ words_bytes (drop (suc i) ws))
unfolding words_bytes
words-split [] i h = absurd (omega arith)
words-split (w ∷ ws) zero h = refl
words-split (w ∷ ws) (suc i) h =
    ap (λ (r : List ℕ). w ++ r) (words-split ws i (omega arith)) ∙ sym (append_assoc w (words_bytes (take i ws)) (get_or ws i [] ++ words_bytes (drop (suc i) ws)))

pub words-to-next : (ws : List (List ℕ)) (i : ℕ) → i < length ws → words_to ws (suc i) ≡ words_to ws i + length (get_or ws i [])
unfolding words_bytes
words-to-next [] i h = absurd (omega arith)
words-to-next (w ∷ ws) zero h = simp length-append (omega arith)
words-to-next (w ∷ ws) (suc i) h = simp length-append (omega (arith, words-to-next ws i (omega arith)))

pub words-to-bound : (ws : List (List ℕ)) (i : ℕ) → words_to ws i ≤ length (words_bytes ws)
unfolding words_bytes
words-to-bound ws zero = omega arith
words-to-bound [] (suc i) = omega arith
words-to-bound (w ∷ ws) (suc i) = simp length-append (omega (arith, words-to-bound ws i))

pub words-to-end : (ws : List (List ℕ)) → words_to ws (length ws) ≡ length (words_bytes ws)
words-to-end ws = rw (take-length ws)

-- ---- lists

module _ (n : ℕ) where
  -- what the first i lists take
  abbrev pub lists_to : List (List ℕ) → ℕ → ℕ
  lists_to xss i = length (lists_bytes n (take i xss))

  pub lists-split : (xss : List (List ℕ)) (i : ℕ) → i < length xss →
      lists_bytes n xss ≡ lists_bytes n (take i xss) ++ (kept_bytes (cells_in n (get_or xss i [])) ++ lists_bytes n (drop (suc i) xss))
  unfolding lists_bytes
  lists-split [] i h = absurd (omega arith)
  lists-split (xs ∷ xss) zero h = refl
  lists-split (xs ∷ xss) (suc i) h =
      ap (λ (r : List ℕ). kept_bytes (cells_in n xs) ++ r) (lists-split xss i (omega arith))
      ∙ sym (append_assoc (kept_bytes (cells_in n xs)) (lists_bytes n (take i xss)) (kept_bytes (cells_in n (get_or xss i [])) ++ lists_bytes n (drop (suc i) xss)))

  pub lists-to-next : (xss : List (List ℕ)) (i : ℕ) → i < length xss → lists_to xss (suc i) ≡ lists_to xss i + length (kept_bytes (cells_in n (get_or xss i [])))
  unfolding lists_bytes
  lists-to-next [] i h = absurd (omega arith)
  lists-to-next (xs ∷ xss) zero h = simp length-append (omega arith)
  lists-to-next (xs ∷ xss) (suc i) h = simp length-append (omega (arith, lists-to-next xss i (omega arith)))

  pub lists-to-bound : (xss : List (List ℕ)) (i : ℕ) → lists_to xss i ≤ length (lists_bytes n xss)
  unfolding lists_bytes
  lists-to-bound xss zero = omega arith
  lists-to-bound [] (suc i) = omega arith
  lists-to-bound (xs ∷ xss) (suc i) = simp length-append (omega (arith, lists-to-bound xss i))

  pub lists-to-end : (xss : List (List ℕ)) → lists_to xss (length xss) ≡ length (lists_bytes n xss)
  lists-to-end xss = rw (take-length xss)

-- ---- the directory

abbrev pub entry_cells : ℕ → List ℕ → ℕ → List ℕ → List ℕ
entry_cells word_at w list_at c = word_at ∷ length w ∷ list_at ∷ length (cell_singles c) ∷ length (cell_lowers c) ∷ []

-- the directory as cells
unfoldable pub directory_cells : ℕ → ℕ → ℕ → List (List ℕ) → List (List ℕ) → List ℕ
directory_cells n word_at list_at [] xss = []
directory_cells n word_at list_at (w ∷ ws) [] = []
directory_cells n word_at list_at (w ∷ ws) (xs ∷ xss) =
    entry_cells word_at w list_at (cells_in n xs)
    ++ directory_cells n (word_at + length w) (list_at + length (kept_bytes (cells_in n xs))) ws xss

entry-same : (a b d e : ℕ) (w c : List ℕ) → a ≡ d → b ≡ e → (j : ℕ) → get_or (entry_cells a w b c) j 0 ≡ get_or (entry_cells d w e c) j 0
entry-same a b d e w c p q j = let f : entry_cells a w b c ≡ entry_cells d w e c = cc in ap (λ (r : List ℕ). get_or r j 0) f

module _ (n : ℕ) where
  pub directory-bytes : (a b : ℕ) (ws xss : List (List ℕ)) → directory_bytes n a b ws xss ≡ cells_bytes (directory_cells n a b ws xss)
  unfolding directory_bytes directory_cells cells_bytes
  directory-bytes a b [] xss = refl
  directory-bytes a b (w ∷ ws) [] = refl
  directory-bytes a b (w ∷ ws) (xs ∷ xss) =
      let i = directory-bytes (a + length w) (b + length (kept_bytes (cells_in n xs))) ws xss in
      ap (λ (r : List ℕ). entry_bytes a w b (cells_in n xs) ++ r) i
      ∙ sym (cells-append (entry_cells a w b (cells_in n xs)) (directory_cells n (a + length w) (b + length (kept_bytes (cells_in n xs))) ws xss))

  pub directory-length : (a b : ℕ) (ws xss : List (List ℕ)) → length xss ≡ length ws → length (directory_cells n a b ws xss) ≡ 5 * length ws
  unfolding directory_cells
  directory-length a b [] xss e = refl
  directory-length a b (w ∷ ws) [] e = absurd (omega arith)
  directory-length a b (w ∷ ws) (xs ∷ xss) e = omega (arith, directory-length (a + length w) (b + length (kept_bytes (cells_in n xs))) ws xss (omega arith))

  pub directory-at : (a b : ℕ) (ws xss : List (List ℕ)) (i j : ℕ) → length xss ≡ length ws → i < length ws → j < 5 →
      get_or (directory_cells n a b ws xss) (5 * i + j) 0
      ≡ get_or (entry_cells (a + words_to ws i) (get_or ws i []) (b + lists_to n xss i) (cells_in n (get_or xss i []))) j 0
  unfolding directory_cells words_bytes lists_bytes
  directory-at a b [] xss i j e h g = absurd (omega arith)
  directory-at a b (w ∷ ws) [] i j e h g = absurd (omega arith)
  directory-at a b (w ∷ ws) (xs ∷ xss) zero j e h g =
      let c = cells_in n xs in
      let z : 5 * 0 + j ≡ j = omega arith in
      rw z
      (
      get_or-append (entry_cells a w b c) (directory_cells n (a + length w) (b + length (kept_bytes c)) ws xss) 0 j g
      ∙ entry-same a b (a + words_to (w ∷ ws) 0) (b + lists_to n (xs ∷ xss) 0) w c (omega arith) (omega arith) j
      )
  directory-at a b (w ∷ ws) (xs ∷ xss) (suc i) j e h g =
      let c = cells_in n xs in
      let a' = a + length w in
      let b' = b + length (kept_bytes c) in
      let z : 5 * suc i + j ≡ length (entry_cells a w b c) + (5 * i + j) = omega arith in
      rw z
      (
      get_or-append-add (entry_cells a w b c) (directory_cells n a' b' ws xss) (5 * i + j) 0
      ∙ directory-at a' b' ws xss i j (omega arith) (omega arith) g
      ∙ entry-same (a' + words_to ws i) (b' + lists_to n xss i) (a + words_to (w ∷ ws) (suc i)) (b + lists_to n (xs ∷ xss) (suc i)) (get_or ws i [])
      (cells_in n (get_or xss i []))
      (omega (arith, length-append w (words_bytes (take i ws)))) (omega (arith, length-append (kept_bytes c) (lists_bytes n (take i xss)))) j
      )

  pub directory-below : (a b : ℕ) (ws xss : List (List ℕ)) → a + length (words_bytes ws) < cell_limit → b + length (lists_bytes n xss) < cell_limit →
      Below cell_limit (directory_cells n a b ws xss)
  unfolding directory_cells words_bytes lists_bytes
  directory-below a b [] xss h g = tt
  directory-below a b (w ∷ ws) [] h g = tt
  directory-below a b (w ∷ ws) (xs ∷ xss) h g =
      let c = cells_in n xs in
      let p = length-append w (words_bytes ws) in
      let q = length-append (kept_bytes c) (lists_bytes n xss) in
      let k = kept-length c in (
        omega arith,
        (
          omega arith,
          (
            omega arith,
            (omega arith, (omega arith, directory-below (a + length w) (b + length (kept_bytes c)) ws xss (omega arith) (omega arith))),
          ),
        ),
      )

-- ---- all that is written is bytes

byte-below : (b : ℕ) → is_word_byte b ≡ true → b < 256
unfolding is_word_byte
byte-below b e =
    ⊎_elim
    (λ d. ⊎_elim (λ c. within 48 57 c (omega arith)) (λ c. within 65 90 c (omega arith)) (or-either (between 48 57 b) (between 65 90 b) d))
    (λ d. within 97 122 d (omega arith))
    (or-either (between 48 57 b || between 65 90 b) (between 97 122 b) e)
  where
    within : (l u : ℕ) → between l u b ≡ true → u < 256 → b < 256
    within l u c h = let g = leb-true b u (and_both (leb l b) (leb b u) c).1 in omega arith

bytes_below : (w : List ℕ) → all_word_bytes w ≡ true → Below 256 w
unfolding all_word_bytes
bytes_below [] e = tt
bytes_below (b ∷ w) e = let p = and_both (is_word_byte b) (all_word_bytes w) e in (byte-below b p.0, bytes_below w p.1)

pub word_below : (every : Bool) (w : List ℕ) → is_word every w ≡ true → Below 256 w
unfolding is_word
word_below every w e =
    let p = and_both (between 1 32 (length w) && all_word_bytes w) (not (is_barred every w)) e in
    bytes_below w (and_both (between 1 32 (length w)) (all_word_bytes w) p.0).1

pub words-below : (ws : List (List ℕ)) → ((i : ℕ) → i < length ws → Below 256 (get_or ws i [])) → Below 256 (words_bytes ws)
unfolding words_bytes
words-below [] f = tt
words-below (w ∷ ws) f = below-append 256 w (words_bytes ws) (f 0 (omega arith)) (words-below ws (λ i h. f (suc i) (omega arith)))

pub lists-below : (n : ℕ) (xss : List (List ℕ)) → Below 256 (lists_bytes n xss)
unfolding lists_bytes
lists-below n [] = tt
lists-below n (xs ∷ xss) = below-append 256 (kept_bytes (cells_in n xs)) (lists_bytes n xss) (kept-below (cells_in n xs)) (lists-below n xss)
