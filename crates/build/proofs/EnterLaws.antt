-- Words entered one by one, each with its list: what is to be written is what is left to write, one word on; and all of it, with the trailer, is the index.
use mathlib.Core.Path.{◌≡◌, refl, sym, ap, ◌∙◌}
use Prim.Native.Nat.{ℕ, ◌+◌, ◌-◌, ◌*◌, ◌≤◌, ◌<◌, max}
use native.Mathlib.Omega.{arith}
use mathlib.Core.List.{List, [], ◌∷◌, ◌++◌}
use lib.ListN.{length, get_or, take, drop, length-append}
use lib.Seq.{sets}
use Rattle.laws.proofs.Tests.{leb-cases}
use Rattle.laws.proofs.Lists.{sets-append, sets-front}
use Rattle.limits.specs.Limits.{record_max}
use Rattle.convert.specs.Convert.{intervals_of}
use Rattle.layout.specs.declared.entry.Spots.{Spots}
use Rattle.build.specs.Lent.{words_from, lent_words, sum_to, lists_from}
use Rattle.layout.specs.Layout.{kept_bytes, lists_bytes, words_bytes, directory_bytes, trailer_bytes, index_of}
use Rattle.layout.specs.Laid.{entered, entered_to, EnteredWithin}
use Rattle.build.specs.Passes.{all_entered, AllWithin}
use Rattle.layout.proofs.BytesLaws.{cells-length}
use Rattle.layout.proofs.LayoutLaws.{directory_cells, directory-bytes, directory-length}
use Rattle.build.proofs.WordsLaws.{next_word, last_word}
use Rattle.build.proofs.CountLaws.{sum-next, sum-first-none}
use Rattle.build.proofs.ListsLaws.{lists-next, lists-none}
use Rattle.layout.proofs.WriteLaws.{index_plan, index-entered}
use Rattle.parts.specs.Part.{part_length}
use Rattle.list.specs.Front.{in_front}

-- ---- one word

module _ {at : Spots} {w : List ℕ} {ws : List (List ℕ)} {xs : List ℕ} {xss : List (List ℕ)} {room : ℕ} (is : AllWithin at (w ∷ ws) (xs ∷ xss) room) where
  abbrev c : List ℕ
  c = intervals_of xs

  entered-within : EnteredWithin at w c room
  unfolding lists_bytes words_bytes
  entered-within =
      let l = length-append (kept_bytes c) (lists_bytes record_max xss) in
      let b = length-append w (words_bytes ws) in
      record { list = omega arith; bytes = omega arith; entry = omega arith; small = omega arith }

  within_on : AllWithin (entered_to at w c) ws xss room
  unfolding lists_bytes words_bytes
  within_on =
      let l = length-append (kept_bytes c) (lists_bytes record_max xss) in
      let b = length-append w (words_bytes ws) in
      record { lists = omega arith; words = omega arith; entries = omega arith; small = omega arith; as_many = omega arith }

  entered_on : (out : List ℕ) → all_entered out at (w ∷ ws) (xs ∷ xss) ≡ all_entered (entered out at w c) (entered_to at w c) ws xss
  entered_on out = index-entered record_max out at w ws xs xss is.lists is.words

-- ---- the pass

-- i words are entered, and what is left of the words and of the numbers begins at start and first
pub record Entering (words counts numbers : List ℕ) (room : ℕ) (at : Spots) (start first i : ℕ) : Type 0 where
  pub word : start ≤ length words
  pub count : i ≤ length counts
  pub number : first ≡ sum_to counts i
  pub left : i + length (words_from [] (drop start words)) ≡ length counts
  pub within : AllWithin at (words_from [] (drop start words)) (lists_from (drop i counts) (drop first numbers)) room

pub enter-start : {words counts numbers : List ℕ} {room : ℕ} {at : Spots} → length (lent_words words) ≡ length counts →
    AllWithin at (lent_words words) (lists_from counts numbers) room → Entering words counts numbers room at 0 0 0
unfolding lent_words
enter-start {counts = counts} e w =
    record { word = omega arith; count = omega arith; number = sum-first-none counts; left = omega arith; within = w }

module _ {words counts numbers : List ℕ} {room : ℕ} {at : Spots} {start first i : ℕ} (is : Entering words counts numbers room at start first i) where
  -- what is to be written from here on
  abbrev pub left_from : List ℕ → List ℕ
  left_from out = all_entered out at (words_from [] (drop start words)) (lists_from (drop i counts) (drop first numbers))

  pub enter-end : length counts ≤ i → (out : List ℕ) → left_from out ≡ out
  unfolding lists_bytes words_bytes directory_bytes
  enter-end h out = rw (lists-none counts (drop first numbers) i h, nothing (words_from [] (drop start words)) (omega (arith, is.left, is.count)))
    where
      nothing : (ws : List (List ℕ)) → length ws ≡ 0 → ws ≡ []
      nothing [] e = refl
      nothing (w ∷ ws) e = absurd (omega arith)

  module _ {end last : ℕ} (e : end ≡ start + part_length 10 (drop start words)) (g : end ≤ max start (length words)) (l : last ≡ first + get_or counts i 0)
      (h : i < length counts) where
    -- the word is ended, since a word is left
    pub word-ended : end < length words
    word-ended =
        leb-cases (length words) end
        (λ p. let n = (last_word words e is.word (omega arith)).0 in absurd (omega (arith, ap (λ (ws : List (List ℕ)). length ws) n, is.left)))
        (λ p. p)

    abbrev word : List ℕ
    word = take (end - start) (drop start words)

    abbrev list : List ℕ
    list = take (last - first) (drop first numbers)

    abbrev ws : List (List ℕ)
    ws = words_from [] (drop (end + 1) words)

    abbrev xss : List (List ℕ)
    xss = lists_from (drop (i + 1) counts) (drop last numbers)

    word-is : words_from [] (drop start words) ≡ word ∷ ws
    word-is = (next_word words e is.word word-ended).0

    list-is : lists_from (drop i counts) (drop first numbers) ≡ list ∷ xss
    list-is = lists-next counts numbers i first h l

    here : AllWithin at (word ∷ ws) (list ∷ xss) room
    here = rw (word-is, list-is) at is.within

    pub enter-within : EnteredWithin at word (intervals_of list) room
    enter-within = entered-within here

    pub enter-on : Entering words counts numbers room (entered_to at word (intervals_of list)) (end + 1) last (i + 1)
    enter-on =
        record {
          word = omega (arith, word-ended);
          count = omega arith;
          number = l ∙ rw is.number (sym (sum-next counts i));
          left = omega (arith, is.left, ap (λ (ws : List (List ℕ)). length ws) word-is);
          within = within_on here;
        }

    pub enter-left : (out : List ℕ) → left_from out ≡ all_entered (entered out at word (intervals_of list)) (entered_to at word (intervals_of list)) ws xss
    enter-left out = rw (word-is, list-is) (entered_on here out)

-- ---- all of it

module _ (n : ℕ) (ws xss : List (List ℕ)) (as_many : length xss ≡ length ws) where
  abbrev W : ℕ
  W = length (lists_bytes n xss)

  abbrev D : ℕ
  D = W + length (words_bytes ws)

  directory-size : length (directory_bytes n W 0 ws xss) ≡ 20 * length ws
  directory-size =
      ap length (directory-bytes n W 0 ws xss)
      ∙ omega (arith, cells-length (directory_cells n W 0 ws xss), directory-length n W 0 ws xss as_many)

  -- the three regions from their starts, and the trailer behind them
  pub index-written : (out : List ℕ) → length (index_of n ws xss) ≤ length out →
      sets (index_plan n out (record { list = 0; word = W; entry = D }) ws xss) (D + 20 * length ws) (trailer_bytes W D (length ws) n)
      ≡ in_front (index_of n ws xss) out
  unfolding index_of
  index-written out h =
      let A = lists_bytes n xss in
      let B = words_bytes ws in
      let C = directory_bytes n W 0 ws xss in
      let T = trailer_bytes W D (length ws) n in
      let p : 0 + length A ≡ W = omega arith in
      sym
      (
      sym (sets-front (index_of n ws xss) out h)
      ∙ sets-append out 0 A (B ++ (C ++ T))
      ∙ ap (λ (k : ℕ). sets (sets out 0 A) k (B ++ (C ++ T))) p
      ∙ sets-append (sets out 0 A) W B (C ++ T)
      ∙ sets-append (sets (sets out 0 A) W B) D C T
      ∙ ap (λ (k : ℕ). sets (sets (sets (sets out 0 A) W B) D C) (D + k) T) directory-size
      )
