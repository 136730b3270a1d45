-- The rules of one entry, by the tests that the code makes.
use Prim.Native.Nat.{ℕ, ◌+◌, ◌-◌, ◌*◌, ◌≤◌}
use mathlib.Core.Path.{◌≡◌, refl, sym, ap, ◌∙◌}
use native.Mathlib.Omega.{arith}
use mathlib.Core.Bool.{Bool, true, false, not, ◌&&◌, ◌||◌, not-not}
use mathlib.Core.List.{List}
use lib.Dec.{eqb, leb, ltb}
use lib.ListN.{length, take, drop}
use borrow.Author.Tests.{le-leb, lt-leb, lt-ltb, le-ltb}
use Rattle.laws.proofs.Tests.{or-neither, leb-cases}
use Rattle.std.specs.Ordering.{is_lt}
use Rattle.word.specs.Word.{before, is_word, order_of}
use Rattle.word.proofs.WordLaws.{before-less}
use Rattle.list.specs.Cell.{numbers_in}
use Rattle.list.specs.Kept.{is_kept}
use Rattle.index.specs.declared.trailer.Trailer.{Trailer}
use Rattle.index.specs.declared.entry.Entry.{Entry}
use Rattle.index.specs.Format.{word_start, list_start, single_count, pair_count, word_length, list_length, words_end, lists_end, words_start, directory_start, highest, word_of, singles_of, lower_of, upper_of, entry_singles, entry_lowers, entry_uppers}
use Rattle.index.specs.Read.{TrailerOf, Framed, EntryCells}
use Rattle.index.specs.Sound.{bad_directory, bad_word, bad_entry, bad_list, word_before}
use Rattle.index.proofs.SoundLaws.{words_end-next, lists_end-next, directory-facts}

-- a test that answers whether a rule holds, refused and passed
pub told-bad : (good bad : Bool) → good ≡ not bad → good ≡ false → bad ≡ true
told-bad good bad e h = sym (not-not bad) ∙ ap not (sym e ∙ h)

pub told-good : (good bad : Bool) → good ≡ not bad → good ≡ true → bad ≡ false
told-good good bad e h = sym (not-not bad) ∙ ap not (sym e ∙ h)

not-ltb : (a b : ℕ) → leb b a ≡ not (ltb a b)
not-ltb a b =
    leb-cases b a (λ h. le-leb b a h ∙ sym (ap not (le-ltb a b h))) (λ h. lt-leb b a h ∙ sym (ap not (lt-ltb a b h)))

none_of : (a b c d e : Bool) → a && b && not c && not d && not e ≡ not (not a || not b || c || d || e)
none_of true true true d e = refl
none_of true true false true e = refl
none_of true true false false e = refl
none_of true false c d e = refl
none_of false b c d e = refl

pub directory-rule : (index : List ℕ) (i : ℕ) (t : Trailer) (e : Entry) (words lists : ℕ) → TrailerOf index t → EntryCells index i e →
    words ≡ words_end index i → lists ≡ lists_end index i →
    eqb e.word_start words
    && eqb e.list_start lists
    && not (eqb (e.singles + e.pairs) 0)
    && leb (words + e.word_length) t.directory
    && leb (lists + 4 * (e.singles + 2 * e.pairs)) t.words
    ≡ not (bad_directory index i)
unfolding bad_directory list_length
directory-rule index i t e words lists is of w l =
    rw (w, l, words_end-next index i, lists_end-next index i, of.word-start, of.word-length, of.list-start, of.singles, of.pairs, is.directory, is.words)
    (
    rw (
      not-ltb (directory_start index) (words_end index i + word_length index i),
      not-ltb (words_start index) (lists_end index i + 4 * (single_count index i + 2 * pair_count index i)),
    )
    (
    none_of (eqb (word_start index i) (words_end index i)) (eqb (list_start index i) (lists_end index i)) (eqb (single_count index i + pair_count index i) 0)
    (ltb (directory_start index) (words_end index i + word_length index i))
    (ltb (words_start index) (lists_end index i + 4 * (single_count index i + 2 * pair_count index i)))
    )
    )

pub word-rule : (index : List ℕ) (i : ℕ) → bad_word index i ≡ not (is_word false (word_of index i) && before (word_before index i) (word_of index i))
unfolding bad_word
word-rule index i = go (is_word false (word_of index i)) (before (word_before index i) (word_of index i))
  where
    go : (a b : Bool) → not a || not b ≡ not (a && b)
    go true b = refl
    go false b = refl

-- of a word, the comparison with the word before it decides
pub word_told : (every : Bool) (prior word : List ℕ) → is_word every word ≡ true → is_word every word && before prior word ≡ is_lt (order_of prior word)
word_told every prior word h = rw (h, before-less prior word)

-- the three parts that are handed on are the regions of entry i's list
pub list-rule : (index : List ℕ) (i : ℕ) (e : Entry) (limit : ℕ) → EntryCells index i e → limit ≡ highest index →
    is_kept limit
    (numbers_in (take (e.list_start + 4 * e.singles - e.list_start) (drop e.list_start index)))
    (numbers_in (take (e.list_start + 4 * e.singles + 4 * e.pairs - (e.list_start + 4 * e.singles)) (drop (e.list_start + 4 * e.singles) index)))
    (numbers_in
    (take (e.list_start + 4 * e.singles + 4 * e.pairs + 4 * e.pairs - (e.list_start + 4 * e.singles + 4 * e.pairs))
    (drop (e.list_start + 4 * e.singles + 4 * e.pairs) index)))
    ≡ not (bad_list index i)
unfolding bad_list singles_of lower_of upper_of
list-rule index i e limit of l =
    let x = e.list_start in
    let a : x + 4 * e.singles - x ≡ 4 * e.singles = omega arith in
    let b : x + 4 * e.singles + 4 * e.pairs - (x + 4 * e.singles) ≡ 4 * e.pairs = omega arith in
    let c : x + 4 * e.singles + 4 * e.pairs + 4 * e.pairs - (x + 4 * e.singles + 4 * e.pairs) ≡ 4 * e.pairs = omega arith in
    rw (a, b, c, of.list-start, of.singles, of.pairs, l)
    (sym (not-not (is_kept (highest index) (entry_singles index i) (entry_lowers index i) (entry_uppers index i))))

pub list-room : (index : List ℕ) (t : Trailer) (i : ℕ) (e : Entry) → Framed index t → EntryCells index i e → bad_entry index i ≡ false →
    e.list_start + 4 * e.singles + 8 * e.pairs ≤ length index
unfolding bad_entry list_length
list-room index t i e f of h =
    let d = directory-facts index i (or-neither (bad_directory index i) (bad_word index i) h).0 in
    let l = lists_end-next index i in
    omega arith
