-- N and what an index has of each word determine its bytes: two sound indexes that agree in these are the same.
use Rattle.std.specs.Prelude.{Result, Ok, Err}
use mathlib.Core.Path.{◌≡◌, refl, sym, ap, ◌∙◌}
use Prim.Native.Nat.{ℕ, zero, suc, ◌≤◌, ◌<◌}
use native.Mathlib.Omega.{arith}
use mathlib.Core.Bool.{true}
use mathlib.Core.List.{List, [], ◌∷◌}
use lib.ListN.{length, get_or, take}
use Rattle.laws.proofs.Tests.{true-false, leb-cases}
use Rattle.word.proofs.WordLaws.{before-irreflexive}
use Rattle.list.specs.Interval.{is_proper, names}
use Rattle.list.specs.Among.{among}
use Rattle.list.proofs.ProperLaws.{ProperFrom, proper-facts}
use Rattle.list.proofs.NamesLaws.{names_in}
use Rattle.list.proofs.CellLaws.{numbers_in-length}
use Rattle.list.proofs.WalkLaws.{walked-length}
use Rattle.list.proofs.KeptLaws.{kept-facts}
use Rattle.index.specs.Format.{word_count, highest, word_of, singles_of, lower_of, list_of, entry_singles, entry_lowers, entry_uppers}
use Rattle.index.specs.Sound.{Sound}
use Rattle.directory.specs.Has.{has}
use Rattle.directory.specs.Standing.{word_place, standing_of}
use Rattle.index.proofs.SoundLaws.{words_step, sound-entry, sound-list, singles-length, lower-length}
use Rattle.directory.proofs.HasLaws.{has-entry, list-proper}
use Rattle.directory.proofs.StandingLaws.{below-down, entry_place_lem, stands_at, absent-has}
use Rattle.build.specs.Lent.{lent_words, lists_from}
use Rattle.build.specs.Build.{Builds}
use Rattle.layout.specs.Layout.{Below}
use Rattle.build.specs.ReadsBack.{records_for}
use Rattle.build.proofs.BuildLaws.{build-sound, build-highest, build-has, build-below}
use Rattle.build.proofs.EncodingLaws.{one-encoding}

-- ---- a list names its first cell

named-from : (n k : ℕ) (c : List ℕ) → ProperFrom n k c → 1 ≤ length c → names c (get_or c 0 0) ≡ true
named-from n k [] p h = absurd (omega arith)
named-from n k (l ∷ u ∷ r) p h = names_in l u l r (omega arith) p.1
named-from n k (l ∷ []) p h = elim p [ ]

first-named : (n : ℕ) (c : List ℕ) → is_proper n c ≡ true → 1 ≤ length c → names c (get_or c 0 0) ≡ true
unfolding is_proper
first-named n c e h = named-from n 1 c (proper-facts n 1 c e) h

list-some : (index : List ℕ) → Sound index → (i : ℕ) → i < word_count index → 1 ≤ length (list_of index i)
unfolding list_of
list-some index s i h =
    let S = entry_singles index i in
    let L = entry_lowers index i in
    let U = entry_uppers index i in
    omega (
      arith,
      walked-length S L U (kept-facts (highest index) S L U (sound-list index s i h)).long,
      numbers_in-length (singles_of index i),
      numbers_in-length (lower_of index i),
      singles-length index s i h,
      lower-length index s i h,
      (sound-entry index s i h).list-some,
    )

-- ---- the words of one index among those of another

module _ (a b : List ℕ) (s : Sound a) (t : Sound b) (agree : (w : List ℕ) (x : ℕ) → has a w x ≡ has b w x) where
  -- where the word of a's entry i stands in b
  abbrev place_in : ℕ → ℕ
  place_in i = word_place b (word_of a i)

  word-there : (i : ℕ) → i < word_count a → (place_in i < word_count b) × (word_of b (place_in i) ≡ word_of a i)
  word-there i h = go (standing_of b (word_of a i)) refl
    where
      go : (found : Result ℕ ℕ) → standing_of b (word_of a i) ≡ found → (place_in i < word_count b) × (word_of b (place_in i) ≡ word_of a i)
      go (Ok j) e = let w = stands_at b t (word_of a i) (Ok j) e in rw (entry_place_lem b t (word_of a i) j w.1 w.2) (w.1, w.2)
      go (Err p) e =
          let x = get_or (list_of a i) 0 0 in
          let some = first-named (highest a) (list_of a i) (list-proper a s i h) (list-some a s i h) in
          true-false (sym some ∙ sym (has-entry a s (word_of a i) i x h refl) ∙ agree (word_of a i) x ∙ absent-has b t (word_of a i) p x e)

  -- places rise with the words
  place-rises : (i : ℕ) → suc i < word_count a → place_in i < place_in (suc i)
  place-rises i h =
      leb-cases (place_in (suc i)) (place_in i)
      (λ l.
      let p = word-there i (omega arith) in
      let q = word-there (suc i) h in
      let w = below-down b t (word_of a (suc i)) (place_in i) (place_in (suc i)) p.0 (rw p.1 (words_step a s i h)) l in
      true-false (sym (rw q.1 at w) ∙ before-irreflexive (word_of a (suc i))))
      (λ l. l)

  place-least : (i : ℕ) → i < word_count a → i ≤ place_in i
  place-least zero h = omega arith
  place-least (suc i) h = omega (arith, place-least i (omega arith), place-rises i h)

module _ (a b : List ℕ) (s : Sound a) (t : Sound b) (agree : (w : List ℕ) (x : ℕ) → has a w x ≡ has b w x) where
  place_same : (i : ℕ) → i < word_count a → word_place b (word_of a i) ≡ i
  place_same i h =
      let p = word-there a b s t agree i h in
      let l = place-least a b s t agree i h in
      let m = place-least b a t s (λ w x. sym (agree w x)) (word_place b (word_of a i)) p.0 in
      let e : word_place a (word_of b (word_place b (word_of a i))) ≡ i = ap (word_place a) p.1 ∙ entry_place_lem a s (word_of a i) i h refl in
      omega arith

  word_same : (i : ℕ) → i < word_count a → (i < word_count b) × (word_of b i ≡ word_of a i)
  word_same i h = let e = place_same i h in rw e at (word-there a b s t agree i h)

  count-least : word_count a ≤ word_count b
  count-least =
      leb-cases (word_count a) (word_count b) (λ h. h) (λ h. let p = word_same (word_count b) h in absurd (omega (arith, p.0)))

  list_same : (i x : ℕ) → i < word_count a → names (list_of a i) x ≡ names (list_of b i) x
  list_same i x h =
      let p = word_same i h in
      sym (has-entry a s (word_of a i) i x h refl) ∙ agree (word_of a i) x ∙ has-entry b t (word_of a i) i x p.0 p.1

pub has-determines : (a b : List ℕ) → Sound a → Sound b → Below 256 a → Below 256 b → highest a ≡ highest b → ((w : List ℕ) (x : ℕ) → has a w x ≡ has b w x) →
    a ≡ b
has-determines a b s t c d e f =
    let p = count-least a b s t f in
    let q = count-least b a t s (λ w x. sym (f w x)) in
    one-encoding a b s t c d e (omega arith) (λ i h. sym (word_same a b s t f i h).1) (list_same a b s t f)

-- so a build from an index's N and its words' records gives that index again, byte for byte
pub build-again : (index : List ℕ) → Sound index → Below 256 index → (words counts numbers out out' : List ℕ) (size : ℕ) →
    Builds (highest index) words counts numbers out out' (Ok size) →
    ((w : List ℕ) (x : ℕ) → among (records_for (lent_words words) (lists_from counts numbers) w) x ≡ has index w x) → take size out' ≡ index
build-again index s b words counts numbers out out' size done f =
    has-determines (take size out') index (build-sound done) s (build-below done) b (build-highest done) (λ w x. build-has done w x ∙ f w x)
