-- What a kept list says from x on, at the place of x: a single at x, a pair that has begun, or nothing before the next of either side.
use mathlib.Core.Path.{◌≡◌, refl, sym, ◌∙◌}
use mathlib.Core.Logic.{◌⊎◌, inl, inr}
use Prim.Native.Nat.{ℕ, zero, suc, ◌+◌, ◌/◌, ◌≤◌, ◌<◌, min}
use native.Mathlib.Omega.{arith}
use mathlib.Core.Bool.{true, false, ◌&&◌, and-false, or-true}
use mathlib.Core.List.{List, [], ◌∷◌}
use lib.Dec.{eqb, leb}
use lib.ListN.{length, get_or}
use borrow.Author.Tests.{lt-ltb, le-ltb, le-leb, lt-leb, eq-eqb, ne_eqb}
use Rattle.laws.proofs.Tests.{leb-cases}
use Rattle.limits.specs.Limits.{record_max}
use Rattle.list.specs.Interval.{names}
use Rattle.list.specs.Among.{among}
use Rattle.list.specs.Cell.{numbers_in}
use Rattle.list.specs.Kept.{walked}
use Rattle.list.specs.Seek.{count_below, Ascends}
use Rattle.list.specs.Sense.{Steady, number_or_end}
use Rattle.list.proofs.CellLaws.{numbers_in-length}
use Rattle.list.proofs.SeekLaws.{count-length, count_under, count-passed, count-ahead}
use Rattle.list.proofs.WalkLaws.{pairs, walked-names}
use Rattle.list.proofs.KeptLaws.{Kept}

-- the numbers from place i on reach x, where there are any
next-count : (xs : List ℕ) (x i : ℕ) → Ascends xs → (i < length xs → x ≤ get_or xs i 0) → count_below x xs ≤ i
next-count xs x i p f =
    leb-cases (length xs) i (λ h. let l = count-length x xs in omega arith) (λ h. count_under 0 x xs p i h (f h))

-- ---- a number among others, and a number in a pair

pub among-at : (xs : List ℕ) (y i : ℕ) → i < length xs → get_or xs i 0 ≡ y → among xs y ≡ true
unfolding among
among-at [] y i h e = absurd (omega arith)
among-at (x ∷ xs) y zero h e = rw (eq-eqb y x (sym e))
among-at (x ∷ xs) y (suc i) h e = rw (among-at xs y i (omega arith) e) (or-true (eqb y x))

pub among_none : (xs : List ℕ) (y : ℕ) → ((i : ℕ) → i < length xs → get_or xs i 0 ≡ y → ⊥) → among xs y ≡ false
unfolding among
among_none [] y f = refl
among_none (x ∷ xs) y f =
    rw (ne_eqb y x (λ e. f 0 (omega arith) (sym e))) (among_none xs y (λ i h e. f (suc i) (omega arith) e))

pub names_at : (L U : List ℕ) (y i : ℕ) → length L ≡ length U → i < length L → get_or L i 0 ≤ y → y ≤ get_or U i 0 → names (pairs L U) y ≡ true
unfolding names pairs
names_at [] U y i e h a b = absurd (omega arith)
names_at (l ∷ L) [] y i e h a b = absurd (omega arith)
names_at (l ∷ L) (u ∷ U) y zero e h a b = rw (le-leb l y a, le-leb y u b)
names_at (l ∷ L) (u ∷ U) y (suc i) e h a b = rw (names_at L U y i (omega arith) (omega arith) a b) (or-true (leb l y && leb y u))

outside : (l u y : ℕ) → (y < l) ⊎ (u < y) → leb l y && leb y u ≡ false
outside l u y (inl h) = rw (lt-leb l y h)
outside l u y (inr h) = rw (lt-leb y u h) (and-false (leb l y))

pub names-none : (L U : List ℕ) (y : ℕ) → ((i : ℕ) → i < length L → (y < get_or L i 0) ⊎ (get_or U i 0 < y)) → names (pairs L U) y ≡ false
unfolding names pairs
names-none [] U y f = refl
names-none (l ∷ L) [] y f = refl
names-none (l ∷ L) (u ∷ U) y f = rw (outside l u y (f 0 (omega arith))) (names-none L U y (λ i h. f (suc i) (omega arith)))

-- ---- from x on

pub number_is : (xs : List ℕ) (i : ℕ) → i < length xs → number_or_end xs i ≡ get_or xs i 0
number_is xs i h = rw (lt-ltb i (length xs) h)

pub end_is : (xs : List ℕ) (i : ℕ) → length xs ≤ i → number_or_end xs i ≡ record_max + 1
end_is xs i h = rw (le-ltb i (length xs) h)

-- of a region
pub number_in : (region : List ℕ) (i : ℕ) → i < length region / 4 → number_or_end (numbers_in region) i ≡ get_or (numbers_in region) i 0
number_in region i h = number_is (numbers_in region) i (omega (arith, numbers_in-length region))

pub end-in : (region : List ℕ) (i : ℕ) → length region / 4 ≤ i → number_or_end (numbers_in region) i ≡ record_max + 1
end-in region i h = end_is (numbers_in region) i (omega (arith, numbers_in-length region))

-- a number that a record may have is not the one behind the last
pub number-inside : (xs : List ℕ) (i x : ℕ) → number_or_end xs i ≤ x → x ≤ record_max → i < length xs
number-inside xs i x h m = leb-cases (length xs) i (λ g. absurd (let e = end_is xs i g in omega arith)) (λ g. g)

-- so where r is what is next and not past x, it stands in the region
pub number-found : (xs : List ℕ) (i x r : ℕ) → r ≡ number_or_end xs i → r ≤ x → x ≤ record_max → (i < length xs) × (get_or xs i 0 ≤ x)
number-found xs i x r e h m =
    let g = number-inside xs i x (omega arith) m in
    let v = number_is xs i g in
    (g, omega arith)

end-near : (xs : List ℕ) (i : ℕ) → ((j : ℕ) → j < length xs → get_or xs j 0 ≤ record_max) → number_or_end xs i ≤ record_max + 1
end-near xs i f =
    leb-cases (length xs) i (λ h. let e = end_is xs i h in omega arith) (λ h. let e = number_is xs i h in let g = f i h in omega arith)

module _ (S L U : List ℕ) (n x : ℕ) (k : Kept n S L U) where
  -- no single up to the next
  singles-clear : (y : ℕ) → x ≤ y → (count_below x S < length S → y < get_or S (count_below x S) 0) → among S y ≡ false
  singles-clear y h f =
      among_none S y
      (λ i g e. leb-cases (count_below x S) i
      (λ a.
      let c = next-count S (y + 1) (count_below x S) k.singles-ascend (λ w. let b = f w in omega arith) in
      let d = count-ahead 0 (y + 1) S k.singles-ascend i g (omega arith) in
      absurd (omega arith))
      (λ a. let d = count-passed 0 x S k.singles-ascend i a in absurd (omega arith)))

  -- no pair that has begun, up to the next
  pairs-clear : (y : ℕ) → x ≤ y → (count_below x U < length L → y < get_or L (count_below x U) 0) → names (pairs L U) y ≡ false
  pairs-clear y h f =
      names-none L U y
      (λ i g. leb-cases (count_below x U) i
      (λ a.
      let c = next-count L (y + 1) (count_below x U) k.lower-ascend (λ w. let b = f w in omega arith) in
      let d = count-ahead 0 (y + 1) L k.lower-ascend i g (omega arith) in
      inl (omega arith))
      (λ a. inr (let d = count-passed 0 x U k.upper-ascend i a in omega arith)))

  pub sense-single : n ≤ record_max → count_below x S < length S → get_or S (count_below x S) 0 ≤ x → Steady (names (walked S L U)) x true (x + 1)
  sense-single m h g =
      let a = count-ahead 0 x S k.singles-ascend (count_below x S) h (omega arith) in
      let b = k.single-at (count_below x S) h in
      record {
        later = omega arith;
        near = omega arith;
        same = λ y l u. walked-names S L U k.long y ∙ rw (among-at S y (count_below x S) h (omega arith));
      }

  pub sense-pair : n ≤ record_max → count_below x U < length L → get_or L (count_below x U) 0 ≤ x →
      Steady (names (walked S L U)) x true (get_or U (count_below x U) 0 + 1)
  sense-pair m h g =
      let long = k.long in
      let a = count-ahead 0 x U k.upper-ascend (count_below x U) (omega arith) (omega arith) in
      let b = k.pair-at (count_below x U) h in
      record {
        later = omega arith;
        near = omega arith;
        same = λ y l u. walked-names S L U k.long y ∙ rw (names_at L U y (count_below x U) k.long h (omega arith) (omega arith)) (or-true (among S y));
      }

  -- s and l are what is next on each side
  pub sense-none : (s l : ℕ) → s ≡ number_or_end S (count_below x S) → l ≡ number_or_end L (count_below x U) → n ≤ record_max → x < s → x < l →
      Steady (names (walked S L U)) x false (min s l)
  sense-none s l es el m hs hl =
      record {
        later = omega arith;
        near = let a = end-near S (count_below x S) (λ i h. let b = k.single-at i h in omega arith) in omega arith;
        same = λ y a b.
            walked-names S L U k.long y
            ∙ rw (
              singles-clear y a (λ h. let e = number_is S (count_below x S) h in omega arith),
              pairs-clear y a (λ h. let e = number_is L (count_below x U) h in omega arith),
            );
      }
