-- The walk of a kept list: it weaves the singles and the pairs into one list, each of them once. What holds of the woven list is shown by that.
use mathlib.Core.Path.{◌≡◌, refl, sym, ap}
use Prim.Native.Nat.{ℕ, zero, suc, ◌+◌, ◌*◌, ◌≤◌, ◌<◌}
use native.Mathlib.Omega.{arith}
use mathlib.Core.Bool.{Bool, true, false, cond, ◌&&◌, ◌||◌, or_assoc}
use mathlib.Core.List.{List, [], ◌∷◌}
use lib.Dec.{eqb, leb, ltb}
use lib.ListN.{length, get_or, drop}
use borrow.Author.Tests.{lt-ltb, le-ltb, ltb-true, ltb-false, leb-true, le-leb}
use Rattle.laws.proofs.Tests.{true-false, by-test, same_test, leb-both}
use Rattle.laws.proofs.Lists.{drop-next, drop-none}
use Rattle.list.specs.declared.Place.{Place}
use Rattle.list.specs.Interval.{names}
use Rattle.list.specs.Among.{among}
use Rattle.list.specs.Ginix.{one, below_count}
use Rattle.list.specs.Kept.{single_next, moved, walk_from, walked}
use Rattle.list.specs.Seek.{count_below}

-- ---- which side is next

pub single-next-is : (S L : List ℕ) (p q : ℕ) → p < length S → (q < length L → get_or S p 0 < get_or L q 0) → single_next S L p q ≡ true
single-next-is S L p q h f =
    rw (lt-ltb p (length S) h)
    (by-test (ltb q (length L)) (λ e. rw (e, lt-ltb (get_or S p 0) (get_or L q 0) (f (ltb-true q (length L) e)))) (λ e. rw e))

pub pair-next-is : (S L : List ℕ) (p q : ℕ) → q < length L → (p < length S → get_or L q 0 ≤ get_or S p 0) → single_next S L p q ≡ false
pair-next-is S L p q h f =
    by-test
    (ltb p (length S))
    (λ e. rw (e, lt-ltb q (length L) h, le-ltb (get_or S p 0) (get_or L q 0) (f (ltb-true p (length S) e))))
    (λ e. rw e)

pub single-next-left : (S L : List ℕ) (p q : ℕ) → single_next S L p q ≡ true → p < length S
single-next-left S L p q e = by-test (ltb p (length S)) (λ t. ltb-true p (length S) t) (λ t. true-false (sym (rw t at e)))

pub pair-next-left : (S L : List ℕ) (p q : ℕ) → single_next S L p q ≡ false → p ≤ length S → p + q < length S + length L → q < length L
pair-next-left S L p q e h g =
    by-test
    (ltb q (length L))
    (λ t. ltb-true q (length L) t)
    (λ t. by-test (ltb p (length S)) (λ v. true-false (rw (v, t) at e)) (λ v. let w = ltb-false p (length S) v in omega arith))

-- ---- the weaving

-- the cells of S and of the pairs of L and U, one behind the other in some order that keeps each side's own
pub data Weave : List ℕ → List ℕ → List ℕ → List ℕ → Type 0 where
  none : Weave [] [] [] []
  single : (s : ℕ) (S L U c : List ℕ) → Weave S L U c → Weave (s ∷ S) L U (s ∷ s ∷ c)
  pair : (l u : ℕ) (S L U c : List ℕ) → Weave S L U c → Weave S (l ∷ L) (u ∷ U) (l ∷ u ∷ c)

abbrev pub place_at : ℕ → ℕ → Place
place_at p q = record { p = record { 0 = p }; q = record { 0 = q } }

module _ (S L U : List ℕ) (long : length L ≡ length U) where
  weave-step : (k p q : ℕ) (t : Bool) → single_next S L p q ≡ t → p ≤ length S → p + q < length S + length L →
      (p < length S → Weave (drop (p + 1) S) (drop q L) (drop q U) (walk_from S L U (place_at (p + 1) q) k)) →
      (q < length L → Weave (drop p S) (drop (q + 1) L) (drop (q + 1) U) (walk_from S L U (place_at p (q + 1)) k)) →
      Weave (drop p S) (drop q L) (drop q U)
      (cond t (get_or S p 0) (get_or L q 0) ∷ cond t (get_or S p 0) (get_or U q 0) ∷ walk_from S L U (moved t (place_at p q)) k)
  weave-step k p q true e h g f w =
      let i = single-next-left S L p q e in
      rw (drop-next S p i) (single (get_or S p 0) (drop (p + 1) S) (drop q L) (drop q U) (walk_from S L U (place_at (p + 1) q) k) (f i))
  weave-step k p q false e h g f w =
      let i = pair-next-left S L p q e h g in
      rw (drop-next L q i, drop-next U q (omega arith))
      (pair (get_or L q 0) (get_or U q 0) (drop p S) (drop (q + 1) L) (drop (q + 1) U) (walk_from S L U (place_at p (q + 1)) k) (w i))

  pub walk-weaves : (k p q : ℕ) → p ≤ length S → q ≤ length L → p + q + k ≡ length S + length L →
      Weave (drop p S) (drop q L) (drop q U) (walk_from S L U (place_at p q) k)
  unfolding walk_from
  walk-weaves zero p q h g e =
      rw (drop-none S p (omega arith), drop-none L q (omega arith), drop-none U q (omega arith)) none
  walk-weaves (suc k) p q h g e =
      weave-step k p q (single_next S L p q) refl h (omega arith)
      (λ i. walk-weaves k (p + 1) q (omega arith) g (omega arith))
      (λ i. walk-weaves k p (q + 1) h (omega arith) (omega arith))

  pub walked-weaves : Weave S L U (walked S L U)
  unfolding walked
  walked-weaves = walk-weaves (length S + length L) 0 0 (omega arith) (omega arith) (omega arith)

-- ---- what the woven list names and counts

-- the cells of the pairs alone
unfoldable pub pairs : List ℕ → List ℕ → List ℕ
pairs [] U = []
pairs (l ∷ L) [] = []
pairs (l ∷ L) (u ∷ U) = l ∷ u ∷ pairs L U

-- how many intervals begin at b or before
unfoldable pub begun_count : ℕ → List ℕ → ℕ
begun_count b [] = 0
begun_count b (l ∷ []) = 0
begun_count b (l ∷ u ∷ r) = one (leb l b) + begun_count b r

or_swap : (a b c : Bool) → a || (b || c) ≡ b || (a || c)
or_swap true true c = refl
or_swap true false c = refl
or_swap false true c = refl
or_swap false false c = refl

leb-ltb : (l b : ℕ) → leb l b ≡ ltb l (b + 1)
leb-ltb l b =
    same_test (leb l b) (ltb l (b + 1))
    (λ e. let a = leb-true l b e in lt-ltb l (b + 1) (omega arith))
    (λ e. let a = ltb-true l (b + 1) e in le-leb l b (omega arith))

module _ (x : ℕ) where
  pub weave-names : {S L U c : List ℕ} → Weave S L U c → names c x ≡ among S x || names (pairs L U) x
  unfolding names among pairs
  weave-names none = refl
  weave-names (single s S L U c w) = rw (weave-names w, leb-both x s) (sym (or_assoc (eqb x s) (among S x) (names (pairs L U) x)))
  weave-names (pair l u S L U c w) = rw (weave-names w) (or_swap (leb l x && leb x u) (among S x) (names (pairs L U) x))

  pub weave-below : {S L U c : List ℕ} → Weave S L U c → below_count x c ≡ count_below x S + count_below x U
  unfolding below_count count_below
  weave-below none = refl
  weave-below (single s S L U c w) = let h = weave-below w in omega arith
  weave-below (pair l u S L U c w) = let h = weave-below w in omega arith

  pub weave-begun : {S L U c : List ℕ} → Weave S L U c → begun_count x c ≡ count_below (x + 1) S + count_below (x + 1) L
  unfolding begun_count count_below
  weave-begun none = refl
  weave-begun (single s S L U c w) = let h = weave-begun w in let e = ap one (leb-ltb s x) in omega arith
  weave-begun (pair l u S L U c w) = let h = weave-begun w in let e = ap one (leb-ltb l x) in omega arith

pub weave-length : {S L U c : List ℕ} → Weave S L U c → length c ≡ 2 * (length S + length L)
weave-length none = refl
weave-length (single s S L U c w) = let h = weave-length w in omega arith
weave-length (pair l u S L U c w) = let h = weave-length w in omega arith

-- ---- the same of the walk

module _ (S L U : List ℕ) (long : length L ≡ length U) where
  pub walked-names : (x : ℕ) → names (walked S L U) x ≡ among S x || names (pairs L U) x
  walked-names x = weave-names x (walked-weaves S L U long)

  pub walked-below : (a : ℕ) → below_count a (walked S L U) ≡ count_below a S + count_below a U
  walked-below a = weave-below a (walked-weaves S L U long)

  pub walked-begun : (b : ℕ) → begun_count b (walked S L U) ≡ count_below (b + 1) S + count_below (b + 1) L
  walked-begun b = weave-begun b (walked-weaves S L U long)

  pub walked-length : length (walked S L U) ≡ 2 * (length S + length L)
  walked-length = weave-length (walked-weaves S L U long)
