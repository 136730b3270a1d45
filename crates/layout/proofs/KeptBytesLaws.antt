-- A proper list taken apart into singles and pairs is kept, and the walk puts it together again; and a kept list is what its walk is taken apart into.
use mathlib.Core.Path.{◌≡◌, refl, sym, ap, ◌∙◌}
use Prim.Native.Nat.{ℕ, zero, suc, ◌+◌, ◌*◌, ◌≤◌, ◌<◌}
use native.Mathlib.Omega.{arith}
use mathlib.Core.Bool.{Bool, true, false, cond}
use mathlib.Core.List.{List, [], ◌∷◌, ◌++◌}
use lib.Dec.{eqb, ltb}
use lib.ListN.{length, get_or, drop, length-append}
use borrow.Author.Tests.{eqb-true, eqb-false, eq-eqb, ne_eqb, lt-ltb, ltb-true}
use Rattle.laws.proofs.Tests.{and_both, both-and, leb-cases}
use Rattle.laws.proofs.Lists.{drop-next}
use Rattle.list.specs.Interval.{is_proper}
use Rattle.list.specs.Kept.{single_next, moved, walk_from, walked, are_longer, is_kept}
use Rattle.list.proofs.ProperLaws.{ProperFrom, proper-facts}
use Rattle.list.proofs.KeptLaws.{longer-long}
use Rattle.list.proofs.WalkLaws.{single-next-is, pair-next-is, place_at, Weave, none, single, pair, walked-weaves}
use Rattle.layout.specs.Layout.{cells_bytes, cell_singles, cell_lowers, cell_uppers, kept_bytes}
use Rattle.layout.specs.Layout.{Below}
use Rattle.layout.proofs.BytesLaws.{Next, next_of, cells-length, cells-below, below-append}

-- ---- how many there are

uppers-step : (l u : ℕ) (t : Bool) (ls us : List ℕ) → length us ≡ length ls → length (cond t us (u ∷ us)) ≡ length (cond t ls (l ∷ ls))
uppers-step l u true ls us e = e
uppers-step l u false ls us e = ap suc e

pub uppers-length : (c : List ℕ) → length (cell_uppers c) ≡ length (cell_lowers c)
unfolding cell_lowers cell_uppers
uppers-length [] = refl
uppers-length (l ∷ []) = refl
uppers-length (l ∷ u ∷ r) = uppers-step l u (eqb l u) (cell_lowers r) (cell_uppers r) (uppers-length r)

count-step : (l : ℕ) (t : Bool) (ss ls r : List ℕ) → length r ≡ 2 * (length ss + length ls) →
    suc (suc (length r)) ≡ 2 * (length (cond t (l ∷ ss) ss) + length (cond t ls (l ∷ ls)))
count-step l true ss ls r e = omega arith
count-step l false ss ls r e = omega arith

pub cells_count : (n k : ℕ) (c : List ℕ) → ProperFrom n k c → length c ≡ 2 * (length (cell_singles c) + length (cell_lowers c))
unfolding cell_singles cell_lowers
cells_count n k [] p = refl
cells_count n k (l ∷ u ∷ r) p = count-step l (eqb l u) (cell_singles r) (cell_lowers r) r (cells_count n (u + 2) r p.3)
cells_count n k (l ∷ []) p = elim p [ ]

-- Reference 3.4: the bytes of a kept list
pub kept-length : (c : List ℕ) → length (kept_bytes c) ≡ 4 * (length (cell_singles c) + 2 * length (cell_lowers c))
unfolding kept_bytes
kept-length c =
    simp (length-append, cells-length) (omega (arith, uppers-length c))

pub kept-below : (c : List ℕ) → Below 256 (kept_bytes c)
unfolding kept_bytes
kept-below c =
    below-append 256 (cells_bytes (cell_singles c) ++ cells_bytes (cell_lowers c)) (cells_bytes (cell_uppers c))
    (below-append 256 (cells_bytes (cell_singles c)) (cells_bytes (cell_lowers c)) (cells-below (cell_singles c)) (cells-below (cell_lowers c)))
    (cells-below (cell_uppers c))

-- ---- how large they are

below-cond : (m x : ℕ) (t : Bool) (xs : List ℕ) → x < m → Below m xs → Below m (cond t (x ∷ xs) xs) × Below m (cond t xs (x ∷ xs))
below-cond m x true xs h b = ((h, b), b)
below-cond m x false xs h b = (b, (h, b))

pub parts_below : (n m : ℕ) → n < m → (k : ℕ) (c : List ℕ) → ProperFrom n k c → Below m (cell_singles c) × Below m (cell_lowers c) × Below m (cell_uppers c)
unfolding cell_singles cell_lowers cell_uppers
parts_below n m h k [] p = (tt, tt, tt)
parts_below n m h k (l ∷ u ∷ r) p =
    let w = parts_below n m h (u + 2) r p.3 in (
      (below-cond m l (eqb l u) (cell_singles r) (omega arith) w.0).0,
      (below-cond m l (eqb l u) (cell_lowers r) (omega arith) w.1).1,
      (below-cond m u (eqb l u) (cell_uppers r) (omega arith) w.2).1,
    )
parts_below n m h k (l ∷ []) p = elim p [ ]

-- ---- where they begin

abbrev HeadFrom : ℕ → List ℕ → Type 0
HeadFrom k [] = Unit {0}
HeadFrom k (x ∷ xs) = k ≤ x

head-weaker : (j k : ℕ) (xs : List ℕ) → j ≤ k → HeadFrom k xs → HeadFrom j xs
head-weaker j k [] h p = tt
head-weaker j k (x ∷ xs) h p = omega arith

head-cond : (k m x : ℕ) (t : Bool) (xs : List ℕ) → k ≤ x → k ≤ m → HeadFrom m xs → HeadFrom k (cond t (x ∷ xs) xs) × HeadFrom k (cond t xs (x ∷ xs))
head-cond k m x true xs h g p = (h, head-weaker k m xs g p)
head-cond k m x false xs h g p = (head-weaker k m xs g p, h)

heads : (n k : ℕ) (c : List ℕ) → ProperFrom n k c → HeadFrom k (cell_singles c) × HeadFrom k (cell_lowers c)
unfolding cell_singles cell_lowers
heads n k [] p = (tt, tt)
heads n k (l ∷ u ∷ r) p =
    let w = heads n (u + 2) r p.3 in (
      (head-cond k (u + 2) l (eqb l u) (cell_singles r) p.0 (omega arith) w.0).0,
      (head-cond k (u + 2) l (eqb l u) (cell_lowers r) p.0 (omega arith) w.1).1,
    )
heads n k (l ∷ []) p = elim p [ ]

head_at : (k q : ℕ) (xs : List ℕ) → q < length xs → HeadFrom k (drop q xs) → k ≤ get_or xs q 0
head_at k q xs h p = rw (drop-next xs q h) at p

-- ---- the walk puts them together

module _ (n : ℕ) (S L U : List ℕ) where
  walk_step : (k l u : ℕ) (r : List ℕ) (m p q : ℕ) (t : Bool) → eqb l u ≡ t → ProperFrom n k (l ∷ u ∷ r) →
      drop p S ≡ cond t (l ∷ cell_singles r) (cell_singles r) → drop q L ≡ cond t (cell_lowers r) (l ∷ cell_lowers r) →
      drop q U ≡ cond t (cell_uppers r) (u ∷ cell_uppers r) →
      ((p q : ℕ) → drop p S ≡ cell_singles r → drop q L ≡ cell_lowers r → drop q U ≡ cell_uppers r → walk_from S L U (place_at p q) m ≡ r) →
      ◌≡◌ {A = List ℕ}
      (cond (single_next S L p q) (get_or S p 0) (get_or L q 0)
      ∷ cond (single_next S L p q) (get_or S p 0) (get_or U q 0)
      ∷ walk_from S L U (moved (single_next S L p q) (place_at p q)) m)
      (l ∷ u ∷ r)
  walk_step k l u r m p q true d w es el eu ih =
      let s : Next 0 S p l (cell_singles r) = next_of 0 es in
      let e : l ≡ u = eqb-true l u d in
      let f : single_next S L p q ≡ true =
      single-next-is S L p q s.below (λ g. let b = head_at (u + 2) q L g (rw el (heads n (u + 2) r w.3).1) in omega (arith, s.is)) in
      rw (f, s.is, e, ih (p + 1) q s.rest el eu)
  walk_step k l u r m p q false d w es el eu ih =
      let a : Next 0 L q l (cell_lowers r) = next_of 0 el in
      let b : Next 0 U q u (cell_uppers r) = next_of 0 eu in
      let f : single_next S L p q ≡ false =
      pair-next-is S L p q a.below (λ g. let h = head_at (u + 2) p S g (rw es (heads n (u + 2) r w.3).0) in omega (arith, a.is)) in
      rw (f, a.is, b.is, ih p (q + 1) es a.rest b.rest)

  walk-cells : (k : ℕ) (c : List ℕ) (m p q : ℕ) → 2 * m ≡ length c → ProperFrom n k c → drop p S ≡ cell_singles c → drop q L ≡ cell_lowers c →
      drop q U ≡ cell_uppers c →
      walk_from S L U (place_at p q) m ≡ c
  unfolding walk_from cell_singles cell_lowers cell_uppers
  walk-cells k [] zero p q e w es el eu = refl
  walk-cells k [] (suc m) p q e w es el eu = absurd (omega arith)
  walk-cells k (l ∷ u ∷ r) zero p q e w es el eu = absurd (omega arith)
  walk-cells k (l ∷ u ∷ r) (suc m) p q e w es el eu =
      walk_step k l u r m p q (eqb l u) refl w es el eu (λ p q fs fl fu. walk-cells (u + 2) r m p q (omega arith) w.3 fs fl fu)
  walk-cells k (l ∷ []) m p q e w es el eu = elim w [ ]

pub walked-cells : (n : ℕ) (c : List ℕ) → is_proper n c ≡ true → walked (cell_singles c) (cell_lowers c) (cell_uppers c) ≡ c
unfolding walked is_proper
walked-cells n c e =
    let p = proper-facts n 1 c e in
    walk-cells n (cell_singles c) (cell_lowers c) (cell_uppers c) 1 c (length (cell_singles c) + length (cell_lowers c)) 0 0
    (sym (cells_count n 1 c p)) p refl refl refl

-- ---- what is longer than one

longer-step : (l u : ℕ) (t : Bool) (ls us : List ℕ) → eqb l u ≡ t → l ≤ u → are_longer ls us ≡ true → are_longer (cond t ls (l ∷ ls)) (cond t us (u ∷ us)) ≡ true
unfolding are_longer
longer-step l u true ls us d h e = e
longer-step l u false ls us d h e = rw (lt-ltb l u (leb-cases u l (λ g. absurd (eqb-false l u d (omega arith))) (λ g. g))) e

pub cells-longer : (n k : ℕ) (c : List ℕ) → ProperFrom n k c → are_longer (cell_lowers c) (cell_uppers c) ≡ true
unfolding are_longer cell_lowers cell_uppers
cells-longer n k [] p = refl
cells-longer n k (l ∷ u ∷ r) p = longer-step l u (eqb l u) (cell_lowers r) (cell_uppers r) refl p.1 (cells-longer n (u + 2) r p.3)
cells-longer n k (l ∷ []) p = elim p [ ]

proper-longer : (n : ℕ) (c : List ℕ) → is_proper n c ≡ true → are_longer (cell_lowers c) (cell_uppers c) ≡ true
unfolding is_proper
proper-longer n c e = cells-longer n 1 c (proper-facts n 1 c e)

pub cells-kept : (n : ℕ) (c : List ℕ) → is_proper n c ≡ true → is_kept n (cell_singles c) (cell_lowers c) (cell_uppers c) ≡ true
unfolding is_kept
cells-kept n c e =
    both-and (are_longer (cell_lowers c) (cell_uppers c)) (is_proper n (walked (cell_singles c) (cell_lowers c) (cell_uppers c)))
    (proper-longer n c e)
    (ap (is_proper n) (walked-cells n c e) ∙ e)

-- ---- back: what the walk of a kept list is taken apart into

abbrev Apart : List ℕ → List ℕ → List ℕ → List ℕ → Type 0
Apart S L U c = (cell_singles c ≡ S) × (cell_lowers c ≡ L) × (cell_uppers c ≡ U)

weave-apart : {S L U c : List ℕ} → Weave S L U c → are_longer L U ≡ true → Apart S L U c
unfolding cell_singles cell_lowers cell_uppers are_longer
weave-apart none e = (refl, refl, refl)
weave-apart (single s S L U c w) e =
    let i = weave-apart w e in
    rw (eq-eqb s s refl) (ap (λ (r : List ℕ). s ∷ r) i.0, i.1, i.2)
weave-apart (pair l u S L U c w) e =
    let b = and_both (ltb l u) (are_longer L U) e in
    let i = weave-apart w b.1 in
    let h : l < u = ltb-true l u b.0 in
    rw (ne_eqb l u (λ (q : l ≡ u). omega arith)) (i.0, ap (λ (r : List ℕ). l ∷ r) i.1, ap (λ (r : List ℕ). u ∷ r) i.2)

pub kept-apart : (n : ℕ) (S L U : List ℕ) → is_kept n S L U ≡ true →
    (cell_singles (walked S L U) ≡ S) × (cell_lowers (walked S L U) ≡ L) × (cell_uppers (walked S L U) ≡ U)
unfolding is_kept
kept-apart n S L U e =
    let b = and_both (are_longer L U) (is_proper n (walked S L U)) e in
    weave-apart (walked-weaves S L U (longer-long L U b.0)) b.0
