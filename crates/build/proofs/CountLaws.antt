-- One count, and the list of one count: when each is bad, as the passes over counts and numbers find it.
use Rattle.std.specs.Prelude.{Some, None}
use mathlib.Core.Path.{◌≡◌, refl, sym, ap, ◌∙◌}
use Prim.Native.Nat.{ℕ, zero, suc, ◌+◌, ◌-◌, ◌≤◌, ◌<◌}
use native.Mathlib.Omega.{arith}
use native.Mathlib.Numerals.{add-one}
use mathlib.Core.Logic.{◌⊎◌, inl, inr}
use mathlib.Core.Bool.{Bool, true, false, or-true}
use mathlib.Core.List.{List}
use lib.Dec.{eqb}
use lib.ListN.{length, get_or, take, drop}
use lib.Seq.{get_or-take, get_or-drop}
use borrow.Author.Tests.{eq-eqb, ne_eqb, le-leb, lt-leb, lt-ltb, le-ltb}
use Rattle.laws.proofs.Tests.{leb-cases}
use Rattle.refusal.specs.First.{first}
use Rattle.refusal.proofs.FirstLaws.{first-none, first-none-is, first-at, first-is}
use Rattle.convert.specs.Convert.{number_before, bad_number}
use Rattle.index.specs.Format.{part}
use Rattle.index.proofs.SoundLaws.{part_length}
use Rattle.build.specs.Lent.{sum_to, bad_count, bad_rest, begins_list, listed_before, bad_listed}
use Rattle.build.specs.Passes.{Fair}
use Rattle.build.proofs.LentLaws.{LentCount, lent-count, lent-rest, begins-not}

-- ---- one count

pub sum-next : (counts : List ℕ) (i : ℕ) → sum_to counts (i + 1) ≡ sum_to counts i + get_or counts i 0
unfolding sum_to
sum-next counts i = rw (add-one i)

pub sum-first-none : (counts : List ℕ) → 0 ≡ sum_to counts 0
unfolding sum_to
sum-first-none counts = refl

pub sum-none : (counts : List ℕ) (total : ℕ) → sum_to counts 0 + total ≡ total
unfolding sum_to
sum-none counts total = omega arith

module _ (counts : List ℕ) (total i : ℕ) where
  pub count-missing : length counts ≤ i → bad_count counts total i ≡ true
  unfolding bad_count
  count-missing h = rw (le-leb (length counts) i h)

  pub count-bad : (left : ℕ) → i < length counts → sum_to counts i + left ≡ total →
      (get_or counts i 0 ≡ 0) ⊎ ((get_or counts i 0 ≡ 0 → ⊥) × left < get_or counts i 0) → bad_count counts total i ≡ true
  unfolding bad_count
  count-bad left h s (inl e) = rw (lt-leb (length counts) i h, eq-eqb (get_or counts i 0) 0 e)
  count-bad left h s (inr w) =
      let g = w.1 in
      rw (lt-leb (length counts) i h, ne_eqb (get_or counts i 0) 0 w.0, lt-ltb total (sum_to counts (i + 1)) (omega (arith, sum-next counts i)))

  pub count-good : (left : ℕ) → i < length counts → (get_or counts i 0 ≡ 0 → ⊥) → sum_to counts i + left ≡ total → get_or counts i 0 ≤ left →
      bad_count counts total i ≡ false
  unfolding bad_count
  count-good left h e s g =
      rw (lt-leb (length counts) i h, ne_eqb (get_or counts i 0) 0 e, le-ltb total (sum_to counts (i + 1)) (omega (arith, sum-next counts i)))

module _ (counts : List ℕ) (total words : ℕ) where
  pub rest-bad : (left : ℕ) → sum_to counts words + left ≡ total → (words < length counts) ⊎ (length counts ≤ words × 0 < left) →
      bad_rest counts total words ≡ true
  unfolding bad_rest
  rest-bad left s (inl h) = rw (lt-ltb words (length counts) h)
  rest-bad left s (inr w) = let g = w.1 in rw (le-ltb words (length counts) w.0, lt-ltb (sum_to counts words) total (omega arith))

  pub rest-none : (left : ℕ) → length counts ≤ words → sum_to counts words + left ≡ total → left ≤ 0 → bad_rest counts total words ≡ false
  unfolding bad_rest
  rest-none left h s g = rw (le-ltb words (length counts) h, le-ltb (sum_to counts words) total (omega arith))

-- ---- one list

begins-here : (counts : List ℕ) (words i : ℕ) → i < words → begins_list counts words (sum_to counts i) ≡ true
unfolding begins_list
begins-here counts zero i h = absurd (omega arith)
begins-here counts (suc w) i h =
    leb-cases w i
    (λ g. let e : w ≡ i = omega arith in rw (e, eq-eqb (sum_to counts i) (sum_to counts i) refl))
    (λ g. rw (begins-here counts w i g) (or-true (eqb (sum_to counts w) (sum_to counts i))))

module _ (n : ℕ) (counts numbers : List ℕ) (i : ℕ) (h : i < length counts) where
  abbrev begin : ℕ
  begin = sum_to counts i

  abbrev xs : List ℕ
  xs = part begin (get_or counts i 0) numbers

  listed-first : (s : ℕ) → s ≡ begin → listed_before counts (length counts) numbers s ≡ 0
  listed-first zero e = refl
  listed-first (suc s) e = rw (e, begins-here counts (length counts) i h)

  listed-before : (k : ℕ) → k < get_or counts i 0 → listed_before counts (length counts) numbers (begin + k) ≡ number_before xs k
  unfolding sum_to
  listed-before zero g = let e : begin + 0 ≡ begin = omega arith in rw e (listed-first begin refl)
  listed-before (suc k) g =
      let e : begin + suc k ≡ suc (begin + k) = omega arith in
      rw (
        e,
        begins-not counts (length counts) i (suc (begin + k)) (omega arith) (omega arith),
        get_or-take (get_or counts i 0) (drop begin numbers) k 0 (omega arith),
        get_or-drop begin numbers k 0,
      )

  -- a number of the list is bad where it is bad in the list alone
  pub listed-alone : (k : ℕ) → k < get_or counts i 0 → bad_listed n counts (length counts) numbers (begin + k) ≡ bad_number n xs k
  unfolding bad_listed bad_number
  listed-alone k g =
      rw (listed-before k g, get_or-take (get_or counts i 0) (drop begin numbers) k 0 g, get_or-drop begin numbers k 0)

  -- none of the list is bad where none of all is
  pub list-none : begin + get_or counts i 0 ≤ length numbers → first (bad_listed n counts (length counts) numbers) (length numbers) ≡ None →
      first (bad_number n xs) (length xs) ≡ None
  list-none r e =
      let l = part_length begin (get_or counts i 0) numbers r in
      first-none-is (bad_number n xs) (length xs)
      (λ k g. sym (listed-alone k (omega arith)) ∙ first-none (bad_listed n counts (length counts) numbers) (length numbers) e (begin + k) (omega arith))

-- ---- the pass over the lists

-- the list of count i, by where it begins and ends
pub list-part : (counts numbers : List ℕ) (i start end : ℕ) → start ≡ sum_to counts i → end ≡ start + get_or counts i 0 →
    take (end - start) (drop start numbers) ≡ part (sum_to counts i) (get_or counts i 0) numbers
list-part counts numbers i start end s e = let f : end - start ≡ get_or counts i 0 = omega arith in rw (f, s)

pub fair-count : {counts : List ℕ} {total : ℕ} → Fair counts total → (i : ℕ) → i < length counts → LentCount counts total i
fair-count {counts} {total} is i h = lent-count counts total i (first-none (bad_count counts total) (length counts) is.each i h)

module _ (n : ℕ) (counts numbers : List ℕ) (is : Fair counts (length numbers)) where
  abbrev bad : ℕ → Bool
  bad = bad_listed n counts (length counts) numbers

  module _ (i : ℕ) {start end : ℕ} (h : i < length counts) (s : start ≡ sum_to counts i) (e : end ≡ start + get_or counts i 0) where
    abbrev list : List ℕ
    list = take (end - start) (drop start numbers)

    list-is : list ≡ part (sum_to counts i) (get_or counts i 0) numbers
    list-is = list-part counts numbers i start end s e

    list_length : length list ≡ get_or counts i 0
    list_length = ap length list-is ∙ part_length (sum_to counts i) (get_or counts i 0) numbers (fair-count is i h).room

    at_place : (j : ℕ) → start ≤ j → j < end → bad j ≡ bad_number n list (j - start)
    at_place j l g =
        let f : j ≡ sum_to counts i + (j - start) = omega arith in
        ap bad f ∙ rw list-is (listed-alone n counts numbers i h (j - start) (omega arith))

    pub list_hit : (k : ℕ) → first (bad_number n list) (length list) ≡ Some k → ((j : ℕ) → j < start → bad j ≡ false) → first bad (length numbers) ≡ Some (start + k)
    list_hit k f g =
        let w = first-at (bad_number n list) k (length list) f in
        let c = fair-count is i h in
        let d : start + k - start ≡ k = omega arith in
        first-is bad (start + k) (length numbers)
        (
        record {
          below = omega (arith, w.below, list_length, c.room);
          holds = at_place (start + k) (omega arith) (omega (arith, w.below, list_length)) ∙ rw d w.holds;
          before = λ j l. leb-cases start j
              (λ p. at_place j p (omega (arith, w.below, list_length)) ∙ w.before (j - start) (omega arith))
              (λ p. g j p);
        }
        )

    pub list_on : first (bad_number n list) (length list) ≡ None → ((j : ℕ) → j < start → bad j ≡ false) → (j : ℕ) → j < end → bad j ≡ false
    list_on f g j l =
        leb-cases start j
        (λ p. at_place j p l ∙ first-none (bad_number n list) (length list) f (j - start) (omega (arith, list_length)))
        (λ p. g j p)

  pub lists-end : (i start : ℕ) → length counts ≤ i → i ≤ length counts → start ≡ sum_to counts i → ((j : ℕ) → j < start → bad j ≡ false) →
      first bad (length numbers) ≡ None
  lists-end i start h g s f =
      let q : i ≡ length counts = omega arith in
      let t : start ≡ sum_to counts (length counts) = s ∙ ap (sum_to counts) q in
      let r = (lent-rest counts (length numbers) (length counts) is.all).1 in
      first-none-is bad (length numbers) (λ j l. f j (omega arith))
