-- What is lent to a build that no rule refuses: words that are words and ascend, and for each of them its own ascending records.
use mathlib.Core.Path.{◌≡◌, refl, sym, ap, ◌∙◌}
use Prim.Native.Nat.{ℕ, zero, suc, ◌+◌, ◌≤◌, ◌<◌}
use native.Mathlib.Omega.{arith}
use native.Mathlib.Numerals.{add-one}
use mathlib.Core.Bool.{true, false, not, ◌||◌}
use mathlib.Core.List.{List, [], ◌∷◌}
use lib.Dec.{eqb, leb, ltb}
use lib.ListN.{length, get_or, take, drop}
use lib.Seq.{drop-drop}
use borrow.Author.Tests.{leb-false, ltb-false, eqb-false, ne_eqb, not-false}
use Rattle.laws.proofs.Tests.{or-neither, leb-cases}
use Rattle.limits.specs.Limits.{words_max}
use Rattle.word.specs.Word.{before, is_word}
use Rattle.index.specs.Format.{part}
use Rattle.build.specs.Lent.{lent_before, bad_lent, sum_to, bad_count, bad_rest, begins_list, lists_from}

-- ---- words

pub record LentWord (ws : List (List ℕ)) (i : ℕ) : Type 0 where
  pub few : i < words_max
  pub within : i < length ws
  pub word : is_word true (get_or ws i []) ≡ true
  pub order : before (lent_before ws i) (get_or ws i []) ≡ true

pub lent-word : (ws : List (List ℕ)) (i : ℕ) → bad_lent ws i ≡ false → LentWord ws i
unfolding bad_lent
lent-word ws i e =
    let a = leb words_max i in
    let b = leb (length ws) i in
    let c = is_word true (get_or ws i []) in
    let d = before (lent_before ws i) (get_or ws i []) in
    let p = or-neither (a || b || not c) (not d) e in
    let q = or-neither (a || b) (not c) p.0 in
    let r = or-neither a b q.0 in
    record { few = leb-false words_max i r.0; within = leb-false (length ws) i r.1; word = not-false c q.1; order = not-false d p.1 }

-- ---- counts

pub record LentCount (counts : List ℕ) (total i : ℕ) : Type 0 where
  pub within : i < length counts
  pub some : 1 ≤ get_or counts i 0
  pub room : sum_to counts i + get_or counts i 0 ≤ total

pub lent-count : (counts : List ℕ) (total i : ℕ) → bad_count counts total i ≡ false → LentCount counts total i
unfolding bad_count sum_to
lent-count counts total i e =
    let a = leb (length counts) i in
    let b = eqb (get_or counts i 0) 0 in
    let s = sum_to counts (i + 1) in
    let p = or-neither (a || b) (ltb total s) e in
    let q = or-neither a b p.0 in
    let f : sum_to counts (i + 1) ≡ sum_to counts i + get_or counts i 0 = rw (add-one i) in
    record {
      within = leb-false (length counts) i q.0;
      some = leb-cases 1 (get_or counts i 0) (λ h. h) (λ h. absurd (eqb-false (get_or counts i 0) 0 q.1 (omega arith)));
      room = let r = ltb-false total s p.1 in omega arith;
    }

pub lent-rest : (counts : List ℕ) (total words : ℕ) → bad_rest counts total words ≡ false → (length counts ≤ words) × (total ≤ sum_to counts words)
unfolding bad_rest
lent-rest counts total words e =
    let p = or-neither (ltb words (length counts)) (ltb (sum_to counts words) total) e in
    (ltb-false words (length counts) p.0, ltb-false (sum_to counts words) total p.1)

pub sum-rises : (counts : List ℕ) (i j : ℕ) → i ≤ j → sum_to counts i ≤ sum_to counts j
unfolding sum_to
sum-rises counts i zero h = let e : i ≡ 0 = omega arith in rw e (omega arith)
sum-rises counts i (suc j) h =
    leb-cases i j (λ g. omega (arith, sum-rises counts i j g)) (λ g. let e : i ≡ suc j = omega arith in rw e (omega arith))

pub sum_first : (c : ℕ) (cs : List ℕ) (i : ℕ) → sum_to (c ∷ cs) (suc i) ≡ c + sum_to cs i
unfolding sum_to
sum_first c cs zero = omega arith
sum_first c cs (suc i) = omega (arith, sum_first c cs i)

-- ---- lists

pub lists_length : (counts numbers : List ℕ) → length (lists_from counts numbers) ≡ length counts
unfolding lists_from
lists_length [] numbers = refl
lists_length (c ∷ cs) numbers = ap suc (lists_length cs (drop c numbers))

pub lists_at : (counts numbers : List ℕ) (i : ℕ) → i < length counts → get_or (lists_from counts numbers) i [] ≡ part (sum_to counts i) (get_or counts i 0) numbers
unfolding lists_from sum_to
lists_at [] numbers i h = absurd (omega arith)
lists_at (c ∷ cs) numbers zero h = refl
lists_at (c ∷ cs) numbers (suc i) h =
    lists_at cs (drop c numbers) i (omega arith)
    ∙ ap (λ (l : List ℕ). take (get_or cs i 0) l) (drop-drop (sum_to cs i) c numbers ∙ ap (λ (k : ℕ). drop k numbers) (sym (sum_first c cs i)))

-- a number stands at no list's beginning
pub begins-none : (counts : List ℕ) (i k : ℕ) → ((j : ℕ) → j < i → sum_to counts j ≡ k → ⊥) → begins_list counts i k ≡ false
unfolding begins_list
begins-none counts zero k f = refl
begins-none counts (suc i) k f =
    rw (ne_eqb (sum_to counts i) k (f i (omega arith))) (begins-none counts i k (λ j h. f j (omega arith)))

-- nor does one behind the beginning of list i, in that list
pub begins-not : (counts : List ℕ) (words i k : ℕ) → sum_to counts i < k → k < sum_to counts (suc i) → begins_list counts words k ≡ false
begins-not counts words i k h g =
    begins-none counts words k
    (λ j l e. leb-cases j i (λ d. omega (arith, sum-rises counts j i d)) (λ d. omega (arith, sum-rises counts (suc i) j (omega arith))))
