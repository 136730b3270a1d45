-- No list of intervals, ordered or not, names the records of a proper list with fewer intervals.
-- A stretch starts at a number that is in, behind one that is out: every list that names it has an interval that starts there.
use mathlib.Core.Path.{◌≡◌, refl, sym, ap, ◌∙◌}
use mathlib.Core.Logic.{⊎_elim}
use Prim.Native.Nat.{ℕ, zero, suc, ◌+◌, ◌*◌, ◌≤◌}
use native.Mathlib.Decide.{ℕ_discrete}
use native.Mathlib.Omega.{arith}
use mathlib.Core.Bool.{Bool, true, false, ◌&&◌, ◌||◌, or-true}
use mathlib.Core.List.{List, [], ◌∷◌}
use lib.Dec.{eqb, leb}
use lib.ListN.{length}
use borrow.Author.Tests.{eq-eqb, ne_eqb}
use Rattle.laws.proofs.Tests.{true-false, or-neither, leb-cases}
use Rattle.list.specs.Interval.{is_proper, names, intervals}
use Rattle.list.specs.Stretches.{turned, stretches, cells_of, cons_if, records_from}
use Rattle.list.specs.Ginix.{one}
use Rattle.list.proofs.NamesLaws.{names_in, names-either, proper-names-zero}
use Rattle.list.proofs.StretchLaws.{cells_same, proper-cells}
use Rattle.list.proofs.RecordLaws.{records_from-same, kept-length, kept-least}

-- whether an interval of the cells starts at x
unfoldable starts_at : List ℕ → ℕ → Bool
starts_at [] x = false
starts_at (l ∷ []) x = false
starts_at (l ∷ u ∷ r) x = eqb x l || starts_at r x

-- at how many of the k numbers from x on one starts
abbrev starts : List ℕ → ℕ → ℕ → ℕ
starts c x k = length (records_from (starts_at c) x k)

-- ---- a number that is named, behind one that is not, is where an interval starts

starts_first : (l u w : ℕ) (r : List ℕ) → names (l ∷ u ∷ r) w ≡ false → l ≤ w + 1 → w + 1 ≤ u → eqb (w + 1) l ≡ true
starts_first l u w r e h g =
    leb-cases l w (λ d. true-false (sym (names_in l u w r d (omega arith)) ∙ e)) (λ d. eq-eqb (w + 1) l (omega arith))

named-starts : (c : List ℕ) (w : ℕ) → names c w ≡ false → names c (w + 1) ≡ true → starts_at c (w + 1) ≡ true
unfolding names starts_at
named-starts [] w e f = true-false (sym f)
named-starts (l ∷ []) w e f = true-false (sym f)
named-starts (l ∷ u ∷ r) w e f =
    ⊎_elim (λ h. rw (starts_first l u w r e h.0 h.1))
    (λ h. rw (named-starts r w (or-neither (leb l w && leb w u) (names r w) e).1 h) (or-true (eqb (w + 1) l)))
    (names-either l u (w + 1) r f)

-- ---- a stretch has one start and two cells; of one that is open at x the first cell is written before x

starts-step : (c : List ℕ) (w k : ℕ) (b v : Bool) → names c w ≡ b → names c (w + 1) ≡ v →
    length (stretches (names c) v (w + 1 + 1) k) ≤ 2 * starts c (w + 1 + 1) k + one v →
    length (turned b v (w + 1) (stretches (names c) v (w + 1 + 1) k))
    ≤ 2 * length (cons_if (starts_at c (w + 1)) (w + 1) (records_from (starts_at c) (w + 1 + 1) k)) + one b
starts-step c w k false false e f ih = omega (arith, kept-least (starts_at c (w + 1)) (w + 1) (records_from (starts_at c) (w + 1 + 1) k))
starts-step c w k false true e f ih = rw (named-starts c w e f) (omega arith)
starts-step c w k true false e f ih = omega (arith, kept-least (starts_at c (w + 1)) (w + 1) (records_from (starts_at c) (w + 1 + 1) k))
starts-step c w k true true e f ih = omega (arith, kept-least (starts_at c (w + 1)) (w + 1) (records_from (starts_at c) (w + 1 + 1) k))

starts-last : (b : Bool) (x : ℕ) → length (turned b false x []) ≤ one b
starts-last true x = omega arith
starts-last false x = omega arith

cells-starts : (c : List ℕ) (w k : ℕ) (b : Bool) → names c w ≡ b → length (stretches (names c) b (w + 1) k) ≤ 2 * starts c (w + 1) k + one b
unfolding stretches records_from
cells-starts c w zero b e = omega (arith, starts-last b (w + 1))
cells-starts c w (suc k) b e = starts-step c w k b (names c (w + 1)) e refl (cells-starts c (w + 1) k (names c (w + 1)) refl)

-- ---- an interval has one start

starts_none : (x k : ℕ) (c : List ℕ) → ((y : ℕ) → starts_at c y ≡ false) → starts c x k ≡ 0
unfolding records_from
starts_none x zero c h = refl
starts_none x (suc k) c h = rw (h x) (starts_none (x + 1) k c h)

past-start : (l u y : ℕ) (r : List ℕ) → (y ≡ l → ⊥) → starts_at (l ∷ u ∷ r) y ≡ starts_at r y
unfolding starts_at
past-start l u y r h = rw (ne_eqb y l h)

kept_more : (v : Bool) (x : ℕ) (a b : List ℕ) → length a ≤ 1 + length b → length (cons_if v x a) ≤ 1 + length (cons_if v x b)
kept_more true x a b h = omega arith
kept_more false x a b h = h

more-step : (l u x k : ℕ) (r : List ℕ) → starts (l ∷ u ∷ r) (x + 1) k ≤ 1 + starts r (x + 1) k → Dec (x ≡ l) →
    length (cons_if (starts_at (l ∷ u ∷ r) x) x (records_from (starts_at (l ∷ u ∷ r)) (x + 1) k))
    ≤ 1 + length (cons_if (starts_at r x) x (records_from (starts_at r) (x + 1) k))
more-step l u x k r ih (yes e) =
    let s = records_from-same (starts_at (l ∷ u ∷ r)) (starts_at r) (x + 1) k (λ y h g. past-start l u y r (λ (f : y ≡ l). omega arith)) in
    omega (
      arith,
      ap length s,
      kept-length (starts_at (l ∷ u ∷ r) x) x (records_from (starts_at (l ∷ u ∷ r)) (x + 1) k),
      kept-least (starts_at r x) x (records_from (starts_at r) (x + 1) k),
    )
more-step l u x k r ih (no e) =
    rw (past-start l u x r e) (kept_more (starts_at r x) x (records_from (starts_at (l ∷ u ∷ r)) (x + 1) k) (records_from (starts_at r) (x + 1) k) ih)

starts_more : (l u x k : ℕ) (r : List ℕ) → starts (l ∷ u ∷ r) x k ≤ 1 + starts r x k
unfolding records_from
starts_more l u x zero r = omega arith
starts_more l u x (suc k) r = more-step l u x k r (starts_more l u (x + 1) k r) (ℕ_discrete x l)

starts-intervals : (c : List ℕ) (x k : ℕ) → starts c x k ≤ intervals c
unfolding starts_at
starts-intervals [] x k = omega (arith, starts_none x k [] (λ y. refl))
starts-intervals (l ∷ []) x k = omega (arith, starts_none x k (l ∷ []) (λ y. refl))
starts-intervals (l ∷ u ∷ r) x k = omega (arith, starts_more l u x k r, starts-intervals r x k)

-- ---- so the list of a test has the fewest intervals

pub fewest-cells : (n : ℕ) (c : List ℕ) → names c 0 ≡ false → intervals (cells_of (names c) n) ≤ intervals c
unfolding cells_of
fewest-cells n c e = omega (arith, cells-starts c 0 n false e, starts-intervals c 1 n)

-- whatever cells name the numbers of the test
pub fewest-of : (p : ℕ → Bool) (n : ℕ) (c : List ℕ) → names c 0 ≡ false → ((x : ℕ) → 1 ≤ x → x ≤ n → names c x ≡ p x) →
    intervals (cells_of p n) ≤ intervals c
fewest-of p n c e f = rw (← cells_same (names c) p n f) (fewest-cells n c e)

-- whatever cells name what a proper list names
pub fewest : (n : ℕ) (c d : List ℕ) → is_proper n d ≡ true → ((x : ℕ) → names c x ≡ names d x) → intervals d ≤ intervals c
fewest n c d e f =
    omega (arith, ap intervals (proper-cells n d e), fewest-of (names d) n c (f 0 ∙ proper-names-zero n d e) (λ x h g. f x))
