-- What fits a question by its slots only changes where the list of one of their entries does: it has no more intervals than those lists together.
use Prim.Native.Nat.{ℕ, zero, suc, ◌+◌, ◌*◌, ◌≤◌, ◌<◌}
use native.Mathlib.Omega.{arith}
use mathlib.Core.Path.{◌≡◌, refl, sym, ap, ap₂, ◌∙◌}
use mathlib.Core.Bool.{Bool, false, ◌||◌}
use mathlib.Core.List.{List, [], ◌∷◌, ◌++◌}
use lib.ListN.{length, length-append}
use Rattle.laws.proofs.Tests.{leb-cases}
use Rattle.list.specs.Interval.{proper_from, is_proper, names, intervals}
use Rattle.list.specs.Stretches.{cells_of}
use Rattle.list.proofs.NamesLaws.{proper-names-zero, proper-names-above}
use Rattle.list.proofs.StretchLaws.{cells_same, cells-limit, proper-cells, is-cells}
use Rattle.list.proofs.BoundLaws.{Still, AllOut, together, cells-bound}
use Rattle.index.specs.Format.{word_count, highest, list_of}
use Rattle.index.specs.Sound.{Sound}
use Rattle.directory.proofs.HasLaws.{list-proper}
use Rattle.question.specs.Grammar.{Tree, word, pair, part, tree_words}
use Rattle.question.specs.Meaning.{combine}
use Rattle.slots.specs.declared.row.Entries.{Entries}
use Rattle.slots.specs.Row.{entries_at}
use Rattle.slots.specs.Having.{entry_has, in_entries, slot_has}
use Rattle.slots.specs.Slots.{slot_satisfies}
use Rattle.slots.specs.Bound.{entry_intervals, range_intervals, slot_intervals, slots_intervals}
use Rattle.slots.proofs.EntriesLaws.{entry-lists, entry-lacks}
use Rattle.slots.proofs.SlotLaws.{slots-none}
use Rattle.slots.proofs.SumLaws.{entry-intervals-in, entry-intervals-out}

-- ---- two lists of tests in one

still_both : (ps qs : List (ℕ → Bool)) (x : ℕ) → Still (ps ++ qs) x → Still ps x × Still qs x
still_both [] qs x w = (tt, w)
still_both (p ∷ ps) qs x w = let both = still_both ps qs x w.1 in ((w.0, both.0), both.1)

out_both : (ps qs : List (ℕ → Bool)) (x : ℕ) → AllOut ps x → AllOut qs x → AllOut (ps ++ qs) x
out_both [] qs x f g = g
out_both (p ∷ ps) qs x f g = (f.0, out_both ps qs x f.1 g)

together-both : (ps qs : List (ℕ → Bool)) (n : ℕ) → together (ps ++ qs) n ≡ together ps n + together qs n
unfolding together
together-both [] qs n = omega arith
together-both (p ∷ ps) qs n = omega (arith, together-both ps qs n)

-- ---- the entries of a range

unfoldable entry_tests : List ℕ → ℕ → ℕ → List (ℕ → Bool)
entry_tests index i zero = []
entry_tests index i (suc n) = (λ x. entry_has index i x) ∷ entry_tests index (i + 1) n

-- a record that no entry has
entries_none : (index : List ℕ) (x : ℕ) → ((i : ℕ) → entry_has index i x ≡ false) → (i n : ℕ) → in_entries index i n x ≡ false
unfolding in_entries
entries_none index x f i zero = refl
entries_none index x f i (suc n) = rw (f i) (entries_none index x f (i + 1) n)

entries-still : (index : List ℕ) (i n x : ℕ) → Still (entry_tests index i n) x → in_entries index i n x ≡ in_entries index i n (x + 1)
unfolding entry_tests in_entries
entries-still index i zero x w = refl
entries-still index i (suc n) x w = ap₂ (λ (a b : Bool). a || b) w.0 (entries-still index (i + 1) n x w.1)

module _ (index : List ℕ) (s : Sound index) where
  entry_zero : (i : ℕ) → entry_has index i 0 ≡ false
  entry_zero i =
      leb-cases (word_count index) i (entry-lacks index i 0)
      (λ l. entry-lists index i 0 l ∙ proper-names-zero (highest index) (list_of index i) (list-proper index s i l))

  entries-out : (i n : ℕ) → AllOut (entry_tests index i n) 0
  unfolding entry_tests
  entries-out i zero = tt
  entries-out i (suc n) = (entry_zero i, entries-out (i + 1) n)

  module _ (m : ℕ) (h : highest index ≤ m) where
    entry-above : (i x : ℕ) → m < x → entry_has index i x ≡ false
    entry-above i x g =
        leb-cases (word_count index) i (entry-lacks index i x)
        (λ l. entry-lists index i x l ∙ proper-names-above (highest index) x (list_of index i) (list-proper index s i l) (omega arith))

    -- the list of what a list up to N names is that list, also up to more
    list-cells : (i : ℕ) → i < word_count index → list_of index i ≡ cells_of (names (list_of index i)) m
    list-cells i l =
        let proper = list-proper index s i l in
        proper-cells (highest index) (list_of index i) proper
        ∙ cells-limit (names (list_of index i)) (highest index) m h (λ x g k. proper-names-above (highest index) x (list_of index i) proper g)

    entry-list : (i : ℕ) → intervals (cells_of (λ x. entry_has index i x) m) ≡ entry_intervals index i
    unfolding names is_proper proper_from
    entry-list i =
        leb-cases (word_count index) i
        (λ l. ap intervals (sym (is-cells (λ x. entry_has index i x) m [] refl (λ x a b. sym (entry-lacks index i x l)))) ∙ sym (entry-intervals-out index i l))
        (λ l. ap intervals (cells_same (λ x. entry_has index i x) (names (list_of index i)) m (λ x a b. entry-lists index i x l) ∙ sym (list-cells i l))
        ∙ sym (entry-intervals-in index i l))

    entries-together : (i n : ℕ) → together (entry_tests index i n) m ≡ range_intervals index i n
    unfolding entry_tests together range_intervals
    entries-together i zero = refl
    entries-together i (suc n) = ap₂ (λ (a b : ℕ). a + b) (entry-list i) (entries-together (i + 1) n)

-- ---- what fits changes only where a slot does

pub satisfies-still : (v : ℕ → ℕ → Bool) (t : Tree) (k x : ℕ) → ((j : ℕ) → k ≤ j → j < k + length (tree_words t) → v j x ≡ v j (x + 1)) →
    slot_satisfies v t k x ≡ slot_satisfies v t k (x + 1)
unfolding slot_satisfies tree_words
satisfies-still v (word w) k x f = f k (omega arith) (omega arith)
satisfies-still v (pair o a b) k x f =
    let l = length-append (tree_words a) (tree_words b) in
    ap₂ (combine o)
    (satisfies-still v a k x (λ j h g. f j h (omega arith)))
    (satisfies-still v b (k + length (tree_words a)) x (λ j h g. f j (omega arith) (omega arith)))
satisfies-still v (part t) k x f = satisfies-still v t k x f

-- ---- slots in two indexes

module _ (main arrivals : List ℕ) (slots : List Entries) where
  -- the entries of slot k in the one and in the other
  abbrev main_tests : ℕ → List (ℕ → Bool)
  main_tests k = entry_tests main (entries_at slots (2 * k)).first (entries_at slots (2 * k)).count

  abbrev arrivals_tests : ℕ → List (ℕ → Bool)
  arrivals_tests k = entry_tests arrivals (entries_at slots (2 * k + 1)).first (entries_at slots (2 * k + 1)).count

  unfoldable slots_tests : ℕ → ℕ → List (ℕ → Bool)
  slots_tests k zero = []
  slots_tests k (suc n) = (main_tests k ++ arrivals_tests k) ++ slots_tests (k + 1) n

  slot-still : (k x : ℕ) → Still (main_tests k ++ arrivals_tests k) x → slot_has main arrivals slots k x ≡ slot_has main arrivals slots k (x + 1)
  unfolding slot_has
  slot-still k x w =
      let both = still_both (main_tests k) (arrivals_tests k) x w in
      ap₂ (λ (a b : Bool). a || b) (entries-still main _ _ x both.0) (entries-still arrivals _ _ x both.1)

  slots-still : (k n x j : ℕ) → Still (slots_tests k n) x → k ≤ j → j < k + n → slot_has main arrivals slots j x ≡ slot_has main arrivals slots j (x + 1)
  unfolding slots_tests
  slots-still k zero x j w h l = absurd (omega arith)
  slots-still k (suc n) x j w h l =
      let both = still_both (main_tests k ++ arrivals_tests k) (slots_tests (k + 1) n) x w in
      leb-cases j k (λ g. let e : j ≡ k = omega arith in rw e (slot-still k x both.0))
      (λ g. slots-still (k + 1) n x j both.1 (omega arith) (omega arith))

  module _ (s : Sound main) (r : Sound arrivals) where
    pub slot-zero : (k : ℕ) → slot_has main arrivals slots k 0 ≡ false
    unfolding slot_has
    slot-zero k = rw (entries_none main 0 (entry_zero main s) (entries_at slots (2 * k)).first (entries_at slots (2 * k)).count)
        (entries_none arrivals 0 (entry_zero arrivals r) (entries_at slots (2 * k + 1)).first (entries_at slots (2 * k + 1)).count)

    slots-out : (k n : ℕ) → AllOut (slots_tests k n) 0
    unfolding slots_tests
    slots-out k zero = tt
    slots-out k (suc n) =
        out_both (main_tests k ++ arrivals_tests k) (slots_tests (k + 1) n) 0
        (out_both (main_tests k) (arrivals_tests k) 0 (entries-out main s _ _) (entries-out arrivals r _ _)) (slots-out (k + 1) n)

    module _ (n : ℕ) (h : highest main ≤ n) (g : highest arrivals ≤ n) where
      pub slot-above : (k x : ℕ) → n < x → slot_has main arrivals slots k x ≡ false
      unfolding slot_has
      slot-above k x l =
          rw (entries_none main x (λ i. entry-above main s n h i x l) (entries_at slots (2 * k)).first (entries_at slots (2 * k)).count)
          (entries_none arrivals x (λ i. entry-above arrivals r n g i x l) (entries_at slots (2 * k + 1)).first (entries_at slots (2 * k + 1)).count)

      slots-together : (k m : ℕ) → together (slots_tests k m) n ≡ slots_intervals main arrivals slots k m
      unfolding slots_tests together slots_intervals slot_intervals
      slots-together k zero = refl
      slots-together k (suc m) =
          together-both (main_tests k ++ arrivals_tests k) (slots_tests (k + 1) m) n
          ∙ ap₂ (λ (a b : ℕ). a + b)
          (together-both (main_tests k) (arrivals_tests k) n
          ∙ ap₂ (λ (a b : ℕ). a + b) (entries-together main s n h _ _) (entries-together arrivals r n g _ _))
          (slots-together (k + 1) m)

      -- an answer with room for that many intervals needs no counting first
      pub slots-bound : (t : Tree) → intervals (cells_of (slot_satisfies (slot_has main arrivals slots) t 0) n)
          ≤ slots_intervals main arrivals slots 0 (length (tree_words t))
      slots-bound t =
          let v = slot_has main arrivals slots in
          let words = length (tree_words t) in
          rw (← slots-together 0 words)
          (cells-bound (slot_satisfies v t 0) (slots_tests 0 words) n (slots-none v 0 slot-zero t 0) (slots-out 0 words)
          (λ x l w. satisfies-still v t 0 x (λ j a b. slots-still 0 words x j w a b)))
