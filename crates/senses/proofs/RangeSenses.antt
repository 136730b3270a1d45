-- Laws of senses of ranges of entries: of a range entry by entry, and of a slot half by half.
use Prim.Native.Nat.{ℕ, zero, suc, ◌+◌, ◌-◌, ◌*◌, ◌≤◌, ◌<◌, min}
use native.Mathlib.Omega.{arith}
use mathlib.Core.Path.{◌≡◌, refl, sym, ap, ◌∙◌, subst}
use mathlib.Core.Bool.{Bool, true, false, ◌||◌, or-true, or-false}
use mathlib.Core.List.{List}
use Rattle.limits.specs.Limits.{record_max}
use Rattle.list.specs.Interval.{names}
use Rattle.list.specs.Sense.{Steady}
use Rattle.index.specs.Format.{word_count, list_of}
use Rattle.slots.specs.declared.row.Row.{Row}
use Rattle.slots.specs.Row.{entries_at}
use Rattle.slots.specs.Having.{entry_has, in_entries, entries_have, half_of, having}
use Rattle.slots.proofs.EntriesLaws.{entry-lists, entries-split, entries_next, no-entry, slot-either}
use Rattle.senses.proofs.PairedSenses.{steady-same, either-out}

-- of the list of an entry, under the names that it is read by
pub entry-steady : {index index₁ : List ℕ} {x u : ℕ} {a : Bool} (i : ℕ) → index₁ ≡ index → i < word_count index → Steady (names (list_of index₁ i)) x a u →
    Steady (entry_has index i) x a u
entry-steady {index} {index₁} {x} {u} {a} i e h s =
    steady-same (names (list_of index₁ i)) (entry_has index i) x a u
    (λ y. ap (λ (l : List ℕ). names (list_of l i) y) e ∙ sym (entry-lists index i y h)) s

-- a range has what one of its entries has
entry-among : (index : List ℕ) (first m count : ℕ) → m < count → (y : ℕ) → entry_has index (first + m) y ≡ true → in_entries index first count y ≡ true
entry-among index first m count h y e =
    let f : (m + 1) + (count - (m + 1)) ≡ count = omega arith in
    sym (ap (λ (n : ℕ). in_entries index first n y) f)
    ∙ entries-split index first (m + 1) (count - (m + 1)) y
    ∙ ap (λ (b : Bool). b || in_entries index (first + (m + 1)) (count - (m + 1)) y)
    (entries_next index first m y ∙ ap (λ (b : Bool). in_entries index first m y || b) e ∙ or-true (in_entries index first m y))

-- ---- the first m entries of a range

module _ (index : List ℕ) (x first : ℕ) where
  -- of no entry: out up to the end
  pub range-begun : x ≤ record_max → Steady (in_entries index first 0) x false (record_max + 1)
  range-begun h = record { later = omega arith; near = omega arith; same = λ y g l. no-entry index first y }

  module _ (m : ℕ) where
    pub range-next : {u v : ℕ} → Steady (in_entries index first m) x false u → Steady (entry_has index (first + m)) x false v →
        Steady (in_entries index first (m + 1)) x false (min u v)
    range-next {u = u} {v = v} s t =
        steady-same (λ y. in_entries index first m y || entry_has index (first + m) y) (in_entries index first (m + 1)) x false (min u v)
        (λ y. sym (entries_next index first m y)) (either-out (in_entries index first m) (entry_has index (first + m)) s t)

    pub range-in : {u : ℕ} (count : ℕ) → m < count → Steady (entry_has index (first + m)) x true u → Steady (in_entries index first count) x true u
    range-in count h s = record { later = s.later; near = s.near; same = λ y g l. entry-among index first m count h y (s.same y g l) }

-- ---- a slot, half by half

module _ (main arrivals : List ℕ) (row : Row) (k : ℕ) where
  -- what its range in a half has, and what those before a half have
  abbrev pub in_half : ℕ → ℕ → Bool
  in_half half = entries_have (half_of main arrivals half) (entries_at row.ranges (2 * k + half))

  abbrev pub in_halves : ℕ → ℕ → Bool
  in_halves zero x = false
  in_halves (suc zero) x = in_half 0 x
  in_halves (suc (suc n)) x = having main arrivals row k x

  halves-next : (half : ℕ) → half < 2 → (x : ℕ) → in_halves (half + 1) x ≡ in_halves half x || in_half half x
  halves-next zero h x = refl
  halves-next (suc zero) h x =
      let e : 2 * k + 0 ≡ 2 * k = omega arith in
      slot-either main arrivals row.ranges k x
      ∙ ap (λ (b : Bool). b || in_half 1 x) (sym (ap (λ (j : ℕ). entries_have main (entries_at row.ranges j) x) e))
  halves-next (suc (suc n)) h x = absurd (omega arith)

  -- what its range says, under the names that it is read by
  pub half-said : (half : ℕ) (row₁ : Row) {index : List ℕ} {x u : ℕ} {a : Bool} → row₁.ranges ≡ row.ranges → index ≡ half_of main arrivals half →
      Steady (entries_have index (entries_at row₁.ranges (2 * k + half))) x a u → Steady (in_half half) x a u
  half-said half row₁ {index} {x} {u} {a} same e s =
      steady-same (entries_have index (entries_at row₁.ranges (2 * k + half))) (in_half half) x a u (λ y. rw (e, same)) s

  -- a slot has what either half has
  has-half : (half : ℕ) → half < 2 → (y : ℕ) → in_half half y ≡ true → having main arrivals row k y ≡ true
  has-half zero h y e = halves-next 1 (omega arith) y ∙ ap (λ (b : Bool). b || in_half 1 y) e
  has-half (suc zero) h y e = halves-next 1 (omega arith) y ∙ ap (λ (b : Bool). in_half 0 y || b) e ∙ or-true (in_half 0 y)
  has-half (suc (suc n)) h y e = absurd (omega arith)

  pub half_in : (half : ℕ) → half < 2 → {x u : ℕ} → Steady (in_half half) x true u → Steady (having main arrivals row k) x true u
  half_in half h s = record { later = s.later; near = s.near; same = λ y g l. has-half half h y (s.same y g l) }

  -- the halves before the first are out up to the end; one more is out as long as both are; behind the second it is the slot
  pub halves-begun : {x : ℕ} → x ≤ record_max → Steady (in_halves 0) x false (record_max + 1)
  halves-begun h = record { later = omega arith; near = omega arith; same = λ y g l. refl }

  pub halves-out : (half : ℕ) → half < 2 → {x u v : ℕ} → Steady (in_halves half) x false u → Steady (in_half half) x false v →
      Steady (in_halves (half + 1)) x false (min u v)
  halves-out half h {x} {u} {v} s t =
      steady-same (λ y. in_halves half y || in_half half y) (in_halves (half + 1)) x false (min u v) (λ y. sym (halves-next half h y))
      (either-out (in_halves half) (in_half half) s t)

  -- a half without a list changes nothing
  pub half-empty : (half : ℕ) → half < 2 → (entries_at row.ranges (2 * k + half)).count ≡ 0 → {x u : ℕ} → Steady (in_halves half) x false u →
      Steady (in_halves (half + 1)) x false u
  half-empty half h e {x} {u} s =
      steady-same (in_halves half) (in_halves (half + 1)) x false u
      (λ y. sym (halves-next half h y
      ∙ ap (λ (b : Bool). in_halves half y || b) (rw e (no-entry (half_of main arrivals half) (entries_at row.ranges (2 * k + half)).first y))
      ∙ or-false (in_halves half y)))
      s

  pub halves-over : {half x u : ℕ} → half ≡ 2 → Steady (in_halves half) x false u → Steady (having main arrivals row k) x false u
  halves-over {half} {x} {u} e s = subst (λ (h : ℕ). Steady (in_halves h) x false u) e s
