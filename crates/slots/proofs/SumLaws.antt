-- How many intervals lists have together, entry by entry and slot by slot.
use Prim.Native.Nat.{ℕ, suc, ◌+◌, ◌-◌, ◌≤◌, ◌<◌}
use native.Mathlib.Omega.{arith}
use mathlib.Core.Path.{◌≡◌}
use mathlib.Core.List.{List}
use borrow.Author.Tests.{lt-ltb, le-ltb}
use Rattle.list.specs.Interval.{intervals}
use Rattle.index.specs.Format.{word_count, list_of}
use Rattle.slots.specs.declared.row.Entries.{Entries}
use Rattle.slots.specs.Bound.{entry_intervals, range_intervals, slot_intervals, slots_intervals}

-- ---- the entries of a range that are left at its list m

module _ (index : List ℕ) where
  pub entry-intervals-in : (i : ℕ) → i < word_count index → entry_intervals index i ≡ intervals (list_of index i)
  unfolding entry_intervals
  entry-intervals-in i h = rw (lt-ltb i (word_count index) h)

  pub entry-intervals-out : (i : ℕ) → word_count index ≤ i → entry_intervals index i ≡ 0
  unfolding entry_intervals
  entry-intervals-out i h = rw (le-ltb i (word_count index) h)

  pub sum-next : (first count m : ℕ) → m < count → first + m < word_count index →
      range_intervals index (first + m) (count - m) ≡ intervals (list_of index (first + m)) + range_intervals index (first + (m + 1)) (count - (m + 1))
  unfolding range_intervals
  sum-next first count m h g =
      let e : count - m ≡ suc (count - (m + 1)) = omega arith in
      let f : first + m + 1 ≡ first + (m + 1) = omega arith in
      rw (e, entry-intervals-in (first + m) g, f)

  pub sum-end : (i count m : ℕ) → count ≤ m → range_intervals index i (count - m) ≡ 0
  unfolding range_intervals
  sum-end i count m h = let e : count - m ≡ 0 = omega arith in rw e

-- ---- the slots that are left at k

module _ (main arrivals : List ℕ) (slots : List Entries) where
  pub slots_next : (k count : ℕ) → k < count →
      slots_intervals main arrivals slots k (count - k) ≡ slot_intervals main arrivals slots k + slots_intervals main arrivals slots (k + 1) (count - (k + 1))
  unfolding slots_intervals
  slots_next k count h = let e : count - k ≡ suc (count - (k + 1)) = omega arith in rw e

  pub slots_end : (k count : ℕ) → count ≤ k → slots_intervals main arrivals slots k (count - k) ≡ 0
  unfolding slots_intervals
  slots_end k count h = let e : count - k ≡ 0 = omega arith in rw e
