-- Laws of a range of entries: what it has entry by entry, and what two ranges have together.
use Prim.Native.Nat.{ℕ, zero, suc, ◌+◌, ◌-◌, ◌*◌, ◌≤◌, ◌<◌, min}
use native.Mathlib.Omega.{arith}
use mathlib.Core.Path.{◌≡◌, refl, sym, ap, ◌∙◌}
use mathlib.Core.Bool.{Bool, false, ◌||◌, or-false, or_assoc}
use mathlib.Core.List.{List}
use borrow.Author.Tests.{lt-ltb, le-ltb}
use Rattle.laws.proofs.Tests.{leb-cases}
use Rattle.list.specs.Interval.{names}
use Rattle.index.specs.Format.{word_count, list_of}
use Rattle.slots.specs.declared.row.Entries.{Entries}
use Rattle.slots.specs.Row.{entries_at}
use Rattle.slots.specs.Having.{entry_has, in_entries, entries_have, half_of, slot_has}

module _ (index : List ℕ) where
  -- ---- one entry

  pub entry-lists : (i x : ℕ) → i < word_count index → entry_has index i x ≡ names (list_of index i) x
  entry-lists i x h = rw (lt-ltb i (word_count index) h)

  pub entry-lacks : (i x : ℕ) → word_count index ≤ i → entry_has index i x ≡ false
  entry-lacks i x h = rw (le-ltb i (word_count index) h)

  -- ---- several

  pub entries-split : (i m n x : ℕ) → in_entries index i (m + n) x ≡ in_entries index i m x || in_entries index (i + m) n x
  unfolding in_entries
  entries-split i zero n x =
      let e : zero + n ≡ n = omega arith in
      let f : i + zero ≡ i = omega arith in
      ap (λ (k : ℕ). in_entries index i k x) e ∙ ap (λ (k : ℕ). in_entries index k n x) (sym f)
  entries-split i (suc m) n x =
      let e : suc m + n ≡ suc (m + n) = omega arith in
      let f : i + 1 + m ≡ i + suc m = omega arith in
      ap (λ (k : ℕ). in_entries index i k x) e
      ∙ ap (λ (b : Bool). entry_has index i x || b) (entries-split (i + 1) m n x ∙ ap (λ (k : ℕ). in_entries index (i + 1) m x || in_entries index k n x) f)
      ∙ sym (or_assoc (entry_has index i x) (in_entries index (i + 1) m x) (in_entries index (i + suc m) n x))

  pub one_entry : (i x : ℕ) → in_entries index i 1 x ≡ entry_has index i x
  unfolding in_entries
  one_entry i x = or-false (entry_has index i x)

  pub no-entry : (i x : ℕ) → in_entries index i 0 x ≡ false
  unfolding in_entries
  no-entry i x = refl

  -- one more
  pub entries_next : (i n x : ℕ) → in_entries index i (n + 1) x ≡ in_entries index i n x || entry_has index (i + n) x
  entries_next i n x = entries-split i n 1 x ∙ ap (λ (b : Bool). in_entries index i n x || b) (one_entry (i + n) x)

-- ---- a slot has what its two ranges have

pub slot-either : (main arrivals : List ℕ) (slots : List Entries) (k x : ℕ) →
    slot_has main arrivals slots k x ≡
    entries_have main (entries_at slots (2 * k)) x || entries_have arrivals (entries_at slots (2 * k + 1)) x
unfolding slot_has
slot-either main arrivals slots k x = refl

-- ---- the lists of a slot one after the other, those of the main index first

-- how many it has in the main index, and in both
abbrev pub mains_of : List Entries → ℕ → ℕ
mains_of slots k = (entries_at slots (2 * k)).count

abbrev pub lists_of : List Entries → ℕ → ℕ
lists_of slots k = mains_of slots k + (entries_at slots (2 * k + 1)).count

-- list n of a slot is list m of half h
pub record IsList (slots : List Entries) (k n half m : ℕ) : Type 0 where
  pub first : n < mains_of slots k → (half ≡ 0) × (m ≡ n)
  pub second : mains_of slots k ≤ n → (half ≡ 1) × (m ≡ n - mains_of slots k)

pub list-among : (slots : List Entries) (k n half m : ℕ) → IsList slots k n half m → n < lists_of slots k → (half < 2) × (m < (entries_at slots (2 * k + half)).count)
list-among slots k n half m is h =
    let z : 2 * k + 0 ≡ 2 * k = omega arith in
    leb-cases (mains_of slots k) n
    (λ g. let e = is.second g in rw e.0 (omega arith, omega (arith, e.1)))
    (λ g. let e = is.first g in rw (e.0, z) (omega arith, omega (arith, e.1)))

module _ (main arrivals : List ℕ) (slots : List Entries) (k : ℕ) where
  -- what the first n have
  abbrev pub in_lists : ℕ → ℕ → Bool
  in_lists n x = in_entries main (entries_at slots (2 * k)).first (min n (mains_of slots k)) x || in_entries arrivals (entries_at slots (2 * k + 1)).first (n - mains_of slots k) x

  pub no-list : (x : ℕ) → in_lists 0 x ≡ false
  no-list x =
      let e : min 0 (mains_of slots k) ≡ 0 = omega arith in
      let f : 0 - mains_of slots k ≡ 0 = omega arith in
      rw (e, f, no-entry main (entries_at slots (2 * k)).first x) (no-entry arrivals (entries_at slots (2 * k + 1)).first x)

  pub all-lists : (n : ℕ) → n ≡ lists_of slots k → (x : ℕ) → in_lists n x ≡ slot_has main arrivals slots k x
  all-lists n h x =
      let e : min n (mains_of slots k) ≡ mains_of slots k = omega arith in
      let f : n - mains_of slots k ≡ (entries_at slots (2 * k + 1)).count = omega arith in
      rw (e, f) (sym (slot-either main arrivals slots k x))

  -- one more
  pub lists-next : (n half m : ℕ) → IsList slots k n half m → (x : ℕ) →
      in_lists (n + 1) x ≡ in_lists n x || entry_has (half_of main arrivals half) ((entries_at slots (2 * k + half)).first + m) x
  lists-next n half m is x = leb-cases (mains_of slots k) n behind among
    where
      among : n < mains_of slots k → in_lists (n + 1) x ≡ in_lists n x || entry_has (half_of main arrivals half) ((entries_at slots (2 * k + half)).first + m) x
      among h =
          let e : min (n + 1) (mains_of slots k) ≡ n + 1 = omega arith in
          let f : n + 1 - mains_of slots k ≡ 0 = omega arith in
          let g : min n (mains_of slots k) ≡ n = omega arith in
          let i : n - mains_of slots k ≡ 0 = omega arith in
          let z : 2 * k + 0 ≡ 2 * k = omega arith in
          rw (
            e,
            f,
            g,
            i,
            (is.first h).0,
            (is.first h).1,
            z,
            no-entry arrivals (entries_at slots (2 * k + 1)).first x,
            or-false (in_entries main (entries_at slots (2 * k)).first (n + 1) x),
            or-false (in_entries main (entries_at slots (2 * k)).first n x),
          )
          (entries_next main (entries_at slots (2 * k)).first n x)

      behind : mains_of slots k ≤ n → in_lists (n + 1) x ≡ in_lists n x || entry_has (half_of main arrivals half) ((entries_at slots (2 * k + half)).first + m) x
      behind h =
          let e : min (n + 1) (mains_of slots k) ≡ mains_of slots k = omega arith in
          let f : n + 1 - mains_of slots k ≡ (n - mains_of slots k) + 1 = omega arith in
          let g : min n (mains_of slots k) ≡ mains_of slots k = omega arith in
          let a = in_entries main (entries_at slots (2 * k)).first (mains_of slots k) x in
          rw (e, f, g, (is.second h).0, (is.second h).1)
          (ap (λ (b : Bool). a || b) (entries_next arrivals (entries_at slots (2 * k + 1)).first (n - mains_of slots k) x)
          ∙ sym (or_assoc a (in_entries arrivals (entries_at slots (2 * k + 1)).first (n - mains_of slots k) x)
          (entry_has arrivals ((entries_at slots (2 * k + 1)).first + (n - mains_of slots k)) x)))
