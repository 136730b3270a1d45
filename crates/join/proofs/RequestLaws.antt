-- The rules of a request, test by test, and what a request that keeps them is known to be.
use mathlib.Core.Path.{◌≡◌, refl, sym, ◌∙◌}
use Prim.Native.Nat.{ℕ, ◌≤◌, ◌<◌}
use native.Mathlib.Omega.{arith}
use mathlib.Core.Bool.{true, false}
use mathlib.Core.List.{List}
use lib.Dec.{eqb, ltb}
use lib.ListN.{length, get_or}
use borrow.Author.Tests.{eq-eqb, ne_eqb, eqb-false, le-leb, lt-leb, leb-false, lt-ltb, le-ltb, ltb-false}
use Rattle.std.specs.Prelude.{Option, Some, None, Result, Ok, Err, MatchOption}
use Rattle.laws.proofs.Tests.{or-neither, leb-cases}
use Rattle.refusal.specs.declared.Refusal.{Refusal}
use Rattle.refusal.specs.declared.Refusal.TheVariants.{Lists, EntryNumber}
use Rattle.refusal.specs.First.{first}
use Rattle.refusal.proofs.FirstLaws.{first-none, first-none-is, first-is}
use Rattle.index.specs.Format.{word_count}
use Rattle.index.specs.Check.{check_of}
use Rattle.index.proofs.CheckLaws.{not_good, cond-good, good-sound}
use Rattle.merge.specs.Request.{SoundRequest}
use Rattle.join.specs.Join.{bad_list_count, bad_entry_number, entries_after, entries_of, request_after, request_of}

-- ---- rule by rule

module _ (index entries : List ℕ) (i : ℕ) where
  pub number-bad : word_count index ≤ get_or entries i 0 → bad_entry_number index entries i ≡ true
  unfolding bad_entry_number
  number-bad h = le-leb (word_count index) (get_or entries i 0) h

  pub number-good : get_or entries i 0 < word_count index → bad_entry_number index entries i ≡ false
  unfolding bad_entry_number
  number-good h = lt-leb (word_count index) (get_or entries i 0) h

module _ (index entries : List ℕ) where
  pub entries_none : length entries ≡ 0 → entries_of index entries ≡ Err (Lists (length entries))
  unfolding entries_of bad_list_count
  entries_none e = rw (eq-eqb (length entries) 0 e)

  pub entries-many : 16 < length entries → entries_of index entries ≡ Err (Lists (length entries))
  unfolding entries_of bad_list_count
  entries-many h = rw (ne_eqb (length entries) 0 (λ (e : length entries ≡ 0). omega arith), lt-ltb 16 (length entries) h)

  pub entries-counted : (length entries ≡ 0 → ⊥) → length entries ≤ 16 →
      entries_of index entries ≡ entries_after (first (bad_entry_number index entries) (length entries))
  unfolding entries_of bad_list_count
  entries-counted g h = rw (ne_eqb (length entries) 0 g, le-ltb 16 (length entries) h)

  pub entries-bad : (i : ℕ) → (length entries ≡ 0 → ⊥) → length entries ≤ 16 → first (bad_entry_number index entries) (length entries) ≡ Some i →
      entries_of index entries ≡ Err (EntryNumber i)
  entries-bad i g h e = entries-counted g h ∙ rw e

  pub entries-good : (length entries ≡ 0 → ⊥) → length entries ≤ 16 → first (bad_entry_number index entries) (length entries) ≡ None →
      entries_of index entries ≡ Ok tt
  entries-good g h e = entries-counted g h ∙ rw e

  pub request-refused : (r : Refusal) → check_of index ≡ Err r → request_of index entries ≡ Err r
  unfolding request_of
  request-refused r e = rw e

  pub request-sound : check_of index ≡ Ok tt → request_of index entries ≡ entries_of index entries
  unfolding request_of
  request-sound e = rw e

-- ---- where the first bad number is

pub first-found : (index entries : List ℕ) (r : Option ℕ) →
    MatchOption r ((j : ℕ) → j < length entries → get_or entries j 0 < word_count index)
    (λ i. (i < length entries) × (word_count index ≤ get_or entries i 0) × ((j : ℕ) → j < i → get_or entries j 0 < word_count index)) →
    r ≡ first (bad_entry_number index entries) (length entries)
first-found index entries None h = sym (first-none-is (bad_entry_number index entries) (length entries) (λ j g. number-good index entries j (h j g)))
first-found index entries (Some i) h =
    sym (first-is (bad_entry_number index entries) i (length entries)
    (record { below = h.0; holds = number-bad index entries i h.1; before = λ j g. number-good index entries j (h.2 j g) }))

-- ---- what is known of a request that is not refused

checked-good : (c next : Result Unit Refusal) → request_after c next ≡ Ok tt → (c ≡ Ok tt) × (next ≡ Ok tt)
checked-good (Err r) next e = not_good r e
checked-good (Ok _) next e = (refl, e)

numbers-good : (f : Option ℕ) → entries_after f ≡ Ok tt → f ≡ None
numbers-good (Some i) e = not_good (EntryNumber i) e
numbers-good None e = refl

pub request-asked : (index entries : List ℕ) → request_of index entries ≡ Ok tt → SoundRequest index entries
unfolding request_of entries_of bad_list_count bad_entry_number
request-asked index entries e =
    let a = checked-good (check_of index) (entries_of index entries) e in
    let b = cond-good (bad_list_count entries) (Lists (length entries)) (entries_after (first (bad_entry_number index entries) (length entries))) a.1 in
    let d = or-neither (eqb (length entries) 0) (ltb 16 (length entries)) b.0 in
    let f = numbers-good (first (bad_entry_number index entries) (length entries)) b.1 in
    record {
      sound = good-sound index a.0;
      some = leb-cases 1 (length entries) (λ h. h) (λ h. absurd (eqb-false (length entries) 0 d.0 (omega arith)));
      few = ltb-false 16 (length entries) d.1;
      below = λ j h. leb-false (word_count index) (get_or entries j 0) (first-none (bad_entry_number index entries) (length entries) f j h);
    }
