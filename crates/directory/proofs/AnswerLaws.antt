-- What the calls over one entry answer, by what the check and the tests before it said.
use mathlib.Core.Path.{◌≡◌, refl}
use Prim.Native.Nat.{ℕ, ◌≤◌}
use native.Mathlib.Omega.{arith}
use mathlib.Core.Bool.{Bool, true, false, ◌||◌}
use mathlib.Core.List.{List}
use lib.Dec.{eqb, ltb}
use borrow.Author.Tests.{ltb-true, ltb-false}
use Rattle.laws.proofs.Tests.{or-neither}
use Rattle.std.specs.Prelude.{Result, Ok, Err}
use Rattle.limits.specs.Limits.{record_max}
use Rattle.refusal.specs.declared.Refusal.{Refusal}
use Rattle.refusal.specs.declared.Refusal.TheVariants.{EntryNumber, NoWord}
use Rattle.refusal.specs.Refusal.{number_of}
use Rattle.list.specs.declared.probe.Probe.{Probe}
use Rattle.index.specs.Format.{word_count}
use Rattle.index.specs.Check.{check_of}
use Rattle.index.proofs.CheckLaws.{not_good, good-sound, check-numbers}
use Rattle.directory.specs.Standing.{standing_of, Stands}
use Rattle.directory.specs.Entry.{standing_answer, lookup_after, lookup_of, entry_after, entry_check}
use Rattle.directory.specs.Entry.{bad_range, range_answer}
use Rattle.directory.specs.Regions.{EntryIn}
use Rattle.directory.proofs.StandingLaws.{stands_at}

-- ---- a lookup

-- two places that are answered alike are one, and what a check refuses is answered unlike any
answers-tell : (a b : Result ℕ ℕ) → standing_answer a ≡ standing_answer b → a ≡ b
answers-tell (Ok i) (Ok j) e = let q : i ≡ j = cc in rw q
answers-tell (Ok i) (Err p) e = absurd (let z : ◌≡◌ {A = ℕ} 0 1 = cc in omega arith)
answers-tell (Err p) (Ok j) e = absurd (let z : ◌≡◌ {A = ℕ} 0 1 = cc in omega arith)
answers-tell (Err p) (Err q) e = let d : p ≡ q = cc in rw d

check-unlike : (r : Refusal) (found : Result ℕ ℕ) → number_of r ≤ 5 → Err r ≡ standing_answer found → ⊥
check-unlike r (Ok i) few e = absurd (let z : ◌≡◌ {A = ℕ} 0 1 = cc in omega arith)
check-unlike r (Err p) few e = let q : r ≡ NoWord p = cc in let many : 21 ≤ 5 = rw q at few in omega arith

module _ (index word : List ℕ) where
  -- Reference 8.2: the words below the number, whether it is answered or carried by 21, stand before the bytes, and those from it on do not
  pub lookup-stands : (found : Result ℕ ℕ) → lookup_of index word ≡ standing_answer found → Stands index word found
  unfolding lookup_of
  lookup-stands found = go (check_of index) refl
    where
      go : (k : Result Unit Refusal) → check_of index ≡ k → lookup_after k (standing_of index word) ≡ standing_answer found → Stands index word found
      go (Err r) e h = absurd (check-unlike r found (check-numbers index r e) h)
      go (Ok good) e h = stands_at index (good-sound index e) word found (answers-tell (standing_of index word) found h)

-- ---- an entry number

after-good : (k : Result Unit Refusal) (below : Bool) → entry_after k below ≡ Ok tt → (k ≡ Ok tt) × (below ≡ true)
after-good (Err r) below e = not_good r e
after-good (Ok good) true e = (refl, refl)
after-good (Ok good) false e = not_good (EntryNumber 0) e

-- an entry that is not refused is one of a sound index
pub entry-good : (index : List ℕ) (i : ℕ) → entry_check index i ≡ Ok tt → EntryIn index i
unfolding entry_check
entry-good index i e =
    let w = after-good (check_of index) (ltb i (word_count index)) e in
    record { sound = good-sound index w.0; below = ltb-true i (word_count index) w.1 }

-- ---- a probe

pub range-good : (a b : ℕ) → bad_range a b ≡ false → (a ≤ b) × (b ≤ record_max)
unfolding bad_range
range-good a b e =
    let p = or-neither (eqb a 0 || ltb b a) (ltb record_max b) e in
    let q = or-neither (eqb a 0) (ltb b a) p.0 in
    (ltb-false b a q.1, ltb-false record_max b p.1)

pub range-counted : (a b below overlapping : ℕ) (r : Probe) → bad_range a b ≡ false → r.below ≡ below → r.overlapping ≡ overlapping →
    Ok r ≡ range_answer (bad_range a b) below overlapping
range-counted a b below overlapping r e p q = rw (e, ← p, ← q)
