-- What a check answers, and that it answers Ok exactly of a sound index.
use Prim.Native.Nat.{ℕ, ◌≤◌, ◌<◌}
use mathlib.Core.Path.{◌≡◌, refl, ◌∙◌}
use native.Mathlib.Omega.{arith}
use mathlib.Core.Bool.{Bool, true, false, cond}
use mathlib.Core.List.{List}
use lib.ListN.{length}
use borrow.Author.Tests.{le-ltb, eq-eqb}
use Rattle.std.specs.Prelude.{Option, Some, None, Result, Ok, Err}
use Rattle.limits.specs.Limits.{index_max, index_min}
use Rattle.refusal.specs.declared.Refusal.{Refusal}
use Rattle.refusal.specs.declared.Refusal.TheVariants.{IndexLength, IndexEdition, IndexTrailer, IndexEntry, IndexList}
use Rattle.refusal.specs.Refusal.{number_of}
use Rattle.refusal.specs.First.{first}
use Rattle.refusal.proofs.FirstLaws.{first-none, first-none-is}
use Rattle.index.specs.Format.{word_count, edition}
use Rattle.index.specs.Sound.{bad_length, bad_edition, bad_trailer, bad_entry, bad_end, bad_list, Sound}
use Rattle.index.specs.Check.{bad_place, bad_entry_of, entries_answer, bad_list_of, lists_answer, contents_of, check_of}

-- ---- what passes a check

module _ (index : List ℕ) where
  pub length-good : index_min ≤ length index → length index ≤ index_max → bad_length index ≡ false
  unfolding bad_length
  length-good h k = rw (le-ltb (length index) index_min h, le-ltb index_max (length index) k)

  pub edition-good : edition index ≡ 1 → bad_edition index ≡ false
  unfolding bad_edition
  edition-good e = rw (eq-eqb (edition index) 1 e)

  pub check-contents : bad_length index ≡ false → bad_edition index ≡ false → bad_trailer index ≡ false → check_of index ≡ contents_of index
  unfolding check_of
  check-contents h k e = rw (h, k, e)

  pub contents-good : bad_entry_of index ≡ None → bad_list_of index ≡ None → contents_of index ≡ Ok tt
  unfolding contents_of
  contents-good e f = rw (e, f)

-- ---- Ok, exactly of a sound index

pub not_good : {A : Type 0} (r : Refusal) → ◌≡◌ {A = Result Unit Refusal} (Err r) (Ok tt) → A
not_good r e = absurd (let z : ◌≡◌ {A = ℕ} 0 1 = cc in omega arith)

-- a test before the rest
pub cond-good : (t : Bool) (r : Refusal) (next : Result Unit Refusal) → cond t (Err r) next ≡ Ok tt → (t ≡ false) × (next ≡ Ok tt)
cond-good true r next e = not_good r e
cond-good false r next e = (refl, e)

entries-passed : (f : Option ℕ) (next : Result Unit Refusal) → entries_answer f next ≡ Ok tt → (f ≡ None) × (next ≡ Ok tt)
entries-passed (Some i) next e = not_good (IndexEntry i) e
entries-passed None next e = (refl, e)

lists-passed : (f : Option ℕ) → lists_answer f ≡ Ok tt → f ≡ None
lists-passed (Some i) e = not_good (IndexList i) e
lists-passed None e = refl

somewhere : {A : Type 0} (i : ℕ) → Some i ≡ None → A
somewhere i e = absurd (let z : ◌≡◌ {A = ℕ} 0 1 = cc in omega arith)

pub place_none : (f : Option ℕ) (ends : Bool) (n : ℕ) → bad_place f ends n ≡ None → (f ≡ None) × (ends ≡ false)
place_none (Some i) ends n e = somewhere i e
place_none None true n e = somewhere n e
place_none None false n e = (refl, refl)

pub entries_good : (index : List ℕ) → bad_entry_of index ≡ None → (i : ℕ) → i < word_count index → bad_entry index i ≡ false
entries_good index e = first-none (bad_entry index) (word_count index)
    (place_none (first (bad_entry index) (word_count index)) (bad_end index) (word_count index) e).0

pub good-sound : (index : List ℕ) → check_of index ≡ Ok tt → Sound index
unfolding check_of contents_of
good-sound index e =
    let a = cond-good (bad_length index) (IndexLength (length index)) _ e in
    let b = cond-good (bad_edition index) (IndexEdition (edition index)) _ a.1 in
    let c = cond-good (bad_trailer index) IndexTrailer _ b.1 in
    let d = entries-passed (bad_entry_of index) (lists_answer (bad_list_of index)) c.1 in
    record {
      size = a.0;
      edition-one = b.0;
      trailer = c.0;
      entries = entries_good index d.0;
      ends = (place_none (first (bad_entry index) (word_count index)) (bad_end index) (word_count index) d.0).1;
      lists = first-none (bad_list index) (word_count index) (lists-passed (bad_list_of index) d.1);
    }

pub sound-good : (index : List ℕ) → Sound index → check_of index ≡ Ok tt
sound-good index s =
    check-contents index s.size s.edition-one s.trailer
    ∙ contents-good index (rw (first-none-is (bad_entry index) (word_count index) s.entries, s.ends))
    (first-none-is (bad_list index) (word_count index) s.lists)

-- ---- a check refuses by 1 to 5, and by no other

abbrev number_in : Result Unit Refusal → ℕ
number_in (Ok u) = 0
number_in (Err r) = number_of r

check-few : (index : List ℕ) → number_in (check_of index) ≤ 5
unfolding check_of contents_of
check-few index = go (bad_length index) (bad_edition index) (bad_trailer index) (bad_entry_of index) (bad_list_of index)
  where
    go : (size edition' trailer : Bool) (entries lists : Option ℕ) →
        number_in (cond size (Err (IndexLength (length index))) (cond edition' (Err (IndexEdition (edition index)))
        (cond trailer (Err IndexTrailer) (entries_answer entries (lists_answer lists)))))
        ≤ 5
    go true e t f l = omega arith
    go false true t f l = omega arith
    go false false true f l = omega arith
    go false false false (Some i) l = omega arith
    go false false false None (Some i) = omega arith
    go false false false None None = omega arith

pub check-numbers : (index : List ℕ) (r : Refusal) → check_of index ≡ Err r → number_of r ≤ 5
check-numbers index r e = rw e at (check-few index)
