-- What is left of a kept list at a reading place, interval by interval.
use mathlib.Core.Path.{◌≡◌, ◌∙◌}
use Prim.Native.Nat.{ℕ, suc, ◌+◌, ◌-◌, ◌≤◌, ◌<◌}
use native.Mathlib.Omega.{arith}
use mathlib.Core.Bool.{true, false}
use mathlib.Core.List.{List, [], ◌∷◌}
use lib.ListN.{length}
use Rattle.list.specs.declared.Place.{Place}
use Rattle.list.specs.Interval.{names}
use Rattle.list.specs.Kept.{start, next_place, lower_at, upper_at, walk_from, walked}
use Rattle.list.specs.Reading.{Goes}
use Rattle.list.proofs.ProperLaws.{ProperFrom}
use Rattle.list.proofs.NamesLaws.{names_in, names-past, names-below, names-gap}
use Rattle.list.proofs.KeptLaws.{Kept}
use Rattle.list.proofs.ReadingLaws.{next_fits}

-- the cells that are still to be read
abbrev pub left_at : List ℕ → List ℕ → List ℕ → Place → List ℕ
left_at S L U at = walk_from S L U at (length S + length L - (at.p.0 + at.q.0))

module _ (S L U : List ℕ) where
  pub left-start : left_at S L U start ≡ walked S L U
  unfolding walked
  left-start = let e : length S + length L - (0 + 0) ≡ length S + length L = omega arith in rw e

  pub left-next : (at : Place) → Goes S L at → left_at S L U at ≡ lower_at S L at ∷ upper_at S L U at ∷ left_at S L U (next_place S L at)
  unfolding walk_from
  left-next at g =
      let f = next_fits S L at g in
      let m = g.more in
      let e : length S + length L - (at.p.0 + at.q.0) ≡ suc (length S + length L - ((next_place S L at).p.0 + (next_place S L at).q.0)) = omega arith in
      rw e

  pub left_end : (at : Place) → length S + length L ≤ at.p.0 + at.q.0 → left_at S L U at ≡ []
  unfolding walk_from
  left_end at h = let e : length S + length L - (at.p.0 + at.q.0) ≡ 0 = omega arith in rw e

-- a list within 1 to n is read up to a place: what is left there begins at k or later, and from k - 1 on it is all that the list names
pub record ReadTo (n : ℕ) (S L U : List ℕ) (at : Place) (k : ℕ) : Type 0 where
  pub single : at.p.0 ≤ length S
  pub pair : at.q.0 ≤ length L
  pub proper : ProperFrom n k (left_at S L U at)
  pub rest : (x : ℕ) → k ≤ x + 1 → names (walked S L U) x ≡ names (left_at S L U at) x

pub read-start : {n : ℕ} {S L U : List ℕ} → Kept n S L U → ReadTo n S L U start 1
read-start {n} {S} {L} {U} k =
    record {
      single = omega arith;
      pair = omega arith;
      proper = rw (left-start S L U) k.proper;
      rest = λ x h. rw (left-start S L U);
    }

module _ {n : ℕ} {S L U : List ℕ} {at : Place} {k : ℕ} (r : ReadTo n S L U at k) where
  pub read_goes : at.p.0 + at.q.0 < length S + length L → Goes S L at
  read_goes h = record { single = r.single; pair = r.pair; more = h }

  -- nothing is left
  pub read-end : length S + length L ≤ at.p.0 + at.q.0 → (x : ℕ) → k ≤ x + 1 → names (walked S L U) x ≡ false
  unfolding names
  read-end h x g = r.rest x g ∙ rw (left_end S L U at h)

  -- an interval is left
  module _ (g : Goes S L at) where
    proper-next : ProperFrom n k (lower_at S L at ∷ upper_at S L U at ∷ left_at S L U (next_place S L at))
    proper-next = rw (left-next S L U at g) at r.proper

    rest-next : (x : ℕ) → k ≤ x + 1 → names (walked S L U) x ≡ names (lower_at S L at ∷ upper_at S L U at ∷ left_at S L U (next_place S L at)) x
    rest-next x h = r.rest x h ∙ rw (left-next S L U at g)

    pub read-bounds : (k ≤ lower_at S L at) × (lower_at S L at ≤ upper_at S L U at) × (upper_at S L U at ≤ n)
    read-bounds = (proper-next.0, proper-next.1, proper-next.2)

    pub read-before : (x : ℕ) → k ≤ x + 1 → x < lower_at S L at → names (walked S L U) x ≡ false
    read-before x h f =
        let p = proper-next in
        rest-next x h ∙ names-below n (lower_at S L at) x (lower_at S L at ∷ upper_at S L U at ∷ left_at S L U (next_place S L at)) (omega arith, p.1, p.2, p.3) f

    pub read-inside : (x : ℕ) → lower_at S L at ≤ x → x ≤ upper_at S L U at → names (walked S L U) x ≡ true
    read-inside x h f =
        let p = proper-next in
        rest-next x (omega arith) ∙ names_in (lower_at S L at) (upper_at S L U at) x (left_at S L U (next_place S L at)) h f

    pub read_behind : names (walked S L U) (upper_at S L U at + 1) ≡ false
    read_behind =
        let p = proper-next in
        rest-next (upper_at S L U at + 1) (omega arith)
        ∙ names-gap n k (lower_at S L at) (upper_at S L U at) (upper_at S L U at + 1) (left_at S L U (next_place S L at)) p (omega arith) (omega arith)

    pub read_next : ReadTo n S L U (next_place S L at) (upper_at S L U at + 2)
    read_next =
        let f = next_fits S L at g in
        let p = proper-next in
        record {
          single = f.0;
          pair = f.1;
          proper = p.3;
          rest = λ x h. rest-next x (omega arith) ∙ names-past (lower_at S L at) (upper_at S L U at) x (left_at S L U (next_place S L at)) (omega arith);
        }
