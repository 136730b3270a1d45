-- The walk of the shortest list, and the sweep that puts what of each of its intervals stands in every list.
use mathlib.Core.Path.{◌≡◌, refl}
use Prim.Native.Nat.{ℕ, ◌+◌, ◌≤◌, ◌<◌}
use native.Mathlib.Omega.{arith}
use mathlib.Core.Bool.{Bool, false}
use mathlib.Core.List.{List}
use lib.ListN.{length, get_or}
use Rattle.limits.specs.Limits.{record_max}
use Rattle.list.specs.declared.Place.{Place}
use Rattle.list.specs.declared.answer.Tally.{Tally}
use Rattle.list.specs.Interval.{names}
use Rattle.list.specs.Ginix.{intersection_of}
use Rattle.list.specs.Kept.{start, next_place, lower_at, upper_at}
use Rattle.list.specs.Reading.{Goes}
use Rattle.list.proofs.LeftLaws.{ReadTo, read-start, read_goes, read-end, read-bounds, read-before, read-inside, read_behind, read_next}
use Rattle.list.proofs.ReadingLaws.{next_fits}
use Rattle.index.specs.Format.{highest, list_of, entry_singles, entry_lowers, entry_uppers}
use Rattle.index.proofs.SoundLaws.{sound-trailer}
use Rattle.merge.specs.Request.{SoundRequest, lists_of}
use Rattle.list.specs.Sweeps.{HasRoom, Sweeps}
use Rattle.merge.proofs.ListsLaws.{entry_kept, asked_entry}
use Rattle.merge.proofs.TallyLaws.{Tallied, tallied-start, tallied-skip, tallied-end}
use Rattle.merge.specs.Every.{in_all}
use Rattle.probing.specs.Probing.{cells_between, PiecesFit, PiecesPut, StandsIn}
use Rattle.probing.proofs.BetweenLaws.{between-fits, between_put}
use Rattle.merge.proofs.EveryLaws.{every-out}

-- list e is read up to a place, after i intervals; the numbers below x are swept
pub record Going (index entries : List ℕ) (e : ℕ) (writing : Bool) (out₀ out : List ℕ) (t : Tally) (at : Place) (i : ℕ) : Type 0 where
  pub x : ℕ
  pub k : ℕ
  pub near : (x ≤ k) × (k ≤ x + 1)
  pub passed : i ≡ at.p.0 + at.q.0
  pub read : ReadTo (highest index) (entry_singles index e) (entry_lowers index e) (entry_uppers index e) at k
  pub swept : Tallied (in_all index entries) writing out₀ out t x

module _ {index entries : List ℕ} (asked : SoundRequest index entries) {j : ℕ} (h : j < length entries) where
  list-top : highest index ≤ record_max
  list-top = (sound-trailer index asked.sound).highest-bound

  -- what the list does not name is not in every list
  out-all : (z : ℕ) → names (list_of index (get_or entries j 0)) z ≡ false → in_all index entries z ≡ false
  out-all z e = every-out index entries j z h e

  pub going_start : {writing : Bool} {out : List ℕ} {t : Tally} → t.intervals ≡ 0 → t.records ≡ 0 →
      Going index entries (get_or entries j 0) writing out out t start 0
  going_start e f =
      record {
        x = 1;
        k = 1;
        near = (omega arith, omega arith);
        passed = refl;
        read = read-start (entry_kept (asked_entry asked j h));
        swept = tallied-start e f;
      }

  module _ {writing : Bool} {out₀ out : List ℕ} {t : Tally} {at : Place} {i : ℕ} (g : Going index entries (get_or entries j 0) writing out₀ out t at i) where
    abbrev S : List ℕ
    S = entry_singles index (get_or entries j 0)

    abbrev L : List ℕ
    L = entry_lowers index (get_or entries j 0)

    abbrev U : List ℕ
    U = entry_uppers index (get_or entries j 0)

    pub going-goes : i < length S + length L → Goes S L at
    going-goes m = read_goes g.read (let p = g.passed in omega arith)

    -- every interval is passed
    pub going_end : length S + length L ≤ i → HasRoom (intersection_of (lists_of index entries)) writing out₀ →
        Sweeps (intersection_of (lists_of index entries)) writing out₀ out t
    unfolding intersection_of list_of
    going_end m r =
        let n = g.near in
        let p = g.passed in
        tallied-end (tallied-skip g.swept g.swept.swept.near.1 (omega arith) (λ z f d. out-all z (read-end g.read (omega arith) z (omega arith)))) r

    -- an interval is left
    module _ (o : Goes S L at) where
      abbrev l : ℕ
      l = lower_at S L at

      abbrev u : ℕ
      u = upper_at S L U at

      bounds : (g.k ≤ l) × (l ≤ u) × (u ≤ highest index)
      bounds = read-bounds g.read o

      up : u ≤ record_max
      up = let b = bounds in let t = list-top in omega arith

      pub going-within : StandsIn index entries j l u
      unfolding list_of
      going-within = record { asked = asked; list = h; high = up; covers = read-inside g.read o }

      pub going-ordered : l ≤ u
      going-ordered = bounds.1

      reach : g.x ≤ l
      reach = let b = bounds in let n = g.near in omega arith

      low : (z : ℕ) → g.x ≤ z → z < l → in_all index entries z ≡ false
      unfolding list_of
      low z f d = out-all z (read-before g.read o z (let n = g.near in omega arith) d)

      stop : u < record_max → in_all index entries (u + 1) ≡ false
      unfolding list_of
      stop f = out-all (u + 1) (read_behind g.read o)

      pub going-fits : HasRoom (intersection_of (lists_of index entries)) writing out₀ → PiecesFit writing out t (cells_between (in_all index entries) l u)
      unfolding intersection_of
      going-fits r = between-fits g.swept l u reach bounds.1 up low stop r

      pub going_next : {out' : List ℕ} {t' : Tally} → PiecesPut writing out out' t (cells_between (in_all index entries) l u) t' →
          Going index entries (get_or entries j 0) writing out₀ out' t' (next_place S L at) (i + 1)
      going_next q =
          let f = next_fits S L at o in
          let p = g.passed in
          record {
            x = u + 1;
            k = u + 2;
            near = (omega arith, omega arith);
            passed = omega arith;
            read = read_next g.read o;
            swept = between_put g.swept l u reach bounds.1 up low stop q;
          }
