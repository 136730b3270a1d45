-- A tally on its way: the numbers below x are swept, by any test, and what was put is counted.
use mathlib.Core.Path.{◌≡◌, refl}
use Prim.Native.Nat.{ℕ, ◌+◌, ◌*◌, ◌≤◌, ◌<◌}
use native.Mathlib.Omega.{arith}
use mathlib.Core.Bool.{Bool, true, false}
use mathlib.Core.List.{List}
use lib.ListN.{length}
use Rattle.limits.specs.Limits.{record_max}
use Rattle.list.specs.declared.answer.Tally.{Tally}
use Rattle.list.specs.declared.reading.Interval.{Interval}
use Rattle.list.specs.Interval.{intervals, records}
use Rattle.list.specs.Stretches.{cells_of}
use Rattle.list.proofs.SweepLaws.{Swept, swept-start, swept-cells-few, swept-records-few, swept-length, swept-skip, swept-room, swept-put}
use Rattle.list.proofs.SweepLaws.{swept-count, swept-records, swept-written}
use Rattle.merge.specs.Put.{Fitting, Put}
use Rattle.list.specs.Sweeps.{HasRoom, Sweeps}

pub record Tallied (p : ℕ → Bool) (writing : Bool) (out₀ out : List ℕ) (t : Tally) (x : ℕ) : Type 0 where
  pub swept : Swept p record_max writing out₀ out false x (2 * t.intervals) t.records

-- all of an interval is in; nothing from x to below it, nor the number behind it, is
pub record Whole (p : ℕ → Bool) (x : ℕ) (i : Interval) : Type 0 where
  pub near : x ≤ i.lower
  pub order : i.lower ≤ i.upper
  pub high : i.upper ≤ record_max
  pub none : (z : ℕ) → x ≤ z → z < i.lower → p z ≡ false
  pub inside : (z : ℕ) → i.lower ≤ z → z ≤ i.upper → p z ≡ true
  pub stop : i.upper < record_max → p (i.upper + 1) ≡ false

swept_as : {p : ℕ → Bool} {writing : Bool} {out₀ out out' : List ℕ} {x k k' r r' : ℕ} → out' ≡ out → k' ≡ k → r' ≡ r →
    Swept p record_max writing out₀ out false x k r → Swept p record_max writing out₀ out' false x k' r'
swept_as e f g s = rw (e, f, g) s

pub tallied-start : {p : ℕ → Bool} {writing : Bool} {out : List ℕ} {t : Tally} → t.intervals ≡ 0 → t.records ≡ 0 → Tallied p writing out out t 1
tallied-start {p} {writing} {out} {t} e f = record { swept = swept_as {p = p} refl (omega arith) f (swept-start p record_max writing out) }

module _ {p : ℕ → Bool} {writing : Bool} {out₀ out : List ℕ} {t : Tally} {x : ℕ} (d : Tallied p writing out₀ out t x) where
  pub tallied-length : length out ≡ length out₀
  tallied-length = swept-length d.swept

  -- nothing is in from x to below y
  pub tallied-skip : {y : ℕ} → x ≤ y → y ≤ record_max + 1 → ((z : ℕ) → x ≤ z → z < y → p z ≡ false) → Tallied p writing out₀ out t y
  tallied-skip {y} h g q = record { swept = swept-skip d.swept y h g q }

  module _ {i : Interval} (w : Whole p x i) where
    pub tallied-fits : HasRoom (cells_of p record_max) writing out₀ → Fitting writing out t i
    tallied-fits r = record {
      room = λ e. swept-room d.swept i.lower i.upper w.near w.order w.high w.none w.inside w.stop e (r e);
      few = let a = swept-cells-few d.swept in omega arith;
      small = swept-records-few d.swept;
      order = w.order;
      high = w.high;
    }

    pub tallied-put : {out' : List ℕ} {r : Tally} → Put writing out out' t i r → Tallied p writing out₀ out' r (i.upper + 1)
    tallied-put q =
        let a = q.intervals-more in
        record {
          swept = swept_as q.cells (omega arith) q.records-more
              (swept-put d.swept i.lower i.upper w.near w.order w.high w.none w.inside w.stop);
        }

-- all is swept
pub tallied-end : {p : ℕ → Bool} {writing : Bool} {out₀ out : List ℕ} {t : Tally} → Tallied p writing out₀ out t (record_max + 1) →
    HasRoom (cells_of p record_max) writing out₀ → Sweeps (cells_of p record_max) writing out₀ out t
tallied-end {p} {writing} {out₀} {out} {t} s r =
    let c = swept-count s.swept in
    let v : t.intervals ≡ intervals (cells_of p record_max) = omega arith in
    let w : t.records ≡ records (cells_of p record_max) = swept-records s.swept in
    record { tally = rw (← v, ← w); cells = swept-written s.swept r }
