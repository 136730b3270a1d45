-- The stretch that is open at the scan line, of any test: it begins at a lower bound, goes on, and is put where it ends.
use mathlib.Core.Path.{◌≡◌, sym, ap, ◌∙◌}
use Prim.Native.Nat.{ℕ, ◌+◌, ◌-◌, ◌≤◌, ◌<◌}
use native.Mathlib.Omega.{arith}
use native.Mathlib.Decide.{ℕ_discrete}
use mathlib.Core.Bool.{Bool, true, false}
use mathlib.Core.List.{List}
use lib.Dec.{eqb}
use borrow.Author.Tests.{eq-eqb, ne_eqb}
use Rattle.laws.proofs.Tests.{leb-cases}
use Rattle.limits.specs.Limits.{record_max}
use Rattle.list.specs.declared.answer.Tally.{Tally}
use Rattle.list.specs.Stretches.{cells_of}
use Rattle.merge.specs.Put.{Fitting, PutWhere, up_to}
use Rattle.list.specs.Sweeps.{HasRoom}
use Rattle.union.specs.Scan.{lower_from}
use Rattle.merge.proofs.TallyLaws.{Tallied, Whole, tallied-skip, tallied-fits, tallied-put}

-- all below x is swept; up to s all is out where no list is in, and all is in, from `lower` on, where one is
pub record Stretch (p : ℕ → Bool) (writing : Bool) (out₀ out : List ℕ) (t : Tally) (s count lower : ℕ) : Type 0 where
  pub x : ℕ
  pub near : x ≤ s
  pub below : Tallied p writing out₀ out t x
  pub closed : count ≡ 0 → (z : ℕ) → x ≤ z → z < s → p z ≡ false
  pub opened : 0 < count → (x ≡ lower) × ((z : ℕ) → x ≤ z → z < s → p z ≡ true)

module _ {p : ℕ → Bool} {writing : Bool} {out₀ out : List ℕ} {t : Tally} {s count lower : ℕ} (g : Stretch p writing out₀ out t s count lower) where
  -- a lower bound comes at v
  pub stretch-begun : {v lower' : ℕ} → s ≤ v → v ≤ record_max + 1 → (count ≡ 0 → (z : ℕ) → s ≤ z → z < v → p z ≡ false) →
      (0 < count → (z : ℕ) → s ≤ z → z < v → p z ≡ true) →
      lower' ≡ lower_from count lower v → Stretch p writing out₀ out t v (count + 1) lower'
  stretch-begun {v} {lower'} h m shut wide e = go (ℕ_discrete count 0)
    where
      go : Dec (count ≡ 0) → Stretch p writing out₀ out t v (count + 1) lower'
      go (yes c) =
          let near = g.near in
          let l : lower' ≡ v = e ∙ rw (eq-eqb count 0 c) in
          record {
            x = v;
            near = omega arith;
            below = tallied-skip g.below (omega arith) m (λ z a b. leb-cases s z (λ w. shut c z w b) (λ w. g.closed c z a w));
            closed = λ n. absurd (omega arith);
            opened = λ n. (sym l, λ z a b. absurd (omega arith));
          }
      go (no c) =
          let near = g.near in
          let l : lower' ≡ lower = e ∙ rw (ne_eqb count 0 c) in
          record {
            x = g.x;
            near = omega arith;
            below = g.below;
            closed = λ n. absurd (omega arith);
            opened = λ n. let o = g.opened (omega arith) in (o.0 ∙ sym l, λ z a b. leb-cases s z (λ w. wide (omega arith) z w b) (λ w. o.1 z a w));
          }

  -- an upper bound comes before v
  module _ (v : ℕ) (some : 0 < count) (h : s ≤ v) (m : v ≤ record_max + 1) (wide : (z : ℕ) → s ≤ z → z < v → p z ≡ true) (long : lower < v) where
    wide-on : (z : ℕ) → g.x ≤ z → z < v → p z ≡ true
    wide-on z a b = leb-cases s z (λ w. wide z w b) (λ w. (g.opened some).1 z a w)

    whole : p v ≡ false → Whole p g.x (up_to lower v)
    whole e =
        let l = (g.opened some).0 in
        record {
          near = omega arith;
          order = omega arith;
          high = omega arith;
          none = λ z a b. absurd (omega arith);
          inside = λ z a b. wide-on z (omega arith) (omega arith);
          stop = λ n. let q : v - 1 + 1 ≡ v = omega arith in ap p q ∙ e;
        }

    pub stretch-fits : p v ≡ false → HasRoom (cells_of p record_max) writing out₀ → Fitting writing out t (up_to lower v)
    stretch-fits e r = tallied-fits g.below (whole e) r

    pub stretch-closed : {count' : ℕ} {out' : List ℕ} {t' : Tally} → (count' ≡ 0 → p v ≡ false) → PutWhere (eqb count' 0) writing out out' t (up_to lower v) t' →
        Stretch p writing out₀ out' t' v count' lower
    stretch-closed {count'} {out'} {t'} stop put = go (ℕ_discrete count' 0)
      where
        go : Dec (count' ≡ 0) → Stretch p writing out₀ out' t' v count' lower
        go (yes c) =
            let q : v ≡ v - 1 + 1 = omega arith in
            record {
              x = v;
              near = omega arith;
              below = rw q (tallied-put g.below (whole (stop c)) (put.0 (eq-eqb count' 0 c)));
              closed = λ n z a b. absurd (omega arith);
              opened = λ n. absurd (omega arith);
            }
        go (no c) =
            let near = g.near in
            record {
              x = g.x;
              near = omega arith;
              below = let q = put.1 (ne_eqb count' 0 c) in rw (q.0, q.1) g.below;
              closed = λ n. absurd (c n);
              opened = λ n. ((g.opened some).0, wide-on);
            }
