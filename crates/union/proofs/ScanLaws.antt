-- The scan line as a whole: the heap, the places, the counter and the open stretch.
use mathlib.Core.Path.{◌≡◌, refl, sym, ◌∙◌}
use Prim.Native.Nat.{ℕ, ◌+◌, ◌-◌, ◌/◌, ◌%◌, ◌≤◌, ◌<◌}
use native.Mathlib.Omega.{arith}
use mathlib.Core.Bool.{Bool, true, false}
use mathlib.Core.List.{List, [], ◌∷◌}
use lib.Dec.{eqb}
use lib.ListN.{length, get_or, replicate}
use borrow.Author.Tests.{eq-eqb, ne_eqb}
use Rattle.laws.proofs.Tests.{true-false, leb-cases}
use Rattle.limits.specs.Limits.{record_max}
use Rattle.list.specs.declared.Place.{Place}
use Rattle.list.specs.declared.answer.Tally.{Tally}
use Rattle.list.specs.Ginix.{one, union_of}
use Rattle.list.specs.Kept.{start}
use Rattle.merge.specs.Request.{SoundRequest, lists_of}
use Rattle.merge.specs.Keys.{sum_of, upper_mark, Keys, Refilled, due_at, FirstKeys}
use Rattle.merge.specs.Put.{Fitting, PutWhere, up_to}
use Rattle.list.specs.Sweeps.{HasRoom, Sweeps}
use Rattle.merge.proofs.KeysLaws.{sum-where, Front, keys-front, keys_none, keys-refill}
use Rattle.merge.proofs.DueLaws.{GoesAt, upper_next, places_on, all-read-start, all-read-later, marked-goes, marked-lower, next-bounds, places-other}
use Rattle.merge.proofs.TallyLaws.{tallied-start, tallied-skip, tallied-end}
use Rattle.union.specs.Scan.{lower_from}
use Rattle.union.proofs.AnyLaws.{in_any}
use Rattle.union.proofs.OpenLaws.{Stretch, stretch-begun, stretch-fits, stretch-closed}
use Rattle.union.proofs.OverLaws.{turned_to, due_scan, Over, over-few, over-end, begun-goes, begun-reach, begun-shut, begun-wide, begun-over}
use Rattle.union.proofs.OverLaws.{ended-goes, ended_some, ended-reach, ended-wide, ended-over, ended-stop}

pub record Scan (index entries : List ℕ) (writing : Bool) (out₀ out keys : List ℕ) (size : ℕ) (places : List Place) (t : Tally) (count lower : ℕ) : Type 0 where
  pub long : length keys ≡ 16
  pub small : size ≤ 16
  pub ins : ℕ → Bool
  pub line : ℕ
  pub queue : Keys (length entries) size keys (due_scan index entries places ins)
  pub over : Over index entries places ins line count lower
  pub stretch : Stretch (in_any index entries) writing out₀ out t line count lower

module _ {index entries : List ℕ} (asked : SoundRequest index entries) {writing : Bool} {out₀ : List ℕ} where
  pub scan-start : {keys : List ℕ} {size : ℕ} {places : List Place} {t : Tally} {count lower : ℕ} → length keys ≡ 16 →
      FirstKeys index entries keys → size ≡ length entries → places ≡ replicate 16 start →
      t.intervals ≡ 0 → t.records ≡ 0 → count ≡ 0 → Scan index entries writing out₀ out₀ keys size places t count lower
  scan-start l k n e a b c = record {
    long = l;
    small = let few = asked.few in omega arith;
    ins = λ j. false;
    line = 1;
    queue = rw (n, e) k;
    over = rw e (record {
      read = all-read-later (all-read-start asked) (omega arith);
      sum = leb-cases (sum_of (λ j. one false) (length entries)) 0 (λ h. omega arith)
          (λ h. absurd (let w = sum-where (λ j. one false) (length entries) h in let z = w.2 in omega arith));
      goes = λ i h d. true-false (sym d);
      spans = λ i h d. true-false (sym d);
      ahead = λ i m ms h d q. let r = (all-read-start asked).list i h in let o = marked-lower r q in let b = next-bounds r (marked-goes r q) in omega arith;
    });
    stretch = record {
      x = 1;
      near = omega arith;
      below = tallied-start a b;
      closed = λ z x h g. absurd (omega arith);
      opened = λ z. absurd (omega arith);
    };
  }

  module _ {out keys : List ℕ} {size : ℕ} {places : List Place} {t : Tally} {count lower : ℕ}
      (g : Scan index entries writing out₀ out keys size places t count lower) where
    module _ (some : 0 < size) {key : ℕ} (least : key ≡ get_or keys 0 0) where
      front : Front (length entries) key (due_scan index entries places g.ins)
      front = rw least (keys-front asked.few g.queue some (let l = g.long in let m = g.small in omega arith))

      -- whose bound is the least
      pub scan-list : key % 16 < length entries
      scan-list = front.list

      -- a lower bound
      module _ (even : key / 16 % 2 ≡ 0) where
        pub lower-goes : GoesAt index entries places (key % 16)
        lower-goes = begun-goes asked g.over front even

        pub lower-few : count + 1 ≤ 16
        lower-few = over-few asked (begun-over asked g.over front even refl)

        pub lower-step : {lower' : ℕ} {keys' : List ℕ} → lower' ≡ lower_from count lower (key / 32) →
            Refilled (key % 16) (upper_mark (upper_next index entries places (key % 16)) ∷ []) size keys size keys' →
            Scan index entries writing out₀ out keys' size places t (count + 1) lower'
        lower-step e r =
            let j = key % 16 in
            let reach = begun-reach asked g.over front even in
            record {
              long = r.room ∙ g.long;
              small = g.small;
              ins = turned_to true j g.ins;
              line = key / 32;
              queue = keys-refill asked.few g.queue least front (rw (eq-eqb j j refl) r) (λ i ne. rw (ne_eqb i j ne));
              over = begun-over asked g.over front even e;
              stretch = stretch-begun g.stretch reach.0 reach.1 (begun-shut asked g.over front even) (begun-wide asked g.over front even) e;
            }

      -- an upper bound
      module _ (odd : key / 16 % 2 ≡ 0 → ⊥) where
        pub upper-goes : GoesAt index entries places (key % 16)
        upper-goes = ended-goes asked g.over front odd

        pub upper-some : 0 < count
        upper-some = ended_some asked g.over front odd

        reach : (g.line ≤ key / 32) × (key / 32 ≤ record_max + 1) × (lower < key / 32)
        reach = ended-reach asked g.over front odd

        in-line : (z : ℕ) → g.line ≤ z → z < key / 32 → in_any index entries z ≡ true
        in-line = ended-wide asked g.over front odd

        fewer : count ≡ count - 1 + 1
        fewer = let s = upper-some in omega arith

        stop : count - 1 ≡ 0 → in_any index entries (key / 32) ≡ false
        stop = ended-stop asked g.over front odd fewer

        pub upper_fits : HasRoom (union_of (lists_of index entries)) writing out₀ →
            (1 ≤ key / 32) × (count - 1 ≡ 0 → Fitting writing out t (up_to lower (key / 32)))
        unfolding union_of
        upper_fits r =
            let h = reach in
            (omega arith, λ c. stretch-fits g.stretch (key / 32) upper-some h.0 h.1 in-line h.2 (stop c) r)

        same-due : (i : ℕ) → (i ≡ key % 16 → ⊥) →
            due_scan index entries places g.ins i
            ≡ due_scan index entries (places_on index entries places (key % 16)) (turned_to false (key % 16) g.ins) i
        same-due i ne = rw (ne_eqb i (key % 16) ne, places-other index entries places (key % 16) i ne)

        pub upper-step : {out' keys' : List ℕ} {size' : ℕ} {places' : List Place} {t' : Tally}
            → PutWhere (eqb (count - 1) 0) writing out out' t (up_to lower (key / 32)) t'
            → places' ≡ places_on index entries places (key % 16)
            → Refilled (key % 16) (due_at index entries places' (key % 16)) size keys size' keys'
            → Scan index entries writing out₀ out' keys' size' places' t' (count - 1) lower
        upper-step put e r =
            let h = reach in
            let j = key % 16 in
            record {
              long = r.room ∙ g.long;
              small = let a = r.fewer in let b = g.small in omega arith;
              ins = turned_to false j g.ins;
              line = key / 32;
              queue = keys-refill asked.few g.queue least front (rw (eq-eqb j j refl) r) (λ i ne. rw e (same-due i ne));
              over = rw e (ended-over asked g.over front odd fewer);
              stretch = stretch-closed g.stretch (key / 32) upper-some h.0 h.1 in-line h.2 stop put;
            }

    -- no key is left
    pub scan-end : size ≤ 0 → HasRoom (union_of (lists_of index entries)) writing out₀ → Sweeps (union_of (lists_of index entries)) writing out₀ out t
    unfolding union_of
    scan-end h r =
        let e = over-end asked g.over (keys_none asked.few g.queue (omega arith)) in
        let s = g.stretch in
        let n = s.below.swept.near in
        tallied-end (tallied-skip s.below n.1 (omega arith) (λ z a b. leb-cases g.line z (λ w. e.1 z w) (λ w. s.closed e.0 z a w))) r
