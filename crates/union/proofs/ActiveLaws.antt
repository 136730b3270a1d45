-- The active interval: all below it is swept, all of it is in, and what is in above it is left at the lists' places.
use mathlib.Core.Path.{◌≡◌, refl, ◌∙◌}
use Prim.Native.Nat.{ℕ, max, ◌+◌, ◌/◌, ◌%◌, ◌≤◌, ◌<◌}
use native.Mathlib.Omega.{arith}
use mathlib.Core.Bool.{Bool, true, false}
use mathlib.Core.List.{List, []}
use lib.ListN.{length, get_or, replicate}
use borrow.Author.Tests.{ltb-true, ltb-false}
use Rattle.laws.proofs.Tests.{by-test, leb-cases}
use Rattle.limits.specs.Limits.{record_max}
use Rattle.list.specs.declared.Place.{Place}
use Rattle.list.specs.declared.answer.Tally.{Tally}
use Rattle.list.specs.declared.reading.Interval.{Interval}
use Rattle.list.specs.Ginix.{union_of}
use Rattle.list.specs.Kept.{start}
use Rattle.merge.specs.Request.{SoundRequest, lists_of}
use Rattle.merge.specs.Keys.{lower_mark, Keys, Refilled, due_at, FirstKeys}
use Rattle.merge.specs.Put.{Fitting, Put, PutWhere}
use Rattle.list.specs.Sweeps.{HasRoom, Sweeps}
use Rattle.merge.proofs.KeysLaws.{Front, keys-front, keys_none, keys-refill}
use Rattle.merge.proofs.TallyLaws.{Tallied, Whole, tallied-start, tallied-skip, tallied-fits, tallied-put, tallied-end}
use Rattle.merge.proofs.DueLaws.{AllRead, GoesAt, lower_next, upper_next, places_on, all-read-start, all-read-later, marked-goes, marked-lower}
use Rattle.merge.proofs.DueLaws.{next-bounds, next-inside, all-read-on, due-other}
use Rattle.union.specs.Active.{is_apart, Joined}
use Rattle.union.proofs.AnyLaws.{in_any, any-in, DueFrom, none_below, none_left}

-- ---- the least lower bound

-- list j's next interval, and no list's next lower bound is below its
pub record Next (index entries : List ℕ) (places : List Place) (j : ℕ) (next : Interval) : Type 0 where
  pub list : j < length entries
  pub goes : GoesAt index entries places j
  pub lower-is : next.lower ≡ lower_next index entries places j
  pub upper_is : next.upper ≡ upper_next index entries places j
  pub least : DueFrom index entries places next.lower

module _ {index entries : List ℕ} {places : List Place} {most : ℕ} (r : AllRead index entries places most) where
  module _ {y : ℕ} (f : Front (length entries) y (due_at index entries places)) where
    front_goes : GoesAt index entries places (y % 16)
    front_goes = marked-goes (r.list (y % 16) f.list) f.mark

    front-lower : y / 16 ≡ lower_mark (lower_next index entries places (y % 16))
    front-lower = marked-lower (r.list (y % 16) f.list) f.mark

    front-next : {next : Interval} → next.lower ≡ lower_next index entries places (y % 16) → next.upper ≡ upper_next index entries places (y % 16) →
        Next index entries places (y % 16) next
    front-next e d = record {
      list = f.list;
      goes = front_goes;
      lower-is = e;
      upper_is = d;
      least = λ i b bs h q. let m = f.least i b bs h q in let l = front-lower in omega arith;
    }

  module _ {j : ℕ} {next : Interval} (n : Next index entries places j next) where
    next-ordered : (1 ≤ next.lower) × (next.lower ≤ next.upper) × (next.upper ≤ record_max)
    next-ordered = let b = next-bounds (r.list j n.list) n.goes in (omega arith, omega arith, omega arith)

    next-in : (x : ℕ) → next.lower ≤ x → x ≤ next.upper → in_any index entries x ≡ true
    next-in x h g = any-in index entries j x n.list (next-inside (r.list j n.list) n.goes x (omega arith) (omega arith))

-- ---- the active interval

pub record Active (index entries : List ℕ) (writing : Bool) (out₀ out : List ℕ) (places : List Place) (t : Tally) (active : Interval) : Type 0 where
  pub below : Tallied (in_any index entries) writing out₀ out t active.lower
  pub order : active.lower ≤ active.upper
  pub high : active.upper ≤ record_max
  pub inside : (x : ℕ) → active.lower ≤ x → x ≤ active.upper → in_any index entries x ≡ true
  pub read : AllRead index entries places (active.upper + 2)

module _ {index entries : List ℕ} (asked : SoundRequest index entries) {writing : Bool} {out₀ : List ℕ} where
  -- it begins as the least lower bound alone
  active-start : {keys : List ℕ} {t : Tally} {active : Interval} → length keys ≡ 16 → FirstKeys index entries keys →
      t.intervals ≡ 0 → t.records ≡ 0 → active.lower ≡ get_or keys 0 0 / 32 → active.upper ≡ get_or keys 0 0 / 32 →
      Active index entries writing out₀ out₀ (replicate 16 start) t active
  active-start {keys} {t} {active} l k e f a b =
      let j = get_or keys 0 0 % 16 in
      let few = asked.few in
      let r = all-read-start asked in
      let fr = keys-front few k asked.some (omega arith) in
      let m = front-lower r fr in
      let n = front-next r fr {next = record {
        lower = lower_next index entries (replicate 16 start) j;
        upper = upper_next index entries (replicate 16 start) j;
      }} refl refl in
      let o = next-ordered r n in
      record {
        below = tallied-skip (tallied-start e f) (omega arith) (omega arith)
            (λ z h w. none_below r active.lower (λ i c cs q d. let u = fr.least i c cs q d in omega arith) z (omega arith) w);
        order = omega arith;
        high = omega arith;
        inside = λ x h w. next-in r n x (omega arith) (omega arith);
        read = all-read-later r (omega arith);
      }

  module _ {out : List ℕ} {places : List Place} {t : Tally} {active : Interval} (s : Active index entries writing out₀ out places t active) where
    -- where the number behind it is out, it is a stretch of the union
    active-whole : in_any index entries (active.upper + 1) ≡ false → Whole (in_any index entries) active.lower active
    active-whole e = record {
      near = omega arith;
      order = s.order;
      high = s.high;
      none = λ z h g. absurd (omega arith);
      inside = s.inside;
      stop = λ h. e;
    }

    module _ {j : ℕ} {next : Interval} (n : Next index entries places j next) where
      -- what lies between the active interval and the next one is out
      apart_below : (x : ℕ) → active.upper < x → x < next.lower → in_any index entries x ≡ false
      apart_below x h g = none_below s.read next.lower n.least x (omega arith) g

      apart-whole : is_apart active next ≡ true → Whole (in_any index entries) active.lower active
      apart-whole e = active-whole (apart_below (active.upper + 1) (omega arith) (ltb-true (active.upper + 1) next.lower e))

      active-fits : HasRoom (union_of (lists_of index entries)) writing out₀ → is_apart active next ≡ true → Fitting writing out t active
      unfolding union_of
      active-fits r e = tallied-fits s.below (apart-whole e) r

      module _ {out' : List ℕ} {t' : Tally} {active' : Interval} {places' : List Place} (u : active'.upper ≡ max active.upper next.upper)
          (r : AllRead index entries places' (active'.upper + 2)) where
        -- it is put, and begins anew
        active-anew : is_apart active next ≡ true → Put writing out out' t active t' → active'.lower ≡ next.lower →
            Active index entries writing out₀ out' places' t' active'
        active-anew e put l =
            let a = ltb-true (active.upper + 1) next.lower e in
            let o = next-ordered s.read n in
            record {
              below = tallied-skip (tallied-put s.below (apart-whole e) put) (omega arith) (omega arith)
                  (λ z h g. apart_below z (omega arith) (omega arith));
              order = omega arith;
              high = omega arith;
              inside = λ x h g. next-in s.read n x (omega arith) (omega arith);
              read = r;
            }

        -- the next one joins it
        active_on : is_apart active next ≡ false → t' ≡ t → out' ≡ out → active'.lower ≡ active.lower →
            Active index entries writing out₀ out' places' t' active'
        active_on e et eo l =
            let a = ltb-false (active.upper + 1) next.lower e in
            let o = next-ordered s.read n in
            let order = s.order in
            let high = s.high in
            record {
              below = rw (et, eo, l) s.below;
              order = omega arith;
              high = omega arith;
              inside = λ x h g. leb-cases x active.upper (λ w. s.inside x (omega arith) w) (λ w. next-in s.read n x (omega arith) (omega arith));
              read = r;
            }

      active-step : {out' : List ℕ} {t' : Tally} {active' : Interval} → PutWhere (is_apart active next) writing out out' t active t' →
          Joined active next active' →
          Active index entries writing out₀ out' (places_on index entries places j) t' active'
      active-step {active' = active'} put joined =
          let upper = joined.upper-on in
          let e = n.upper_is in
          let read : AllRead index entries (places_on index entries places j) (active'.upper + 2) =
          all-read-on asked s.read j n.list n.goes (omega arith) (omega arith) in
          by-test (is_apart active next)
          (λ a. active-anew upper read a (put.0 a) (joined.lower-on ∙ rw a))
          (λ a. active_on upper read a (put.1 a).0 (put.1 a).1 (joined.lower-on ∙ rw a))

    -- every list is used up
    module _ (none : (i : ℕ) → i < length entries → due_at index entries places i ≡ []) where
      out-above : (x : ℕ) → active.upper < x → in_any index entries x ≡ false
      out-above x h = none_left s.read none x (omega arith)

      last_fits : HasRoom (union_of (lists_of index entries)) writing out₀ → Fitting writing out t active
      unfolding union_of
      last_fits r = tallied-fits s.below (active-whole (out-above (active.upper + 1) (omega arith))) r

      last-put : {out' : List ℕ} {t' : Tally} → HasRoom (union_of (lists_of index entries)) writing out₀ → Put writing out out' t active t' →
          Sweeps (union_of (lists_of index entries)) writing out₀ out' t'
      unfolding union_of
      last-put r put =
          let high = s.high in
          let d = tallied-put s.below (active-whole (out-above (active.upper + 1) (omega arith))) put in
          tallied-end (tallied-skip d (omega arith) (omega arith) (λ z h g. out-above z (omega arith))) r

-- ---- the scan line: the heap, the places and the active interval together

pub record Line (index entries : List ℕ) (writing : Bool) (out₀ out keys : List ℕ) (size : ℕ) (places : List Place) (t : Tally)
    (active : Interval) : Type 0 where
  pub long : length keys ≡ 16
  pub small : size ≤ 16
  pub queue : Keys (length entries) size keys (due_at index entries places)
  pub state : Active index entries writing out₀ out places t active

module _ {index entries : List ℕ} (asked : SoundRequest index entries) {writing : Bool} {out₀ : List ℕ} where
  pub line-start : {keys : List ℕ} {size : ℕ} {places : List Place} {t : Tally} {active : Interval} → length keys ≡ 16 →
      FirstKeys index entries keys → size ≡ length entries → places ≡ replicate 16 start →
      t.intervals ≡ 0 → t.records ≡ 0 → active.lower ≡ get_or keys 0 0 / 32 → active.upper ≡ get_or keys 0 0 / 32 →
      Line index entries writing out₀ out₀ keys size places t active
  line-start l k n e a b c d = record {
    long = l;
    small = let f = asked.few in omega arith;
    queue = rw (n, e) k;
    state = rw e (active-start asked l k a b c d);
  }

  module _ {out keys : List ℕ} {size : ℕ} {places : List Place} {t : Tally} {active : Interval}
      (s : Line index entries writing out₀ out keys size places t active) where
    module _ (some : 0 < size) {key : ℕ} (least : key ≡ get_or keys 0 0) where
      front : Front (length entries) key (due_at index entries places)
      front = rw least (keys-front asked.few s.queue some (let l = s.long in let m = s.small in omega arith))

      -- whose bound is the least
      pub line-list : key % 16 < length entries
      line-list = front.list

      pub line-goes : GoesAt index entries places (key % 16)
      line-goes = front_goes s.state.read front

      pub line-next : {next : Interval} → next.lower ≡ lower_next index entries places (key % 16) →
          next.upper ≡ upper_next index entries places (key % 16) → Next index entries places (key % 16) next
      line-next = front-next s.state.read front

      pub line-fits : {next : Interval} → Next index entries places (key % 16) next → HasRoom (union_of (lists_of index entries)) writing out₀ →
          is_apart active next ≡ true → Fitting writing out t active
      line-fits n = active-fits asked s.state n

      pub line_step : {next : Interval} {out' keys' : List ℕ} {size' : ℕ} {places' : List Place} {t' : Tally} {active' : Interval}
          → Next index entries places (key % 16) next
          → PutWhere (is_apart active next) writing out out' t active t'
          → Joined active next active'
          → places' ≡ places_on index entries places (key % 16)
          → Refilled (key % 16) (due_at index entries places' (key % 16)) size keys size' keys'
          → Line index entries writing out₀ out' keys' size' places' t' active'
      line_step n put joined e r = record {
        long = r.room ∙ s.long;
        small = let a = r.fewer in let b = s.small in omega arith;
        queue = keys-refill asked.few s.queue least front r (λ i ne. rw e (due-other index entries places (key % 16) i ne));
        state = rw e (active-step asked s.state n put joined);
      }

    module _ (over : size ≤ 0) (r : HasRoom (union_of (lists_of index entries)) writing out₀) where
      line-none : (i : ℕ) → i < length entries → due_at index entries places i ≡ []
      line-none = keys_none asked.few s.queue (omega arith)

      pub line-last : Fitting writing out t active
      line-last = last_fits asked s.state line-none r

      pub line-end : {out' : List ℕ} {t' : Tally} → Put writing out out' t active t' → Sweeps (union_of (lists_of index entries)) writing out₀ out' t'
      line-end = last-put asked s.state line-none r
