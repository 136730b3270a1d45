-- The twin heap, turn by turn: up to the least upper bound all that stands in every list is put, and the list of that bound moves on.
use mathlib.Core.Path.{◌≡◌, refl, sym, ap, ◌∙◌}
use Prim.Native.Nat.{ℕ, suc, ◌+◌, ◌-◌, ◌≤◌, ◌<◌}
use native.Mathlib.Omega.{arith}
use native.Mathlib.Decide.{ℕ_discrete}
use mathlib.Core.Bool.{Bool, true, false}
use mathlib.Core.List.{List, [], ◌∷◌}
use lib.ListN.{length, get_or, replicate}
use lib.Dec.{leb}
use borrow.Author.Tests.{le-leb, lt-leb}
use Rattle.laws.proofs.Tests.{leb-cases}
use Rattle.limits.specs.Limits.{record_max}
use Rattle.list.specs.declared.Place.{Place}
use Rattle.list.specs.declared.answer.Tally.{Tally}
use Rattle.list.specs.Interval.{names}
use Rattle.list.specs.Ginix.{in_every, intersection_of}
use Rattle.list.specs.Kept.{start}
use Rattle.index.specs.Format.{list_of}
use Rattle.heap.specs.Heap.{Pushed, Replaced}
use Rattle.merge.specs.Request.{SoundRequest, lists_of}
use Rattle.merge.specs.Places.{used_up}
use Rattle.merge.specs.Put.{Fitting, PutWhere}
use Rattle.list.specs.Sweeps.{HasRoom, Sweeps}
use Rattle.merge.proofs.TallyLaws.{Tallied, Whole, tallied-start, tallied-skip, tallied-fits, tallied-put, tallied-end}
use Rattle.merge.proofs.DueLaws.{AllRead, GoesAt, places_on, go-start, goes_at, all-read-start, all-read-later, next-bounds, next-before}
use Rattle.merge.proofs.DueLaws.{next-inside, next-behind, quiet-used, places-other, on-later, all-read-on}
use Rattle.merge.specs.Every.{in_all}
use Rattle.twin.specs.Twin.{next_lower, next_upper, key_of, lack_of, Standing, Frontier, Lowers}
use Rattle.merge.proofs.EveryLaws.{every-out}
use Rattle.twin.proofs.FrontierLaws.{least_of, whose, front-list, front-upper, front_below, frontier-moved, front-rises}
use Rattle.twin.proofs.LowersLaws.{Largest, lowers-moved, front-small, lowers-largest}

-- ---- records in every list of a request

every_in : (index entries : List ℕ) (x : ℕ) → ((j : ℕ) → j < length entries → names (list_of index (get_or entries j 0)) x ≡ true) → in_all index entries x ≡ true
unfolding lists_of in_every
every_in index [] x f = refl
every_in index (i ∷ es) x f = rw (f 0 (omega arith)) (every_in index es x (λ j h. f (suc j) (omega arith)))

-- ---- the lists at their places

-- how far the sweep has come: `x - 1` is the last upper bound that was the least, and what is next in each list is the first that ends there or later
pub record Turning (index entries : List ℕ) (writing : Bool) (out₀ out : List ℕ) (places : List Place) (uppers : List ℕ) (t : Tally) : Type 0 where
  pub x : ℕ
  pub swept : Tallied (in_all index entries) writing out₀ out t x
  pub read : AllRead index entries places (x + 1)
  pub goes : (i : ℕ) → i < length entries → GoesAt index entries places i
  pub later : (i : ℕ) → i < length entries → x ≤ next_upper index entries i (get_or places i start) + 1
  pub frontier : Frontier index entries (λ i. get_or places i start) (length entries) uppers
  pub past : (i : ℕ) × (i < length entries) × (x ≤ next_lower index entries i (get_or places i start))
  pub long : length uppers ≡ 16

standing : {index entries : List ℕ} {places : List Place} {most : ℕ} → AllRead index entries places most →
    ((i : ℕ) → i < length entries → GoesAt index entries places i) → Standing index entries (λ i. get_or places i start)
standing r g = record { goes = g; small = λ i h. let b = next-bounds (r.list i h) (g i h) in omega arith }

module _ {index entries : List ℕ} (asked : SoundRequest index entries) where
  pub turning-start : {writing : Bool} {out uppers : List ℕ} → length uppers ≡ 16 → Frontier index entries (λ i. get_or (replicate 16 start) i start) (length entries) uppers →
      Turning index entries writing out out (replicate 16 start) uppers (record { intervals = 0; records = 0 })
  turning-start l f = record {
    x = 1;
    swept = tallied-start refl refl;
    read = all-read-later (all-read-start asked) (omega arith);
    goes = go-start asked;
    later = λ i h. let b = next-bounds ((all-read-start asked).list i h) (go-start asked i h) in omega arith;
    frontier = f;
    past = (0, asked.some, (next-bounds ((all-read-start asked).list 0 asked.some) (go-start asked 0 asked.some)).0);
    long = l;
  }

-- ---- one turn

module _ {index entries : List ℕ} {writing : Bool} {out₀ out : List ℕ} {places : List Place} {uppers : List ℕ} {t : Tally}
    (asked : SoundRequest index entries) (w : Turning index entries writing out₀ out places uppers t) where
  fits : length entries ≤ length uppers
  fits = let few = asked.few in let l = w.long in omega arith

  pub turn-standing : Standing index entries (λ i. get_or places i start)
  turn-standing = standing w.read w.goes

  -- ---- the largest lower bound

  module _ {size : ℕ} {lowers : List ℕ} (v : Lowers index entries (λ i. get_or places i start) (length entries) size lowers) (long : length lowers ≡ 32)
      (room : size < 32) where
    pub turn-front : get_or lowers 0 0 ≤ record_max + 1
    turn-front = front-small v asked.some (omega arith) turn-standing.small

    pub turn-largest : Largest index entries (λ i. get_or places i start) (length entries) (record_max + 1 - get_or lowers 0 0)
    turn-largest = lowers-largest v asked.some (omega arith) turn-standing.small

-- of the list whose upper bound is the least

module _ {index entries : List ℕ} {writing : Bool} {out₀ out : List ℕ} {places : List Place} {uppers : List ℕ} {t : Tally}
    (asked : SoundRequest index entries) (w : Turning index entries writing out₀ out places uppers t) {key : ℕ} (least : key ≡ get_or uppers 0 0) where
  pub turn-list : whose key < length entries
  turn-list = front-list w.frontier asked.some asked.few (fits asked w) least

  turn-upper : next_upper index entries (whose key) (get_or places (whose key) start) ≡ least_of key
  turn-upper = front-upper w.frontier asked.some asked.few (fits asked w) least

  turn_below : (i : ℕ) → i < length entries → least_of key ≤ next_upper index entries i (get_or places i start)
  turn_below = front_below w.frontier asked.some asked.few (fits asked w) least

  pub turn-goes : GoesAt index entries places (whose key)
  turn-goes = w.goes (whose key) turn-list

  turn-high : least_of key ≤ record_max
  turn-high = let b = next-bounds (w.read.list (whose key) turn-list) turn-goes in let e = turn-upper in omega arith

  stop : in_all index entries (least_of key + 1) ≡ false
  stop =
      ap (λ (u : ℕ). in_all index entries (u + 1)) (sym turn-upper)
      ∙ every-out index entries (whose key) _ turn-list (next-behind (w.read.list (whose key) turn-list) turn-goes)

  module _ {largest : ℕ} (g : Largest index entries (λ i. get_or places i start) (length entries) largest) where
    -- nothing from x to below it
    low : (z : ℕ) → w.x ≤ z → z < largest → in_all index entries z ≡ false
    low z f h =
        let r = g.reached in
        let e = r.2 in
        every-out index entries r.0 z r.1 (next-before (w.read.list r.0 r.1) (w.goes r.0 r.1) z (omega arith) (omega arith))

    -- all from there to the least upper bound
    high : (z : ℕ) → largest ≤ z → z ≤ least_of key → in_all index entries z ≡ true
    high z f k =
        every_in index entries z
        (λ i h. let m = g.most i h in let b = turn_below i h in next-inside (w.read.list i h) (w.goes i h) z (omega arith) (omega arith))

    overlap : largest ≤ least_of key → Whole (in_all index entries) w.x (record { lower = largest; upper = least_of key })
    overlap h = record {
      near = let p = w.past in let l = p.2 in omega (arith, g.most p.0 p.1);
      order = h;
      high = turn-high;
      none = low;
      inside = high;
      stop = λ k. stop;
    }

    pub overlap-fits : HasRoom (intersection_of (lists_of index entries)) writing out₀ → largest ≤ least_of key →
        Fitting writing out t (record { lower = largest; upper = least_of key })
    unfolding intersection_of
    overlap-fits room h = tallied-fits w.swept (overlap h) room

  -- list j moves on
  module _ {places' : List Place} (ep : places' ≡ places_on index entries places (whose key)) where
    at_others : (i : ℕ) → (i ≡ whose key → ⊥) → get_or places' i start ≡ get_or places i start
    at_others i ne = ap (λ (ps : List Place). get_or ps i start) ep ∙ places-other index entries places (whose key) i ne

    read_next : AllRead index entries places' (least_of key + 1 + 1)
    read_next =
        let u = turn-upper in
        let l = w.later (whose key) turn-list in
        rw ep (all-read-on asked w.read (whose key) turn-list turn-goes (omega arith) (omega arith))

    -- and is not used up
    module _ (e : used_up index (get_or entries (whose key) 0) (get_or places' (whose key) start) ≡ false) where
      pub turn-next-goes : GoesAt index entries places' (whose key)
      turn-next-goes = goes_at (read_next.list (whose key) turn-list) e

      turn-later : least_of key + 2 ≤ next_lower index entries (whose key) (get_or places' (whose key) start)
      turn-later = let u = turn-upper in let l = on-later asked w.read (whose key) turn-list turn-goes (rw ep at turn-next-goes) in rw ep (omega arith)

      pub turn-next-bounds : let at = get_or places' (whose key) start in
          (1 ≤ next_lower index entries (whose key) at) × (next_lower index entries (whose key) at ≤ next_upper index entries (whose key) at)
          × (next_upper index entries (whose key) at ≤ record_max)
      turn-next-bounds = next-bounds (read_next.list (whose key) turn-list) turn-next-goes

      pub turn-lowers : {size : ℕ} {lowers lowers' : List ℕ} → Lowers index entries (λ i. get_or places i start) (length entries) size lowers →
          Pushed size (lack_of (next_lower index entries (whose key) (get_or places' (whose key) start))) lowers lowers' →
          Lowers index entries (λ i. get_or places' i start) (length entries) (size + 1) lowers'
      turn-lowers v p =
          let b = turn-later in
          let a = next-bounds (w.read.list (whose key) turn-list) turn-goes in
          let u = turn-upper in
          lowers-moved v turn-list at_others (omega arith) p

      goes-next : (i : ℕ) → i < length entries → GoesAt index entries places' i
      goes-next i h = go (ℕ_discrete i (whose key))
        where
          go : Dec (i ≡ whose key) → GoesAt index entries places' i
          go (yes z) = rw z turn-next-goes
          go (no ne) = rw (at_others i ne) (w.goes i h)

      later-next : (i : ℕ) → i < length entries → least_of key + 1 ≤ next_upper index entries i (get_or places' i start) + 1
      later-next i h = go (ℕ_discrete i (whose key))
        where
          go : Dec (i ≡ whose key) → least_of key + 1 ≤ next_upper index entries i (get_or places' i start) + 1
          go (yes z) = let l = turn-later in let b = turn-next-bounds in rw z (omega arith)
          go (no ne) = let b = turn_below i h in rw (at_others i ne) (omega arith)

      -- the least key rises, up to the largest that there can be
      pub turn-falls : {uppers' : List ℕ} →
          Replaced (length entries) (key_of (next_upper index entries (whose key) (get_or places' (whose key) start)) (whose key)) uppers uppers' →
          268435456 - get_or uppers' 0 0 < 268435456 - get_or uppers 0 0
      turn-falls r =
          let l = turn-later in
          let b = turn-next-bounds in
          let u = turn-upper in
          let n = turn-high in
          omega (arith, front-rises w.frontier asked.some asked.few (fits asked w) least at_others r (omega arith))

    -- what is in every list up to the least upper bound is put
    module _ {largest : ℕ} (g : Largest index entries (λ i. get_or places i start) (length entries) largest) {out' : List ℕ} {t' : Tally}
        (o : PutWhere (leb largest (least_of key)) writing out out' t (record { lower = largest; upper = least_of key }) t') where
      turn-swept : Tallied (in_all index entries) writing out₀ out' t' (least_of key + 1)
      turn-swept =
          leb-cases largest (least_of key)
          (λ h. tallied-put w.swept (overlap g h) (o.0 (le-leb largest (least_of key) h)))
          (λ h.
          let q = o.1 (lt-leb largest (least_of key) h) in
          let l = w.later (whose key) turn-list in
          let e = turn-upper in
          let n = turn-high in
          rw (q.0, q.1) (tallied-skip w.swept (omega arith) (omega arith) (λ z f k. low g z f (omega arith))))

      -- list j is used up: nothing more is in every list
      pub turn_end : used_up index (get_or entries (whose key) 0) (get_or places' (whose key) start) ≡ true →
          Tallied (in_all index entries) writing out₀ out' t' (record_max + 1)
      turn_end e =
          let n = turn-high in
          tallied-skip turn-swept (omega arith) (omega arith)
          (λ z f g. every-out index entries (whose key) z turn-list (quiet-used (read_next.list (whose key) turn-list) e z (omega arith)))

      pub turn-next : used_up index (get_or entries (whose key) 0) (get_or places' (whose key) start) ≡ false → {uppers' : List ℕ} →
          Replaced (length entries) (key_of (next_upper index entries (whose key) (get_or places' (whose key) start)) (whose key)) uppers uppers' →
          Turning index entries writing out₀ out' places' uppers' t'
      turn-next e r =
          let b = turn-later e in
          record {
            x = least_of key + 1;
            swept = turn-swept;
            read = read_next;
            goes = goes-next e;
            later = later-next e;
            frontier = frontier-moved w.frontier asked.some asked.few (fits asked w) least at_others r;
            past = (whose key, turn-list, omega arith);
            long = r.room ∙ w.long;
          }

-- ---- the end

pub turned-out : (index entries : List ℕ) {writing : Bool} {out₀ out : List ℕ} {t : Tally} → Tallied (in_all index entries) writing out₀ out t (record_max + 1) →
    HasRoom (intersection_of (lists_of index entries)) writing out₀ → Sweeps (intersection_of (lists_of index entries)) writing out₀ out t
unfolding intersection_of
turned-out index entries s room = tallied-end s room
