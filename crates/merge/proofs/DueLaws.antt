-- Laws of the lists of a request at their reading places: which mark is due, and what a list names from there on.
use mathlib.Core.Path.{◌≡◌, refl, sym, ap, ◌∙◌}
use Prim.Native.Nat.{ℕ, ◌+◌, ◌-◌, ◌≤◌, ◌<◌}
use native.Mathlib.Omega.{arith}
use native.Mathlib.Decide.{ℕ_discrete}
use mathlib.Core.Bool.{Bool, true, false, cond}
use mathlib.Core.List.{List, [], ◌∷◌}
use lib.ListN.{length, get_or, set, replicate, length-set, get_or-replicate}
use lib.Seq.{get_or-set_same, get_or-set_other}
use borrow.Author.Tests.{leb-true, leb-false, lt-leb}
use Rattle.laws.proofs.Tests.{by-test}
use Rattle.limits.specs.Limits.{record_max}
use Rattle.list.specs.declared.Place.{Place}
use Rattle.list.specs.declared.reading.Interval.{Interval}
use Rattle.list.specs.Interval.{names}
use Rattle.list.specs.Kept.{start, single_next}
use Rattle.list.proofs.WalkLaws.{single-next-left, pair-next-left}
use Rattle.list.proofs.ReadingLaws.{next_fits}
use Rattle.list.proofs.LeftLaws.{ReadTo, read-start, read-end, read-bounds, read-before, read-inside, read_behind, read_next}
use Rattle.index.specs.Format.{highest, list_of, entry_singles, entry_lowers, entry_uppers}
use Rattle.index.proofs.SoundLaws.{sound-trailer}
use Rattle.directory.specs.Regions.{EntryIn}
use Rattle.merge.specs.Request.{SoundRequest}
use Rattle.merge.specs.Places.{PlaceIn, GoesIn, AllGo, next_at, next_lower_in, next_upper_in, place_behind, used_up}
use Rattle.merge.specs.Keys.{sum_of, lower_mark, lower_due, due_at}
use Rattle.merge.proofs.ListsLaws.{entry_kept, entry-some, asked_entry}
use Rattle.merge.proofs.KeysLaws.{sum-change}

-- ---- the list of one entry
module _ {index : List ℕ} {i : ℕ} (n : EntryIn index i) {at : Place} (g : GoesIn index i at) where
  bounds_of : (t : Bool) → single_next (entry_singles index i) (entry_lowers index i) at.p.0 at.q.0 ≡ t →
      (cond t (get_or (entry_singles index i) at.p.0 0) (get_or (entry_lowers index i) at.q.0 0) ≤ highest index)
      × (cond t (get_or (entry_singles index i) at.p.0 0) (get_or (entry_uppers index i) at.q.0 0) ≤ highest index)
  bounds_of true e = let b = (entry_kept n).single-at at.p.0 (single-next-left (entry_singles index i) (entry_lowers index i) at.p.0 at.q.0 e) in
      (b.1, b.1)
  bounds_of false e =
      let b = (entry_kept n).pair-at at.q.0 (pair-next-left (entry_singles index i) (entry_lowers index i) at.p.0 at.q.0 e g.single g.more) in
      (omega arith, b.2)

  -- no bound is above the largest record number
  pub bounds-high : (next_lower_in index i at ≤ record_max) × (next_upper_in index i at ≤ record_max)
  bounds-high =
      let b = bounds_of (single_next (entry_singles index i) (entry_lowers index i) at.p.0 at.q.0) refl in
      let t = (sound-trailer index n.sound).highest-bound in
      (omega arith, omega arith)

pub used-up-not : {index : List ℕ} {i : ℕ} {at : Place} → PlaceIn index i at → used_up index i at ≡ false → GoesIn index i at
used-up-not {index} {i} {at} p e =
    record { single = p.single; pair = p.pair; more = leb-false (length (entry_singles index i) + length (entry_lowers index i)) (at.p.0 + at.q.0) e }

pub due-goes : (index : List ℕ) (i : ℕ) (at : Place) → GoesIn index i at → lower_due index i at ≡ lower_mark (next_lower_in index i at) ∷ []
due-goes index i at g = rw (lt-leb (length (entry_singles index i) + length (entry_lowers index i)) (at.p.0 + at.q.0) g.more)

due-mark : (index : List ℕ) (i : ℕ) (at : Place) {m : ℕ} {ms : List ℕ} → lower_due index i at ≡ m ∷ ms → used_up index i at ≡ false
due-mark index i at e = by-test (used_up index i at) (λ t. absurd (let z = rw t at e in let w : ◌≡◌ {A = ℕ} 0 1 = cc in omega arith)) (λ t. t)

-- a list of a sound index has an interval
pub goes-start : {index : List ℕ} {i : ℕ} → EntryIn index i → GoesIn index i start
goes-start e = record { single = omega arith; pair = omega arith; more = entry-some e }

-- ---- the lists of a request, each at its own place

pub interval-is : {l u : ℕ} {r : Interval} → r.lower ≡ l → r.upper ≡ u → record { lower = l; upper = u } ≡ r
interval-is e f = rw (← e, ← f)

-- list j is read up to a place: what is left there begins at `from` or later, and the numbers from `most` - 1 on that it names are all left
pub record ReadAt (index entries : List ℕ) (j : ℕ) (at : Place) (most : ℕ) : Type 0 where
  pub from : ℕ
  pub begun : 1 ≤ from
  pub near : from ≤ most
  pub high : highest index ≤ record_max
  pub read : ReadTo (highest index) (entry_singles index (get_or entries j 0)) (entry_lowers index (get_or entries j 0))
      (entry_uppers index (get_or entries j 0)) at from

-- so each at its place
pub record AllRead (index entries : List ℕ) (places : List Place) (most : ℕ) : Type 0 where
  pub wide : length places ≡ 16
  pub list : (j : ℕ) → j < length entries → ReadAt index entries j (get_or places j start) most

-- how much is left
abbrev pub left_of : List ℕ → List ℕ → List Place → ℕ → ℕ
left_of index entries places j =
    length (entry_singles index (get_or entries j 0)) + length (entry_lowers index (get_or entries j 0)) - ((get_or places j start).p.0 + (get_or places j start).q.0)

abbrev pub left_sum : List ℕ → List ℕ → List Place → ℕ
left_sum index entries places = sum_of (left_of index entries places) (length entries)

abbrev pub lower_next : List ℕ → List ℕ → List Place → ℕ → ℕ
lower_next index entries places j = next_lower_in index (get_or entries j 0) (get_or places j start)

abbrev pub upper_next : List ℕ → List ℕ → List Place → ℕ → ℕ
upper_next index entries places j = next_upper_in index (get_or entries j 0) (get_or places j start)

abbrev pub GoesAt : List ℕ → List ℕ → List Place → ℕ → Type 0
GoesAt index entries places j = GoesIn index (get_or entries j 0) (get_or places j start)

-- the places behind list j's next interval
abbrev pub places_on : List ℕ → List ℕ → List Place → ℕ → List Place
places_on index entries places j = set places j (place_behind index (get_or entries j 0) (get_or places j start))

module _ {index entries : List ℕ} (asked : SoundRequest index entries) where
  pub go-start : AllGo index entries (replicate 16 start)
  go-start j h = let few = asked.few in rw (get_or-replicate 16 j start start (omega arith)) (goes-start (asked_entry asked j h))

  -- the first interval of list j
  pub first_high : (j : ℕ) → j < length entries →
      ((next_at index entries (replicate 16 start) j).lower ≤ record_max) × ((next_at index entries (replicate 16 start) j).upper ≤ record_max)
  first_high j h = bounds-high (asked_entry asked j h) (go-start j h)

  pub read-at-start : (j : ℕ) → j < length entries → ReadAt index entries j start 1
  read-at-start j h = record {
    from = 1;
    begun = omega arith;
    near = omega arith;
    high = (sound-trailer index asked.sound).highest-bound;
    read = read-start (entry_kept (asked_entry asked j h));
  }

  pub all-read-start : AllRead index entries (replicate 16 start) 1
  all-read-start = record { wide = refl; list = λ j h. let few = asked.few in rw (get_or-replicate 16 j start start (omega arith)) (read-at-start j h) }

module _ {index entries : List ℕ} {j : ℕ} {at : Place} {most : ℕ} (r : ReadAt index entries j at most) where
  pub read-later : {most' : ℕ} → most ≤ most' → ReadAt index entries j at most'
  read-later h = let n = r.near in record { from = r.from; begun = r.begun; near = omega arith; high = r.high; read = r.read }

  pub goes_at : used_up index (get_or entries j 0) at ≡ false → GoesIn index (get_or entries j 0) at
  goes_at t = used-up-not (record { single = r.read.single; pair = r.read.pair }) t

  -- a mark is due: it is that of the next lower bound
  pub marked-goes : {m : ℕ} {ms : List ℕ} → lower_due index (get_or entries j 0) at ≡ m ∷ ms → GoesIn index (get_or entries j 0) at
  marked-goes d = goes_at (due-mark index (get_or entries j 0) at d)

  pub marked-lower : {m : ℕ} {ms : List ℕ} → lower_due index (get_or entries j 0) at ≡ m ∷ ms → m ≡ lower_mark (next_lower_in index (get_or entries j 0) at)
  marked-lower d = let g = sym d ∙ due-goes index (get_or entries j 0) at (marked-goes d) in cc

  module _ (g : GoesIn index (get_or entries j 0) at) where
    pub next-bounds : (1 ≤ next_lower_in index (get_or entries j 0) at) × (next_lower_in index (get_or entries j 0) at ≤ next_upper_in index (get_or entries j 0) at)
        × (next_upper_in index (get_or entries j 0) at ≤ record_max)
    next-bounds = let b = read-bounds r.read g in let s = r.begun in let h = r.high in (omega arith, b.1, omega arith)

    pub next-before : (x : ℕ) → most ≤ x + 1 → x < next_lower_in index (get_or entries j 0) at → names (list_of index (get_or entries j 0)) x ≡ false
    unfolding list_of
    next-before x h f = read-before r.read g x (let n = r.near in omega arith) f

    pub next-inside : (x : ℕ) → next_lower_in index (get_or entries j 0) at ≤ x → x ≤ next_upper_in index (get_or entries j 0) at →
        names (list_of index (get_or entries j 0)) x ≡ true
    unfolding list_of
    next-inside x h f = read-inside r.read g x h f

    pub next-behind : names (list_of index (get_or entries j 0)) (next_upper_in index (get_or entries j 0) at + 1) ≡ false
    unfolding list_of
    next-behind = read_behind r.read g

    -- what is left behind it begins two numbers further or later
    pub next-later : (let at' = place_behind index (get_or entries j 0) at in
        GoesIn index (get_or entries j 0) at' → next_upper_in index (get_or entries j 0) at + 2 ≤ next_lower_in index (get_or entries j 0) at')
    next-later n = (read-bounds (read_next r.read g) n).0

    pub read-on : ReadAt index entries j (place_behind index (get_or entries j 0) at) (next_upper_in index (get_or entries j 0) at + 2)
    read-on = record {
      from = next_upper_in index (get_or entries j 0) at + 2;
      begun = omega arith;
      near = omega arith;
      high = r.high;
      read = read_next r.read g;
    }

  -- the list is used up
  pub quiet-used : used_up index (get_or entries j 0) at ≡ true → (x : ℕ) → most ≤ x + 1 → names (list_of index (get_or entries j 0)) x ≡ false
  unfolding list_of
  quiet-used t x h =
      let n = r.near in
      read-end r.read (leb-true (length (entry_singles index (get_or entries j 0)) + length (entry_lowers index (get_or entries j 0))) (at.p.0 + at.q.0) t) x
      (omega arith)

  -- no mark below m is due: the list names nothing below m
  pub quiet-below : (m : ℕ) → ((b : ℕ) (bs : List ℕ) → lower_due index (get_or entries j 0) at ≡ b ∷ bs → lower_mark m ≤ b) →
      (x : ℕ) → most ≤ x + 1 → x < m → names (list_of index (get_or entries j 0)) x ≡ false
  quiet-below m f x h l = by-test (used_up index (get_or entries j 0) at)
      (λ t. quiet-used t x h)
      (λ t.
      let g = goes_at t in
      let b = f (lower_mark (next_lower_in index (get_or entries j 0) at)) [] (due-goes index (get_or entries j 0) at g) in
      next-before g x h (omega arith))

  -- none is due
  pub quiet-end : lower_due index (get_or entries j 0) at ≡ [] → (x : ℕ) → most ≤ x + 1 → names (list_of index (get_or entries j 0)) x ≡ false
  quiet-end d x h = quiet-below (x + 1) (λ b bs e. absurd (let w : ◌≡◌ {A = ℕ} 0 1 = cc in omega arith)) x h (omega arith)

-- ---- list j goes on

pub all-read-later : {index entries : List ℕ} {places : List Place} {most most' : ℕ} → AllRead index entries places most → most ≤ most' →
    AllRead index entries places most'
all-read-later r h = record { wide = r.wide; list = λ j n. read-later (r.list j n) h }

module _ (index entries : List ℕ) (places : List Place) (j : ℕ) where
  pub places-other : (i : ℕ) → (i ≡ j → ⊥) → get_or (places_on index entries places j) i start ≡ get_or places i start
  places-other i ne = get_or-set_other places j i (place_behind index (get_or entries j 0) (get_or places j start)) start ne

  pub due-other : (i : ℕ) → (i ≡ j → ⊥) → due_at index entries places i ≡ due_at index entries (places_on index entries places j) i
  due-other i ne = ap (lower_due index (get_or entries i 0)) (sym (places-other i ne))

module _ {index entries : List ℕ} (asked : SoundRequest index entries) {places : List Place} {most : ℕ} (r : AllRead index entries places most)
    (j : ℕ) (h : j < length entries) where
  pub places-own : get_or (places_on index entries places j) j start ≡ place_behind index (get_or entries j 0) (get_or places j start)
  places-own =
      let few = asked.few in
      let wide = r.wide in
      get_or-set_same places j (place_behind index (get_or entries j 0) (get_or places j start)) start (omega arith)

  module _ (g : GoesAt index entries places j) where
    pub read-at-on : ReadAt index entries j (get_or (places_on index entries places j) j start) (upper_next index entries places j + 2)
    read-at-on = rw places-own (read-on (r.list j h) g)

    pub on-later : GoesAt index entries (places_on index entries places j) j →
        upper_next index entries places j + 2 ≤ lower_next index entries (places_on index entries places j) j
    on-later n = rw places-own (next-later (r.list j h) g (rw places-own at n))

    pub all-read-on : {most' : ℕ} → most ≤ most' → upper_next index entries places j + 2 ≤ most' → AllRead index entries (places_on index entries places j) most'
    all-read-on {most'} a b = record { wide = simp length-set r.wide; list = λ i m. go i m (ℕ_discrete i j) }
      where
        go : (i : ℕ) → i < length entries → Dec (i ≡ j) → ReadAt index entries i (get_or (places_on index entries places j) i start) most'
        go i m (yes e) = rw e (read-later read-at-on b)
        go i m (no ne) = rw (places-other index entries places j i ne) (read-later (r.list i m) a)

    pub left_less : {places' : List Place} → places' ≡ places_on index entries places j → left_sum index entries places' < left_sum index entries places
    left_less e = rw e (
        let f = next_fits (entry_singles index (get_or entries j 0)) (entry_lowers index (get_or entries j 0)) (get_or places j start) g in
        let m = g.more in
        let left : ℕ → Place → ℕ = λ i at. length (entry_singles index (get_or entries i 0))
        + length (entry_lowers index (get_or entries i 0)) - (at.p.0 + at.q.0) in
        let own = ap (left j) places-own in
        let c = sum-change (left_of index entries places) (left_of index entries (places_on index entries places j)) (length entries) j h
        (λ i w ne. ap (left i) (sym (places-other index entries places j i ne))) in
        omega arith)

    -- its place behind its next interval is one of the list's
    pub on_fits : {places' : List Place} → places' ≡ places_on index entries places j →
        PlaceIn index (get_or entries j 0) (get_or places' j start)
    on_fits e = rw e (record { single = read-at-on.read.single; pair = read-at-on.read.pair })
