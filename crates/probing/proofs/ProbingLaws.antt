-- Probing: what the lists say of x together, and how the pieces of one interval are put.
use mathlib.Core.Path.{◌≡◌, refl, sym, ap, ◌∙◌}
use Prim.Native.Nat.{ℕ, min, ◌+◌, ◌-◌, ◌*◌, ◌≤◌, ◌<◌}
use native.Mathlib.Omega.{arith}
use Rattle.std.proofs.Common.{Option, Some, None, is_some, unwrap_or}
use Rattle.std.specs.Bool.{then_some}
use mathlib.Core.Bool.{Bool, true, false, not, cond}
use mathlib.Core.List.{List, [], ◌∷◌}
use lib.ListN.{length, get_or, drop, set}
use lib.Seq.{sets, length-sets}
use Rattle.laws.proofs.Tests.{true-false, and_both, by-test, leb-cases}
use Rattle.laws.proofs.Lists.{sets-two}
use Rattle.limits.specs.Limits.{record_max}
use Rattle.list.specs.declared.answer.Tally.{Tally}
use Rattle.list.specs.Interval.{names, intervals, records}
use Rattle.list.specs.Stretches.{turned, stretches, cons_if}
use Rattle.list.specs.Ginix.{in_every}
use Rattle.list.specs.Sense.{Steady}
use Rattle.list.proofs.StretchLaws.{stretches-on, stretches-end}
use Rattle.index.specs.Format.{list_of}
use Rattle.merge.specs.Request.{lists_of}
use Rattle.merge.specs.Put.{Fitting, Put, PutWhere, up_to}
use Rattle.merge.proofs.EveryLaws.{every-out}
use Rattle.merge.proofs.ListsLaws.{lists-next, lists-end}
use Rattle.merge.specs.Every.{in_all}
use Rattle.probing.specs.Probing.{cells_between, PiecesFit, PiecesPut, StandsIn, closes}

-- ---- a list with the fewest intervals of those below j

pub record Best (index entries : List ℕ) (best fewest j : ℕ) : Type 0 where
  pub inside : best < length entries
  pub within : j ≤ length entries
  pub counts : fewest ≡ intervals (list_of index (get_or entries best 0))
  pub least : (i : ℕ) → i < j → fewest ≤ intervals (list_of index (get_or entries i 0))

pub best-start : {index entries : List ℕ} {fewest : ℕ} → 1 ≤ length entries → fewest ≡ intervals (list_of index (get_or entries 0 0)) →
    Best index entries 0 fewest 1
best-start h e = record { inside = h; within = h; counts = e; least = λ i g. let z : i ≡ 0 = omega arith in rw z (omega arith) }

module _ {index entries : List ℕ} {best fewest j count : ℕ} (b : Best index entries best fewest j) (h : j < length entries)
    (e : count ≡ intervals (list_of index (get_or entries j 0))) where
  least-next : (least : ℕ) → least ≤ fewest → least ≤ count → (i : ℕ) → i < j + 1 → least ≤ intervals (list_of index (get_or entries i 0))
  least-next least f g i l = leb-cases j i (λ a. let z : i ≡ j = omega arith in rw z (omega arith)) (λ a. let m = b.least i a in omega arith)

  pub best-other : count < fewest → Best index entries j count (j + 1)
  best-other f = record { inside = h; within = omega arith; counts = e; least = least-next count (omega arith) (omega arith) }

  pub best-same : fewest ≤ count → Best index entries best fewest (j + 1)
  best-same f = record { inside = b.inside; within = omega arith; counts = b.counts; least = least-next fewest (omega arith) f }

-- ---- a list that x is not in decides

pub probe-out : {index entries : List ℕ} {j x until b : ℕ} {inside : Bool} → StandsIn index entries j x b → x ≤ b → (k : ℕ) → k < length entries →
    inside ≡ false →
    Steady (names (list_of index (get_or entries k 0))) x inside until → Steady (in_all index entries) x false (min until (b + 1))
probe-out {index} {entries} w g k h o s =
    let m = w.high in
    let l = s.later in
    record { later = omega arith; near = omega arith; same = λ y f e. every-out index entries k y h (s.same y f (omega arith) ∙ o) }

-- ---- the lists below k have x; up to `until` the others decide

pub record Looked (index entries : List ℕ) (x b until k : ℕ) : Type 0 where
  pub within : k ≤ length entries
  pub later : x < until
  pub near : until ≤ b + 1
  pub left : (y : ℕ) → x ≤ y → y < until → in_all index entries y ≡ in_every (lists_of index (drop k entries)) y

pub looked-start : {index entries : List ℕ} {x b : ℕ} → x ≤ b → Looked index entries x b (b + 1) 0
looked-start h = record { within = omega arith; later = omega arith; near = omega arith; left = λ y f g. refl }

every-next : (index entries : List ℕ) (k y : ℕ) → k < length entries → names (list_of index (get_or entries k 0)) y ≡ true →
    in_every (lists_of index (drop k entries)) y ≡ in_every (lists_of index (drop (k + 1) entries)) y
unfolding in_every
every-next index entries k y h e = rw (lists-next index entries k h, e)

module _ {index entries : List ℕ} {x b until k : ℕ} (r : Looked index entries x b until k) where
  pub looked-next : {next : ℕ} {inside : Bool} → k < length entries → inside ≡ true → Steady (names (list_of index (get_or entries k 0))) x inside next →
      Looked index entries x b (min until next) (k + 1)
  looked-next h o s =
      let a = r.later in
      let c = r.near in
      let d = s.later in
      record {
        within = omega arith;
        later = omega arith;
        near = omega arith;
        left = λ y f g. r.left y f (omega arith) ∙ every-next index entries k y h (s.same y f (omega arith) ∙ o);
      }

  pub looked-end : length entries ≤ k → b ≤ record_max → Steady (in_all index entries) x true until
  unfolding in_every
  looked-end h m = let c = r.near in record { later = r.later; near = omega arith; same = λ y f g. r.left y f g ∙ rw (lists-end index entries k h) }

-- ---- what is left to put: putting the cells c behind a tally is putting the cells c₀ behind the one before

record Left (writing : Bool) (out₀ : List ℕ) (t₀ : Tally) (c₀ out : List ℕ) (t : Tally) (c : List ℕ) : Type 0 where
  intervals-left : t₀.intervals + intervals c₀ ≡ t.intervals + intervals c
  records-left : t₀.records + records c₀ ≡ t.records + records c
  cells_left : cond writing (sets out₀ (2 * t₀.intervals) c₀) out₀ ≡ cond writing (sets out (2 * t.intervals) c) out

module _ {writing : Bool} {out₀ : List ℕ} {t₀ : Tally} {c₀ out : List ℕ} {t : Tally} where
  -- the first interval of what is left fits, where all does
  left-fits : {l u : ℕ} {c : List ℕ} → l ≤ u → u ≤ record_max → Left writing out₀ t₀ c₀ out t (l ∷ u ∷ c) → PiecesFit writing out₀ t₀ c₀ →
      Fitting writing out t (record { lower = l; upper = u })
  left-fits {l} {u} {c} o m s f = record {
    room = λ w. let g = f.room w in omega (arith, s.intervals-left, long w);
    few = let g = f.intervals-small in omega (arith, s.intervals-left);
    small = let g = f.records-small in omega (arith, s.records-left);
    order = o;
    high = m;
  }
    where
      long : writing ≡ true → length out ≡ length out₀
      long w =
          let e = rw w at s.cells_left in
          sym (length-sets out (2 * t.intervals) (l ∷ u ∷ c)) ∙ ap length (sym e) ∙ length-sets out₀ (2 * t₀.intervals) c₀

  left-put : {l u : ℕ} {c out' : List ℕ} {t' : Tally} → Left writing out₀ t₀ c₀ out t (l ∷ u ∷ c) →
      Put writing out out' t (record { lower = l; upper = u }) t' →
      Left writing out₀ t₀ c₀ out' t' c
  unfolding records
  left-put {l} {u} {c} {out'} {t'} s q =
      let i = q.intervals-more in
      record {
        intervals-left = omega (arith, s.intervals-left);
        records-left = omega (arith, s.records-left, q.records-more);
        cells_left = s.cells_left ∙ go writing q.cells;
      }
    where
      go : (w : Bool) → out' ≡ cond w (set (set out (2 * t.intervals) l) (2 * t.intervals + 1) u) out →
          cond w (sets out (2 * t.intervals) (l ∷ u ∷ c)) out ≡ cond w (sets out' (2 * t'.intervals) c) out'
      go true e =
          let i = q.intervals-more in
          let k : 2 * t'.intervals ≡ 2 * t.intervals + 2 = omega arith in
          rw (e, k) (sets-two out (2 * t.intervals) l u c)
      go false e = sym e

  left_end : Left writing out₀ t₀ c₀ out t [] → PiecesPut writing out₀ out t₀ c₀ t
  unfolding records
  left_end s = record {
    intervals-more = omega (arith, s.intervals-left);
    records-more = omega (arith, s.records-left);
    cells = sym (s.cells_left ∙ go writing);
  }
    where
      go : (w : Bool) → cond w (sets out (2 * t.intervals) []) out ≡ out
      go true = refl
      go false = refl

-- ---- the pieces of one interval: what is still to be put from x on, where a piece may be open

abbrev pending : (ℕ → Bool) → ℕ → Option ℕ → ℕ → List ℕ
pending p b piece x = cons_if (is_some piece) (unwrap_or piece x) (stretches p (is_some piece) x (b + 1 - x))

-- the piece that closes before x comes first
abbrev closed : Bool → ℕ → ℕ → List ℕ → List ℕ
closed test l x c = cond test (l ∷ (x - 1) ∷ c) c

pending-turn : (piece : Option ℕ) (v : Bool) (x u : ℕ) (r : List ℕ) → cons_if (is_some piece) (unwrap_or piece x) (turned (is_some piece) v x r) ≡
    closed (closes piece v) (unwrap_or piece x) x (cons_if v (unwrap_or (then_some v (unwrap_or piece x)) u) r)
pending-turn None false x u r = refl
pending-turn None true x u r = refl
pending-turn (Some l) false x u r = refl
pending-turn (Some l) true x u r = refl

some-then : (v : Bool) (l : ℕ) → is_some (then_some v l) ≡ v
some-then true l = refl
some-then false l = refl

pending_next : (p : ℕ → Bool) (b : ℕ) (piece : Option ℕ) (v : Bool) (x u : ℕ) → Steady p x v u → u ≤ b + 1 →
    pending p b piece x ≡ closed (closes piece v) (unwrap_or piece x) x (pending p b (then_some v (unwrap_or piece x)) u)
pending_next p b piece v x u s h =
    rw (stretches-on p (is_some piece) v b x u s.later h s.same, some-then v (unwrap_or piece x)) (pending-turn piece v x u (stretches p v u (b + 1 - u)))

pending-end : (p : ℕ → Bool) (b : ℕ) (piece : Option ℕ) (x : ℕ) → b < x → pending p b piece x ≡ closed (closes piece false) (unwrap_or piece x) x []
pending-end p b piece x h = rw (stretches-end p (is_some piece) b x h) (pending-turn piece false x x [])

-- the pieces below x are put, and the rest is pending
pub record Cut (p : ℕ → Bool) (a b : ℕ) (writing : Bool) (out₀ : List ℕ) (t₀ : Tally) (out : List ℕ) (t : Tally) (piece : Option ℕ) (x : ℕ) : Type 0 where
  pub near : (a ≤ x) × (x ≤ b + 1)
  pub begun : is_some piece ≡ true → unwrap_or piece x < x
  left : Left writing out₀ t₀ (cells_between p a b) out t (pending p b piece x)

pub cut-start : {p : ℕ → Bool} {a b : ℕ} {writing : Bool} {out : List ℕ} {t : Tally} → a ≤ b → Cut p a b writing out t out t None a
unfolding cells_between
cut-start h = record {
  near = (omega arith, omega arith);
  begun = λ e. true-false (sym e);
  left = record { intervals-left = refl; records-left = refl; cells_left = refl };
}

module _ {p : ℕ → Bool} {a b : ℕ} {writing : Bool} {out₀ : List ℕ} {t₀ : Tally} {out : List ℕ} {t : Tally} {piece : Option ℕ} {x : ℕ}
    (c : Cut p a b writing out₀ t₀ out t piece x) where
  part-fits : (v : Bool) (r : List ℕ) → b ≤ record_max → PiecesFit writing out₀ t₀ (cells_between p a b) → pending p b piece x ≡ closed (closes piece v) (unwrap_or piece x) x r →
      closes piece v ≡ true →
      Fitting writing out t (up_to (unwrap_or piece x) x)
  part-fits v r m f e k =
      let n = c.near in
      let g = c.begun (and_both (is_some piece) (not v) k).0 in
      left-fits (omega arith) (omega arith) (rw (e, k) at c.left) f

  pub cut_fits : {v : Bool} {u : ℕ} → b ≤ record_max → PiecesFit writing out₀ t₀ (cells_between p a b) → Steady p x v u → u ≤ b + 1 → closes piece v ≡ true →
      Fitting writing out t (up_to (unwrap_or piece x) x)
  cut_fits {v} {u} m f s h = part-fits v (pending p b (then_some v (unwrap_or piece x)) u) m f (pending_next p b piece v x u s h)

  pub cut-end-fits : b ≤ record_max → PiecesFit writing out₀ t₀ (cells_between p a b) → b < x → closes piece false ≡ true → Fitting writing out t (up_to (unwrap_or piece x) x)
  cut-end-fits m f h = part-fits false [] m f (pending-end p b piece x h)

  begun-next : (piece : Option ℕ) (v : Bool) (u : ℕ) → (is_some piece ≡ true → unwrap_or piece x < x) → x < u →
      is_some (then_some v (unwrap_or piece x)) ≡ true → unwrap_or (then_some v (unwrap_or piece x)) u < u
  begun-next (Some l) true u f h e = let g = f refl in omega arith
  begun-next None true u f h e = h
  begun-next piece false u f h e = true-false (sym e)

  left-next : (v : Bool) (r out' : List ℕ) (t' : Tally) → pending p b piece x ≡ closed (closes piece v) (unwrap_or piece x) x r →
      PutWhere (closes piece v) writing out out' t (up_to (unwrap_or piece x) x) t' →
      Left writing out₀ t₀ (cells_between p a b) out' t' r
  left-next v r out' t' e q =
      by-test (closes piece v)
      (λ k. left-put (rw (e, k) at c.left) (q.0 k))
      (λ k. rw ((q.1 k).0, (q.1 k).1) (rw (e, k) at c.left))

  pub cut-next : {v : Bool} {u : ℕ} {out' : List ℕ} {t' : Tally} → Steady p x v u → u ≤ b + 1 → PutWhere (closes piece v) writing out out' t (up_to (unwrap_or piece x) x) t' →
      Cut p a b writing out₀ t₀ out' t' (then_some v (unwrap_or piece x)) u
  cut-next {v} {u} {out'} {t'} s h q =
      let n = c.near in
      let m = s.later in
      record {
        near = (omega arith, h);
        begun = begun-next piece v u c.begun m;
        left = left-next v (pending p b (then_some v (unwrap_or piece x)) u) out' t' (pending_next p b piece v x u s h) q;
      }

  pub cut-end : {out' : List ℕ} {t' : Tally} → b < x → PutWhere (closes piece false) writing out out' t (up_to (unwrap_or piece x) x) t' →
      PiecesPut writing out₀ out' t₀ (cells_between p a b) t'
  cut-end {out'} {t'} h q = left_end (left-next false [] out' t' (pending-end p b piece x h) q)
