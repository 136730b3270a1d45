-- A step for any test: one step more of a sweep, by a window or by a jump, and the end. The parity of the cells done says whether the record
-- before x is in.
use mathlib.Core.Path.{◌≡◌, refl, sym, ap, ◌∙◌}
use Prim.Native.Nat.{ℕ, zero, suc, ◌+◌, ◌-◌, ◌*◌, ◌≤◌, ◌<◌, min}
use native.Mathlib.Omega.{arith}
use native.Mathlib.Nat.{zero-add}
use mathlib.Core.Bool.{Bool, true, false, cond}
use mathlib.Core.List.{List, [], ◌++◌, append-nil, append_assoc}
use lib.ListN.{length, length-append}
use lib.Seq.{sets, length-sets}
use Rattle.laws.proofs.Tests.{leb-cases}
use Rattle.laws.proofs.Lists.{sets-append}
use Rattle.list.specs.Stretches.{turned, stretches, cells_of, records_from}
use Rattle.list.proofs.StretchLaws.{stretches-end}
use Rattle.list.proofs.SweepLaws.{Swept, members-on, members-all, members-none}
use Rattle.window.specs.Window.{members_of, Holds}
use Rattle.window.specs.Flips.{odd, flips, window_cells, last_in}
use Rattle.window.proofs.FlipLaws.{stretches-past, flips-parity}
use Rattle.window.proofs.MemberLaws.{records-held}
use Rattle.window.proofs.SweepLaws.{part-turn, window-part, jump-part}
use Rattle.window.specs.Steps.{PutCells, Constant, Stepped}

-- ---- a jump and a window as steps

constant-records : (p : ℕ → Bool) (x y : ℕ) (v : Bool) → 1 ≤ x → x < y → Constant p x y v → length (records_from p x (y - x)) ≡ cond v (y - x) 0
constant-records p x y true h g c = omega (arith, members-on p x y h (omega arith), members-all p x y h (omega arith) c)
constant-records p x y false h g c = omega (arith, members-on p x y h (omega arith), members-none p x y h (omega arith) c)

-- a step whose cells are vs, and whose records are those of p
stepped : {p : ℕ → Bool} {x m k recs : ℕ} {writing : Bool} {vs out out' : List ℕ} {k' recs' : ℕ} → vs ≡ flips p (odd k) x m →
    PutCells vs k writing out out' k' → recs' ≡ recs + length (records_from p x m) → Stepped p x m writing k recs out out' k' recs'
stepped j put e = let here = rw j at put in record { cells = here.count; records = e; written = here.written }

pub stepped-jump : {p : ℕ → Bool} {v : Bool} {x y k recs : ℕ} {writing : Bool} {out out' : List ℕ} {k' recs' : ℕ} → 1 ≤ x → x < y → Constant p x y v →
    PutCells (turned (odd k) v x []) k writing out out' k' → recs' ≡ recs + cond v (y - x) 0 → Stepped p x (y - x) writing k recs out out' k' recs'
stepped-jump {p} {v} {x} {y} {k} {recs} h g c put e =
    stepped (jump-part p v x k (y - x) (omega arith) (λ i l. c (x + i) (omega arith) (omega arith))) put
    (e ∙ ap (λ (m : ℕ). recs + m) (sym (constant-records p x y v h g c)))

pub stepped-window : (p : ℕ → Bool) (x k recs : ℕ) (ws : List ℕ) (writing : Bool) (out out' : List ℕ) (k' recs' : ℕ) → Holds p x ws →
    PutCells (window_cells ws x k) k writing out out' k' → recs' ≡ recs + length (members_of ws x) → Stepped p x (64 * length ws) writing k recs out out' k' recs'
stepped-window p x k recs ws writing out out' k' recs' h put e =
    stepped (window-part p x k (64 * length ws) ws refl h) put
    (e ∙ ap (λ (rs : List ℕ). recs + length rs) (records-held p x (64 * length ws) ws (omega arith) h))

-- ---- one step of a sweep

before_last : (p : ℕ → Bool) (b : Bool) (x m y : ℕ) → x + m ≡ y + 1 → 1 ≤ m → last_in p b x m ≡ p y
before_last p b x zero y e h = absurd (omega arith)
before_last p b x (suc m) y e h = ap p (omega arith)

stretches-none : (p : ℕ → Bool) (b : Bool) (x j : ℕ) → b ≡ false → j ≡ 0 → stretches p b x j ≡ []
unfolding stretches
stretches-none p b x j e z = rw (e, z)

module _ {p : ℕ → Bool} {n : ℕ} {writing : Bool} {out₀ out : List ℕ} {x k recs : ℕ} (s : Swept p n writing out₀ out (odd k) x k recs) where
  -- cells written behind those that are done
  more-written : (vs : List ℕ) → cond writing (sets out k vs) out ≡ cond writing (sets out₀ 0 (s.done ++ vs)) out₀
  more-written vs = go writing refl
    where
      go : (w : Bool) → writing ≡ w → cond w (sets out k vs) out ≡ cond w (sets out₀ 0 (s.done ++ vs)) out₀
      go true e =
          let o : out ≡ sets out₀ 0 s.done = s.written ∙ ap (λ (t : Bool). cond t (sets out₀ 0 s.done) out₀) e in
          let z : k ≡ 0 + length s.done = sym (zero-add (length s.done) ∙ s.count) in
          ap (λ (l : List ℕ). sets l k vs) o ∙ ap (λ (j : ℕ). sets (sets out₀ 0 s.done) j vs) z ∙ sym (sets-append out₀ 0 s.done vs)
      go false e = s.written ∙ ap (λ (t : Bool). cond t (sets out₀ 0 s.done) out₀) e

  more-length : (vs : List ℕ) → length (s.done ++ vs) ≡ k + length vs
  more-length vs = omega (arith, length-append s.done vs, s.count)

  -- they have room where the whole list has
  more_room : (vs rest : List ℕ) → stretches p (odd k) x (n + 1 - x) ≡ vs ++ rest → writing ≡ true → length (cells_of p n) ≤ length out₀ →
      k + length vs ≤ length out
  more_room vs rest e w h =
      let o : out ≡ sets out₀ 0 s.done = s.written ∙ ap (λ (t : Bool). cond t (sets out₀ 0 s.done) out₀) w in
      omega (
        arith,
        ap length s.left,
        ap length e,
        length-append s.done (stretches p (odd k) x (n + 1 - x)),
        length-append vs rest,
        s.count,
        ap length o,
        length-sets out₀ 0 s.done,
      )

  -- and the sweep goes on behind them, from y on, where b says whether y - 1 is in
  more-swept : (vs : List ℕ) {b : Bool} {y recs' : ℕ} → stretches p (odd k) x (n + 1 - x) ≡ vs ++ stretches p b y (n + 1 - y) →
      recs' ≡ length (records_from p 1 (y - 1)) → (1 ≤ y) × (y ≤ n + 1) → Swept p n writing out₀ (cond writing (sets out k vs) out) b y (k + length vs) recs'
  more-swept vs {b} {y} e members near = record {
    done = s.done ++ vs;
    count = more-length vs;
    left = s.left ∙ ap (λ (r : List ℕ). s.done ++ r) e ∙ sym (append_assoc s.done vs (stretches p b y (n + 1 - y)));
    written = more-written vs;
    members = members;
    near = near;
  }

  module _ (ends : (y : ℕ) → n < y → p y ≡ false) (m : ℕ) (some : 1 ≤ m) (xn : x ≤ n) where
    abbrev vs : List ℕ
    vs = flips p (odd k) x m

    abbrev next : ℕ
    next = min (x + m) (n + 1)

    -- where the step goes past n, nothing is left and nothing is open
    step_left : stretches p (odd k) x (n + 1 - x) ≡ vs ++ stretches p (odd (k + length vs)) next (n + 1 - next)
    step_left = leb-cases (x + m) (n + 1)
        (λ h. let e : min (x + m) (n + 1) ≡ x + m = omega arith in
        let f : n + 1 - (x + m) ≡ n + 1 - x - m = omega arith in
        rw (e, f) (part-turn p x m (n + 1 - x) k (omega arith)))
        (λ h. let l : n + 1 - x + (m - (n + 1 - x)) ≡ m = omega arith in
        let o : odd (k + length vs) ≡ false =
        flips-parity p (odd k) x m k refl ∙ before_last p (odd k) x m (x + m - 1) (omega arith) some ∙ ends (x + m - 1) (omega arith) in
        sym (stretches-past p (odd k) x (n + 1 - x) (m - (n + 1 - x)) (λ i g. ends (x + (n + 1 - x) + i) (omega arith)))
        ∙ ap (stretches p (odd k) x) l
        ∙ part-turn p x m m k (omega arith)
        ∙ ap (λ (r : List ℕ). vs ++ r)
        (stretches-none p (odd (k + length vs)) (x + m) (m - m) o (omega arith)
        ∙ sym (stretches-none p (odd (k + length vs)) next (n + 1 - next) o (omega arith))))

    step-members : recs + length (records_from p x m) ≡ length (records_from p 1 (next - 1))
    step-members =
        let a = s.near in
        let e : x + m - x ≡ m = omega arith in
        let all : length (records_from p 1 (x + m - 1)) ≡ length (records_from p 1 (x - 1)) + length (records_from p x m) =
        rw e at (members-on p x (x + m) a.0 (omega arith)) in
        leb-cases (x + m) (n + 1)
        (λ h. let f : min (x + m) (n + 1) ≡ x + m = omega arith in rw f (omega (arith, s.members)))
        (λ h. let f : min (x + m) (n + 1) ≡ n + 1 = omega arith in
        rw f (omega (arith, s.members, members-none p (n + 1) (x + m) (omega arith) (omega arith) (λ z g l. ends z (omega arith)))))

    pub step_room : writing ≡ true → length (cells_of p n) ≤ length out₀ → k + length (flips p (odd k) x m) ≤ length out
    step_room w h = more_room vs (stretches p (odd (k + length vs)) next (n + 1 - next)) step_left w h

    pub swept_step : {out' : List ℕ} {k' recs' : ℕ} → Stepped p x m writing k recs out out' k' recs' →
        Swept p n writing out₀ out' (odd k') (min (x + m) (n + 1)) k' recs'
    swept_step t = rw (t.cells, t.records, t.written) (more-swept vs step_left step-members (let a = s.near in omega arith, omega arith))

-- ---- the end: a stretch that is still open ends with n

module _ {p : ℕ → Bool} {n : ℕ} {writing : Bool} {out₀ out : List ℕ} {k recs : ℕ} (s : Swept p n writing out₀ out (odd k) (n + 1) k recs) where
  abbrev last : List ℕ
  last = turned (odd k) false (n + 1) []

  end-left : stretches p (odd k) (n + 1) (n + 1 - (n + 1)) ≡ last ++ stretches p false (n + 1) (n + 1 - (n + 1))
  end-left =
      stretches-end p (odd k) n (n + 1) (omega arith)
      ∙ sym (ap (λ (r : List ℕ). last ++ r) (stretches-end p false n (n + 1) (omega arith)) ∙ append-nil last)

  pub close-room : writing ≡ true → length (cells_of p n) ≤ length out₀ → k + length (turned (odd k) false (n + 1) []) ≤ length out
  close-room w h = more_room s last (stretches p false (n + 1) (n + 1 - (n + 1))) end-left w h

  pub swept-close : {out' : List ℕ} {r : ℕ} → PutCells (turned (odd k) false (n + 1) []) k writing out out' r → Swept p n writing out₀ out' false (n + 1) r recs
  swept-close put = rw (put.count, put.written) (more-swept s last end-left s.members s.near)
