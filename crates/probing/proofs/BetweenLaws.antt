-- The proper list of the numbers of a test from a to b: it is whole, and a sweep puts it at once.
use mathlib.Core.Path.{◌≡◌, refl, sym, ap, ◌∙◌}
use Prim.Native.Nat.{ℕ, zero, suc, ◌+◌, ◌-◌, ◌*◌, ◌/◌, ◌≤◌, ◌<◌}
use native.Mathlib.Omega.{arith}
use native.Mathlib.Nat.{zero-add}
use mathlib.Core.Bool.{Bool, true, false, cond}
use mathlib.Core.List.{List, [], ◌++◌, append_assoc}
use lib.ListN.{length, length-append}
use lib.Seq.{sets}
use Rattle.laws.proofs.Lists.{sets-append}
use Rattle.limits.specs.Limits.{record_max}
use Rattle.list.specs.declared.answer.Tally.{Tally}
use Rattle.list.specs.Interval.{intervals, records}
use Rattle.list.specs.Stretches.{turned, stretches, cells_of, cons_if, records_from}
use Rattle.list.proofs.StretchLaws.{turned-append}
use Rattle.list.proofs.RecordLaws.{stretches-records}
use Rattle.list.proofs.SweepLaws.{Swept, swept-cells-few, swept-records-few, members-on}
use Rattle.list.specs.Sweeps.{HasRoom}
use Rattle.merge.proofs.TallyLaws.{Tallied, tallied-length, tallied-skip}
use Rattle.probing.specs.Probing.{cells_between, PiecesFit, PiecesPut}

-- ---- it has whole intervals

even_step : (p : ℕ → Bool) (x k l : ℕ) (b v : Bool) →
    ((h : ℕ) → 2 * (length (cons_if v h (stretches p v (x + 1) k)) / 2) ≡ length (cons_if v h (stretches p v (x + 1) k))) →
    2 * (length (cons_if b l (turned b v x (stretches p v (x + 1) k))) / 2) ≡ length (cons_if b l (turned b v x (stretches p v (x + 1) k)))
even_step p x k l false false ih = ih l
even_step p x k l false true ih = ih x
even_step p x k l true false ih = let e = ih l in omega arith
even_step p x k l true true ih = ih l

even-last : (b : Bool) (l x : ℕ) → 2 * (length (cons_if b l (turned b false x [])) / 2) ≡ length (cons_if b l (turned b false x []))
even-last true l x = refl
even-last false l x = refl

stretches-even : (p : ℕ → Bool) (b : Bool) (l x k : ℕ) → 2 * (length (cons_if b l (stretches p b x k)) / 2) ≡ length (cons_if b l (stretches p b x k))
unfolding stretches
stretches-even p b l x zero = even-last b l x
stretches-even p b l x (suc k) = even_step p x k l b (p x) (λ h. stretches-even p (p x) h (x + 1) k)

between-even : (p : ℕ → Bool) (a b : ℕ) → 2 * intervals (cells_between p a b) ≡ length (cells_between p a b)
unfolding cells_between
between-even p a b = stretches-even p false 0 a (b + 1 - a)

-- ---- what is left behind b, where b + 1 is out or nothing is left

split-last : (p : ℕ → Bool) (v : Bool) (x k : ℕ) → (0 < k → p x ≡ false) → stretches p v x k ≡ turned v false x [] ++ stretches p false x k
unfolding stretches
split-last p v x zero h = go v
  where
    go : (v : Bool) → turned v false x [] ≡ turned v false x [] ++ []
    go true = refl
    go false = refl
split-last p v x (suc k) h = rw (h (omega arith)) (turned-append v false x [] (stretches p false (x + 1) k))

stretches-split : (p : ℕ → Bool) (v : Bool) (x j k : ℕ) → (0 < k → p (x + j) ≡ false) →
    stretches p v x (j + k) ≡ stretches p v x j ++ stretches p false (x + j) k
unfolding stretches
stretches-split p v x zero k h =
    let e : 0 + k ≡ k = omega arith in
    let z : x + 0 ≡ x = omega arith in
    rw (e, z) (split-last p v x k (λ g. ap p (sym z) ∙ h g))
stretches-split p v x (suc j) k h =
    let e : suc j + k ≡ suc (j + k) = omega arith in
    let z : x + 1 + j ≡ x + suc j = omega arith in
    let i = stretches-split p (p x) (x + 1) j k (λ g. ap p z ∙ h g) in
    rw (e, i, z) (turned-append v (p x) x (stretches p (p x) (x + 1) j) (stretches p false (x + suc j) k))

between_left : (p : ℕ → Bool) (n a b : ℕ) → a ≤ b + 1 → b ≤ n → (b < n → p (b + 1) ≡ false) →
    stretches p false a (n + 1 - a) ≡ cells_between p a b ++ stretches p false (b + 1) (n + 1 - (b + 1))
unfolding cells_between
between_left p n a b h g q =
    let e : n + 1 - a ≡ (b + 1 - a) + (n + 1 - (b + 1)) = omega arith in
    let z : a + (b + 1 - a) ≡ b + 1 = omega arith in
    rw e (stretches-split p false a (b + 1 - a) (n + 1 - (b + 1)) (λ f. ap p z ∙ q (omega arith)) ∙ rw z)

between-records : (p : ℕ → Bool) (a b : ℕ) → 0 < a → records (cells_between p a b) ≡ length (records_from p a (b + 1 - a))
unfolding cells_between
between-records p a b h = stretches-records p a (b + 1 - a) h

-- ---- a sweep

-- nothing from x to below a is in, nor the number behind b
module _ {p : ℕ → Bool} {writing : Bool} {out₀ out : List ℕ} {t : Tally} {x : ℕ} (d : Tallied p writing out₀ out t x)
    (a b : ℕ) (xa : x ≤ a) (ab : a ≤ b) (bn : b ≤ record_max) (low : (z : ℕ) → x ≤ z → z < a → p z ≡ false) (stop : b < record_max → p (b + 1) ≡ false) where
  at_a : Swept p record_max writing out₀ out false a (2 * t.intervals) t.records
  at_a = (tallied-skip d xa (omega arith) low).swept

  done-left : cells_of p record_max ≡ (at_a.done ++ cells_between p a b) ++ stretches p false (b + 1) (record_max + 1 - (b + 1))
  done-left =
      at_a.left
      ∙ ap (λ (r : List ℕ). at_a.done ++ r) (between_left p record_max a b (omega arith) bn stop)
      ∙ sym (append_assoc at_a.done (cells_between p a b) (stretches p false (b + 1) (record_max + 1 - (b + 1))))

  done-count : length (at_a.done ++ cells_between p a b) ≡ 2 * t.intervals + length (cells_between p a b)
  done-count = length-append at_a.done (cells_between p a b) ∙ ap (λ (i : ℕ). i + length (cells_between p a b)) at_a.count

  done-written : (w : Bool) → writing ≡ w →
      cond w (sets out (2 * t.intervals) (cells_between p a b)) out ≡ cond w (sets out₀ 0 (at_a.done ++ cells_between p a b)) out₀
  done-written true e =
      let o : out ≡ sets out₀ 0 at_a.done = at_a.written ∙ ap (λ (v : Bool). cond v (sets out₀ 0 at_a.done) out₀) e in
      let c : 2 * t.intervals ≡ 0 + length at_a.done = sym at_a.count ∙ sym (zero-add (length at_a.done)) in
      ap (λ (q : List ℕ). sets q (2 * t.intervals) (cells_between p a b)) o
      ∙ ap (λ (i : ℕ). sets (sets out₀ 0 at_a.done) i (cells_between p a b)) c
      ∙ sym (sets-append out₀ 0 at_a.done (cells_between p a b))
  done-written false e = at_a.written ∙ ap (λ (v : Bool). cond v (sets out₀ 0 at_a.done) out₀) e

  done-members : t.records + records (cells_between p a b) ≡ length (records_from p 1 (b + 1 - 1))
  done-members =
      let h = at_a.near in
      omega (arith, at_a.members, members-on p a (b + 1) h.0 (omega arith), between-records p a b h.0)

  swept-between : Swept p record_max writing out₀ (cond writing (sets out (2 * t.intervals) (cells_between p a b)) out) false (b + 1)
      (2 * t.intervals + length (cells_between p a b)) (t.records + records (cells_between p a b))
  swept-between = record {
    done = at_a.done ++ cells_between p a b;
    count = done-count;
    left = done-left;
    written = done-written writing refl;
    members = done-members;
    near = (omega arith, omega arith);
  }

  -- the cells have room where the whole list has
  between-room : writing ≡ true → length (cells_of p record_max) ≤ length out₀ → 2 * t.intervals + length (cells_between p a b) ≤ length out
  between-room w h =
      let l = tallied-length d in
      omega (arith, ap length done-left, length-append (at_a.done ++ cells_between p a b) (stretches p false (b + 1) (record_max + 1 - (b + 1))), done-count)

  pub between-fits : HasRoom (cells_of p record_max) writing out₀ → PiecesFit writing out t (cells_between p a b)
  between-fits r = record {
    room = λ w. between-room w (r w);
    intervals-small = let e = between-even p a b in let f = swept-cells-few swept-between in omega arith;
    records-small = swept-records-few swept-between;
  }

  pub between_put : {out' : List ℕ} {t' : Tally} → PiecesPut writing out out' t (cells_between p a b) t' → Tallied p writing out₀ out' t' (b + 1)
  between_put {out'} {t'} q =
      let e = between-even p a b in
      let i = q.intervals-more in
      let c : 2 * t'.intervals ≡ 2 * t.intervals + length (cells_between p a b) = omega arith in
      record { swept = rw (c, q.records-more, q.cells) swept-between }
