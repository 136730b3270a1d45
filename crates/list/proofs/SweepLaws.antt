-- A sweep over the numbers from 1 to n that counts, or writes, the list of a test interval by interval: proved once, for any test.
use mathlib.Core.Path.{◌≡◌, refl, sym, ap, ◌∙◌}
use Prim.Native.Nat.{ℕ, zero, suc, ◌+◌, ◌-◌, ◌≤◌, ◌<◌}
use native.Mathlib.Omega.{arith}
use native.Mathlib.Nat.{zero-add}
use mathlib.Core.Bool.{Bool, true, false, cond}
use mathlib.Core.List.{List, [], ◌∷◌, ◌++◌, append-nil, append_assoc}
use lib.ListN.{length, set, length-append}
use lib.Seq.{sets, length-sets}
use Rattle.laws.proofs.Tests.{leb-cases}
use Rattle.laws.proofs.Lists.{sets-two, sets-front, sets-append}
use Rattle.list.specs.Interval.{records}
use Rattle.list.specs.Stretches.{stretches, cells_of, records_from, records_of}
use Rattle.list.proofs.StretchLaws.{cells-start, cells-length, stretches-on, stretches-end}
use Rattle.list.proofs.RecordLaws.{records_from-parts, records_from-length, records-count}
use Rattle.list.specs.Front.{in_front}

-- the numbers below x are swept: k cells are done, recs records are counted, and b says whether x - 1 is in
pub record Swept (p : ℕ → Bool) (n : ℕ) (writing : Bool) (out₀ out : List ℕ) (b : Bool) (x k recs : ℕ) : Type 0 where
  pub done : List ℕ
  pub count : length done ≡ k
  pub left : cells_of p n ≡ done ++ stretches p b x (n + 1 - x)
  pub written : out ≡ cond writing (sets out₀ 0 done) out₀
  pub members : recs ≡ length (records_from p 1 (x - 1))
  pub near : (1 ≤ x) × (x ≤ n + 1)

pub swept-start : (p : ℕ → Bool) (n : ℕ) (writing : Bool) (out : List ℕ) → Swept p n writing out out false 1 0 0
unfolding records_from
swept-start p n w out = record {
  done = [];
  count = refl;
  left = cells-start p n;
  written = by_mode w;
  members = refl;
  near = (omega arith, omega arith);
}
  where
    by_mode : (w : Bool) → out ≡ cond w (sets out 0 []) out
    by_mode true = refl
    by_mode false = refl

-- ---- how much is counted and written

module _ {p : ℕ → Bool} {n : ℕ} {writing : Bool} {out₀ out : List ℕ} {b : Bool} {x k recs : ℕ} (s : Swept p n writing out₀ out b x k recs) where
  pub swept-cells-few : k ≤ n + 1
  swept-cells-few = omega (arith, s.count, ap length s.left, length-append s.done (stretches p b x (n + 1 - x)), cells-length p n)

  pub swept-records-few : recs ≤ n
  swept-records-few = let h = s.near in omega (arith, s.members, records_from-length p 1 (x - 1))

  pub swept-length : length out ≡ length out₀
  swept-length = ap length s.written ∙ go writing
    where
      go : (w : Bool) → length (cond w (sets out₀ 0 s.done) out₀) ≡ length out₀
      go true = length-sets out₀ 0 s.done
      go false = refl

-- ---- the members of a stretch of one value

all_in : (p : ℕ → Bool) (x k : ℕ) → ((y : ℕ) → x ≤ y → y < x + k → p y ≡ true) → length (records_from p x k) ≡ k
unfolding records_from
all_in p x zero h = refl
all_in p x (suc k) h = rw (h x (omega arith) (omega arith)) (ap suc (all_in p (x + 1) k (λ y f g. h y (omega arith) (omega arith))))

none_in : (p : ℕ → Bool) (x k : ℕ) → ((y : ℕ) → x ≤ y → y < x + k → p y ≡ false) → length (records_from p x k) ≡ 0
unfolding records_from
none_in p x zero h = refl
none_in p x (suc k) h = rw (h x (omega arith) (omega arith)) (none_in p (x + 1) k (λ y f g. h y (omega arith) (omega arith)))

-- from x on to y
pub members-on : (p : ℕ → Bool) (x y : ℕ) → 1 ≤ x → x ≤ y →
    length (records_from p 1 (y - 1)) ≡ length (records_from p 1 (x - 1)) + length (records_from p x (y - x))
members-on p x y h g =
    let e : y - 1 ≡ x - 1 + (y - x) = omega arith in
    let s : 1 + (x - 1) ≡ x = omega arith in
    rw (e, records_from-parts p 1 (x - 1) (y - x), s) (length-append (records_from p 1 (x - 1)) (records_from p x (y - x)))

pub members-all : (p : ℕ → Bool) (x y : ℕ) → 1 ≤ x → x ≤ y → ((z : ℕ) → x ≤ z → z < y → p z ≡ true) →
    length (records_from p 1 (y - 1)) ≡ length (records_from p 1 (x - 1)) + (y - x)
members-all p x y h g q = omega (arith, members-on p x y h g, all_in p x (y - x) (λ z f e. q z f (omega arith)))

pub members-none : (p : ℕ → Bool) (x y : ℕ) → 1 ≤ x → x ≤ y → ((z : ℕ) → x ≤ z → z < y → p z ≡ false) →
    length (records_from p 1 (y - 1)) ≡ length (records_from p 1 (x - 1))
members-none p x y h g q = omega (arith, members-on p x y h g, none_in p x (y - x) (λ z f e. q z f (omega arith)))

-- ---- one step

module _ {p : ℕ → Bool} {n : ℕ} {writing : Bool} {out₀ out : List ℕ} {x k recs : ℕ} (s : Swept p n writing out₀ out false x k recs) where
  out-still : (y : ℕ) → x ≤ y → y ≤ n + 1 → ((z : ℕ) → x ≤ z → z < y → p z ≡ false) → stretches p false x (n + 1 - x) ≡ stretches p false y (n + 1 - y)
  out-still y h g q = leb-cases y x (λ a. let e : x ≡ y = omega arith in rw e) (λ a. stretches-on p false false n x y a g q)

  -- nothing is in from x to below y
  pub swept-skip : (y : ℕ) → x ≤ y → y ≤ n + 1 → ((z : ℕ) → x ≤ z → z < y → p z ≡ false) → Swept p n writing out₀ out false y k recs
  swept-skip y h g q = record {
    done = s.done;
    count = s.count;
    left = s.left ∙ ap (λ (r : List ℕ). s.done ++ r) (out-still y h g q);
    written = s.written;
    members = s.members ∙ sym (members-none p x y s.near.0 h q);
    near = (let a = s.near in omega arith, g);
  }

  -- nothing from x to below l, all from l to u, and not u + 1
  module _ (l u : ℕ) (xl : x ≤ l) (lu : l ≤ u) (un : u ≤ n) (low : (z : ℕ) → x ≤ z → z < l → p z ≡ false) (high : (z : ℕ) → l ≤ z → z ≤ u → p z ≡ true)
      (stop : u < n → p (u + 1) ≡ false) where
    close : stretches p true (u + 1) (n + 1 - (u + 1)) ≡ u ∷ stretches p false (u + 1) (n + 1 - (u + 1))
    close = leb-cases n u
        (λ a. let e : u + 1 - 1 ≡ u = omega arith in stretches-end p true n (u + 1) (omega arith) ∙ rw (e, stretches-end p false n (u + 1) (omega arith)))
        (λ a. let e : u + 1 - 1 ≡ u = omega arith in
        stretches-on p true false n (u + 1) (u + 2) (omega arith) (omega arith) (λ z f g. let w : z ≡ u + 1 = omega arith in ap p w ∙ stop a)
        ∙ rw e (ap (λ (r : List ℕ). u ∷ r)
        (sym (stretches-on p false false n (u + 1) (u + 2) (omega arith) (omega arith) (λ z f g. let w : z ≡ u + 1 = omega arith in ap p w ∙ stop a)))))

    stretch : stretches p false x (n + 1 - x) ≡ l ∷ u ∷ stretches p false (u + 1) (n + 1 - (u + 1))
    stretch =
        out-still l xl (omega arith) low
        ∙ stretches-on p false true n l (u + 1) (omega arith) (omega arith) (λ z f g. high z f (omega arith))
        ∙ ap (λ (r : List ℕ). l ∷ r) close

    put-left : cells_of p n ≡ (s.done ++ l ∷ u ∷ []) ++ stretches p false (u + 1) (n + 1 - (u + 1))
    put-left = s.left ∙ ap (λ (r : List ℕ). s.done ++ r) stretch ∙ sym (append_assoc s.done (l ∷ u ∷ []) (stretches p false (u + 1) (n + 1 - (u + 1))))

    put_count : length (s.done ++ l ∷ u ∷ []) ≡ k + 2
    put_count = omega (arith, length-append s.done (l ∷ u ∷ []), s.count)

    -- the interval's two cells have room where the whole list has
    pub swept-room : writing ≡ true → length (cells_of p n) ≤ length out₀ → k + 2 ≤ length out
    swept-room w h =
        let o : out ≡ sets out₀ 0 s.done = s.written ∙ ap (λ (t : Bool). cond t (sets out₀ 0 s.done) out₀) w in
        omega (
          arith,
          ap length put-left,
          length-append (s.done ++ l ∷ u ∷ []) (stretches p false (u + 1) (n + 1 - (u + 1))),
          put_count,
          ap length o,
          length-sets out₀ 0 s.done,
        )

    put_written : (w : Bool) → writing ≡ w → cond w (set (set out k l) (k + 1) u) out ≡ cond w (sets out₀ 0 (s.done ++ l ∷ u ∷ [])) out₀
    put_written true e =
        let o : out ≡ sets out₀ 0 s.done = s.written ∙ ap (λ (t : Bool). cond t (sets out₀ 0 s.done) out₀) e in
        sym (sets-two out k l u []) ∙ ap (λ (o : List ℕ). sets o k (l ∷ u ∷ [])) o
        ∙ ap (λ (j : ℕ). sets (sets out₀ 0 s.done) j (l ∷ u ∷ [])) (sym (zero-add k) ∙ ap (λ (j : ℕ). 0 + j) (sym s.count))
        ∙ sym (sets-append out₀ 0 s.done (l ∷ u ∷ []))
    put_written false e = s.written ∙ ap (λ (t : Bool). cond t (sets out₀ 0 s.done) out₀) e

    pub swept-put : Swept p n writing out₀ (cond writing (set (set out k l) (k + 1) u) out) false (u + 1) (k + 2) (recs + (u + 1 - l))
    swept-put = record {
      done = s.done ++ l ∷ u ∷ [];
      count = put_count;
      left = put-left;
      written = put_written writing refl;
      members = let a = s.near in omega (
        arith,
        s.members,
        members-none p x l a.0 xl low,
        members-all p l (u + 1) (omega arith) (omega arith) (λ z f g. high z f (omega arith)),
      );
      near = (omega arith, omega arith);
    }

-- ---- the end

module _ {p : ℕ → Bool} {n : ℕ} {writing : Bool} {out₀ out : List ℕ} {k recs : ℕ} (s : Swept p n writing out₀ out false (n + 1) k recs) where
  pub swept-cells : cells_of p n ≡ s.done
  swept-cells = s.left ∙ ap (λ (r : List ℕ). s.done ++ r) (stretches-end p false n (n + 1) (omega arith)) ∙ append-nil s.done

  pub swept-count : k ≡ length (cells_of p n)
  swept-count = sym s.count ∙ ap length (sym swept-cells)

  pub swept-records : recs ≡ records (cells_of p n)
  unfolding records_of
  swept-records = let e : n + 1 - 1 ≡ n = omega arith in s.members ∙ ap (λ (j : ℕ). length (records_from p 1 j)) e ∙ sym (records-count p n)

  pub swept-written : (writing ≡ true → length (cells_of p n) ≤ length out₀) → out ≡ cond writing (in_front (cells_of p n) out₀) out₀
  swept-written h = go writing refl
    where
      go : (w : Bool) → writing ≡ w → out ≡ cond w (in_front (cells_of p n) out₀) out₀
      go true e = s.written ∙ ap (λ (t : Bool). cond t (sets out₀ 0 s.done) out₀) e ∙ ap (sets out₀ 0) (sym swept-cells)
          ∙ sets-front (cells_of p n) out₀ (h e)
      go false e = s.written ∙ ap (λ (t : Bool). cond t (sets out₀ 0 s.done) out₀) e
