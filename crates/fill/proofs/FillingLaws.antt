-- The two sides of a kept list as they fill a window: what is left behind a place, turn by turn. A single is a pair whose ends are one.
use mathlib.Core.Path.{◌≡◌, refl, sym, ap, ap₂, ◌∙◌}
use Prim.Native.Nat.{ℕ, zero, suc, ◌+◌, ◌-◌, ◌*◌, ◌≤◌, ◌<◌}
use native.Mathlib.Omega.{arith}
use mathlib.Core.Bool.{Bool, true, false, ◌&&◌, ◌||◌}
use mathlib.Core.List.{List, [], ◌∷◌}
use lib.Dec.{leb, ltb}
use lib.ListN.{length, get_or, drop, length-drop}
use lib.Seq.{get_or-drop}
use borrow.Author.Tests.{le-leb, lt-leb, lt-ltb, le-ltb}
use Rattle.laws.proofs.Tests.{leb-cases, leb-both}
use Rattle.laws.proofs.Lists.{drop-next}
use Rattle.list.specs.Interval.{names}
use Rattle.list.specs.Among.{among}
use Rattle.list.specs.Seek.{count_below, Ascends}
use Rattle.list.proofs.SeekLaws.{count-length, count-passed, count_under, count-ahead}
use Rattle.list.proofs.NamesLaws.{names-past}
use Rattle.list.proofs.WalkLaws.{pairs, walked-names}
use Rattle.list.specs.Kept.{walked, is_kept}
use Rattle.list.proofs.KeptLaws.{kept-facts}
use Rattle.window.specs.Filled.{within, Filled}
use Rattle.fill.specs.Added.{Added, Apart}
use Rattle.fill.proofs.AddedLaws.{Filling, filling-start, filling_step, filling-end}

-- the bits that a stretch from l to u sets in a window from base on, up to below e
stretch-within : (base l u e n : ℕ) → (base + n ≤ u → n < e) → (n < e → base + n ≤ u) → leb l (base + n) && leb (base + n) u ≡ within (l - base) e n
stretch-within base l u e n f g = ap₂ ◌&&◌ lower upper
  where
    lower : leb l (base + n) ≡ leb (l - base) n
    lower = leb-cases l (base + n) (λ h. le-leb l (base + n) h ∙ sym (le-leb (l - base) n (omega arith)))
        (λ h. lt-leb l (base + n) h ∙ sym (lt-leb (l - base) n (omega arith)))

    upper : leb (base + n) u ≡ ltb n e
    upper =
        leb-cases (base + n) u
        (λ h. le-leb (base + n) u h ∙ sym (lt-ltb n e (f h)))
        (λ h. lt-leb (base + n) u h ∙ sym (le-ltb n e (leb-cases e n (λ w. w) (λ w. absurd (let z = g w in omega arith)))))

-- ---- what stretches name, by their lower and upper ends

names-drop : (x : ℕ) (L U : List ℕ) (q : ℕ) → length L ≡ length U → q ≤ length L → ((m : ℕ) → m < q → get_or U m 0 < x) →
    names (pairs L U) x ≡ names (pairs (drop q L) (drop q U)) x
unfolding pairs
names-drop x L U zero e h g = refl
names-drop x [] U (suc q) e h g = absurd (omega arith)
names-drop x (l ∷ L) [] (suc q) e h g = absurd (omega arith)
names-drop x (l ∷ L) (u ∷ U) (suc q) e h g =
    names-past l u x (pairs L U) (g 0 (omega arith)) ∙ names-drop x L U q (omega arith) (omega arith) (λ m w. g (suc m) (omega arith))

names-next : (x : ℕ) (L U : List ℕ) (q : ℕ) → length L ≡ length U → q < length L →
    names (pairs (drop q L) (drop q U)) x ≡ (leb (get_or L q 0) x && leb x (get_or U q 0)) || names (pairs (drop (q + 1) L) (drop (q + 1) U)) x
unfolding pairs names
names-next x L U q e h = rw (drop-next L q h, drop-next U q (omega arith))

names-none : (x : ℕ) (L U : List ℕ) → length L ≡ length U → ((m : ℕ) → m < length L → x < get_or L m 0) → names (pairs L U) x ≡ false
unfolding pairs names
names-none x [] U e g = refl
names-none x (l ∷ L) [] e g = absurd (omega arith)
names-none x (l ∷ L) (u ∷ U) e g = rw (lt-leb l x (g 0 (omega arith))) (names-none x L U (omega arith) (λ m w. g (suc m) (omega arith)))

-- what stands from a place on in an ascending list is not below what stands there
ahead : (S : List ℕ) → Ascends S → (x i m : ℕ) → i < length S → x ≤ get_or S i 0 → i ≤ m → m < length S → x ≤ get_or S m 0
ahead S a x i m h g l w = count-ahead 0 x S a m w (let c = count_under 0 x S a i h g in omega arith)

-- so the stretches from q on name nothing below what the first of them begins with
names-ahead : (x : ℕ) (L U : List ℕ) (q : ℕ) → Ascends L → length L ≡ length U → (q < length L → x < get_or L q 0) → names (pairs (drop q L) (drop q U)) x ≡ false
names-ahead x L U q a e g =
    let d = length-drop q L in
    let c = length-drop q U in
    names-none x (drop q L) (drop q U) (omega arith)
    (λ m w. rw (get_or-drop q L m 0)
    (let z = ahead L a (x + 1) q (q + m) (omega arith) (let y = g (omega arith) in omega arith) (omega arith) (omega arith) in omega arith))

-- ---- the two sides

-- stretches that name what p says, by their ends; both ends ascend
pub record Side (p : ℕ → Bool) (L U : List ℕ) : Type 0 where
  pub is : (x : ℕ) → p x ≡ names (pairs L U) x
  pub long : length L ≡ length U
  pub lower-ascend : Ascends L
  pub upper-ascend : Ascends U
  pub order : (q : ℕ) → q < length L → get_or L q 0 ≤ get_or U q 0

among-pairs : (x : ℕ) (S : List ℕ) → among S x ≡ names (pairs S S) x
unfolding among pairs names
among-pairs x [] = refl
among-pairs x (s ∷ S) = ap₂ ◌||◌ (sym (leb-both x s)) (among-pairs x S)

pub singles-side : {S : List ℕ} → Ascends S → Side (among S) S S
singles-side {S} a = record { is = λ x. among-pairs x S; long = refl; lower-ascend = a; upper-ascend = a; order = λ q h. omega arith }

-- a walk with no singles names what the pairs name
walked-pairs : (L U : List ℕ) → Apart L U → (x : ℕ) → names (walked [] L U) x ≡ names (pairs L U) x
unfolding among
walked-pairs L U kept x = walked-names [] L U kept.long x

-- and with singles what they name besides
pub walked_both : (S L U : List ℕ) → Apart L U → (x : ℕ) → among S x || names (walked [] L U) x ≡ names (walked S L U) x
walked_both S L U kept x = ap (λ (t : Bool). among S x || t) (walked-pairs L U kept x) ∙ sym (walked-names S L U kept.long x)

pub pairs-side : {L U : List ℕ} → Apart L U → Side (names (walked [] L U)) L U
pairs-side {L} {U} kept = record {
  is = walked-pairs L U kept;
  long = kept.long;
  lower-ascend = kept.lower-ascend;
  upper-ascend = kept.upper-ascend;
  order = kept.order;
}

-- the pairs of a kept list
pub kept-apart : (n : ℕ) (S L U : List ℕ) → is_kept n S L U ≡ true → Apart L U
kept-apart n S L U e =
    let k = kept-facts n S L U e in
    record {
      long = k.long;
      lower-ascend = k.lower-ascend;
      upper-ascend = k.upper-ascend;
      order = λ q h. let w = k.pair-at q h in let v = w.1 in omega arith;
      next = k.pair-next;
    }

-- ---- on the way

-- what a window has of a side, with the stretches from q on left, none of which ends before base
pub record SideFilling (p : ℕ → Bool) (L U : List ℕ) (base : ℕ) (ws₀ : List ℕ) (q : ℕ) (ws : List ℕ) : Type 0 where
  pub few : q ≤ length L
  pub passed : count_below base U ≤ q
  pub filling : Filling p (names (pairs (drop q L) (drop q U))) base ws₀ ws

pub side-start : {p : ℕ → Bool} {L U : List ℕ} {base q : ℕ} {ws : List ℕ} → Side p L U → q ≡ count_below base U → SideFilling p L U base ws q ws
side-start {p} {L} {U} {base} {q} side e =
    let few = count-length base U in
    let long = side.long in
    record {
      few = omega arith;
      passed = omega arith;
      filling = filling-start (λ n. side.is (base + n)
          ∙ names-drop (base + n) L U q long (omega arith) (λ m h. omega (arith, count-passed 0 base U side.upper-ascend m (omega arith))));
    }

module _ {p : ℕ → Bool} {L U : List ℕ} {base : ℕ} {ws₀ : List ℕ} {q : ℕ} {ws : List ℕ} (side : Side p L U) (f : SideFilling p L U base ws₀ q ws) where
  pub side-done : length L ≤ q → Added p base ws₀ ws
  side-done h = filling-end f.filling (λ n l. names-ahead (base + n) L U q side.lower-ascend side.long (λ w. absurd (omega arith)))

  -- the stretch at q begins behind the window
  pub side-past : {l : ℕ} → l ≡ get_or L q 0 → base + 64 * length ws₀ ≤ l → Added p base ws₀ ws
  side-past e g = filling-end f.filling (λ n w. names-ahead (base + n) L U q side.lower-ascend side.long (λ v. omega arith))

  -- the stretch at q
  module _ {l u : ℕ} (h : q < length L) (el : l ≡ get_or L q 0) (eu : u ≡ get_or U q 0) where
    -- it ends behind its start, and not before base
    pub side-order : (l ≤ u) × (base ≤ u)
    side-order =
        let long = side.long in
        (omega (arith, side.order q h), omega (arith, count-ahead 0 base U side.upper-ascend q (omega arith) f.passed))

    here : (e : ℕ) → ((n : ℕ) → n < 64 * length ws₀ → base + n ≤ u → n < e) → ((n : ℕ) → n < e → base + n ≤ u) → (n : ℕ) → n < 64 * length ws₀ →
        names (pairs (drop q L) (drop q U)) (base + n) ≡ within (l - base) e n || names (pairs (drop (q + 1) L) (drop (q + 1) U)) (base + n)
    here e a b n w =
        let v : leb (get_or L q 0) (base + n) && leb (base + n) (get_or U q 0) ≡ within (l - base) e n =
        rw (← el, ← eu) (stretch-within base l u e n (a n w) (b n)) in
        names-next (base + n) L U q side.long h ∙ ap (λ (t : Bool). t || names (pairs (drop (q + 1) L) (drop (q + 1) U)) (base + n)) v

    pub side-step : {ws' : List ℕ} → Filled ws (l - base) (u - base + 1) ws' → SideFilling p L U base ws₀ (q + 1) ws'
    side-step k =
        let order = side-order in
        record {
          few = omega arith;
          passed = omega (arith, f.passed);
          filling = filling_step f.filling k (here (u - base + 1) (λ n w v. omega arith) (λ n w. omega arith));
        }

    -- it reaches past the window: it is filled to its end, and the next begins behind that
    pub side-out : {e : ℕ} {ws' : List ℕ} → (q + 1 < length L → u < get_or L (q + 1) 0) → e ≡ 64 * length ws₀ → base + e ≤ u → Filled ws (l - base) e ws' →
        Added p base ws₀ ws'
    side-out {e} behind s g k =
        filling-end {left = names (pairs (drop (q + 1) L) (drop (q + 1) U))} (filling_step f.filling k (here e (λ n w v. omega arith) (λ n w. omega arith)))
        (λ n w. names-ahead (base + n) L U (q + 1) side.lower-ascend side.long (λ v. let z = behind v in omega arith))
