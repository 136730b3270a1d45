-- What is added to a window, in one go or part by part.
use mathlib.Core.Path.{◌≡◌, refl, sym, ap, ◌∙◌}
use Prim.Native.Nat.{ℕ, ◌+◌, ◌*◌, ◌<◌}
use native.Mathlib.Omega.{arith}
use mathlib.Core.Bool.{Bool, false, ◌||◌, or-false, or_assoc}
use mathlib.Core.List.{List}
use lib.ListN.{length, replicate}
use Rattle.window.specs.Window.{bit_at, Holds}
use Rattle.window.specs.Filled.{within, Filled}
use Rattle.window.proofs.HoldLaws.{bits-zeros}
use Rattle.fill.specs.Added.{Added}

-- no record of the window
pub added-beyond : (p : ℕ → Bool) (base : ℕ) (ws : List ℕ) → ((n : ℕ) → n < 64 * length ws → p (base + n) ≡ false) → Added p base ws ws
added-beyond p base ws e = record { long = refl; bits = λ n h. sym (rw (e n h) (or-false (bit_at ws n))) }

pub added_none : (p : ℕ → Bool) (base : ℕ) (ws : List ℕ) → ((x : ℕ) → p x ≡ false) → Added p base ws ws
added_none p base ws e = added-beyond p base ws (λ n h. e (base + n))

pub added-agree : (p q : ℕ → Bool) (base : ℕ) (ws₀ ws : List ℕ) → ((x : ℕ) → p x ≡ q x) → Added p base ws₀ ws → Added q base ws₀ ws
added-agree p q base ws₀ ws e a = record { long = a.long; bits = λ n h. a.bits n h ∙ ap (λ (t : Bool). bit_at ws₀ n || t) (e (base + n)) }

pub added-both : {p q : ℕ → Bool} {base : ℕ} {xs ys zs : List ℕ} → Added p base xs ys → Added q base ys zs → Added (λ x. p x || q x) base xs zs
added-both {p} {q} {base} {xs} a b = record {
  long = b.long ∙ a.long;
  bits = λ n h. let w = a.long in
      b.bits n (omega arith) ∙ ap (λ (t : Bool). t || q (base + n)) (a.bits n h) ∙ or_assoc (bit_at xs n) (p (base + n)) (q (base + n));
}

-- a blank window holds what was added to it
pub added-holds : (p : ℕ → Bool) (base k : ℕ) (ws₀ ws : List ℕ) → ws₀ ≡ replicate k 0 → Added p base ws₀ ws → Holds p base ws
added-holds p base k ws₀ ws e a = record {
  each = λ n h. let w = a.long in
      a.bits n (omega arith) ∙ ap (λ (t : Bool). t || p (base + n)) (ap (λ (l : List ℕ). bit_at l n) e ∙ bits-zeros k n);
}

-- ---- on the way: what ws has, with what is left to add

pub record Filling (p left : ℕ → Bool) (base : ℕ) (ws₀ ws : List ℕ) : Type 0 where
  pub long : length ws ≡ length ws₀
  pub bits : (n : ℕ) → n < 64 * length ws₀ → bit_at ws n || left (base + n) ≡ bit_at ws₀ n || p (base + n)

module _ {p left : ℕ → Bool} {base : ℕ} where
  pub filling-start : {ws : List ℕ} → ((n : ℕ) → p (base + n) ≡ left (base + n)) → Filling p left base ws ws
  filling-start {ws} e = record { long = refl; bits = λ n h. ap (λ (t : Bool). bit_at ws n || t) (sym (e n)) }

  pub filling_step : {next : ℕ → Bool} {a e : ℕ} {ws₀ ws ws' : List ℕ} → Filling p left base ws₀ ws → Filled ws a e ws' →
      ((n : ℕ) → n < 64 * length ws₀ → left (base + n) ≡ within a e n || next (base + n)) → Filling p next base ws₀ ws'
  filling_step {next} {a} {e} {ws₀} {ws} f g h = record {
    long = g.long ∙ f.long;
    bits = λ n l. let w = f.long in
        ap (λ (t : Bool). t || next (base + n)) (g.bits n (omega arith))
        ∙ or_assoc (bit_at ws n) (within a e n) (next (base + n))
        ∙ ap (λ (t : Bool). bit_at ws n || t) (sym (h n l))
        ∙ f.bits n l;
  }

  pub filling-end : {ws₀ ws : List ℕ} → Filling p left base ws₀ ws → ((n : ℕ) → n < 64 * length ws₀ → left (base + n) ≡ false) → Added p base ws₀ ws
  filling-end {ws₀} {ws} f h = record {
    long = f.long;
    bits = λ n l. sym (or-false (bit_at ws n)) ∙ ap (λ (t : Bool). bit_at ws n || t) (sym (h n l)) ∙ f.bits n l;
  }
