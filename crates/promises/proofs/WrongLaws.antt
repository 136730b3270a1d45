-- A promise that determines the outcome, and outcomes that it allows, refute each kind of wrong implementation.
use Rattle.std.specs.Prelude.{Option, Some}
use Prim.Native.Nat.{ℕ}
use mathlib.Core.Path.{◌≡◌, sym, ap, ◌∙◌}
use mathlib.Core.Bool.{Bool, false}
use mathlib.Core.List.{List}
use lib.ListN.{get_or}
use Rattle.laws.proofs.Tests.{true-false}
use Rattle.promises.specs.Outcome.{OneOutcome}
use Rattle.promises.specs.Wrong.{Writer, Promise, Meets, Fails, FailsToBe, Accepts, Refusing, RefusingAll, Fixed, Silent, FirstOnly, Inventing}
use Rattle.promises.specs.Wrong.{InventingAll, Misreporting}

module _ {A R : Type 0} {promise : Promise A R} (one : (a : A) (out : List ℕ) → OneOutcome (promise a out)) where
  -- an implementation that meets the promise has the outcome that is allowed
  module _ {out' : List ℕ} {r : R} (a : A) (out : List ℕ) (allowed : promise a out out' r) (f : Writer A R) (m : Meets promise f) where
    met-answer : (f a out).0 ≡ r
    met-answer = (one a out (f a out).1 out' (f a out).0 r (m a out) allowed).0

    met-cells : (f a out).1 ≡ out'
    met-cells = (one a out (f a out).1 out' (f a out).0 r (m a out) allowed).1

    accepts : (refused : R → Bool) → refused r ≡ false → Accepts refused f a out
    accepts refused e = ap refused met-answer ∙ e

  module _ (refused : R → Bool) where
    pub refusing-fails : {out' : List ℕ} {r : R} (a : A) (out : List ℕ) → promise a out out' r → refused r ≡ false → Fails promise (Refusing refused)
    refusing-fails a out p e f w m = true-false (sym (w a out) ∙ accepts a out p f m refused e)

    pub silent-fails : {c : List ℕ} {r : R} (a : A) (out : List ℕ) → promise a out c r → refused r ≡ false → (c ≡ out → ⊥) → Fails promise (Silent refused)
    silent-fails a out p e differ f w m = differ (sym (met-cells a out p f m) ∙ w a out (accepts a out p f m refused e))

    pub fixed-fails : {c d : List ℕ} {r s : R} (a b : A) (out : List ℕ) → promise a out c r → promise b out d s → refused r ≡ false → refused s ≡ false →
        (c ≡ d → ⊥) → Fails promise (Fixed refused)
    fixed-fails a b out p q e e' differ f w m =
        differ (sym (met-cells a out p f m) ∙ w a b out (accepts a out p f m refused e) (accepts b out q f m refused e') ∙ met-cells b out q f m)

    pub first-fails : {c d : List ℕ} {r s : R} (first : A → A) (a : A) (out : List ℕ) → promise a out c r → promise (first a) out d s → refused r ≡ false →
        refused s ≡ false → (c ≡ d → ⊥) → Fails promise (FirstOnly refused first)
    first-fails first a out p q e e' differ f w m =
        differ (sym (met-cells a out p f m) ∙ w a out (accepts a out p f m refused e) (accepts (first a) out q f m refused e') ∙ met-cells (first a) out q f m)

  pub inventing-fails : {c d : List ℕ} {r s : R} (number : R → Option ℕ) (a b : A) (out : List ℕ) (i j : ℕ) → promise a out c r → promise b out d s →
      number r ≡ Some i → number s ≡ Some j → (i ≡ j → ⊥) → Fails promise (Inventing number)
  inventing-fails number a b out i j p q e e' differ f w m =
      differ (w a b out i j (ap number (met-answer a out p f m) ∙ e) (ap number (met-answer b out q f m) ∙ e'))

  -- a single number that is not the promised one is enough
  pub misreporting-fails : (number : R → Option ℕ) → Fails promise (Misreporting promise number)
  misreporting-fails number f w m = w.other (ap number (met-answer w.asked w.lent w.promised f m))

-- a call that writes nothing
module _ {A R : Type 0} (value : A → R) where
  pub refusing-all-fails : (refused : R → Bool) (a : A) → refused (value a) ≡ false → FailsToBe value (RefusingAll refused)
  refusing-all-fails refused a e f w m = true-false (sym (w a) ∙ ap refused (m a) ∙ e)

  pub inventing-all-fails : (number : R → Option ℕ) (a b : A) (i j : ℕ) → number (value a) ≡ Some i → number (value b) ≡ Some j → (i ≡ j → ⊥) →
      FailsToBe value (InventingAll number)
  inventing-all-fails number a b i j e e' differ f w m = differ (w a b i j (ap number (m a) ∙ e) (ap number (m b) ∙ e'))

-- cells or bytes that differ at a place
pub differ-at : (i : ℕ) (a b : List ℕ) → (get_or a i 0 ≡ get_or b i 0 → ⊥) → a ≡ b → ⊥
differ-at i a b h e = h (ap (λ c. get_or c i 0) e)
