-- Laws of senses: of two sides under an operator, of two of which either holds, and of a tree.
use Prim.Native.Nat.{ℕ, ◌+◌, ◌≤◌, min}
use native.Mathlib.Omega.{arith}
use mathlib.Core.Path.{◌≡◌, refl, sym, ◌∙◌}
use mathlib.Core.Bool.{Bool, true, false, not, ◌&&◌, ◌||◌}
use mathlib.Core.List.{List}
use lib.ListN.{length, length-append}
use Rattle.list.specs.declared.sense.Sense.{Sense}
use Rattle.list.specs.Sense.{Steady}
use Rattle.word.specs.declared.Op.{Op}
use Rattle.word.specs.declared.Op.TheVariants.{Or}
use Rattle.question.specs.Token.{Tok}
use Rattle.question.specs.Grammar.{Tree, Out, word, pair, part, tree_words}
use Rattle.question.specs.Meaning.{combine}
use Rattle.codes.specs.declared.code.Code.{Code}
use Rattle.codes.specs.Reads.{Reads}
use Rattle.slots.specs.Row.{until_of, inside_of}
use Rattle.slots.specs.Slots.{slot_satisfies}
use Rattle.senses.specs.declared.look.Look.{Look}
use Rattle.senses.specs.Look.{Tells, Looks}
use Rattle.slots.proofs.SlotLaws.{slot-word, slot-part, slot-pair}

-- ---- of equal tests, and of what is known to be in or out

pub steady-same : (p q : ℕ → Bool) (x : ℕ) (a : Bool) (u : ℕ) → ((y : ℕ) → p y ≡ q y) → Steady p x a u → Steady q x a u
steady-same p q x a u e s = record { later = s.later; near = s.near; same = λ y h l. sym (e y) ∙ s.same y h l }

pub steady-is : {p : ℕ → Bool} {x : ℕ} {a b : Bool} {u : ℕ} → a ≡ b → Steady p x a u → Steady p x b u
steady-is e s = rw (sym e) s

-- ---- of two tests of which either holds

module _ (p q : ℕ → Bool) {x : ℕ} where
  pub either-out : {u v : ℕ} → Steady p x false u → Steady q x false v → Steady (λ y. p y || q y) x false (min u v)
  either-out s t = record {
    later = omega (arith, s.later, t.later);
    near = omega (arith, s.near);
    same = λ y g l. rw (s.same y g (omega arith), t.same y g (omega arith));
  }

-- ---- under an operator

or-by-and : (a b : Bool) → not (not a && not b) ≡ a || b
or-by-and true b = refl
or-by-and false true = refl
or-by-and false false = refl

pub paired-or : (p q : ℕ → Bool) {x : ℕ} {a : Bool} {u : ℕ} → Steady (λ y. not (not (p y) && not (q y))) x a u → Steady (λ y. combine Or (p y) (q y)) x a u
paired-or p q {x} {a} {u} s = steady-same (λ y. not (not (p y) && not (q y))) (λ y. p y || q y) x a u (λ y. or-by-and (p y) (q y)) s

-- ---- of a tree, by the kept senses of its slots

module _ (senses : List Sense) (k : ℕ) (a : Bool) (u : ℕ) where
  pub tells-word : u ≡ until_of senses k → a ≡ inside_of senses k → (w : List ℕ) → Tells senses k a u (word w)
  unfolding tree_words
  tells-word e f w v slots x h known = steady-same (v k) (slot_satisfies v (word w) k) x a u (λ y. sym (slot-word v k y w)) (rw (e, f) (known k (omega arith)))

  pub tells-part : (t : Tree) → Tells senses k a u t → Tells senses k a u (part t)
  unfolding tree_words
  tells-part t s v slots x h known = steady-same (slot_satisfies v t k) (slot_satisfies v (part t) k) x a u (λ y. sym (slot-part v k y t)) (s v slots x h known)

  pub tells-pair : (o : Op) (left right : Tree) (j : ℕ) → j ≡ k + length (tree_words left) → (b c : Bool) (m n : ℕ) →
      ((p q : ℕ → Bool) (x : ℕ) → Steady p x b m → Steady q x c n → Steady (λ y. combine o (p y) (q y)) x a u) →
      Tells senses k b m left → Tells senses j c n right → Tells senses k a u (pair o left right)
  unfolding tree_words
  tells-pair o left right j e b c m n paired s t v slots x h known =
      let l = length-append (tree_words left) (tree_words right) in
      steady-same (λ y. combine o (slot_satisfies v left k y) (slot_satisfies v right j y)) (slot_satisfies v (pair o left right) k) x a u
      (λ y. sym (slot-pair v k y o left right j e))
      (paired (slot_satisfies v left k) (slot_satisfies v right j) x (s v slots x (omega arith) known) (t v slots x (omega arith) known))

-- ---- of a look

-- nothing could be read there
pub looks-none : {reading : ℕ → List Tok → Out Tree} {codes : List Code} {i k : ℕ} {senses : List Sense} {r : Look} → i ≤ length codes → r.code ≡ i →
    ((f : ℕ) → Reads (reading f) codes i r.code r.slot (Tells senses k r.inside r.until)) → Looks reading codes i k senses r
looks-none h e reads = record { ahead = omega arith; inside = omega arith; reads = reads }
