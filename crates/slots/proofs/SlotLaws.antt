-- Laws of what satisfies a tree by what its slots have.
use mathlib.Core.Path.{◌≡◌, refl}
use Prim.Native.Nat.{ℕ, ◌+◌}
use mathlib.Core.Bool.{Bool, false}
use mathlib.Core.List.{List}
use lib.ListN.{length}
use Rattle.word.specs.declared.Op.{Op}
use Rattle.question.specs.Grammar.{Tree, word, pair, part, tree_words}
use Rattle.question.specs.Meaning.{combine}
use Rattle.question.proofs.MeaningLaws.{combine-none}
use Rattle.slots.specs.Slots.{slot_satisfies}

-- ---- what satisfies a tree

module _ (v : ℕ → ℕ → Bool) (k x : ℕ) where
  pub slot-word : (w : List ℕ) → slot_satisfies v (word w) k x ≡ v k x
  unfolding slot_satisfies
  slot-word w = refl

  pub slot-part : (t : Tree) → slot_satisfies v (part t) k x ≡ slot_satisfies v t k x
  unfolding slot_satisfies
  slot-part t = refl

  -- j is the slot of b's first word
  pub slot-pair : (o : Op) (a b : Tree) (j : ℕ) → j ≡ k + length (tree_words a) →
      slot_satisfies v (pair o a b) k x ≡ combine o (slot_satisfies v a k x) (slot_satisfies v b j x)
  unfolding slot_satisfies
  slot-pair o a b j e = rw e

-- a record that no slot has fits no tree
pub slots-none : (v : ℕ → ℕ → Bool) (x : ℕ) → ((k : ℕ) → v k x ≡ false) → (t : Tree) (k : ℕ) → slot_satisfies v t k x ≡ false
unfolding slot_satisfies
slots-none v x h (word w) k = h k
slots-none v x h (pair o a b) k = rw (slots-none v x h a k)
    (combine-none o (slot_satisfies v b (k + length (tree_words a)) x) (slots-none v x h b (k + length (tree_words a))))
slots-none v x h (part t) k = slots-none v x h t k
