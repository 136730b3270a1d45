-- What a window holds of a word, of a part and of two sides, by the slots of their words.
use mathlib.Core.Path.{◌≡◌, refl, sym, ap, ◌∙◌}
use Prim.Native.Nat.{ℕ, zero, suc, ◌+◌, ◌*◌, ◌≤◌}
use native.Mathlib.Omega.{arith}
use mathlib.Core.Bool.{Bool, ◌||◌, and-false, and-true, or-false}
use mathlib.Core.List.{List, [], ◌∷◌, ◌++◌}
use lib.ListN.{length, take, replicate, length-replicate}
use Rattle.window.specs.Window.{bit_at, Holds, Combined}
use Rattle.window.proofs.HoldLaws.{bits-zeros, holds_agree, holds-combined}
use Rattle.word.specs.declared.Op.{Op}
use Rattle.word.specs.declared.Op.TheVariants.{And, Or, Not}
use Rattle.question.specs.Token.{Tok}
use Rattle.question.specs.Grammar.{Tree, Out, word, pair, part, tree_words}
use Rattle.question.specs.Meaning.{combine}
use Rattle.fill.specs.Added.{Added}
use Rattle.slots.specs.Slots.{slot_satisfies}
use Rattle.list.specs.declared.sense.Sense.{Sense}
use Rattle.slots.specs.declared.row.Row.{Row}
use Rattle.slots.specs.Row.{entries_at, HintsMoved}
use Rattle.slots.specs.Having.{entry_has, half_of, having}
use Rattle.senses.specs.Senses.{Sensed}
use Rattle.slots.proofs.RowLaws.{moved_none}
use Rattle.slots.proofs.EntriesLaws.{lists_of, IsList, in_lists, lists-next, all-lists}
use Rattle.codes.specs.declared.code.Code.{Code}
use Rattle.codes.specs.declared.code.Code.TheVariants as kind
use Rattle.codes.specs.Reads.{Reads, as_operand}
use Rattle.codes.proofs.ReadsLaws.{Here, operand-word}
use Rattle.evaluate.specs.Evaluated.{OutFor, Evaluated}
use Rattle.evaluate.specs.declared.eval.Step.{Step}
use Rattle.fill.proofs.AddedLaws.{added-beyond, added-agree, added-both, added-holds}
use Rattle.slots.proofs.SlotLaws.{slot-word, slot-part, slot-pair}

-- ---- a window that is the front of a longer one

pub front-blank : (m n : ℕ) → take {A = ℕ} m (replicate n 0) ≡ replicate (length (take {A = ℕ} m (replicate n 0))) 0
front-blank zero n = refl
front-blank (suc m) zero = refl
front-blank (suc m) (suc n) = ap (λ (l : List ℕ). 0 ∷ l) (front-blank m n)

pub front-back : (m : ℕ) (vs r : List ℕ) → length vs ≡ m → take m (vs ++ r) ≡ vs
front-back zero [] r e = refl
front-back zero (v ∷ vs) r e = absurd (omega arith)
front-back (suc m) [] r e = absurd (omega arith)
front-back (suc m) (v ∷ vs) r e = ap (λ (l : List ℕ). v ∷ l) (front-back m vs r (omega arith))

-- ---- what an evaluation comes to

-- nothing could be read, and nothing is changed
pub evaluated-none : {reading : ℕ → ℕ → List Tok → Out Tree} {codes : List Code} {at : Step} {v : ℕ → ℕ → Bool} {base : ℕ} {row : Row} {ws : List ℕ} →
    at.code ≤ length codes →
    ((f : ℕ) → Reads (reading at.slot f) codes at.code at.code at.slot (λ t. Holds (slot_satisfies v t at.slot) base ws)) →
    HintsMoved row row × ((length ws ≡ length ws) × Evaluated reading codes at v base ws at)
evaluated-none {row = row} h r = (moved_none row, (refl, record { ahead = omega arith; inside = h; reads = r }))

-- ---- what the windows hold

module _ (v : ℕ → ℕ → Bool) (k : ℕ) {base : ℕ} where
  pub holds-word : (w : List ℕ) {ws₀ ws : List ℕ} → ws₀ ≡ replicate (length ws₀) 0 → Added (v k) base ws₀ ws → Holds (slot_satisfies v (word w) k) base ws
  holds-word w {ws₀} {ws} e a = holds_agree (v k) (slot_satisfies v (word w) k) base ws (λ n h. sym (slot-word v k (base + n) w))
      (added-holds (v k) base (length ws₀) ws₀ ws e a)

  pub holds-part : (t : Tree) {ws : List ℕ} → Holds (slot_satisfies v t k) base ws → Holds (slot_satisfies v (part t) k) base ws
  holds-part t {ws} h = holds_agree (slot_satisfies v t k) (slot_satisfies v (part t) k) base ws (λ n l. sym (slot-part v k (base + n) t)) h

  -- j is the slot of the right side's first word
  pub holds-pair : (o : Op) (a b : Tree) {j : ℕ} {xs ys zs : List ℕ} → j ≡ k + length (tree_words a) → length ys ≡ length xs → Combined (combine o) xs ys zs →
      Holds (slot_satisfies v a k) base xs → Holds (slot_satisfies v b j) base ys → Holds (slot_satisfies v (pair o a b) k) base zs
  holds-pair o a b {j} {xs} {ys} {zs} e l c h g =
      holds_agree (λ x. combine o (slot_satisfies v a k x) (slot_satisfies v b j x)) (slot_satisfies v (pair o a b) k) base zs
      (λ n w. sym (slot-pair v k (base + n) o a b j e))
      (holds-combined (combine o) (slot_satisfies v a k) (slot_satisfies v b j) base xs ys zs l c h g)

-- ---- a window with a blank one

pub blank_and : (xs : List ℕ) → Combined (combine And) xs (replicate (length xs) 0) (replicate (length xs) 0)
blank_and xs = record {
  long = length-replicate {A = ℕ} (length xs) 0;
  bits = λ n h. rw (bits-zeros (length xs) n) (sym (and-false (bit_at xs n)));
}

pub blank_or : (xs : List ℕ) → Combined (combine Or) xs (replicate (length xs) 0) xs
blank_or xs = record { long = refl; bits = λ n h. rw (bits-zeros (length xs) n) (sym (or-false (bit_at xs n))) }

pub blank_not : (xs : List ℕ) → Combined (combine Not) xs (replicate (length xs) 0) xs
blank_not xs = record { long = refl; bits = λ n h. rw (bits-zeros (length xs) n) (sym (and-true (bit_at xs n))) }

-- ---- the lists of a slot, filled one after the other

module _ (main arrivals : List ℕ) (row : Row) (k : ℕ) {base : ℕ} where
  -- list m of a half, under the names that it is read by
  pub added-list : (n half m : ℕ) (row₁ : Row) {index xs ys zs : List ℕ} → row₁.ranges ≡ row.ranges → index ≡ half_of main arrivals half →
      IsList row.ranges k n half m →
      Added (in_lists main arrivals row.ranges k n) base xs ys → Added (entry_has index ((entries_at row₁.ranges (2 * k + half)).first + m)) base ys zs →
      Added (in_lists main arrivals row.ranges k (n + 1)) base xs zs
  added-list n half m row₁ {index} same e is a b =
      added-agree (λ x. in_lists main arrivals row.ranges k n x || entry_has index ((entries_at row₁.ranges (2 * k + half)).first + m) x)
      (in_lists main arrivals row.ranges k (n + 1)) _ _ _
      (λ x. rw (e, same) (sym (lists-next main arrivals row.ranges k n half m is x))) (added-both a b)

  pub added-lists : (n : ℕ) {xs ys : List ℕ} → n ≡ lists_of row.ranges k → Added (in_lists main arrivals row.ranges k n) base xs ys →
      Added (having main arrivals row k) base xs ys
  added-lists n e a = added-agree _ (having main arrivals row k) _ _ _ (all-lists main arrivals row.ranges k n e) a

-- ---- the senses of slots

-- they stay where hints are moved
pub sensed-moved : (main arrivals : List ℕ) {row row' : Row} {x : ℕ} → Sensed (having main arrivals row) row.senses x → HintsMoved row row' →
    Sensed (having main arrivals row') row'.senses x
sensed-moved main arrivals s m = rw (m.stay.slots, m.senses) s

-- a slot that is out for a window adds nothing to it
module _ (v : ℕ → ℕ → Bool) (k : ℕ) {senses : List Sense} {base : ℕ} (s : Sensed v senses base) where
  pub added_out : {ws : List ℕ} → OutFor senses k base (length ws) → Added (v k) base ws ws
  added_out {ws} o = added-beyond (v k) base ws (λ n h. s.same k (base + n) (omega arith) (omega (arith, o.until)) ∙ o.out)

  -- so that a blank one holds the word, if one stands there
  pub reads-out : (codes : List Code) (d i n : ℕ) → OutFor senses k base n → Here codes i kind.Word →
      (f : ℕ) → Reads (as_operand d k f) codes i (i + 1) (k + 1) (λ t. Holds (slot_satisfies v t k) base (replicate n 0))
  reads-out codes d i n o here f =
      let long = length-replicate {A = ℕ} n 0 in
      operand-word codes f d k i here.0 _
      (λ u. holds-word v k u (ap (λ (m : ℕ). replicate m 0) (sym long)) (added_out (rw long o)))
