-- A question answered for a window, by its codes: what is lent, and what it comes to.
use Rattle.std.specs.Prelude.{◌≡◌, Bool, false, ℕ, ◌+◌, ◌*◌, ◌≤◌, List, length, replicate}
use Rattle.limits.specs.Limits.{record_max}
use Rattle.window.specs.Tuning.{window_most}
use Rattle.window.specs.Window.{Holds}
use Rattle.question.specs.Token.{Tok}
use Rattle.question.specs.Grammar.{Tree, Out}
use Rattle.codes.specs.declared.code.Code.{Code}
use Rattle.codes.specs.Reads.{Reads}
use Rattle.slots.specs.Slots.{slot_satisfies}
use Rattle.list.specs.declared.sense.Sense.{Sense}
use Rattle.slots.specs.declared.row.Row.{Row}
use Rattle.slots.specs.Row.{inside_of, until_of}
use Rattle.slots.specs.Having.{having, ReadBy}
use Rattle.senses.specs.Senses.{Sensed}
use Rattle.evaluate.specs.declared.eval.Step.{Step}

-- slot k is out for the records of a window of n numbers from base on, by its sense
pub record OutFor (senses : List Sense) (k base n : ℕ) : Type 0 where
  pub out : inside_of senses k ≡ false
  pub until : base + 64 * n ≤ until_of senses k

-- what an evaluation is lent: what slots are read by, their senses at record base, codes that reach to where it begins, and a blank window from base on
pub record Ready {A : Type 0} (codes : List A) (at : Step) (main arrivals : List ℕ) (base : ℕ) (row : Row) (ws : List ℕ) : Type 0 where
  pub lent : ReadBy main arrivals row
  pub sensed : Sensed (having main arrivals row) row.senses base
  pub inside : at.code ≤ length codes
  pub blank : ws ≡ replicate (length ws) 0
  pub size : length ws ≤ window_most
  pub near : base ≤ record_max + 1

-- what it comes to, where v says what each slot has: the window holds what satisfies the tree that the codes read as
pub record Evaluated (reading : ℕ → ℕ → List Tok → Out Tree) (codes : List Code) (at : Step) (v : ℕ → ℕ → Bool) (base : ℕ) (ws : List ℕ) (r : Step) : Type 0 where
  pub ahead : at.code ≤ r.code
  pub inside : r.code ≤ length codes
  pub reads : (f : ℕ) → Reads (reading at.slot f) codes at.code r.code r.slot (λ t. Holds (slot_satisfies v t at.slot) base ws)
