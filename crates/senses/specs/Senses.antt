-- What is kept of each slot from look to look: its sense, whether it is in from a record on, and until which number.
use Rattle.std.specs.Prelude.{ℕ, ◌≤◌, ◌<◌, ◌≡◌, Bool, List, length}
use Rattle.list.specs.Sense.{Steady}
use Rattle.list.specs.declared.sense.Sense.{Sense}
use Rattle.slots.specs.Row.{until_of, inside_of, NearEnd}

-- from x on no sense says what is not so of v, which says what each slot has; one that ends before x says nothing
pub record Sensed (v : ℕ → ℕ → Bool) (senses : List Sense) (x : ℕ) : Type 0 where
  pub near : NearEnd senses
  pub same : (k y : ℕ) → x ≤ y → y < until_of senses k → v k y ≡ inside_of senses k

-- the senses of the first `slots` slots say what those have at x
abbrev pub Known : (ℕ → ℕ → Bool) → List Sense → ℕ → ℕ → Type 0
Known v senses slots x = (k : ℕ) → k < slots → Steady (v k) x (inside_of senses k) (until_of senses k)

-- the sense of slot k holds at x, and those that did still do
pub record Renewed (v : ℕ → ℕ → Bool) (x k : ℕ) (senses senses' : List Sense) : Type 0 where
  pub long : length senses' ≡ length senses
  pub sensed : Sensed v senses' x
  pub here : x < until_of senses' k
  pub others : (j : ℕ) → x < until_of senses j → x < until_of senses' j
