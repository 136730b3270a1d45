-- The driver, which passes the records from 1 to N step by step and counts, or writes, the cells of those that satisfy a question.
use Rattle.std.specs.Prelude.{ℕ, ◌+◌, ◌*◌, ◌≤◌, ◌<◌, min, ◌≡◌, Bool, true, false, List, [], length}
use Rattle.limits.specs.Limits.{question_words_max, record_max}
use Rattle.list.specs.declared.answer.Tally.{Tally}
use Rattle.list.specs.declared.sense.Sense.{Sense}
use Rattle.list.specs.Sense.{Steady}
use Rattle.list.specs.Stretches.{cells_of}
use Rattle.list.specs.Sweeps.{Sweeps}
use Rattle.window.specs.declared.steps.Done.{Done}
use Rattle.window.specs.Tuning.{window_most}
use Rattle.window.specs.Flips.{odd, flips}
use Rattle.window.specs.Steps.{Stepped}
use Rattle.question.specs.Token.{Tok}
use Rattle.question.specs.Grammar.{Tree, Rule, good, from_left, question}
use Rattle.codes.specs.declared.code.Code.{Code}
use Rattle.codes.specs.Code.{codes_of, word_codes}
use Rattle.codes.specs.Group.{grouped_brackets}
use Rattle.slots.specs.Slots.{slot_satisfies}
use Rattle.slots.specs.declared.row.Row.{Row}
use Rattle.slots.specs.Having.{ReadBy}
use Rattle.senses.specs.declared.look.Look.{Look}
use Rattle.senses.specs.Senses.{Sensed}
use Rattle.query.specs.declared.drive.At.{At}
use Rattle.query.specs.declared.drive.Pass.{Pass}

-- ---- the question's test, by its codes

-- by a rule, and with room for so many brackets, the codes read as a whole question whose tree is t
pub record TreeBy (rule : Rule) (brackets : ℕ) (codes : List Code) (t : Tree) : Type 0 where
  pub toks : List Tok
  pub are : codes_of toks ≡ codes
  pub fuel : ℕ
  pub words : ℕ
  pub reads : question rule fuel brackets 0 toks ≡ good t [] words

-- as the driver reads them
abbrev pub TreeOf : List Code → Tree → Type 0
TreeOf codes t = TreeBy from_left grouped_brackets codes t

-- which records satisfy it, where v says what its slots have
abbrev pub test_of : (ℕ → ℕ → Bool) → Tree → ℕ → Bool
test_of v t = slot_satisfies v t 0

-- P is so of the test of each tree that the codes read as
abbrev pub OfEach : List Code → (ℕ → ℕ → Bool) → ((ℕ → Bool) → Type 0) → Type 0
OfEach codes v P = (t : Tree) → TreeOf codes t → P (test_of v t)

-- what a question is asked by: its codes, and what slots are read by, of which the first `slots` are those of its words
pub record AskedBy (codes : List Code) (main arrivals : List ℕ) (row : Row) (slots : ℕ) : Type 0 where
  pub lent : ReadBy main arrivals row
  pub few : slots ≤ question_words_max
  pub all : slots ≡ word_codes codes

-- what is kept of the slots before record x: a sense of each, and the first `slots` are those of the question's words
pub record Slotted (codes : List Code) (v : ℕ → ℕ → Bool) (senses : List Sense) (slots x : ℕ) : Type 0 where
  pub few : slots ≤ question_words_max
  pub all : slots ≡ word_codes codes
  pub sensed : Sensed v senses x

-- n is a record, and no slot has one above it
pub record Ends (v : ℕ → ℕ → Bool) (n : ℕ) : Type 0 where
  pub near : n ≤ record_max
  pub above : (k x : ℕ) → n < x → v k x ≡ false

-- the codes read as a question, and the cells of any step from x on have room behind the first k, where they are written
pub record Roomy (codes : List Code) (v : ℕ → ℕ → Bool) (x : ℕ) (writing : Bool) (k : ℕ) (out : List ℕ) : Type 0 where
  pub tree : Tree
  pub reads : TreeOf codes tree
  pub room : writing ≡ true → (m : ℕ) → 1 ≤ m → k + length (flips (test_of v tree) (odd k) x m) ≤ length out

-- the codes read as a question, whose whole list has room, where it is written
pub record Fits (codes : List Code) (v : ℕ → ℕ → Bool) (pass : Pass) (out : List ℕ) : Type 0 where
  pub tree : Tree
  pub reads : TreeOf codes tree
  pub room : pass.writing ≡ true → length (cells_of (test_of v tree) pass.n) ≤ length out

-- ---- the loop

-- what a window is taken by: as many words as the driver's place says, and where it stands
pub record WindowAt (ws : List ℕ) (at : At) : Type 0 where
  pub wide : length ws ≡ at.width
  pub some : 1 ≤ at.width
  pub most : at.width ≤ window_most
  pub begun : 1 ≤ at.x
  pub near : at.x ≤ record_max
  pub few : at.cells < 4294967296
  pub counted : at.records < 4294967296

-- it passes the window's records
abbrev pub TakesWindow : List Code → (ℕ → ℕ → Bool) → Bool → At → List ℕ → List ℕ → Done → Type 0
TakesWindow codes v writing at out out' r =
    OfEach codes v (λ p. Stepped p at.x (64 * at.width) writing at.cells at.records out out' r.cells r.records)

-- what a look at record x says
abbrev pub LooksAt : List Code → (ℕ → ℕ → Bool) → ℕ → Look → Type 0
LooksAt codes v x r = OfEach codes v (λ p. Steady p x r.inside r.until)

-- where it stands before a step
pub record Stands (n : ℕ) (at : At) : Type 0 where
  pub some : 1 ≤ at.width
  pub most : at.width ≤ window_most
  pub begun : 1 ≤ at.x
  pub more : at.x ≤ n
  pub near : n ≤ record_max
  pub few : at.cells ≤ n + 1
  pub counted : at.records ≤ n

-- where it stands behind it
pub record Moved (p : ℕ → Bool) (n : ℕ) (writing : Bool) (at : At) (out out' : List ℕ) (r : At) : Type 0 where
  pub far : ℕ
  pub some : 1 ≤ far
  pub to : r.x ≡ min (at.x + far) (n + 1)
  pub step : Stepped p at.x far writing at.cells at.records out out' r.cells r.records

abbrev pub Moves : List Code → (ℕ → ℕ → Bool) → Pass → At → List ℕ → List ℕ → At → Type 0
Moves codes v pass at out out' r = OfEach codes v (λ p. Moved p pass.n pass.writing at out out' r)

-- the whole list, counted or written
abbrev pub Tallies : List Code → (ℕ → ℕ → Bool) → Pass → List ℕ → List ℕ → Tally → Type 0
Tallies codes v pass out out' r = OfEach codes v (λ p. Sweeps (cells_of p pass.n) pass.writing out out' r)
