-- What the readers' answers say of the reading, for every rule and every bound on the calls above what is left.
use Rattle.std.specs.Prelude.{ℕ, ◌+◌, ◌-◌, ◌*◌, ◌≤◌, ◌<◌, ◌≡◌, List, length, Result, Ok, Err}
use Rattle.limits.specs.Limits.{question_words_max}
use Rattle.refusal.specs.declared.Refusal.{Refusal}
use Rattle.question.specs.declared.reader.Read.{Read}
use Rattle.question.specs.Token.{Tok, tokens_at}
use Rattle.question.specs.Grammar.{Rule, Out, good, bad, question, operand, links, whole}
use Rattle.question.specs.Reading.{token_place, refusal_of, outcome, parsed, answer}

-- read up to place n, with j words
pub record GoodAt {A : Type 0} (s : List ℕ) (n j : ℕ) (o : Out A) : Type 0 where
  pub got : A
  pub says : o ≡ good got (tokens_at s n) j

pub record BadAt {A : Type 0} (s : List ℕ) (refusal : Refusal) (o : Out A) : Type 0 where
  pub number : ℕ
  pub left : List Tok
  pub says : o ≡ bad number left
  pub is : refusal ≡ refusal_of number (token_place (length s) left)

abbrev pub ReadAs : {A : Type 0} → List ℕ → Result Read Refusal → Out A → Type 0
ReadAs s (Ok r) o = GoodAt s r.next r.words o
ReadAs s (Err refusal) o = BadAt s refusal o

-- a place not before `at`, and words not below k
abbrev pub Ahead : ℕ → ℕ → ℕ → Result Read Refusal → Type 0
Ahead at len k (Ok r) = (at ≤ r.next) × (r.next ≤ len) × (k ≤ r.words) × (r.words ≤ question_words_max)
Ahead at len k (Err refusal) = Unit {0}

pub record ReadsQuestion (s : List ℕ) (d k at : ℕ) (r : Result Read Refusal) : Type 0 where
  pub ahead : Ahead at (length s) k r
  pub reads : (rule : Rule) (f : ℕ) → 2 * (length s - at) + 1 < f → ReadAs s r (question rule f d k (tokens_at s at))

pub record ReadsOperand (s : List ℕ) (d k at : ℕ) (r : Result Read Refusal) : Type 0 where
  pub ahead : Ahead at (length s) k r
  pub reads : (rule : Rule) (f : ℕ) → 2 * (length s - at) < f → ReadAs s r (operand rule f d k (tokens_at s at))

pub record ReadsLinks (s : List ℕ) (d k at : ℕ) (r : Result Read Refusal) : Type 0 where
  pub ahead : Ahead at (length s) k r
  pub reads : (rule : Rule) (f : ℕ) → 2 * (length s - at) < f → ReadAs s r (links rule f d k (tokens_at s at))

abbrev pub ReadsWhole : List ℕ → Result ℕ Refusal → Type 0
ReadsWhole s r = (rule : Rule) → r ≡ answer (outcome (length s) (whole rule s))

-- and of the refusals before it
abbrev pub ReadsAnyRule : List ℕ → Result ℕ Refusal → Type 0
ReadsAnyRule s r = (rule : Rule) → r ≡ answer (parsed rule s)
