-- An accepted question made ready for the driver: what its codes and what its slots have are to its tree.
use Rattle.std.specs.Prelude.{ℕ, ◌≤◌, max, ◌≡◌, Bool, List, length, Result, Ok}
use Rattle.limits.specs.Limits.{brackets_max}
use Rattle.refusal.specs.declared.Refusal.{Refusal}
use Rattle.list.specs.declared.answer.Tally.{Tally}
use Rattle.list.specs.Interval.{intervals}
use Rattle.list.specs.Sweeps.{Listing}
use Rattle.index.specs.Format.{highest}
use Rattle.index.specs.Sound.{Sound}
use Rattle.question.specs.Grammar.{Tree, Rule, tree_words}
use Rattle.question.specs.Meaning.{satisfies}
use Rattle.question.specs.Reading.{parses, asked}
use Rattle.codes.specs.declared.code.Code.{Code}
use Rattle.slots.specs.Compile.{halves_have, TreeSlots}
use Rattle.source.specs.Source.{Source, satisfying}
use Rattle.source.specs.Ask.{Lists}
use Rattle.query.specs.Drive.{TreeBy, TreeOf, test_of}

-- ---- what it is asked of: one index or two

-- of two indexes, the highest record
abbrev pub last_of : List ℕ → List ℕ → ℕ
last_of main arrivals = max (highest main) (highest arrivals)

-- the first `halves` of two sound indexes: the main one, or both
pub record Halves (halves : ℕ) (main arrivals : List ℕ) : Type 0 where
  pub main-sound : Sound main
  pub arrivals-sound : Sound arrivals
  pub some : 1 ≤ halves
  pub both : halves ≤ 2

-- a source is theirs
pub record OfHalves (halves : ℕ) (main arrivals : List ℕ) (s : Source) : Type 0 where
  pub has : (w : List ℕ) (x : ℕ) → s.has w x ≡ halves_have halves main arrivals w x
  pub last : s.highest ≡ last_of main arrivals

-- what is answered over each such source
abbrev pub AnswersHalves : ℕ → List ℕ → List ℕ → ℕ → List ℕ → List ℕ → List ℕ → Result Tally Refusal → Type 0
AnswersHalves halves main arrivals rule question out out' r =
    (s : Source) → OfHalves halves main arrivals s → Lists (Ok tt) (asked rule question) (satisfying s) out out' r

-- ---- made ready

-- the question is accepted
pub record IsAsked (rule : ℕ) (question : List ℕ) : Type 0 where
  pub tree : Tree
  pub words : ℕ
  pub is : asked rule question ≡ parses tree words

-- by the rule the codes read as t, and each of its slots has what the source has of its word
pub record MadeReady (s : Source) (rule : Rule) (codes : List Code) (v : ℕ → ℕ → Bool) (slots : ℕ) (t : Tree) : Type 0 where
  pub reads : TreeBy rule brackets_max codes t
  pub all : slots ≡ length (tree_words t)
  pub have : TreeSlots v s.has t

-- so they are of some question, of a source whose highest record is n
pub record IsReady (rule : Rule) (codes : List Code) (v : ℕ → ℕ → Bool) (n slots : ℕ) : Type 0 where
  pub source : Source
  pub last : source.highest ≡ n
  pub tree : Tree
  pub ready : MadeReady source rule codes v slots tree

-- the list of each source and tree for which they are made ready, or refusal 12
abbrev pub ListsReady : Rule → List Code → (ℕ → ℕ → Bool) → ℕ → ℕ → List ℕ → List ℕ → Result Tally Refusal → Type 0
ListsReady rule codes v n slots out out' r =
    (s : Source) → s.highest ≡ n → (t : Tree) → MadeReady s rule codes v slots t → Listing (satisfying s t) out out' r

-- ---- for the driver, which reads the codes from the left

-- the codes read as t, its test by the slots is that by the words, and its answer has no more intervals than `most`
pub record Prepared (s : Source) (codes : List Code) (v : ℕ → ℕ → Bool) (most : ℕ) (t : Tree) : Type 0 where
  pub reads : TreeOf codes t
  pub same : (x : ℕ) → test_of v t x ≡ satisfies s.has t x
  pub bound : intervals (satisfying s t) ≤ most

pub record IsPrepared (codes : List Code) (v : ℕ → ℕ → Bool) (n most : ℕ) : Type 0 where
  pub source : Source
  pub last : source.highest ≡ n
  pub tree : Tree
  pub prepared : Prepared source codes v most tree

-- the list of each source and tree for which they are prepared, or refusal 12
abbrev pub PutsAnswer : List Code → (ℕ → ℕ → Bool) → ℕ → ℕ → List ℕ → List ℕ → Result Tally Refusal → Type 0
PutsAnswer codes v n most out out' r = (s : Source) → s.highest ≡ n → (t : Tree) → Prepared s codes v most t → Listing (satisfying s t) out out' r
