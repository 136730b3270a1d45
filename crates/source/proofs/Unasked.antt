-- An operator can be a word of an index, with a capital letter, and cannot be asked for (Reference 2): of two sources with the same N that have the same
-- records of every word that is no operator, the same comes of each question.
use Prim.Native.Nat.{ℕ, ◌/◌, ◌≤◌}
use mathlib.Core.Path.{◌≡◌, refl, ap, ◌∙◌}
use mathlib.Core.Bool.{false}
use mathlib.Core.List.{List}
use lib.ListN.{length}
use Rattle.std.specs.Prelude.{Result, Ok, Err}
use Rattle.refusal.specs.declared.Refusal.{Refusal}
use Rattle.list.specs.declared.answer.Tally.{Tally}
use Rattle.word.specs.Word.{is_operator}
use Rattle.list.specs.Stretches.{cells_of}
use Rattle.list.specs.Answer.{in_room, Gives}
use Rattle.list.proofs.ListingLaws.{gives-agree}
use Rattle.list.proofs.StretchLaws.{cells_same}
use Rattle.index.specs.Format.{highest}
use Rattle.index.specs.Check.{check_of}
use Rattle.directory.specs.Has.{has}
use Rattle.question.specs.Grammar.{Tree}
use Rattle.question.specs.Rules.{rule_of}
use Rattle.question.specs.Meaning.{satisfies}
use Rattle.question.specs.Reading.{Parsed, parses, refuses, asked}
use Rattle.question.proofs.ParsedLaws.{asked-parsed}
use Rattle.question.proofs.RuleLaws.{rule-keeps}
use Rattle.question.proofs.OperatorLaws.{operators-unasked}
use Rattle.source.specs.Source.{Source, satisfying, of_index}
use Rattle.source.specs.Ask.{question_outcome, Asks}

module _ (rule : ℕ) (s other : Source) (same-highest : s.highest ≡ other.highest)
    (same-words : (w : List ℕ) (x : ℕ) → 1 ≤ x → x ≤ s.highest → is_operator w ≡ false → s.has w x ≡ other.has w x) (question : List ℕ) where
  same-list : (t : Tree) (n : ℕ) → asked rule question ≡ parses t n → satisfying s t ≡ satisfying other t
  unfolding satisfying
  same-list t n h =
      cells_same (satisfies s.has t) (satisfies other.has t) s.highest
      (λ x l u. operators-unasked (rule_of rule) (rule-keeps rule) s.has other.has x (λ w. same-words w x l u) question t n
      (asked-parsed rule question t n h).1)
      ∙ ap (cells_of (satisfies other.has t)) same-highest

  by-reading : (check : Result Unit Refusal) (room : ℕ) (a : Parsed) → asked rule question ≡ a →
      question_outcome check a (satisfying s) room ≡ question_outcome check a (satisfying other) room
  by-reading (Err r) room a h = refl
  by-reading (Ok tt) room (refuses r) h = refl
  by-reading (Ok tt) room (parses t n) h = ap (in_room room) (same-list t n h)

  -- whatever the check says
  pub same_outcome : (check : Result Unit Refusal) (room : ℕ) →
      question_outcome check (asked rule question) (satisfying s) room ≡ question_outcome check (asked rule question) (satisfying other) room
  same_outcome check room = by-reading check room (asked rule question) refl

-- two sound indexes: the same answer, and the same cells
pub same-calls : (rule : ℕ) (index other : List ℕ) → highest index ≡ highest other →
    ((w : List ℕ) (x : ℕ) → is_operator w ≡ false → has index w x ≡ has other w x) → check_of index ≡ Ok tt → check_of other ≡ Ok tt →
    (question out out' out'' : List ℕ) (r r' : Result Tally Refusal) → Asks rule index question out out' r → Asks rule other question out out'' r' → (r ≡ r') × (out' ≡ out'')
same-calls rule index other same-highest same-words s s' question out out' out'' r r' a b =
    let same = same_outcome rule (of_index index) (of_index other) same-highest (λ w x l u. same-words w x) question (Ok tt) (length out / 2) in
    let first : Gives (question_outcome (Ok tt) (asked rule question) (satisfying (of_index index)) (length out / 2)) out out' r = rw s at a in
    let second : Gives (question_outcome (Ok tt) (asked rule question) (satisfying (of_index other)) (length out / 2)) out out'' r' = rw s' at b in
    gives-agree (rw same at first) second
