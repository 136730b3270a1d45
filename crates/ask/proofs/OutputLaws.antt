-- Laws of a question's line: a checked file is sound, an answer's intervals stand in the cells, and the line depends on nothing else.
use Rattle.std.specs.Prelude.{Result, Ok, Err}
use Rattle.list.specs.declared.answer.Tally.{Tally}
use Rattle.refusal.specs.declared.Refusal.{Refusal}
use mathlib.Core.Path.{◌≡◌, refl, ap}
use mathlib.Core.Bool.{Bool, true, false, cond}
use mathlib.Core.List.{List, []}
use Prim.Native.Nat.{ℕ, ◌*◌, ◌/◌, ◌≤◌}
use native.Mathlib.Omega.{arith}
use lib.Dec.{leb, ltb}
use lib.ListN.{length, drop, length-append}
use lib.Seq.{take-append-le}
use borrow.Author.Tests.{leb-true}
use Rattle.laws.proofs.Tests.{by-test}
use Rattle.io.specs.Counts.{IsPrefixLen}
use Rattle.refusal.specs.declared.Refusal.TheVariants.{Room}
use Rattle.list.specs.Interval.{intervals}
use Rattle.list.specs.Outcome.{Outcome, writes, refused, left_by}
use Rattle.list.specs.Answer.{answer_of}
use Rattle.index.specs.Sound.{Sound}
use Rattle.index.proofs.CheckLaws.{good-sound}
use Rattle.question.specs.Grammar.{Tree}
use Rattle.question.specs.Reading.{Parsed, parses, refuses, asked}
use Rattle.source.specs.Source.{satisfying, of_index}
use Rattle.source.specs.Ask.{question_outcome}
use Rattle.parts.proofs.PartLaws.{counts-within}
use Rattle.lines.specs.Room.{answer_cells, line_room}
use Rattle.lines.specs.Line.{shown, line_of, PutFirst}
use Rattle.lines.proofs.TextLaws.{line-short}
use Rattle.ask.specs.Output.{index_most, file_check, line_outcome, AnswersLine, question_line}

pub file-sound : (index : List ℕ) → file_check index ≡ (Ok tt) → Sound index
file-sound index e =
    by-test (ltb index_most (length index))
    (λ t. absurd (let r = rw t at e in let z : ◌≡◌ {A = ℕ} 0 1 = cc in omega arith))
    (λ t. good-sound index (rw t at e))

-- the cells that hold the intervals are within the room
listed-within : (c : List ℕ) (room : ℕ) (t : Bool) → leb (intervals c) room ≡ t →
    shown (answer_of (cond t (writes c) (refused (Room (intervals c))))) ≤ 2 * room
listed-within c room true e = omega (arith, leb-true (intervals c) room e)
listed-within c room false e = omega arith

shown-within : (check : Result Unit Refusal) (a : Parsed) (list : Tree → List ℕ) (room : ℕ) → shown (answer_of (question_outcome check a list room)) ≤ 2 * room
shown-within (Err r) a list room = omega arith
shown-within (Ok tt) (refuses r) list room = omega arith
shown-within (Ok tt) (parses t k) list room = listed-within (list t) room (leb (intervals (list t)) room) refl

-- what stood in the cells before does not show in the line
line_same : (number : ℕ) (o : Outcome) (out : List ℕ) → line_of number (answer_of o) (left_by o out) ≡ line_of number (answer_of o) (left_by o [])
line_same number (writes c) out =
    let h : 2 * (length c / 2) ≤ length c = omega arith in
    rw (take-append-le (2 * (length c / 2)) c (drop (length c) out) h, take-append-le (2 * (length c / 2)) c (drop (length c) []) h)
line_same number (refused r) out = refl

module _ (index question : List ℕ) {out out' : List ℕ} {r : (Result Tally Refusal)} (p : AnswersLine index question out out' r) where
  pub answer-within : shown r ≤ length out
  answer-within = rw p.answer (omega (arith, shown-within (file_check index) (asked 1 question) (satisfying (of_index index)) (length out / 2)))

  pub line-room : (number : ℕ) → length out' ≤ answer_cells → length (line_of number r out') ≤ line_room
  line-room number h = line-short number r out' h

  pub question-line : (number : ℕ) → length out ≡ answer_cells → line_of number r out' ≡ question_line index number question
  question-line number h =
      let room : length out / 2 ≡ 8192 = omega arith in
      rw (p.answer, p.cells, room) (line_same number (line_outcome index question 8192) out)

-- the bytes of a text that was written are bytes of what it was written into
pub written-counts : {out text out' : List ℕ} {r : ℕ} → PutFirst out text out' r → IsPrefixLen r out'
written-counts {out} {text} {out'} {r} w = counts-within r out' (omega (arith, w.size, ap length w.bytes, length-append text (drop (length text) out)))
