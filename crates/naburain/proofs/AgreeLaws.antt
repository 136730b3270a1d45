-- The two calls for an entry's word agree, whatever the index and the number.
use Rattle.std.specs.Prelude.{Result, Ok, Err}
use Prim.Native.Nat.{ℕ, ◌<◌}
use mathlib.Core.Path.{◌≡◌, refl}
use native.Mathlib.Omega.{arith}
use Rattle.refusal.specs.declared.Refusal.{Refusal}
use Rattle.refusal.specs.declared.Refusal.TheVariants as refusal
use Rattle.refusal.specs.Refusal.{number_of}
use Rattle.index.specs.Format.{word_start, word_length, word_of}
use Rattle.index.specs.Part.{Slice}
use Rattle.directory.specs.Entry.{entry_check, entry_word}
use Rattle.index.proofs.SoundLaws.{part_length, sound-word-room}
use Rattle.directory.proofs.AnswerLaws.{entry-good}
use Rattle.naburain.specs.declared.PartResult.{PartResult}
use Rattle.naburain.specs.Result.{word_result, part_result}
use Rattle.naburain.specs.Agree.{Reported}

-- 0 is the number of no refusal, so that a caller tells an answer by it
pub number-above-zero : (r : Refusal) → 0 < number_of r
number-above-zero (refusal.IndexLength n) = omega arith
number-above-zero (refusal.IndexEdition e) = omega arith
number-above-zero refusal.IndexTrailer = omega arith
number-above-zero (refusal.IndexEntry i) = omega arith
number-above-zero (refusal.IndexList i) = omega arith
number-above-zero (refusal.QuestionLength n) = omega arith
number-above-zero (refusal.QuestionByte i) = omega arith
number-above-zero (refusal.QuestionWord i) = omega arith
number-above-zero (refusal.Grammar i) = omega arith
number-above-zero (refusal.Words i) = omega arith
number-above-zero (refusal.Brackets i) = omega arith
number-above-zero (refusal.Room n) = omega arith
number-above-zero (refusal.Lists n) = omega arith
number-above-zero (refusal.EntryNumber i) = omega arith
number-above-zero (refusal.Number i) = omega arith
number-above-zero (refusal.Interval i) = omega arith
number-above-zero (refusal.BuildWord i) = omega arith
number-above-zero (refusal.BuildCount i) = omega arith
number-above-zero (refusal.BuildSize i) = omega arith
number-above-zero refusal.ProbeRange = omega arith
number-above-zero (refusal.NoWord i) = omega arith
number-above-zero (refusal.RuleNumber i) = omega arith

-- by what the index and the number are refused by, if anything
agree_at : (index : Slice) (i : ℕ) (k : Result Unit Refusal) → entry_check index.bytes i ≡ k →
    Reported index i (entry_word index i) (word_result k (word_start index.bytes i) (word_length index.bytes i))
unfolding word_of
agree_at index i (Ok tt) e =
    let g = entry-good index.bytes i e in
    let room = sound-word-room index.bytes g.sound i g.below in
    record {
      part = rw e;
      within = room;
      long = rw e (part_length (word_start index.bytes i) (word_length index.bytes i) index.bytes room);
      word = λ z. rw e;
      empty = λ z. absurd (z refl);
    }
agree_at index i (Err x) e =
    let above = number-above-zero x in
    record {
      part = rw e;
      within = omega arith;
      long = rw e;
      word = λ (z : number_of x ≡ 0). absurd (omega arith);
      empty = λ z. rw e;
    }

-- any return that the contract of the one call allows, and any that the other's does
pub word-parts-agree : (index : Slice) (i : ℕ) (r : Slice) (w : PartResult) →
    r ≡ entry_word index i → w ≡ part_result index.bytes i →
    Reported index i r w
word-parts-agree index i r w p q = rw (p, q) (agree_at index i (entry_check index.bytes i) refl)
