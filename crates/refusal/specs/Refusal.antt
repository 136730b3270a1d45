-- Reference 9.1: each refusal with its number and its value.
use Rattle.std.specs.Prelude.{ℕ}
use Rattle.refusal.specs.declared.Refusal.{Refusal}
use Rattle.refusal.specs.declared.Refusal.TheVariants.{IndexLength, IndexEdition, IndexTrailer, IndexEntry, IndexList, QuestionLength}
use Rattle.refusal.specs.declared.Refusal.TheVariants.{QuestionByte, QuestionWord, Grammar, Words, Brackets, Room, Lists, EntryNumber, Number}
use Rattle.refusal.specs.declared.Refusal.TheVariants.{Interval, BuildWord, BuildCount, BuildSize, ProbeRange, NoWord, RuleNumber}

-- Reference 9.1: the number
abbrev pub number_of : Refusal → ℕ
number_of (IndexLength n) = 1
number_of (IndexEdition e) = 2
number_of IndexTrailer = 3
number_of (IndexEntry i) = 4
number_of (IndexList i) = 5
number_of (QuestionLength n) = 6
number_of (QuestionByte i) = 7
number_of (QuestionWord i) = 8
number_of (Grammar i) = 9
number_of (Words i) = 10
number_of (Brackets i) = 11
number_of (Room n) = 12
number_of (Lists n) = 13
number_of (EntryNumber i) = 14
number_of (Number i) = 15
number_of (Interval i) = 16
number_of (BuildWord i) = 17
number_of (BuildCount i) = 18
number_of (BuildSize i) = 19
number_of ProbeRange = 20
number_of (NoWord i) = 21
number_of (RuleNumber n) = 22

-- Reference 9.1: the value, which the refusal carries, or 0 where there is nothing to tell
abbrev pub value_of : Refusal → ℕ
value_of (IndexLength n) = n
value_of (IndexEdition e) = e
value_of IndexTrailer = 0
value_of (IndexEntry i) = i
value_of (IndexList i) = i
value_of (QuestionLength n) = n
value_of (QuestionByte i) = i
value_of (QuestionWord i) = i
value_of (Grammar i) = i
value_of (Words i) = i
value_of (Brackets i) = i
value_of (Room n) = n
value_of (Lists n) = n
value_of (EntryNumber i) = i
value_of (Number i) = i
value_of (Interval i) = i
value_of (BuildWord i) = i
value_of (BuildCount i) = i
value_of (BuildSize i) = i
value_of ProbeRange = 0
value_of (NoWord i) = i
value_of (RuleNumber n) = n
