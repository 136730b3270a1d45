-- Reference 1: the limits, by the names that the header gives them.
use Rattle.std.specs.Prelude.{ℕ}

-- the largest record number, and the largest N
abbrev pub record_max : ℕ
record_max = 16777215

-- the bytes of an index
abbrev pub index_min : ℕ
index_min = 20

abbrev pub index_max : ℕ
index_max = 16777216

-- the words of an index
abbrev pub words_max : ℕ
words_max = 65535

-- the bytes of a word
abbrev pub word_max : ℕ
word_max = 32

-- the bytes of a question
abbrev pub question_max : ℕ
question_max = 256

-- the words of a question, a repeated one each time
abbrev pub question_words_max : ℕ
question_words_max = 16

-- the brackets that are open at one place of a question
abbrev pub brackets_max : ℕ
brackets_max = 8

-- the lists of one join
abbrev pub join_max : ℕ
join_max = 16
