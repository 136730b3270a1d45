-- Reference 7: what the exported calls return, the refusal's number and value, or 0 and 0, and then what the call reports, 0 where it was refused.
use Rattle.std.specs.Prelude.{Result, Ok, Err}
use Rattle.list.specs.declared.answer.Tally.{Tally}
use Rattle.list.specs.declared.probe.Probe.{Probe}
use Rattle.refusal.specs.declared.Refusal.{Refusal}
use Rattle.std.specs.Prelude.{ℕ, List}
use Rattle.refusal.specs.Refusal.{number_of, value_of}
use Rattle.index.specs.Format.{word_start, word_length}
use Rattle.directory.specs.Entry.{entry_check}
use Rattle.naburain.specs.declared.CheckedResult.{CheckedResult}
use Rattle.naburain.specs.declared.FoundResult.{FoundResult}
use Rattle.naburain.specs.declared.PartResult.{PartResult}
use Rattle.naburain.specs.declared.ProbedResult.{ProbedResult}
use Rattle.naburain.specs.declared.WrittenResult.{WrittenResult}
use Rattle.naburain.specs.declared.AnsweredResult.{AnsweredResult}

-- Reference 8.1
abbrev pub check_result : Result Unit Refusal → CheckedResult
check_result (Ok tt) = record { refusal = 0; value = 0 }
check_result (Err r) = record { refusal = number_of r; value = value_of r }

-- Reference 8.2
abbrev pub lookup_result : Result ℕ Refusal → FoundResult
lookup_result (Ok i) = record { refusal = 0; value = 0; entry = i }
lookup_result (Err r) = record { refusal = number_of r; value = value_of r; entry = 0 }

-- Reference 8.3: the word's place in the index
abbrev pub word_result : Result Unit Refusal → ℕ → ℕ → PartResult
word_result (Ok tt) start length = record { refusal = 0; value = 0; start = start; length = length }
word_result (Err r) start length = record { refusal = number_of r; value = value_of r; start = 0; length = 0 }

abbrev pub part_result : List ℕ → ℕ → PartResult
part_result index i = word_result (entry_check index i) (word_start index i) (word_length index i)

-- Reference 8.4
abbrev pub probe_result : Result Probe Refusal → ProbedResult
probe_result (Ok p) = record { refusal = 0; value = 0; below = p.below; overlapping = p.overlapping }
probe_result (Err r) = record { refusal = number_of r; value = value_of r; below = 0; overlapping = 0 }

-- Reference 8.7 to 8.9
abbrev pub write_result : Result ℕ Refusal → WrittenResult
write_result (Ok n) = record { refusal = 0; value = 0; written = n }
write_result (Err r) = record { refusal = number_of r; value = value_of r; written = 0 }

-- Reference 8.5 and 8.6
abbrev pub answer_result : Result Tally Refusal → AnsweredResult
answer_result (Ok t) = record { refusal = 0; value = 0; intervals = t.intervals; records = t.records }
answer_result (Err r) = record { refusal = number_of r; value = value_of r; intervals = 0; records = 0 }
