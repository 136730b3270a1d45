-- The room for an answer and for its line.
use Rattle.std.specs.Prelude.{ℕ}

-- Reference 10: the cells that are lent for each answer
abbrev pub answer_cells : ℕ
answer_cells = 16384

-- the bytes of the longest line of as many cells
abbrev pub line_room : ℕ
line_room = 344169
