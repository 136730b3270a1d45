-- Reference 3.3: the scan line, a counter over all bounds in ascending order, which is the number of lists that are in.
use Rattle.std.specs.Prelude.{ℕ, cond, eqb}

-- where the open stretch begins, when a lower bound comes at x: there, where no list was in
abbrev pub lower_from : ℕ → ℕ → ℕ → ℕ
lower_from count lower x = cond (eqb count 0) x lower
