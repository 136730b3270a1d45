-- The most words of a window, as in src/tuning.rt.
use Rattle.std.specs.Prelude.{ℕ}

abbrev pub window_most : ℕ
window_most = 128
