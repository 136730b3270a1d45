-- The place lies from low to high: the word in the middle, below the word or not, leaves one half out.
use Prim.Native.Nat.{◌-◌, ◌≤◌}
use Rattle.limits.specs.Limits.{words_max}
use Rattle.index.specs.Format.{word_count}
use Rattle.directory.specs.Standing.{word_place}
use Rattle.directory.proofs.find.find_place.Given as goal

abbrev pub invariant-loop-low : goal.invariant-loop-low
invariant-loop-low l =
    (l.low ≤ word_place l.index l.word) × (word_place l.index l.word ≤ l.high) × (l.high ≤ word_count l.index) × (l.high ≤ words_max)

abbrev pub decreases-loop-low : goal.decreases-loop-low
decreases-loop-low l = l.high - l.low
