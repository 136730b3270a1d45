-- The invariant: what is to be written is what is left to write. Rests on one word of the pass (EnterLaws).
use mathlib.Core.Path.{◌≡◌}
use mathlib.Core.List.{[]}
use lib.ListN.{length, drop}
use Rattle.build.specs.Lent.{words_from, lists_from}
use Rattle.build.specs.Passes.{all_entered, lent_entered}
use Rattle.build.proofs.EnterLaws.{Entering}
use Rattle.build.proofs.write.write_words.Given as goal

abbrev pub invariant-loop-i : goal.invariant-loop-i
invariant-loop-i l =
    (length l.out ≡ length l.initial.out)
    × Entering l.words l.counts l.numbers (length l.initial.out) l.at l.start l.first l.i
    × (lent_entered l.initial.out l.initial.at l.words l.counts l.numbers ≡ all_entered l.out l.at (words_from [] (drop l.start l.words)) (lists_from (drop l.i l.counts) (drop l.first l.numbers)))
