use mathlib.Core.Path.{sym, ◌∙◌}
use Prim.Native.Nat.{◌<◌}
use native.Mathlib.Omega.{arith}
use lib.ListN.{length}
use Rattle.build.proofs.WordsLaws.{pass-start, pass-end, pass-over, pass-bad, pass-next}
use Rattle.build.proofs.words.check_words.Goals as goal
use Rattle.build.proofs.words.check_words.Goals.{Else-end-words}

pub returns-then-end-words : goal.returns-then-end-words
returns-then-end-words c =
    let end = c.part_end-end.ensures in
    rw (pass-over c.loop-start.invariant end.place c.loop-start-test.true (omega arith) c.then-end-words.either)

-- the word of the turn is ended
ended : (c : Else-end-words) → c.part_end-end.result < length c.args.words.now
ended c = omega arith

pub returns-then-not-word_good : goal.returns-then-not-word_good
returns-then-not-word_good c = rw (pass-bad c.loop-start.invariant c.part_end-end.ensures.place (ended (goal.at.returns-then-not-word_good c).Else-end-words)
    (sym c.word_good.ensures ∙ c.if-not-word_good.true))

pub loop-start-preserved : goal.loop-start-preserved
loop-start-preserved c =
    let good = sym c.word_good.ensures ∙ c.if-not-word_good.false in
    pass-next c.loop-start.invariant c.part_end-end.ensures.place (ended (goal.at.loop-start-preserved c).Else-end-words) c.if-count-eq-WORDS_MAX.false good

pub returns : goal.returns
returns c =
    let w = pass-end c.loop-start.invariant c.loop-start-test.false in rw (w.0, ← w.1)

pub loop-start-init : goal.loop-start-init
loop-start-init c = pass-start c.args.words.now
