use mathlib.Core.Path.{refl, sym, ◌∙◌}
use Prim.Native.Nat.{◌<◌}
use native.Mathlib.Omega.{arith}
use lib.ListN.{length}
use lib.Seq.{length-sets}
use Rattle.build.specs.Lent.{lent_words}
use Rattle.build.proofs.EnterLaws.{enter-start, enter-end, enter-within, enter-on, enter-left}
use Rattle.build.proofs.write.write_words.Goals as goal
use Rattle.build.proofs.write.write_words.Goals.{After-part_end-end}

pub loop-i-init : goal.loop-i-init
unfolding lent_words
loop-i-init c = (refl, enter-start c.requires.as_many c.requires.within, refl)

-- ---- the word of the turn

pub write_word-at-requires-clause-within : goal.write_word-at-requires-clause-within
write_word-at-requires-clause-within c =
    let at = c.loop-i in
    let end = c.part_end-end.ensures in
    let some : at.i < length c.args.counts.now = omega arith in
    rw at.invariant.0 (enter-within at.invariant.1 end.place end.within refl some)

-- behind the word
pub loop-i-preserved : goal.loop-i-preserved
loop-i-preserved c =
    let at = c.loop-i in
    let end = c.part_end-end.ensures in
    let some : at.i < length c.args.counts.now = omega arith in
    let wrote = c.write_word-at.ensures in (
      rw wrote.enters (simp length-sets at.invariant.0),
      rw wrote.moves (enter-on at.invariant.1 end.place end.within refl some),
      rw (wrote.enters, wrote.moves) (at.invariant.2 ∙ enter-left at.invariant.1 end.place end.within refl some at.out),
    )

pub returns : goal.returns
returns c =
    let at = c.loop-i in sym (at.invariant.2 ∙ enter-end at.invariant.1 (omega arith) at.out)
