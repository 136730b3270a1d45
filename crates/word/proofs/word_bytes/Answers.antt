-- One byte more, and none left.
use Rattle.std.proofs.Common.{◌+◌, sym, ap, ◌∙◌, Bool, ◌&&◌, drop}
use Rattle.word.specs.Word.{all_word_bytes}
use Rattle.word.proofs.WordLaws.{bytes-at, bytes-end}
use Rattle.word.proofs.word_bytes.Goals as goal

pub loop-b-preserved : goal.loop-b-preserved
loop-b-preserved c =
    let s = c.args.s.now in
    let at = c.loop-b in
    at.invariant ∙ bytes-at s at.all at.b-index c.loop-b-test.true
    ∙ ap (λ (t : Bool). at.all && t && all_word_bytes (drop (at.b-index + 1) s)) (sym c.word_byte-all.ensures)

pub returns : goal.returns
returns c = sym (c.loop-b.invariant ∙ bytes-end c.args.s.now c.loop-b.all c.loop-b.b-index c.loop-b-test.false)
