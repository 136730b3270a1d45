-- Test by test, in the definition's order.
use mathlib.Core.Path.{sym, ap, ◌∙◌}
use mathlib.Core.Bool.{not}
use native.Mathlib.Omega.{arith}
use Rattle.word.proofs.WordLaws.{word-short, word-long, word-bytes-fail, word_else}
use Rattle.word.proofs.is_word.Goals as goal

pub returns-then-s-lt1 : goal.returns-then-s-lt1
returns-then-s-lt1 c =
    let a = c.args in sym (word-short a.every a.s.now c.if-s-lt1.true)

pub returns-then-s-gt-WORD_MAX : goal.returns-then-s-gt-WORD_MAX
returns-then-s-gt-WORD_MAX c =
    let a = c.args in sym (word-long a.every a.s.now c.if-s-gt-WORD_MAX.true)

pub returns-then-not-word_bytes : goal.returns-then-not-word_bytes
returns-then-not-word_bytes c =
    let a = c.args in
    sym (word-bytes-fail a.every a.s.now (omega arith) (omega arith) (sym c.word_bytes.ensures ∙ c.if-not-word_bytes.true))

pub returns : goal.returns
returns c =
    let a = c.args in
    ap not c.is_barred.ensures
    ∙ sym (word_else a.every a.s.now (omega arith) (omega arith) (sym c.word_bytes.ensures ∙ c.if-not-word_bytes.false))
