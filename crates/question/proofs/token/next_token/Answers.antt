-- By the first byte that is no space.
use mathlib.Core.Path.{sym, ◌∙◌}
use borrow.Author.Tests.{eq-eqb, ne_eqb}
use Rattle.question.proofs.TokenLaws.{next-end, next-run, next-open, next-close, next-other}
use Rattle.question.proofs.token.next_token.Goals as goal

pub returns-then-s-start : goal.returns-then-s-start
returns-then-s-start c =
    let skip = c.past_spaces-start in next-end skip.ensures.ends c.if-s-start.true skip.ensures.inside

pub returns-then-word_byte : goal.returns-then-word_byte
returns-then-word_byte c =
    let byte = sym c.word_byte.ensures ∙ c.if-word_byte.true in
    next-run c.past_spaces-start.ensures.ends c.if-s-start.false byte
    c.run_end-end.ensures.ends c.run_token.ensures

pub returns-then-b-eq40 : goal.returns-then-b-eq40
returns-then-b-eq40 c =
    let byte = sym c.word_byte.ensures ∙ c.if-word_byte.false in
    next-open c.past_spaces-start.ensures.ends c.if-s-start.false byte
    (eq-eqb _ _ c.if-b-eq40.true)

pub returns-then-b-eq41 : goal.returns-then-b-eq41
returns-then-b-eq41 c =
    let byte = sym c.word_byte.ensures ∙ c.if-word_byte.false in
    next-close c.past_spaces-start.ensures.ends c.if-s-start.false byte
    (ne_eqb _ _ c.if-b-eq40.false) (eq-eqb _ _ c.if-b-eq41.true)

pub returns : goal.returns
returns c =
    let byte = sym c.word_byte.ensures ∙ c.if-word_byte.false in
    next-other c.past_spaces-start.ensures.ends c.if-s-start.false byte
    (ne_eqb _ _ c.if-b-eq40.false) (ne_eqb _ _ c.if-b-eq41.false)
