use native.Mathlib.Omega.{arith}
use Rattle.std.proofs.Common.{rules}
use Rattle.question.proofs.ReaderLaws as laws
use Rattle.question.proofs.reader.+links_operand_question.Goals as goal

pub links-operand-requires : goal.links-operand-requires
links-operand-requires t c =
    let w = laws.token-lies c.next_token.ensures c.in-Op.is in
    omega arith

pub links-links-requires : goal.links-links-requires
links-links-requires t c =
    let w = laws.token-lies c.next_token.ensures c.in-Op.is in
    let a = laws.operand-ahead c.operand.ensures c.in_ok-next-in-Op.was in
    omega arith

pub links-returns-in_ok-next-in-Op : goal.links-returns-in_ok-next-in-Op
links-returns-in_ok-next-in-Op t c = laws.links-on c.next_token.ensures c.in-Op.is c.operand.ensures c.in_ok-next-in-Op.was c.links.ensures

pub links-returns-in_err-next-in-Op : goal.links-returns-in_err-next-in-Op
links-returns-in_err-next-in-Op t c = laws.links-bad c.next_token.ensures c.in-Op.is c.operand.ensures c.in_err-next-in-Op.was (search rules)

pub links-returns-in_default : goal.links-returns-in_default
links-returns-in_default t c = laws.links-none c.next_token.ensures (omega arith) (omega arith) c.in_default.not-Op

pub operand-returns-then-room-eq0 : goal.operand-returns-then-room-eq0
operand-returns-then-room-eq0 t c = laws.operand-deep c.next_token-token.ensures c.in-Open.is c.if-room-eq0.true

pub operand-question-requires : goal.operand-question-requires
operand-question-requires t c =
    let w = laws.token-lies c.next_token-token.ensures c.in-Open.is in
    omega arith

pub operand-returns-then-words-lt-QUESTION_WORDS_MAX :
    goal.operand-returns-then-words-lt-QUESTION_WORDS_MAX
operand-returns-then-words-lt-QUESTION_WORDS_MAX t c = laws.operand-word c.next_token-token.ensures c.in-Word.is c.if-words-lt-QUESTION_WORDS_MAX.true

pub operand-returns-else-words-lt-QUESTION_WORDS_MAX :
    goal.operand-returns-else-words-lt-QUESTION_WORDS_MAX
operand-returns-else-words-lt-QUESTION_WORDS_MAX t c = laws.operand-many c.next_token-token.ensures c.in-Word.is c.if-words-lt-QUESTION_WORDS_MAX.false

pub operand-returns-in-Close : goal.operand-returns-in-Close
operand-returns-in-Close t c = laws.operand-part c.next_token-token.ensures c.in-Open.is c.if-room-eq0.false c.question.ensures c.in_ok-part-in-Open.was c.next_token-close.ensures c.in-Close.is

pub operand-returns-in_default-close : goal.operand-returns-in_default-close
operand-returns-in_default-close t c = laws.operand-unclosed c.next_token-token.ensures c.in-Open.is c.if-room-eq0.false c.question.ensures c.in_ok-part-in-Open.was c.next_token-close.ensures c.in_default-close.not-Close c.token_start.ensures

pub operand-returns-in_err-part-in-Open : goal.operand-returns-in_err-part-in-Open
operand-returns-in_err-part-in-Open t c = laws.operand-bad c.next_token-token.ensures c.in-Open.is c.if-room-eq0.false c.question.ensures c.in_err-part-in-Open.was (search rules)

pub operand-returns-in_default : goal.operand-returns-in_default
operand-returns-in_default t c = laws.operand-none c.next_token-token.ensures c.in_default.not-Word c.in_default.not-Open c.token_start-in_default.ensures

pub question-operand-requires : goal.question-operand-requires
question-operand-requires t c = omega arith

pub question-links-requires : goal.question-links-requires
question-links-requires t c =
    let a = laws.operand-ahead c.operand.ensures c.in_ok-first.was in
    omega arith

pub question-returns : goal.question-returns
question-returns t c = laws.question-on c.operand.ensures c.in_ok-first.was c.links.ensures

pub question-returns-in_err-first : goal.question-returns-in_err-first
question-returns-in_err-first t c = laws.question-bad c.operand.ensures c.in_err-first.was (search rules)
