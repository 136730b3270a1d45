-- By what the question's reader answers, and by the token behind it.
use native.Mathlib.Omega.{arith}
use Rattle.std.proofs.Common.{rules}
use Rattle.question.proofs.ReaderLaws as laws
use Rattle.question.proofs.reader.read_whole.Goals as goal

pub next_token-rest-requires : goal.next_token-rest-requires
next_token-rest-requires c =
    let a = laws.question-ahead c.question.ensures c.in_ok-read.was in
    omega arith

pub returns-in-End : goal.returns-in-End
returns-in-End c = laws.whole-ended c.question.ensures c.in_ok-read.was
    c.next_token-rest.ensures c.in-End.is

pub returns-in_default : goal.returns-in_default
returns-in_default c = laws.whole-more c.question.ensures c.in_ok-read.was
    c.next_token-rest.ensures c.in_default.not-End c.token_start.ensures

pub returns-in_err-read : goal.returns-in_err-read
returns-in_err-read c = laws.whole-bad c.question.ensures c.in_err-read.was (search rules)
