-- Every line has room, and says what the question is answered.
use Rattle.std.proofs.Common.{arith}
use Rattle.ask.proofs.OutputLaws.{line-room, question-line}
use Rattle.ask.proofs.answer.write_answer.Goals as goal

pub write_line-requires-clause-room : goal.write_line-requires-clause-room
write_line-requires-clause-room c =
    omega (arith, line-room c.args.index.now c.args.question.now c.answer_line-answer.ensures c.args.number (omega arith))

pub returns-clause-puts : goal.returns-clause-puts
returns-clause-puts c =
    let line = question-line c.args.index.now c.args.question.now c.answer_line-answer.ensures c.args.number c.requires.lends in
    rw line at c.write_line.ensures
