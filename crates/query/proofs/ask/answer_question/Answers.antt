-- One index, lent as both, of which the first half is asked.
use native.Mathlib.Omega.{arith}
use Rattle.source.specs.Source.{of_index}
use Rattle.query.proofs.AskLaws.{alone-halves}
use Rattle.query.proofs.ask.answer_question.Goals as goal

pub answer_halves-requires : goal.answer_halves-requires
answer_halves-requires c =
    let sound = c.requires in record { halves = record { main-sound = sound; arrivals-sound = sound; some = omega arith; both = omega arith } }

pub returns : goal.returns
returns c =
    let index = c.args.index.now in
    c.answer_halves.ensures (of_index index) (alone-halves index)
