-- Where the library finds a foreign byte is the first place of one.
use mathlib.Core.Path.{◌∙◌}
use Rattle.std.proofs.Common.{rules, tests}
use Rattle.std.proofs.lemmas.Iterator.{YieldsList-from_slice}
use Rattle.std.proofs.lemmas.Iterator.Search.{position_from_yields_List}
use Rattle.question.specs.Reading.{is_foreign}
use Rattle.question.proofs.FaultLaws.{position-first}
use Rattle.question.proofs.faults.first_foreign.Goals as goal

pub returns : goal.returns
returns c =
    position_from_yields_List is_foreign _ _ c.position.result c.position.ensures.ran (YieldsList-from_slice _ c.iter.ensures.rest) (λ x b q k. search (rules, tests))
    ∙ position-first is_foreign c.args.s.now
