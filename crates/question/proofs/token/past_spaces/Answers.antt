use mathlib.Core.Path.{ap}
use mathlib.Core.Bool.{not}
use Prim.Native.Nat.{◌+◌}
use lib.Dec.{eqb}
use Rattle.std.proofs.Common.{rules, tests}
use Rattle.std.proofs.lemmas.List.{take_rest}
use Rattle.std.proofs.lemmas.Iterator.{YieldsList-from_slice}
use Rattle.std.proofs.lemmas.Iterator.Search.{position_from_yields_List}
use Rattle.question.proofs.RunLaws.{spaces-found}
use Rattle.question.proofs.token.past_spaces.Goals as goal

pub returns-clause-ends : goal.returns-clause-ends
returns-clause-ends c =
    let found = position_from_yields_List (λ b. not (eqb b 32)) _ _ c.position.result c.position.ensures.ran (YieldsList-from_slice _ c.iter.ensures.rest) (λ x b q k. search (rules, tests)) in
    ap (λ n. c.args.at + n) (spaces-found c.args.s.now c.args.at found c.unwrap_or.ensures (take_rest c.args.s.now c.args.at))
