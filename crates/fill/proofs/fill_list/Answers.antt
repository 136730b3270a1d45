-- The two sides name together what the walk names, and each is added.
use mathlib.Core.Bool.{◌||◌}
use mathlib.Core.List.{[]}
use Rattle.limits.specs.Limits.{record_max}
use Rattle.list.specs.Cell.{numbers_in}
use Rattle.list.specs.Among.{among}
use Rattle.list.specs.Interval.{names}
use Rattle.list.specs.Kept.{walked}
use Rattle.list.proofs.KeptLaws.{kept-facts}
use Rattle.fill.proofs.AddedLaws.{added-agree, added-both}
use Rattle.fill.proofs.FillingLaws.{kept-apart, walked_both}
use Rattle.fill.proofs.fill_list.Goals as goal

pub fill_singles-p-requires-clause-ascends : goal.fill_singles-p-requires-clause-ascends
fill_singles-p-requires-clause-ascends c =
    let a = c.args in
    (kept-facts record_max (numbers_in a.kept.singles.now) (numbers_in a.kept.lower.now) (numbers_in a.kept.upper.now) c.requires.kept).singles-ascend

pub fill_pairs-q-requires-clause-apart : goal.fill_pairs-q-requires-clause-apart
fill_pairs-q-requires-clause-apart c =
    let a = c.args in
    kept-apart record_max (numbers_in a.kept.singles.now) (numbers_in a.kept.lower.now) (numbers_in a.kept.upper.now) c.requires.kept

pub returns : goal.returns
returns c =
    let a = c.args in
    let S = numbers_in a.kept.singles.now in
    let L = numbers_in a.kept.lower.now in
    let U = numbers_in a.kept.upper.now in
    added-agree (λ x. among S x || names (walked [] L U) x) (names (walked S L U)) a.base a.ws.now _
    (walked_both S L U (kept-apart record_max S L U c.requires.kept))
    (added-both c.fill_singles-p.ensures c.fill_pairs-q.ensures)
