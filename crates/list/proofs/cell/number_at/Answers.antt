-- The cell at byte 4 * i is number i.
use mathlib.Core.Path.{sym, ◌∙◌}
use Rattle.list.proofs.CellLaws.{numbers_in-at}
use Rattle.list.proofs.cell.number_at.Goals as goal

pub returns : goal.returns
returns c =
    let a = c.args in
    c.cell_at.ensures ∙ sym (numbers_in-at a.region.now a.i c.requires)
