-- Five cells, one behind the other (WriteLaws).
use mathlib.Core.Path.{sym}
use Rattle.layout.proofs.WriteLaws.{five-cells}
use Rattle.layout.proofs.cells.put_five.Goals as goal

pub returns : goal.returns
returns c =
    let start = c.args in
    rw (c.put_cell-5.ensures, c.put_cell-4.ensures, c.put_cell-3.ensures, c.put_cell-2.ensures, c.put_cell.ensures)
    (sym (five-cells start.out.now start.at start.a start.b start.c start.d start.e))
