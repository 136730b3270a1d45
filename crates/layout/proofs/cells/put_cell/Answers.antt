-- The cell's bytes, copied into their part (WriteLaws).
use mathlib.Core.Path.{ap, ◌∙◌}
use native.Mathlib.Omega.{arith}
use Rattle.layout.specs.Layout.{cell_bytes}
use Rattle.layout.proofs.WriteLaws.{part-sets}
use Rattle.layout.proofs.cells.put_cell.Goals as goal

pub returns : goal.returns
returns c =
    part-sets c.args.at _ c.args.out.now (cell_bytes c.args.x) (omega arith) c.requires (c.copy_from_slice.ensures.after ∙ c.to_le_bytes.ensures ∙ ap cell_bytes (omega arith))
