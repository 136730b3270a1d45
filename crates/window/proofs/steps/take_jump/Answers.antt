-- A jump is a step: its cell is put, and its records are all of them or none.
use mathlib.Core.Path.{sym}
use native.Mathlib.Nat.{add-zero}
use Rattle.window.proofs.StepLaws.{stepped-jump}
use Rattle.window.proofs.steps.take_jump.Goals as goal

pub returns-then-inside : goal.returns-then-inside
returns-then-inside c p constant = stepped-jump c.requires.begun c.requires.ahead constant c.put_turn-cells.ensures (rw c.if-inside.true)

pub returns : goal.returns
returns c p constant = stepped-jump c.requires.begun c.requires.ahead constant c.put_turn-cells.ensures
    (rw c.if-inside.false (sym (add-zero c.args.records)))
