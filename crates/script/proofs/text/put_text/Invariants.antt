-- The invariant: what is left of the text is left to be put.
use Prim.Native.Nat.{◌-◌, ◌≤◌}
use lib.ListN.{length, drop}
use Rattle.script.specs.Text.{text_of}
use Rattle.script.proofs.ReadsLaws.{Left}
use Rattle.script.proofs.text.put_text.Given as goal

abbrev pub invariant-loop-i : goal.invariant-loop-i
invariant-loop-i l = (l.i ≤ length l.s) × Left (text_of l.s) l.initial.out l.from (text_of (drop l.i l.s)) l.out l.at

abbrev pub decreases-loop-i : goal.decreases-loop-i
decreases-loop-i l = length l.s - l.i
