-- The invariant: what is to be stored from byte 0 is what is left to store from byte i.
use mathlib.Core.Path.{◌≡◌}
use lib.ListN.{length, drop}
use lib.Seq.{sets}
use Rattle.layout.proofs.entry.write_bytes.Given as goal

abbrev pub invariant-loop-i : goal.invariant-loop-i
invariant-loop-i l = (length l.out ≡ length l.initial.out) × (sets l.initial.out 0 l.bytes ≡ sets l.out l.i (drop l.i l.bytes))
