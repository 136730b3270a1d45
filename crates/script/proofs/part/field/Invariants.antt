-- The field is one of what is left of the line, as many fields on as are left to pass.
use mathlib.Core.Path.{◌≡◌}
use Prim.Native.Nat.{◌-◌}
use Rattle.script.specs.Part.{field_of}
use Rattle.script.proofs.part.field.Given as goal

abbrev pub invariant-loop : goal.invariant-loop
invariant-loop l = field_of l.k l.line ≡ field_of (l.k - l.counter) l.rest
