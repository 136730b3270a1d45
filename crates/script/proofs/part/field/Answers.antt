use mathlib.Core.Path.{◌≡◌, sym, ◌∙◌}
use Prim.Native.Nat.{◌+◌, ◌-◌}
use native.Mathlib.Omega.{arith}
use Rattle.script.proofs.PartLaws.{field-first, field_next}
use Rattle.script.proofs.part.field.Goals as goal

pub loop-preserved : goal.loop-preserved
loop-preserved c =
    let l = c.loop in
    let e : c.args.k - (l.counter + 1) ≡ c.args.k - l.counter - 1 = omega arith in
    rw (c.behind-rest.ensures, e) (l.invariant ∙ field_next (c.args.k - l.counter) l.rest.now (omega arith))

pub returns : goal.returns
returns c = c.front.ensures ∙ sym (c.loop.invariant ∙ field-first (c.args.k - c.loop.counter) c.loop.rest.now (omega arith))
