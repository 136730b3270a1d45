-- One word is stored; `fill-bit` says what that sets.
use mathlib.Core.Path.{refl}
use native.Mathlib.Omega.{arith}
use Rattle.window.proofs.FillLaws.{fill-bit}
use Rattle.window.proofs.fill.set_bit.Goals as goal

pub returns : goal.returns
returns c = fill-bit c.args.ws.now c.args.a _ (omega arith) refl
