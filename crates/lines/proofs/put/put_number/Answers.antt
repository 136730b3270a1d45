-- What `io::decimal` spells is the numeral.
use mathlib.Core.Path.{ap, ◌∙◌}
use native.Mathlib.Omega.{arith}
use lib.ListN.{length}
use Rattle.lines.proofs.TextLaws.{digits_are}
use Rattle.lines.proofs.put.put_number.Goals as goal

pub put_bytes-requires : goal.put_bytes-requires
put_bytes-requires c =
    let dec = c.decimal-count in
    let e = dec.ensures.digits ∙ digits_are dec.result c.args.n (omega arith) dec.ensures.len in
    omega (arith, ap length e)

pub returns : goal.returns
returns c =
    let dec = c.decimal-count in
    let e = dec.ensures.digits ∙ digits_are dec.result c.args.n (omega arith) dec.ensures.len in
    rw e at c.put_bytes.ensures
