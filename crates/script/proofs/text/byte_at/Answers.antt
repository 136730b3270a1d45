-- A pair behind a `\` where there is one, and a byte that is itself elsewhere.
use mathlib.Core.Path.{◌≡◌, sym, ◌∙◌}
use mathlib.Core.Bool.{false}
use mathlib.Core.Logic.{◌⊎◌, inl, inr}
use Prim.Native.Nat.{◌-◌, ◌≤◌}
use lib.Dec.{eqb}
use native.Mathlib.Omega.{arith}
use borrow.Author.Tests.{eq-eqb, ne_eqb}
use lib.ListN.{length, get_or}
use Rattle.script.proofs.TextLaws.{text-one, text-pair}
use Rattle.script.proofs.text.byte_at.Goals as goal
use Rattle.script.proofs.text.byte_at.Goals.{then-s-i-gt2+else-s-i-eq92, else-s-i-gt2}

pub returns-then-s-i-eq92 : goal.returns-then-s-i-eq92
returns-then-s-i-eq92 c =
    let s = c.args.s.now in
    let i = c.args.i in
    let slash = eq-eqb (get_or s i 0) 92 c.if-s-i-eq92.true in
    record {
      text = text-pair s i (omega arith) slash ∙ sym (rw (c.nibble_of.ensures.value, c.nibble_of-then-s-i-eq92.ensures.value));
      further = omega arith;
      within = omega arith;
    }

pub returns : goal.returns
returns c =
    let s = c.args.s.now in
    let i = c.args.i in
    let alone : (length s - i ≤ 2) ⊎ (eqb (get_or s i 0) 92 ≡ false) =
    elim c.if-s-i-gt2.branch [ then-s-i-gt2+else-s-i-eq92 w ↦ inr (ne_eqb (get_or s i 0) 92 w.if-s-i-eq92.false) | else-s-i-gt2 w ↦ inl (omega arith) ] in
    record { text = text-one s i (omega arith) alone ∙ sym (rw c.plain_byte.ensures); further = omega arith; within = omega arith }
