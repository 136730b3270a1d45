-- The line by the answer's case: its texts one behind the other, and byte 10.
use mathlib.Core.Path.{◌≡◌, ap}
use mathlib.Core.List.{List, [], ◌∷◌, ◌++◌}
use Prim.Native.Nat.{ℕ}
use native.Mathlib.Omega.{arith}
use lib.ListN.{length}
use Rattle.lines.specs.Line.{head_text, tally_text, line_of}
use Rattle.lines.proofs.TextLaws.{listed-line, refused-line}
use Rattle.lines.proofs.PutLaws.{puts_then, puts-byte, puts-written}
use Rattle.lines.proofs.line.write_line.Goals as goal
use Rattle.lines.proofs.line.write_line.Goals.{After-put_tally-end, After-value_of, Start}

abbrev line : Start → List ℕ
line s = let a = s.args in line_of a.number a.answer a.cells.now

-- ---- a list is answered

pub returns-in-Ok : goal.returns-in-Ok
returns-in-Ok c =
    let a = c.args in
    let head = head_text a.number 0 0 in
    let fields = tally_text c.in-Ok.tally a.cells.now in
    let listed = listed-line a.number a.answer a.cells.now c.in-Ok.tally c.in-Ok.is in
    let put = puts_then (puts_then c.put_head-behind_head.ensures c.put_tally-end.ensures) (puts-byte _ c.put_tally-end.result 10) in
    rw listed (puts-written (head ++ fields ++ (10 ∷ [])) put (omega (arith, ap length listed, c.requires.room)))

-- ---- the question is refused

abbrev refused : After-value_of → List ℕ
refused v = head_text v.args.number v.number_of.result v.value_of.result

refusal : (v : After-value_of) → line (goal.at.After-value_of v).Start ≡ refused v ++ (10 ∷ [])
refusal v =
    let a = v.args in
    let r = v.in-Err in
    refused-line a.number a.answer a.cells.now r.refusal v.number_of.result v.value_of.result r.is v.number_of.ensures v.value_of.ensures

pub returns-in-Err : goal.returns-in-Err
returns-in-Err c =
    let v = (goal.at.returns-in-Err c).After-value_of in
    let put = puts_then c.put_head-end.ensures (puts-byte _ c.put_head-end.result 10) in
    rw (refusal v) (puts-written (refused v ++ (10 ∷ [])) put (omega (arith, ap length (refusal v), c.requires.room)))
