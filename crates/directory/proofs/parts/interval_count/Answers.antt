-- A list has an interval for each single and for each pair.
use native.Mathlib.Omega.{arith}
use Rattle.directory.proofs.EntryLaws.{entry-counted, entry-few}
use Rattle.directory.proofs.parts.interval_count.Goals as goal

pub returns-clause-is : goal.returns-clause-is
returns-clause-is c =
    let pre = c.requires in
    let is = c.sound_entry-entry.ensures.is in
    let n = entry-counted pre in
    let f = entry-few pre in
    omega arith

pub returns-clause-few : goal.returns-clause-few
returns-clause-few c =
    let pre = c.requires in
    let is = c.sound_entry-entry.ensures.is in
    let n = entry-counted pre in
    let f = entry-few pre in
    omega arith
