-- A list has as many intervals as its two walked regions have numbers.
use native.Mathlib.Omega.{arith}
use Rattle.directory.proofs.EntryLaws.{entry-walked, entry-few}
use Rattle.merge.proofs.places.used_up.Goals as goal

pub overflow_add-result : goal.overflow_add-result
overflow_add-result c =
    let pre = c.requires in
    omega (arith, pre.place, entry-walked pre.entry, entry-few pre.entry)

pub returns : goal.returns
returns c = rw (c.interval_count.ensures.is, entry-walked c.requires.entry)
