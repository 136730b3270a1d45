-- The range is tested first, and then its bounds are those that a probe wants; the list is the entry's.
use mathlib.Core.Path.{sym, ◌∙◌}
use Rattle.list.specs.Ginix.{below_count, overlap_count}
use Rattle.index.specs.Format.{list_of}
use Rattle.directory.proofs.AnswerLaws.{range-good, range-counted}
use Rattle.directory.proofs.EntryLaws.{kept-list}
use Rattle.directory.proofs.probe.probe_sound.Goals as goal

pub probe-requires-clause-ordered : goal.probe-requires-clause-ordered
probe-requires-clause-ordered c = (range-good c.args.a c.args.b (sym c.bad_range.ensures ∙ c.if-bad_range.false)).0

pub probe-requires-clause-within : goal.probe-requires-clause-within
probe-requires-clause-within c = (range-good c.args.a c.args.b (sym c.bad_range.ensures ∙ c.if-bad_range.false)).1

pub returns : goal.returns
returns c =
    let a = c.args in
    let l = list_of a.index.now a.i in
    let same = kept-list c.kept_of.ensures in
    range-counted a.a a.b (below_count a.a l) (overlap_count a.a a.b l) c.probe.result
    (sym c.bad_range.ensures ∙ c.if-bad_range.false) (rw same at c.probe.ensures.below) (rw same at c.probe.ensures.overlapping)
