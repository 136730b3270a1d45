-- Where the bound fits one pass writes; else a pass counts, and leaves the cells and the slots as they were for the one that writes.
use mathlib.Core.Path.{◌≡◌, sym, ◌∙◌}
use mathlib.Core.List.{map-id}
use native.Mathlib.Omega.{arith}
use Rattle.laws.proofs.Tests.{true-false}
use Rattle.list.proofs.ListingLaws.{listed, counted-refused, counted-room, counted-listed}
use Rattle.source.proofs.SatisfyLaws.{satisfying-even}
use Rattle.slots.proofs.RowLaws.{stay-having, read_again}
use Rattle.query.specs.Prepared.{last_of}
use Rattle.query.proofs.AskLaws.{having-ends, prepared-swept, prepared-length, themselves}
use Rattle.query.proofs.ask.put_answer.Goals as goal
use Rattle.query.proofs.ask.put_answer.Goals.{After-highest_of-n}

limit : (c : After-highest_of-n) → last_of c.args.over.main.now c.args.over.arrivals.now ≡ c.highest_of-n.result
limit c = sym c.highest_of-n.ensures

pub sweep_question-requires-clause-asked : goal.sweep_question-requires-clause-asked
sweep_question-requires-clause-asked c = rw (map-id c.args.codes.now) c.requires.asked

pub sweep_question-requires-clause-ends : goal.sweep_question-requires-clause-ends
sweep_question-requires-clause-ends c = having-ends c.requires.asked.lent (limit (goal.at.sweep_question-requires-clause-ends c).After-highest_of-n)

pub sweep_question-requires-clause-room : goal.sweep_question-requires-clause-room
sweep_question-requires-clause-room c =
    let is = c.requires.prepared in
    let even = satisfying-even is.source is.tree in
    let sum = c.slots_sum.ensures in
    let enough = c.if-slots_sum-room.true in
    let bound = is.prepared.bound in
    record { tree = is.tree; reads = themselves is.prepared.reads; room = λ w. omega (arith, prepared-length (is.last ∙ limit (goal.at.sweep_question-requires-clause-room c).After-highest_of-n) is.prepared) }

pub returns-then-slots_sum-room : goal.returns-then-slots_sum-room
returns-then-slots_sum-room c s last t prepared = listed (omega (arith, prepared.bound, c.slots_sum.ensures, c.if-slots_sum-room.true))
    (prepared-swept (last ∙ limit (goal.at.returns-then-slots_sum-room c).After-highest_of-n) prepared (c.sweep_question.ensures.tallies t (themselves prepared.reads)))

pub sweep_question-needed-requires-clause-asked : goal.sweep_question-needed-requires-clause-asked
sweep_question-needed-requires-clause-asked c = rw (map-id c.args.codes.now) c.requires.asked

pub sweep_question-needed-requires-clause-ends : goal.sweep_question-needed-requires-clause-ends
sweep_question-needed-requires-clause-ends c = having-ends c.requires.asked.lent (limit (goal.at.sweep_question-needed-requires-clause-ends c).After-highest_of-n)

pub sweep_question-needed-requires-clause-room : goal.sweep_question-needed-requires-clause-room
sweep_question-needed-requires-clause-room c =
    let is = c.requires.prepared in
    record { tree = is.tree; reads = themselves is.prepared.reads; room = λ w. true-false (sym w) }

pub returns-then-room-needed : goal.returns-then-room-needed
returns-then-room-needed c s last t prepared = counted-refused (prepared-swept (last ∙ limit (goal.at.returns-then-room-needed c).After-highest_of-n) prepared (c.sweep_question-needed.ensures.tallies t (themselves prepared.reads))) c.if-room-needed.true

pub sweep_question-requires-2-clause-asked : goal.sweep_question-requires-2-clause-asked
sweep_question-requires-2-clause-asked c =
    let by = c.requires.asked in
    let stays = c.sweep_question-needed.ensures.slots in
    rw (map-id c.args.codes.now) (record { lent = read_again by.lent stays; few = by.few; all = by.all })

pub sweep_question-requires-2-clause-ends : goal.sweep_question-requires-2-clause-ends
sweep_question-requires-2-clause-ends c =
    let by = c.requires.asked in
    let stays = c.sweep_question-needed.ensures.slots in
    having-ends (read_again by.lent stays) (limit (goal.at.sweep_question-requires-2-clause-ends c).After-highest_of-n)

pub sweep_question-requires-2-clause-room : goal.sweep_question-requires-2-clause-room
sweep_question-requires-2-clause-room c =
    let a = c.args in
    let by = c.requires.asked in
    let is = c.requires.prepared in
    let last = is.last ∙ limit (goal.at.sweep_question-requires-2-clause-room c).After-highest_of-n in
    let stays = c.sweep_question-needed.ensures.slots in
    let same = stay-having a.over.main.now a.over.arrivals.now stays in
    let tallied = prepared-swept last is.prepared (c.sweep_question-needed.ensures.tallies is.tree (themselves is.prepared.reads)) in
    let fits = counted-room tallied (satisfying-even is.source is.tree) c.if-room-needed.false in
    rw same (record { tree = is.tree; reads = themselves is.prepared.reads; room = λ w. omega (arith, prepared-length last is.prepared, fits) })

pub returns : goal.returns
returns c s last t prepared =
    let a = c.args in
    let same = stay-having a.over.main.now a.over.arrivals.now c.sweep_question-needed.ensures.slots in
    let e = last ∙ limit (goal.at.returns c).After-highest_of-n in
    counted-listed (prepared-swept e prepared (c.sweep_question-needed.ensures.tallies t (themselves prepared.reads)))
    c.if-room-needed.false
    (prepared-swept e prepared (rw same at c.sweep_question-2.ensures.tallies t (themselves prepared.reads)))
