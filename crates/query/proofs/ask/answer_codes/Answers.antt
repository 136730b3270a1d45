-- By the second rule what the grouped codes are prepared for is what the question is; by the first the codes are prepared as they are.
use Rattle.query.proofs.AskLaws.{ready-second, ready-else, plain-prepared, regrouped, grouped-asked, grouped-prepared, grouped-listing}
use Rattle.query.proofs.ask.answer_codes.Goals as goal

pub put_answer-requires-clause-asked : goal.put_answer-requires-clause-asked
put_answer-requires-clause-asked c =
    let asked = c.requires.asked in
    let is = c.requires.ready in
    let ready = ready-second is.ready c.if-rule-eq-AND_FIRST.true in
    let groups = c.group_codes-count.ensures in
    grouped-asked ready groups asked

pub put_answer-requires-clause-prepared : goal.put_answer-requires-clause-prepared
put_answer-requires-clause-prepared c =
    let asked = c.requires.asked in
    let is = c.requires.ready in
    let ready = ready-second is.ready c.if-rule-eq-AND_FIRST.true in
    let groups = c.group_codes-count.ensures in
    record { source = is.source; last = is.last; tree = (regrouped ready groups).tree; prepared = grouped-prepared asked.lent is.last ready groups }

pub returns-then-rule-eq-AND_FIRST : goal.returns-then-rule-eq-AND_FIRST
returns-then-rule-eq-AND_FIRST c s last t made =
    let ready = ready-second made c.if-rule-eq-AND_FIRST.true in
    let groups = c.group_codes-count.ensures in
    grouped-listing ready groups
    (c.put_answer.ensures s last (regrouped ready groups).tree
    (grouped-prepared c.requires.asked.lent last ready groups))

pub put_answer-requires-2-clause-asked : goal.put_answer-requires-2-clause-asked
put_answer-requires-2-clause-asked c =
    let given = c.requires in
    given.asked

pub put_answer-requires-2-clause-prepared : goal.put_answer-requires-2-clause-prepared
put_answer-requires-2-clause-prepared c =
    let given = c.requires in
    let is = given.ready in
    record {
      source = is.source;
      last = is.last;
      tree = is.tree;
      prepared = plain-prepared given.asked.lent is.last (ready-else is.ready c.if-rule-eq-AND_FIRST.false);
    }

pub returns : goal.returns
returns c s last t made = c.put_answer-2.ensures s last t
    (plain-prepared c.requires.asked.lent last (ready-else made c.if-rule-eq-AND_FIRST.false))
