-- The regions and the trailer are the index (GoodLaws).
use Rattle.build.proofs.GoodLaws.{good-within, good-written}
use Rattle.build.proofs.build.Lent.write_index.Goals as goal

pub write_words-requires-clause-within : goal.write_words-requires-clause-within
write_words-requires-clause-within c =
    let pre = c.requires in
    let good = pre.good in
    good-within good pre.counted pre.small pre.room

pub returns : goal.returns
returns c =
    let pre = c.requires in
    let wrote = c.write_words.ensures in
    good-written pre.good pre.counted c.args.out.now pre.room wrote c.put_five.ensures
