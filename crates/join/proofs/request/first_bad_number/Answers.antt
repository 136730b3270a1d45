-- Where the library finds a bad number is the first place of one.
use Rattle.std.proofs.Common.{rules}
use Rattle.join.proofs.RequestLaws.{first-found}
use Rattle.join.proofs.request.first_bad_number.Goals as goal

pub returns : goal.returns
returns c =
    first-found c.args.index.now c.args.entries.now c.position.result
    (let n = c.word_count-count.ensures.is in search rules)
