-- The trailer of a sound index bounds its count.
use Rattle.index.proofs.SoundLaws.{sound-length, sound-trailer}
use Rattle.index.proofs.trailer.word_count.Goals as goal

pub returns-clause-few : goal.returns-clause-few
returns-clause-few c =
    let index = c.args.index.now in
    let n = c.read_trailer-trailer.ensures.count in
    rw n (sound-trailer index c.requires).count-bound

pub read_trailer-trailer-requires : goal.read_trailer-trailer-requires
read_trailer-trailer-requires c = (sound-length c.args.index.now c.requires).0
