-- A sound index has a trailer.
use Rattle.index.proofs.SoundLaws.{sound-length}
use Rattle.query.proofs.ask.highest_of.Goals as goal

pub read_trailer-n-requires : goal.read_trailer-n-requires
read_trailer-n-requires c = (sound-length c.args.over.main.now c.requires.main).0

pub read_trailer-requires : goal.read_trailer-requires
read_trailer-requires c = (sound-length c.args.over.arrivals.now c.requires.arrivals).0
