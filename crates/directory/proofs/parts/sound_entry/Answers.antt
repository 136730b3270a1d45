-- The index is sound: so the trailer frames the directory, and the entry's word and list stand within the index.
use Rattle.index.proofs.SoundLaws.{sound-length, sound-word-room, sound-list-room}
use Rattle.index.proofs.FrameLaws.{framed}
use Rattle.directory.proofs.parts.sound_entry.Goals as goal

pub read_entry-requires-clause-framed : goal.read_entry-requires-clause-framed
read_entry-requires-clause-framed c =
    let index = c.args.index.now in
    let e = c.requires in
    let is = c.read_trailer-trailer.ensures in
    framed index c.read_trailer-trailer.result (sound-length index e.sound).1 is e.sound.trailer

pub returns-clause-word : goal.returns-clause-word
returns-clause-word c =
    let index = c.args.index.now in
    let e = c.requires in
    let is = c.read_entry.ensures in
    rw (is.word-start, is.word-length) (sound-word-room index e.sound c.args.i e.below)

pub returns-clause-list : goal.returns-clause-list
returns-clause-list c =
    let index = c.args.index.now in
    let e = c.requires in
    let is = c.read_entry.ensures in
    rw (is.list-start, is.singles, is.pairs) (sound-list-room index e.sound c.args.i e.below)

pub read_trailer-trailer-requires : goal.read_trailer-trailer-requires
read_trailer-trailer-requires c = (sound-length c.args.index.now c.requires.sound).0
