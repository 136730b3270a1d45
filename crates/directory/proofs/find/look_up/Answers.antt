-- A checked index is sound.
use mathlib.Core.Path.{sym, ◌∙◌}
use Rattle.index.proofs.CheckLaws.{good-sound}
use Rattle.directory.proofs.find.look_up.Goals as goal

pub find_word-requires : goal.find_word-requires
find_word-requires c = good-sound c.args.index.now (sym c.check_index.ensures ∙ c.in_ok-check_index.was)
