-- The marks are sums of the entry's cells.
use mathlib.Core.Path.{refl}
use Rattle.directory.proofs.EntryLaws.{marks-regions}
use Rattle.directory.proofs.parts.regions_of.Goals as goal

pub returns : goal.returns
returns c = marks-regions _ c.requires c.sound_entry-entry.ensures.is refl refl refl refl
