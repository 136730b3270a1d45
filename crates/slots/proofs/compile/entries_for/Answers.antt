-- The entry at which the word stands has what the index has of the word; where it is absent the index has nothing of it.
use Rattle.std.specs.Prelude.{Ok}
use Rattle.directory.specs.Standing.{standing_of}
use Rattle.slots.proofs.CompileLaws.{entries-here, entries-absent, here-below}
use mathlib.Core.Path.{◌≡◌, sym, ◌∙◌}
use Rattle.slots.proofs.compile.entries_for.Goals as goal
use Rattle.slots.proofs.compile.entries_for.Goals.{In-Ok}

-- it stands at the entry that was found
here : (c : In-Ok) → let a = c.args in standing_of a.index.now a.word.now ≡ Ok c.in-Ok.i
here c = sym c.find_word.ensures ∙ c.in-Ok.is

pub regions_of-requires : goal.regions_of-requires
regions_of-requires c = record { sound = c.requires; below = here-below c.args.index.now c.requires c.args.word.now _ (here c) }

pub returns-in-Ok : goal.returns-in-Ok
returns-in-Ok c = entries-here c.args.index.now c.requires c.args.word.now _ _ (here (goal.at.returns-in-Ok c).In-Ok) c.regions_of.ensures

pub returns-in-Err : goal.returns-in-Err
returns-in-Err c = entries-absent c.args.index.now c.requires c.args.word.now _ (sym c.find_word.ensures ∙ c.in-Err.is)
