-- List 0 is the first one of the range.
use native.Mathlib.Omega.{arith}
use mathlib.Core.Path.{◌≡◌}
use Prim.Native.Nat.{◌+◌}
use Rattle.index.proofs.SoundLaws.{sound-trailer}
use Rattle.slots.proofs.row.Entries.regions_in.Goals as goal

pub overflow_add-self : goal.overflow_add-self
overflow_add-self c = record { fits = omega (arith, c.requires.among.within, c.requires.list, (sound-trailer c.args.index.now c.requires.sound).count-bound) }

pub regions_of-requires : goal.regions_of-requires
regions_of-requires c = record { sound = c.requires.sound; below = omega (arith, c.requires.among.within, c.requires.list) }

pub returns-then-m-eq0 : goal.returns-then-m-eq0
returns-then-m-eq0 c =
    let a = c.args in
    let e : a.self.first + a.m ≡ a.self.first = omega (arith, c.if-m-eq0.true) in
    rw e (c.requires.among.marked (omega (arith, c.requires.list)))
