-- The list rule for what is left is the same in each turn, or the turn breaks it.
use Prim.Native.Nat.{◌≤◌}
use mathlib.Core.Path.{◌≡◌}
use lib.ListN.{length}
use Rattle.list.specs.Cell.{numbers_in}
use Rattle.list.specs.Kept.{is_kept}
use Rattle.list.proofs.PassedLaws.{kept_from}
use Rattle.list.proofs.Kept.is_kept.Given as goal

abbrev pub invariant-loop-q : goal.invariant-loop-q
invariant-loop-q l = record {
  single : l.p.0 ≤ length (numbers_in l.self.singles.now);
  rule : is_kept l.n (numbers_in l.self.singles.now) (numbers_in l.self.lower.now) (numbers_in l.self.upper.now)
      ≡ kept_from l.n (numbers_in l.self.singles.now) (numbers_in l.self.lower.now) (numbers_in l.self.upper.now) l.least l.p.0 l.q;
}
