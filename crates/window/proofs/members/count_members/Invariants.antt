-- What is counted and what the words from i on have is what the whole window has.
use Prim.Native.Nat.{ℕ, ◌≤◌, ◌+◌, ◌*◌}
use mathlib.Core.Path.{◌≡◌}
use lib.ListN.{length}
use Rattle.window.specs.Window.{members_of}
use Rattle.window.proofs.MemberLaws.{members_left}
use Rattle.window.proofs.members.count_members.Given as goal

abbrev pub invariant-loop-w : goal.invariant-loop-w
invariant-loop-w l =
    (l.w-index ≤ length l.ws) × (l.n ≤ 64 * l.w-index) × ((base : ℕ) → length (members_of l.ws base) ≡ l.n + length (members_left l.ws base l.w-index))
