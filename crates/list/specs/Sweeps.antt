-- The pass that counts a list or writes it, and what comes of a call that nothing but room can refuse.
use Rattle.std.specs.Prelude.{ℕ, ◌/◌, ◌≤◌, ◌≡◌, Bool, true, cond, List, length, Result}
use Rattle.refusal.specs.declared.Refusal.{Refusal}
use Rattle.list.specs.declared.answer.Tally.{Tally}
use Rattle.list.specs.Front.{in_front}
use Rattle.list.specs.Answer.{tally_of, in_room, Gives}

-- all but refusal 12 is excluded: the list c, or that refusal
abbrev pub Listing : List ℕ → List ℕ → List ℕ → Result Tally Refusal → Type 0
Listing c out out' r = Gives (in_room (length out / 2) c) out out' r

-- where the list c is written it has room
abbrev pub HasRoom : List ℕ → Bool → List ℕ → Type 0
HasRoom c writing out = writing ≡ true → length c ≤ length out

-- what a pass does: it counts the list c, and writes it where it is asked to
pub record Sweeps (c : List ℕ) (writing : Bool) (out out' : List ℕ) (r : Tally) : Type 0 where
  pub tally : r ≡ tally_of c
  pub cells : out' ≡ cond writing (in_front c out) out
