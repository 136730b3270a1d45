-- Laws of the lists of a request: each is kept, and a loop over the request passes them one by one.
use mathlib.Core.Path.{◌≡◌}
use Prim.Native.Nat.{ℕ, suc, ◌+◌, ◌≤◌, ◌<◌}
use native.Mathlib.Omega.{arith}
use mathlib.Core.Bool.{true}
use mathlib.Core.List.{List, [], ◌∷◌}
use lib.ListN.{length, get_or, drop}
use Rattle.laws.proofs.Lists.{drop-next, drop-none}
use Rattle.limits.specs.Limits.{record_max}
use Rattle.list.specs.Interval.{is_proper}
use Rattle.list.proofs.ProperLaws.{proper-facts, facts-proper, proper-weaker}
use Rattle.list.proofs.KeptLaws.{Kept, kept-facts}
use Rattle.list.proofs.JoinLaws.{AllProper}
use Rattle.index.specs.Format.{word_count, highest, list_of, entry_singles, entry_lowers, entry_uppers}
use Rattle.index.specs.Sound.{Sound}
use Rattle.index.proofs.SoundLaws.{sound-trailer, sound-entry, sound-list}
use Rattle.directory.specs.Regions.{EntryIn}
use Rattle.directory.proofs.EntryLaws.{entry-walked, entry-counted}
use Rattle.directory.proofs.HasLaws.{list-proper}
use Rattle.merge.specs.Request.{SoundRequest, lists_of}

-- ---- one entry

module _ {index : List ℕ} {i : ℕ} (e : EntryIn index i) where
  pub entry_kept : Kept (highest index) (entry_singles index i) (entry_lowers index i) (entry_uppers index i)
  entry_kept = kept-facts (highest index) (entry_singles index i) (entry_lowers index i) (entry_uppers index i) (sound-list index e.sound i e.below)

  -- Reference 5.2: no list is empty
  pub entry-some : 0 < length (entry_singles index i) + length (entry_lowers index i)
  entry-some = omega (arith, entry-walked e, entry-counted e, (sound-entry index e.sound i e.below).list-some)

  entry-proper : is_proper record_max (list_of index i) ≡ true
  unfolding is_proper
  entry-proper =
      facts-proper record_max 1 (list_of index i)
      (proper-weaker (highest index) record_max 1 1 (list_of index i) (sound-trailer index e.sound).highest-bound (omega arith)
      (proper-facts (highest index) 1 (list_of index i) (list-proper index e.sound i e.below)))

-- ---- all of them

pub lists-next : (index entries : List ℕ) (j : ℕ) → j < length entries →
    lists_of index (drop j entries) ≡ list_of index (get_or entries j 0) ∷ lists_of index (drop (j + 1) entries)
unfolding lists_of
lists-next index entries j h = rw (drop-next entries j h)

pub lists-end : (index entries : List ℕ) (j : ℕ) → length entries ≤ j → lists_of index (drop j entries) ≡ []
unfolding lists_of
lists-end index entries j h = rw (drop-none entries j h)

lists-proper : (index : List ℕ) → Sound index → (entries : List ℕ) → ((j : ℕ) → j < length entries → get_or entries j 0 < word_count index) →
    AllProper record_max (lists_of index entries)
unfolding lists_of
lists-proper index s [] f = tt
lists-proper index s (e ∷ es) f = (entry-proper (record { sound = s; below = f 0 (omega arith) }), lists-proper index s es (λ j h. f (suc j) (omega arith)))

-- list j of a request
pub asked_entry : {index entries : List ℕ} → SoundRequest index entries → (j : ℕ) → j < length entries → EntryIn index (get_or entries j 0)
asked_entry a j h = record { sound = a.sound; below = a.below j h }

pub asked-proper : {index entries : List ℕ} → SoundRequest index entries → AllProper record_max (lists_of index entries)
asked-proper {index} {entries} a = lists-proper index a.sound entries a.below
