-- The word stands at its place or nowhere, and one comparison tells.
use Prim.Native.Nat.{◌<◌}
use mathlib.Core.Path.{◌≡◌, sym, ◌∙◌}
use native.Mathlib.Omega.{arith}
use Rattle.std.specs.Prelude.{Err}
use Rattle.word.proofs.WordLaws.{order-is-same, order-before-differ, order-behind-differ}
use Rattle.index.specs.Format.{word_count, word_of}
use Rattle.directory.specs.Standing.{standing_of}
use Rattle.directory.proofs.StandingLaws.{standing_here, standing-absent}
use Rattle.directory.proofs.find.find_word.Goals as goal
use Rattle.directory.proofs.find.find_word.Goals.{After-order_at}

pub returns-then-place-word_count : goal.returns-then-place-word_count
returns-then-place-word_count c =
    let n = c.word_count.ensures.is in
    sym (standing-absent c.args.index.now c.requires c.args.word.now c.find_place-place.result c.find_place-place.ensures
    (λ h q. omega (arith, c.if-place-word_count.true)))

pub returns-in-Equal : goal.returns-in-Equal
returns-in-Equal c =
    let index = c.args.index.now in
    let word = c.args.word.now in
    let p = c.find_place-place.result in
    let h : p < word_count index = rw c.word_count.ensures.is at c.if-place-word_count.false in
    sym (standing_here index c.requires word p h (order-is-same (word_of index p) word (sym c.order_at.ensures ∙ c.in-Equal.is)))

-- another word stands there
other : (c : After-order_at) → (word_of c.args.index.now c.find_place-place.result ≡ c.args.word.now → ⊥) →
    standing_of c.args.index.now c.args.word.now ≡ Err c.find_place-place.result
other c n = standing-absent c.args.index.now c.requires c.args.word.now _ c.find_place-place.ensures (λ h. n)

pub returns-in-Less : goal.returns-in-Less
returns-in-Less c = sym (other (goal.at.returns-in-Less c).After-order_at (order-before-differ _ _ (sym c.order_at.ensures ∙ c.in-Less.is)))

pub returns-in-Greater : goal.returns-in-Greater
returns-in-Greater c = sym (other (goal.at.returns-in-Greater c).After-order_at (order-behind-differ _ _ (sym c.order_at.ensures ∙ c.in-Greater.is)))
