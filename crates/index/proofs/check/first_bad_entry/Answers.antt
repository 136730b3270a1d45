use Prim.Native.Nat.{ℕ, ◌<◌}
use mathlib.Core.Path.{◌≡◌, sym, ap, ◌∙◌}
use mathlib.Core.Bool.{not, false}
use mathlib.Core.List.{List}
use native.Mathlib.Omega.{arith}
use borrow.Author.Rules.{rules}
use Rattle.std.specs.Prelude.{Some}
use Rattle.index.specs.Format.{word_count}
use Rattle.index.specs.Sound.{bad_directory, bad_word}
use Rattle.index.proofs.RuleLaws.{told-bad, told-good}
use Rattle.index.proofs.GoingLaws.{entry-misplaced, entry-misspelt, next-within, going_start, going-hit, going-word, going_step}
use Rattle.index.proofs.GoingLaws.{going-lists-short, going-words-short, going-whole}
use Rattle.index.proofs.check.first_bad_entry.Goals as goal
use Rattle.index.proofs.check.first_bad_entry.Goals.{After-directory_good, After-word_good, Else-not-directory_good}

pub loop-i-init : goal.loop-i-init
loop-i-init c = going_start c.args.index.now c.args.trailer.words c.requires.is.words (omega arith)

abbrev index : After-directory_good → List ℕ
index c = c.args.index.now

abbrev i : After-directory_good → ℕ
i c = c.loop-i.i

below : (c : After-directory_good) → i c < word_count (index c)
below c = omega arith

rule : (c : After-directory_good) → c.directory_good.result ≡ not (bad_directory (index c) (i c))
rule c =
    let inv = c.loop-i.invariant in
    c.directory_good.ensures (index c) (i c) c.requires.is c.read_entry-entry.ensures inv.words-sum inv.lists-sum

placed : (c : Else-not-directory_good) → bad_directory (index (goal.at.Else-not-directory_good c).After-directory_good) (i (goal.at.Else-not-directory_good c).After-directory_good) ≡ false
placed c = told-good _ _ (rule (goal.at.Else-not-directory_good c).After-directory_good) c.if-not-directory_good.false

word : (c : After-word_good) → c.word_good.result ≡ not (bad_word (index (goal.at.After-word_good c).After-directory_good) (i (goal.at.After-word_good c).After-directory_good))
word c =
    c.word_good.ensures ∙ going-word c.loop-i.invariant (below (goal.at.After-word_good c).After-directory_good) c.read_entry-entry.ensures (placed (goal.at.After-word_good c).Else-not-directory_good)

pub returns-then-not-directory_good : goal.returns-then-not-directory_good
returns-then-not-directory_good c = rw (going-hit c.loop-i.invariant (below (goal.at.returns-then-not-directory_good c).After-directory_good) (entry-misplaced (index (goal.at.returns-then-not-directory_good c).After-directory_good) (i (goal.at.returns-then-not-directory_good c).After-directory_good) (told-bad _ _ (rule (goal.at.returns-then-not-directory_good c).After-directory_good) c.if-not-directory_good.true)))

pub returns-then-not-word_good : goal.returns-then-not-word_good
returns-then-not-word_good c = rw (going-hit c.loop-i.invariant (below (goal.at.returns-then-not-word_good c).After-directory_good) (entry-misspelt (index (goal.at.returns-then-not-word_good c).After-directory_good) (i (goal.at.returns-then-not-word_good c).After-directory_good) (placed (goal.at.returns-then-not-word_good c).Else-not-directory_good) (told-bad _ _ (word (goal.at.returns-then-not-word_good c).After-word_good) c.if-not-word_good.true)))

pub loop-i-preserved : goal.loop-i-preserved
loop-i-preserved c = rw c.list_length-lists.ensures
    (going_step c.loop-i.invariant (below (goal.at.loop-i-preserved c).After-directory_good) c.read_entry-entry.ensures (placed (goal.at.loop-i-preserved c).Else-not-directory_good) (told-good _ _ (word (goal.at.loop-i-preserved c).After-word_good) c.if-not-word_good.false))

pub returns-then-lists-trailer : goal.returns-then-lists-trailer
returns-then-lists-trailer c =
    let is = c.requires.is in
    ap Some is.count ∙ sym (going-lists-short c.loop-i.invariant (omega arith) (λ e. c.if-lists-trailer.true (e ∙ sym is.words)))

pub returns-then-words-trailer : goal.returns-then-words-trailer
returns-then-words-trailer c =
    let is = c.requires.is in
    ap Some is.count ∙ sym (going-words-short c.loop-i.invariant (omega arith) (omega arith) (λ e. c.if-words-trailer.true (e ∙ sym is.directory)))

pub returns : goal.returns
returns c = sym (going-whole c.loop-i.invariant (omega arith) (omega arith) (omega arith))

pub slice_bounds-word_good-end-in-loop-i : goal.slice_bounds-word_good-end-in-loop-i
slice_bounds-word_good-end-in-loop-i c =
    let placed-here = placed (goal.at.slice_bounds-word_good-end-in-loop-i c).Else-not-directory_good in
    let room = next-within c.args.index.now c.loop-i.i placed-here in
    search rules
