-- Each outcome by what the passes promise (GoodLaws).
use mathlib.Core.Path.{◌≡◌, sym, ◌∙◌}
use lib.ListN.{length}
use Rattle.std.specs.Prelude.{None}
use Rattle.std.proofs.lemmas.Result.{err_from_is_err_and}
use Rattle.build.specs.Lent.{lent_words}
use Rattle.build.specs.Build.{bad_words}
use Rattle.build.specs.Build.{count_fault}
use Rattle.build.proofs.GoodLaws.{words-counted, fair-counts, refused-limit, refused-word, refused-count, refused-number, none-refused}
use Rattle.build.proofs.build.Lent.check.Goals as goal
use Rattle.build.proofs.build.Lent.check.Goals.{In_ok-count, In_default}

-- ---- the words are counted

counted : (c : In_ok-count) →
    (bad_words c.args.self.words.now ≡ None) × (length (lent_words c.args.self.words.now) ≡ c.in_ok-count.count)
counted c = words-counted _ _ _ (sym c.check_words.ensures ∙ c.in_ok-count.was)

-- ---- the counts are good

fair : (c : In_default) →
    count_fault c.args.self.counts.now (length c.args.self.numbers.now) c.in_ok-count.count ≡ None
fair c = sym c.check_counts.ensures ∙ c.in_default.is

-- as many as words
same : (c : In_default) → length (lent_words c.args.self.words.now) ≡ length c.args.self.counts.now
same c = (counted (goal.at.In_default c).In_ok-count).1 ∙ sym (fair-counts _ _ _ (fair c)).0

-- ---- the outcomes

pub returns-in_err-count : goal.returns-in_err-count
returns-in_err-count c =
    let p = err_from_is_err_and c.from_residual.result c.from_residual.ensures.1 in
    rw (p.1, p.2) (sym (refused-word _ _ _ _ c.if-self-gt-RECORD_MAX.false _ _ (sym c.check_words.ensures ∙ c.in_err-count.was)))

pub returns-in-Some : goal.returns-in-Some
returns-in-Some c =
    let bad = sym c.check_counts.ensures ∙ c.in-Some.is in
    let words = counted (goal.at.returns-in-Some c).In_ok-count in
    sym (refused-count _ _ _ _ c.if-self-gt-RECORD_MAX.false words.0 _ (rw words.1 bad))

pub returns-in-Some-check_numbers : goal.returns-in-Some-check_numbers
returns-in-Some-check_numbers c =
    let bad = sym c.check_numbers.ensures ∙ c.in-Some-check_numbers.is in
    let words = counted (goal.at.returns-in-Some-check_numbers c).In_ok-count in
    let passed = (goal.at.returns-in-Some-check_numbers c).In_default in
    sym (refused-number _ _ _ _ c.if-self-gt-RECORD_MAX.false words.0 (rw words.1 (fair passed)) _ (rw (same passed) bad))

pub returns : goal.returns
returns c =
    let none = sym c.check_numbers.ensures ∙ c.in_default-check_numbers.is in
    let words = counted (goal.at.returns c).In_ok-count in
    let passed = (goal.at.returns c).In_default in
    sym (none-refused _ _ _ _ c.if-self-gt-RECORD_MAX.false words.0 (rw words.1 (fair passed)) (rw (same passed) none))

pub returns-then-self-gt-RECORD_MAX : goal.returns-then-self-gt-RECORD_MAX
returns-then-self-gt-RECORD_MAX c = sym (refused-limit _ _ _ _ c.if-self-gt-RECORD_MAX.true)

pub check_numbers-requires : goal.check_numbers-requires
check_numbers-requires c = (fair-counts _ _ _ (fair (goal.at.check_numbers-requires c).In_default)).1
