-- By the laws of reading codes and of senses.
use Prim.Native.Nat.{ℕ}
use native.Mathlib.Omega.{arith}
use mathlib.Core.Path.{◌≡◌, refl, sym, ◌∙◌}
use mathlib.Core.List.{List, map}
use Rattle.laws.proofs.Tests.{true-false}
use Rattle.codes.specs.declared.code.Code.TheVariants as kind
use lib.ListN.{length, length-map}
use Rattle.codes.proofs.CodeLaws.{operator-none}
use Rattle.codes.proofs.ReadsLaws.{Here, code_here, operator-here, operand-none, operand-word, operand-many, operand-deep, operand-part, operand-unclosed, level-start, level-step, level-end}
use Rattle.senses.proofs.PairedSenses.{tells-word, tells-part, tells-pair, looks-none}
use Rattle.senses.proofs.look.+look_level_look_operand_look_part.Given.{Over}
use Rattle.senses.proofs.look.+look_level_look_operand_look_part.Goals as goal
use Rattle.senses.proofs.look.+look_level_look_operand_look_part.Goals.{look_level-In-Some, look_operand-Else-not-word_at, look_part-Else-not-opening_at, look_part-Else-not-closing_at}

-- as many codes are read as stand there
as-many : (g : Over) (codes : List g.row.C.Denot) → length (map g.C.AsCode.code codes) ≡ length codes
as-many g codes = length-map codes g.C.AsCode.code

-- ---- a level

-- where the loop goes on an operator stands
operator : (g : Over) (t : ℕ) (c : look_level-In-Some g t) → Here (map g.C.AsCode.code c.args.codes.now) c.loop-op.at (kind.Op c.in-Some.op)
operator g t c = operator-here (map g.C.AsCode.code c.args.codes.now) c.loop-op.at (sym c.operator_at.ensures ∙ c.in-Some.is)

pub look_level-look_operand-first-requires : goal.look_level-look_operand-first-requires
look_level-look_operand-first-requires g t c κs within = (omega arith, (within, c.requires.within))

pub look_level-loop-op-init : goal.look_level-loop-op-init
look_level-loop-op-init g t c =
    let a = c.args in
    let first = c.look_operand-first in
    let r = first.result in
    (first.ensures.ahead, omega (arith, first.ensures.inside, as-many g a.codes.now), level-start (map g.C.AsCode.code a.codes.now) a.d a.k a.i r.code r.slot _ first.ensures.reads)

pub look_level-returns : goal.look_level-returns
look_level-returns g t c =
    let a = c.args in
    let at = c.loop-op in
    let none = operator-none _ (sym c.operator_at.ensures ∙ c.in_default.is) in
    record {
      ahead = at.invariant.0;
      inside = omega (arith, at.invariant.1, as-many g a.codes.now);
      reads = level-end (map g.C.AsCode.code a.codes.now) a.d a.k a.i at.at at.slot _ at.invariant.2 none;
    }

pub look_level-look_operand-next-requires : goal.look_level-look_operand-next-requires
look_level-look_operand-next-requires g t c κs within =
    (omega arith, (within, omega (arith, (operator g t c).1, as-many g c.args.codes.now)))

pub look_level-loop-op-smaller : goal.look_level-loop-op-smaller
look_level-loop-op-smaller g t c =
    let next = c.look_operand-next.ensures in
    omega (arith, as-many g c.args.codes.now, (operator g t (goal.at.look_level-loop-op-smaller g t c).In-Some).1, next.ahead, next.inside)

pub look_level-loop-op-preserved : goal.look_level-loop-op-preserved
look_level-loop-op-preserved g t c =
    let on = operator g t (goal.at.look_level-loop-op-preserved g t c).In-Some in
    let a = c.args in
    let at = c.loop-op in
    let o = c.in-Some.op in
    let next = c.look_operand-next in
    let n = next.result in
    let r = c.pair_senses-sense.result in (
      omega (arith, next.ensures.ahead),
      omega (arith, next.ensures.inside, as-many g a.codes.now),
      level-step (map g.C.AsCode.code a.codes.now) a.d a.k a.i at.at at.slot n.code n.slot _ _ _ o on.0 at.invariant.2 next.ensures.reads
          (λ x y h s u. tells-pair a.row.now.senses a.k r.inside r.until o x y at.slot h at.inside n.inside at.until n.until
          (rw c.pair_senses-sense.ensures.1 at c.pair_senses-sense.ensures.2) s u),
    )

-- ---- an operand

-- where it is no part, a word stands there
word-here : (g : Over) (t : ℕ) (c : look_operand-Else-not-word_at g t) → Here (map g.C.AsCode.code c.args.codes.now) c.args.i kind.Word
word-here g t c = code_here (map g.C.AsCode.code c.args.codes.now) c.args.i (c.word_at.ensures.0 c.if-not-word_at.false)

pub look_operand-look_part-requires : goal.look_operand-look_part-requires
look_operand-look_part-requires g t c κs within =
    (omega arith, (within, (c.requires.within, λ e. true-false (sym (c.word_at.ensures.1 e) ∙ c.if-not-word_at.true))))

pub look_operand-returns-then-k-ge-QUESTION_WORDS_MAX :
    goal.look_operand-returns-then-k-ge-QUESTION_WORDS_MAX
look_operand-returns-then-k-ge-QUESTION_WORDS_MAX g t c =
    let a = c.args in
    let here = word-here g t (goal.at.look_operand-returns-then-k-ge-QUESTION_WORDS_MAX g t c).Else-not-word_at in
    looks-none (omega (arith, c.requires.within, as-many g a.codes.now)) c.unread.ensures
    (λ f. operand-many (map g.C.AsCode.code a.codes.now) f a.d a.k a.i here.0 _ _ _ c.if-k-ge-QUESTION_WORDS_MAX.true)

pub look_operand-returns : goal.look_operand-returns
look_operand-returns g t c =
    let a = c.args in
    let here = word-here g t (goal.at.look_operand-returns g t c).Else-not-word_at in
    record {
      ahead = omega arith;
      inside = omega (arith, here.1);
      reads = λ f. operand-word (map g.C.AsCode.code a.codes.now) f a.d a.k a.i here.0 _
          (tells-word a.row.now.senses a.k _ _ refl refl);
    }

-- ---- a part

-- where one can stand, its bracket opens there
open-here : (g : Over) (t : ℕ) (c : look_part-Else-not-opening_at g t) → Here (map g.C.AsCode.code c.args.codes.now) c.args.i kind.Open
open-here g t c = code_here (map g.C.AsCode.code c.args.codes.now) c.args.i (c.opening_at.ensures.0 c.if-not-opening_at.false)

-- where it ends, its bracket closes there
close-here : (g : Over) (t : ℕ) (c : look_part-Else-not-closing_at g t) → Here (map g.C.AsCode.code c.args.codes.now) c.look_level-part.result.code kind.Close
close-here g t c = code_here (map g.C.AsCode.code c.args.codes.now) c.look_level-part.result.code (c.closing_at.ensures.0 c.if-not-closing_at.false)

pub look_part-returns-then-not-opening_at : goal.look_part-returns-then-not-opening_at
look_part-returns-then-not-opening_at g t c =
    let a = c.args in
    looks-none (omega (arith, c.requires.within, as-many g a.codes.now)) c.unread.ensures
    (λ f. operand-none (map g.C.AsCode.code a.codes.now) f a.d a.k a.i _ _ _ c.requires.wordless
    (λ e. true-false (sym (c.opening_at.ensures.1 e) ∙ c.if-not-opening_at.true)))

pub look_part-returns-then-d-eq0 : goal.look_part-returns-then-d-eq0
look_part-returns-then-d-eq0 g t c =
    let a = c.args in
    let here = open-here g t (goal.at.look_part-returns-then-d-eq0 g t c).Else-not-opening_at in
    looks-none (omega (arith, c.requires.within, as-many g a.codes.now)) c.unread-then-d-eq0.ensures
    (λ f. operand-deep (map g.C.AsCode.code a.codes.now) f a.d a.k a.i here.0 _ _ _ c.if-d-eq0.true)

pub look_part-look_level-part-requires : goal.look_part-look_level-part-requires
look_part-look_level-part-requires g t c κs within =
    let here = open-here g t (goal.at.look_part-look_level-part-requires g t c).Else-not-opening_at in
    (omega arith, (within, omega (arith, here.1, as-many g c.args.codes.now)))

pub look_part-returns-then-not-closing_at :
    goal.look_part-returns-then-not-closing_at
look_part-returns-then-not-closing_at g t c =
    let a = c.args in
    let inner = c.look_level-part in
    let r = c.unread-then-not-closing_at in
    let here = open-here g t (goal.at.look_part-returns-then-not-closing_at g t c).Else-not-opening_at in
    record {
      ahead = omega (arith, inner.ensures.ahead, r.ensures);
      inside = omega (arith, inner.ensures.inside, r.ensures);
      reads = λ f. operand-unclosed (map g.C.AsCode.code a.codes.now) f a.d a.k a.i here.0 inner.result.code inner.result.slot _
          inner.ensures.reads _ _ _
          (λ e. true-false (sym (c.closing_at.ensures.1 e) ∙ c.if-not-closing_at.true));
    }

pub look_part-returns : goal.look_part-returns
look_part-returns g t c =
    let a = c.args in
    let inner = c.look_level-part in
    let p = inner.result in
    let here = open-here g t (goal.at.look_part-returns g t c).Else-not-opening_at in
    record {
      ahead = omega (arith, inner.ensures.ahead);
      inside = omega (arith, (close-here g t c).1);
      reads = λ f. operand-part (map g.C.AsCode.code a.codes.now) f a.d a.k a.i here.0 p.code p.slot _ inner.ensures.reads _
          (close-here g t c).0
          (tells-part a.row.now.senses a.k p.inside p.until);
    }
