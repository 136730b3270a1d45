-- The grammar's clauses by the code that stands at each place.
use Prim.Native.Nat.{ℕ, ◌+◌, ◌-◌, ◌≤◌}
use native.Mathlib.Omega.{arith}
use mathlib.Core.Path.{◌≡◌, refl, sym, ◌∙◌}
use mathlib.Core.List.{List, map}
use lib.ListN.{length, replicate, length-map, length-replicate}
use lib.Seq.{length-take-le}
use Rattle.window.specs.Tuning.{window_most}
use Rattle.slots.specs.Having.{having}
use Rattle.slots.proofs.RowLaws.{moved_none, moved-both, moved-having, read_again}
use Rattle.codes.proofs.ReadsLaws.{Here, code_here, operator-here, level-start, level-step, level-end, operand-none, operand-word, operand-many, operand-deep, operand-part, operand-unclosed}
use Rattle.evaluate.proofs.EvalLaws.{front-blank, front-back, evaluated-none, sensed-moved, reads-out, holds-word, holds-part, holds-pair}
use Rattle.codes.specs.declared.code.Code.TheVariants as kind
use Rattle.laws.proofs.Tests.{true-false}
use Rattle.codes.proofs.CodeLaws.{operator-none}
use Rattle.evaluate.proofs.eval.+eval_level_eval_operand_eval_part.Given.{Over}
use Rattle.evaluate.proofs.eval.+eval_level_eval_operand_eval_part.Goals as goal
use Rattle.evaluate.proofs.eval.+eval_level_eval_operand_eval_part.Goals.{eval_level-In-Some, eval_level-Then-word_out, eval_level-After-eval_operand-next-else-word_out, eval_operand-Else-not-word_at, eval_part-Else-not-opening_at, eval_part-Else-not-closing_at}

-- as many codes are read as stand there
as-many : (g : Over) (codes : List g.row.C.Denot) → length (map g.C.AsCode.code codes) ≡ length codes
as-many g codes = length-map codes g.C.AsCode.code

-- ---- a level

pub eval_level-eval_operand-next-requires : goal.eval_level-eval_operand-next-requires
eval_level-eval_operand-next-requires g t c κs within = (omega arith, (within, c.requires))

pub eval_level-loop-op-init : goal.eval_level-loop-op-init
eval_level-loop-op-init g t c =
    let a = c.args in
    let r = c.eval_operand-next in
    let e = r.ensures.reads in
    let started = level-start (map g.C.AsCode.code a.codes.now) a.d a.at.slot a.at.code r.result.code r.result.slot _ e.reads in
    (e.ahead, omega (arith, e.inside, as-many g a.codes.now), moved_none _, refl, rw (moved-having a.over.main.now a.over.arrivals.now r.ensures.moved) started)

-- where the loop goes on an operator stands
operator : (g : Over) (t : ℕ) (c : eval_level-In-Some g t) → Here (map g.C.AsCode.code c.args.codes.now) c.loop-op.next.code (kind.Op c.in-Some.op)
operator g t c = operator-here (map g.C.AsCode.code c.args.codes.now) c.loop-op.next.code (sym c.operator_at.ensures ∙ c.in-Some.is)

-- of what is lent hints alone were moved
pub eval_level-returns-clause-moved :
    goal.eval_level-returns-clause-moved
eval_level-returns-clause-moved g t c = moved-both c.eval_operand-next.ensures.moved c.loop-op.invariant.2

-- so the slots have before the loop what they had at the start
pub eval_level-returns-clause-reads :
    goal.eval_level-returns-clause-reads
eval_level-returns-clause-reads g t c =
    let a = c.args in
    let l = c.loop-op in
    let none = operator-none _ (sym c.operator_at.ensures ∙ c.in_default.is) in
    record {
      ahead = l.invariant.0;
      inside = omega (arith, l.invariant.1, as-many g a.codes.now);
      reads = rw (moved-having a.over.main.now a.over.arrivals.now c.eval_operand-next.ensures.moved) at
          (level-end (map g.C.AsCode.code a.codes.now) a.d a.at.slot a.at.code l.next.code l.next.slot _ l.invariant.4
          none);
    }

-- a word behind the operator that is out for the window
word-behind : (g : Over) (t : ℕ) (c : eval_level-Then-word_out g t) → Here (map g.C.AsCode.code c.args.codes.now) (c.loop-op.next.code + 1) kind.Word
word-behind g t c =
    code_here (map g.C.AsCode.code c.args.codes.now) (c.loop-op.next.code + 1) (c.word_out.ensures.word c.if-word_out.true)

pub eval_level-loop-op-smaller-then-word_out : goal.eval_level-loop-op-smaller-then-word_out
eval_level-loop-op-smaller-then-word_out g t c =
    omega (arith, as-many g c.args.codes.now, (word-behind g t (goal.at.eval_level-loop-op-smaller-then-word_out g t c).Then-word_out).1)

pub eval_level-loop-op-preserved-then-word_out :
    goal.eval_level-loop-op-preserved-then-word_out
eval_level-loop-op-preserved-then-word_out g t c =
    let at = goal.at.eval_level-loop-op-preserved-then-word_out g t c in
    let behind = word-behind g t at.Then-word_out in
    let a = c.args in
    let l = c.loop-op in
    let row = c.eval_operand-next.new.row in
    let o = c.in-Some.op in
    let out = c.word_out.ensures.out c.if-word_out.true in
    let both = rw c.combine_blank.ensures.1 at c.combine_blank.ensures.2 in
    let size-here : length c.eval_operand-next.new.ws ≡ length l.ws = sym l.invariant.3 in
    let moves = moved-both c.eval_operand-next.ensures.moved l.invariant.2 in
    let sensed = sensed-moved a.over.main.now a.over.arrivals.now c.requires.sensed moves in (
      omega (arith, l.invariant.0),
      omega (arith, behind.1, as-many g a.codes.now),
      l.invariant.2,
      both.long ∙ l.invariant.3,
      level-step (map g.C.AsCode.code a.codes.now) a.d a.at.slot a.at.code l.next.code l.next.slot (l.next.code + 1 + 1) (l.next.slot + 1) _ _ _ o
          (operator g t at.In-Some).0 l.invariant.4
          (rw (moved-having a.over.main.now a.over.arrivals.now l.invariant.2) at
          (reads-out (having a.over.main.now a.over.arrivals.now l.row) l.next.slot sensed (map g.C.AsCode.code a.codes.now) a.d (l.next.code + 1) (length l.ws)
          (rw size-here at out) behind))
          (λ u v n h m. holds-pair (having a.over.main.now a.over.arrivals.now row) a.at.slot o u v n (length-replicate {A = ℕ} (length l.ws) 0) both h m),
    )

pub eval_level-eval_operand-next-requires-else-word_out :
    goal.eval_level-eval_operand-next-requires-else-word_out
eval_level-eval_operand-next-requires-else-word_out g t c κs covers =
    let p = c.requires in
    let size = length c.eval_operand-next.new.ws in
    let most : size ≤ window_most = omega (arith, c.eval_operand-next.ensures.long, p.size) in
    let moves = moved-both c.eval_operand-next.ensures.moved c.loop-op.invariant.2 in
    let here = operator g t (goal.at.eval_level-eval_operand-next-requires-else-word_out g t c).In-Some in (
      omega arith,
      (
        covers,
        record {
          lent = read_again p.lent moves.stay;
          sensed = sensed-moved _ _ p.sensed moves;
          inside = omega (arith, here.1, as-many g c.args.codes.now);
          blank = front-blank (size - 0) window_most;
          size = rw (length-take-le {A = ℕ} (size - 0) (replicate window_most 0) (omega arith)) (omega arith);
          near = p.near;
        },
      ),
    )

-- the window of the right side is as long as the left one, and no longer than any
right-long : (g : Over) (t : ℕ) (c : eval_level-After-eval_operand-next-else-word_out g t) →
    length c.eval_operand-next-else-word_out.new.ws ≡ length c.eval_operand-next.new.ws - 0
right-long g t c =
    let size = length c.eval_operand-next.new.ws in
    c.eval_operand-next-else-word_out.ensures.long
    ∙ length-take-le (size - 0) (replicate window_most 0) (omega (arith, c.eval_operand-next.ensures.long, c.requires.size))

pub eval_level-loop-op-smaller : goal.eval_level-loop-op-smaller
eval_level-loop-op-smaller g t c =
    let e = c.eval_operand-next-else-word_out.ensures.reads in
    omega (arith, as-many g c.args.codes.now, (operator g t (goal.at.eval_level-loop-op-smaller g t c).In-Some).1, e.ahead, e.inside)

pub eval_level-loop-op-preserved : goal.eval_level-loop-op-preserved
eval_level-loop-op-preserved g t c =
    let at = goal.at.eval_level-loop-op-preserved g t c in
    let a = c.args in
    let l = c.loop-op in
    let o = c.in-Some.op in
    let first = c.eval_operand-next in
    let r = c.eval_operand-next-else-word_out in
    let f = rw (moved-having a.over.main.now a.over.arrivals.now l.invariant.2) at r.ensures.reads in
    let long = right-long g t at.After-eval_operand-next-else-word_out in
    let both = rw (front-back (length first.new.ws - 0) r.new.ws _ long) at (rw c.combine_into.ensures.1 at c.combine_into.ensures.2) in
    let w = l.invariant.3 in (
      omega (arith, f.ahead, l.invariant.0),
      omega (arith, f.inside, as-many g a.codes.now),
      moved-both l.invariant.2 r.ensures.moved,
      both.long ∙ w,
      level-step (map g.C.AsCode.code a.codes.now) a.d a.at.slot a.at.code l.next.code l.next.slot r.result.code r.result.slot _ _ _ o
          (operator g t at.In-Some).0 l.invariant.4 f.reads
          (λ u v n h m. holds-pair (having a.over.main.now a.over.arrivals.now first.new.row) a.at.slot o u v n (omega arith) both h m),
    )

-- ---- an operand

-- where it is no part, a word stands there
word-here : (g : Over) (t : ℕ) (c : eval_operand-Else-not-word_at g t) → Here (map g.C.AsCode.code c.args.codes.now) c.args.at.code kind.Word
word-here g t c = code_here (map g.C.AsCode.code c.args.codes.now) c.args.at.code (c.word_at.ensures.0 c.if-not-word_at.false)

pub eval_operand-eval_part-requires : goal.eval_operand-eval_part-requires
eval_operand-eval_part-requires g t c κs within =
    (omega arith, (within, (c.requires, λ e. true-false (sym (c.word_at.ensures.1 e) ∙ c.if-not-word_at.true))))

pub eval_operand-returns-then-at-ge-QUESTION_WORDS_MAX-clause-reads :
    goal.eval_operand-returns-then-at-ge-QUESTION_WORDS_MAX-clause-reads
eval_operand-returns-then-at-ge-QUESTION_WORDS_MAX-clause-reads g t c =
    let a = c.args in
    let here = word-here g t (goal.at.eval_operand-returns-then-at-ge-QUESTION_WORDS_MAX-clause-reads g t c).Else-not-word_at in
    (evaluated-none {row = a.row.now} (omega (arith, c.requires.inside, as-many g a.codes.now))
    (λ n. operand-many (map g.C.AsCode.code a.codes.now) n a.d a.at.slot a.at.code here.0 a.at.code a.at.slot _ c.if-at-ge-QUESTION_WORDS_MAX.true)).1.1

pub eval_operand-returns-clause-reads : goal.eval_operand-returns-clause-reads
eval_operand-returns-clause-reads g t c =
    let a = c.args in
    let here = word-here g t (goal.at.eval_operand-returns-clause-reads g t c).Else-not-word_at in
    let f = c.fill_slot.ensures in
    record {
      ahead = omega arith;
      inside = omega (arith, here.1);
      reads = λ n. operand-word (map g.C.AsCode.code a.codes.now) n a.d a.at.slot a.at.code here.0 _
          (λ u. holds-word (having a.over.main.now a.over.arrivals.now a.row.now) a.at.slot u c.requires.blank f.adds);
    }

-- ---- a part

-- where one can stand, its bracket opens there
open-here : (g : Over) (t : ℕ) (c : eval_part-Else-not-opening_at g t) → Here (map g.C.AsCode.code c.args.codes.now) c.args.at.code kind.Open
open-here g t c = code_here (map g.C.AsCode.code c.args.codes.now) c.args.at.code (c.opening_at.ensures.0 c.if-not-opening_at.false)

-- and closes where the level in it ends
close-here : (g : Over) (t : ℕ) (c : eval_part-Else-not-closing_at g t) → Here (map g.C.AsCode.code c.args.codes.now) c.eval_level-inside.result.code kind.Close
close-here g t c =
    code_here (map g.C.AsCode.code c.args.codes.now) c.eval_level-inside.result.code (c.closing_at.ensures.0 c.if-not-closing_at.false)

pub eval_part-returns-then-not-opening_at-clause-reads :
    goal.eval_part-returns-then-not-opening_at-clause-reads
eval_part-returns-then-not-opening_at-clause-reads g t c =
    let a = c.args in
    (evaluated-none {row = a.row.now} (omega (arith, c.requires.ready.inside, as-many g a.codes.now))
    (λ n. operand-none (map g.C.AsCode.code a.codes.now) n a.d a.at.slot a.at.code a.at.code a.at.slot _ c.requires.wordless
    (λ e. true-false (sym (c.opening_at.ensures.1 e) ∙ c.if-not-opening_at.true)))).1.1

pub eval_part-returns-then-d-eq0-clause-reads : goal.eval_part-returns-then-d-eq0-clause-reads
eval_part-returns-then-d-eq0-clause-reads g t c =
    let a = c.args in
    let here = open-here g t (goal.at.eval_part-returns-then-d-eq0-clause-reads g t c).Else-not-opening_at in
    (evaluated-none {row = a.row.now} (omega (arith, c.requires.ready.inside, as-many g a.codes.now))
    (λ n. operand-deep (map g.C.AsCode.code a.codes.now) n a.d a.at.slot a.at.code here.0 a.at.code a.at.slot _ c.if-d-eq0.true)).1.1

pub eval_part-eval_level-inside-requires : goal.eval_part-eval_level-inside-requires
eval_part-eval_level-inside-requires g t c κs within =
    let here = open-here g t (goal.at.eval_part-eval_level-inside-requires g t c).Else-not-opening_at in
    let p = c.requires.ready in
    (omega arith, (within, record { lent = p.lent; sensed = p.sensed; inside = omega (arith, here.1, as-many g c.args.codes.now); blank = p.blank; size = p.size; near = omega arith }))

pub eval_part-returns-then-not-closing_at-clause-reads :
    goal.eval_part-returns-then-not-closing_at-clause-reads
eval_part-returns-then-not-closing_at-clause-reads g t c =
    let a = c.args in
    let here = open-here g t (goal.at.eval_part-returns-then-not-closing_at-clause-reads g t c).Else-not-opening_at in
    let r = c.eval_level-inside in
    let e = r.ensures.reads in
    record {
      ahead = omega arith;
      inside = omega (arith, c.requires.ready.inside, as-many g a.codes.now);
      reads = λ n. operand-unclosed (map g.C.AsCode.code a.codes.now) n a.d a.at.slot a.at.code here.0 r.result.code r.result.slot _ e.reads a.at.code
          a.at.slot _
          (λ h. true-false (sym (c.closing_at.ensures.1 h) ∙ c.if-not-closing_at.true));
    }

pub eval_part-returns-clause-reads : goal.eval_part-returns-clause-reads
eval_part-returns-clause-reads g t c =
    let a = c.args in
    let here = open-here g t (goal.at.eval_part-returns-clause-reads g t c).Else-not-opening_at in
    let r = c.eval_level-inside in
    let e = r.ensures.reads in
    record {
      ahead = omega (arith, e.ahead);
      inside = omega (arith, (close-here g t c).1);
      reads = λ n. operand-part (map g.C.AsCode.code a.codes.now) n a.d a.at.slot a.at.code here.0 r.result.code r.result.slot _ e.reads _
          (close-here g t c).0
          (λ u h. holds-part (having a.over.main.now a.over.arrivals.now a.row.now) a.at.slot u h);
    }
