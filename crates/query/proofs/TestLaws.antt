-- Laws of a question's test: what a look and an evaluation of its codes say of it, where it is false, and the steps of the driver over it.
use mathlib.Core.Path.{◌≡◌, refl, sym, ap, ◌∙◌, subst}
use Prim.Native.Nat.{ℕ, ◌+◌, ◌-◌, ◌*◌, ◌/◌, ◌≤◌, ◌<◌}
use native.Mathlib.Omega.{arith}
use mathlib.Core.Bool.{Bool, false}
use mathlib.Core.List.{List, [], append-nil}
use lib.ListN.{length, replicate, length-replicate}
use borrow.Rule.Slice.PartMut.{mid_of, mid_len}
use Rattle.list.specs.declared.answer.Tally.{Tally}
use Rattle.list.specs.Interval.{records}
use Rattle.list.specs.declared.sense.Sense.{Sense}
use Rattle.list.specs.Sense.{Steady}
use Rattle.list.specs.Sweeps.{HasRoom, Sweeps}
use Rattle.list.specs.Stretches.{turned, cells_of, records_from}
use Rattle.list.proofs.RecordLaws.{records_from-length}
use Rattle.list.proofs.SweepLaws.{Swept, swept-count, swept-records, swept-written}
use Rattle.question.specs.Grammar.{Tree, from_left, tree_words}
use Rattle.question.specs.Limits.{token_words}
use Rattle.question.proofs.RuleLaws.{from-left-keeps}
use Rattle.question.proofs.TreeWords.{Words, question-words}
use Rattle.window.specs.Window.{member, Holds}
use Rattle.window.specs.Flips.{odd, flips}
use Rattle.window.proofs.SweepLaws.{window-part, jump-part}
use Rattle.senses.specs.declared.look.Look.{Look}
use Rattle.evaluate.specs.declared.eval.Step.{Step}
use Rattle.codes.specs.declared.code.Code.{Code}
use Rattle.codes.specs.Code.{word_codes}
use Rattle.codes.specs.Reads.{as_level}
use Rattle.senses.specs.Senses.{Known}
use Rattle.evaluate.specs.Evaluated.{Evaluated}
use Rattle.senses.specs.Look.{Looks}
use Rattle.window.specs.Steps.{Constant}
use Rattle.query.specs.Drive.{TreeOf, test_of, Ends}
use Rattle.codes.specs.Group.{grouped_brackets}
use Rattle.codes.proofs.CodeLaws.{codes-words}
use Rattle.slots.proofs.SlotLaws.{slots-none}

-- ---- the codes read as t

-- its words are the codes that are a word's
pub tree-words : (codes : List Code) (t : Tree) → TreeOf codes t → length (tree_words t) ≡ word_codes codes
unfolding token_words
tree-words codes t o =
    let w = subst (Words tree_words 0 o.toks) o.reads (question-words from_left from-left-keeps o.fuel grouped_brackets 0 o.toks) in
    sym (ap length (w.0 ∙ append-nil (tree_words t))) ∙ sym (codes-words o.toks) ∙ ap word_codes o.are

module _ {codes : List Code} {t : Tree} (o : TreeOf codes t) where
  pub tree-holds : {v : ℕ → ℕ → Bool} {ws : List ℕ} {x : ℕ} {r : Step} → Evaluated (as_level grouped_brackets) codes (record { code = 0; slot = 0 }) v x ws r →
      Holds (test_of v t) x ws
  tree-holds e = (e.reads o.fuel o.toks t [] o.words o.are o.reads).4

  pub tree-steady : (v : ℕ → ℕ → Bool) (slots x : ℕ) {senses : List Sense} {r : Look} → slots ≡ word_codes codes → Known v senses slots x →
      Looks (as_level grouped_brackets 0) codes 0 0 senses r → Steady (test_of v t) x r.inside r.until
  tree-steady v slots x all known e =
      (e.reads o.fuel o.toks t [] o.words o.are o.reads).4 v slots x (omega (arith, tree-words codes t o)) known

-- no record behind the last satisfies a question
pub test-above : {v : ℕ → ℕ → Bool} {n : ℕ} → Ends v n → (t : Tree) (x : ℕ) → n < x → test_of v t x ≡ false
test-above {v} e t x h = slots-none v x (λ k. e.above k x h) t 0

-- ---- a window

pub blank-length : (ws ws₀ : List ℕ) → ws ≡ replicate (length ws₀) 0 → length ws ≡ length ws₀
blank-length ws ws₀ e = ap length e ∙ length-replicate (length ws₀) 0

pub blank-again : (ws ws₀ : List ℕ) → ws ≡ replicate (length ws₀) 0 → ws ≡ replicate (length ws) 0
blank-again ws ws₀ e = e ∙ ap (λ (m : ℕ). replicate m 0) (sym (blank-length ws ws₀ e))

pub window-room : (p : ℕ → Bool) (x k : ℕ) (ws out : List ℕ) → Holds p x ws → k + length (flips p (odd k) x (64 * length ws)) ≤ length out →
    k + length (flips (member ws x) (odd k) x (64 * length ws)) ≤ length out
window-room p x k ws out h room = rw (window-part p x k (64 * length ws) ws refl h) room

-- the window is evaluated from a blank one
pub evaluated-length : {ws : List ℕ} {m : ℕ} (ws₀ : List ℕ) → m ≡ length ws → ws ≡ replicate (length ws₀) 0 → m ≡ length ws₀
evaluated-length {ws} ws₀ e blank = e ∙ blank-length ws ws₀ blank

pub members-few : (ws : List ℕ) (r : ℕ) → ((x : ℕ) → r ≡ length (records_from (member ws x) x (64 * length ws))) → r ≤ 64 * length ws
members-few ws r e = omega (arith, e 1, records_from-length (member ws 1) 1 (64 * length ws))

-- ---- a jump

pub steady-constant : (p : ℕ → Bool) (x y : ℕ) (v : Bool) (until : ℕ) → Steady p x v until → y ≤ until → Constant p x y v
steady-constant p x y v until s h z a b = s.same z a (omega arith)

pub jump-room : (p : ℕ → Bool) (x y : ℕ) (v : Bool) (k : ℕ) (out : List ℕ) → x < y → Constant p x y v → k + length (flips p (odd k) x (y - x)) ≤ length out →
    k + length (turned (odd k) v x []) ≤ length out
jump-room p x y v k out h c room = rw (jump-part p v x k (y - x) (omega arith) (λ i l. c (x + i) (omega arith) (omega arith))) room

-- the part of the window's words that is lent
pub part-width : (width : ℕ) (ws : List ℕ) → width ≤ length ws → length (mid_of 0 (width - 0) ws) ≡ width
part-width width ws h = omega (arith, mid_len 0 width ws h)

-- ---- the whole sweep

same-tally : (i j r q : ℕ) → i ≡ j → r ≡ q → ◌≡◌ {A = Tally} (record { intervals = i; records = r }) (record { intervals = j; records = q })
same-tally i j r q e f = rw (e, f)

pub swept-tallied : {p : ℕ → Bool} {n : ℕ} {writing : Bool} {out₀ out : List ℕ} {k recs : ℕ} → Swept p n writing out₀ out false (n + 1) k recs →
    HasRoom (cells_of p n) writing out₀ → Sweeps (cells_of p n) writing out₀ out (record { intervals = k / 2; records = recs })
swept-tallied {p} {n} {writing} {out₀} {out} {k} {recs} s room = record {
  tally = same-tally (k / 2) (length (cells_of p n) / 2) recs (records (cells_of p n)) (ap (λ (m : ℕ). m / 2) (swept-count s)) (swept-records s);
  cells = swept-written s room;
}
