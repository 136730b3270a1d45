-- Laws of reading and writing: what a read put into a lent tail, said of the whole buffer, and what two calls moved one after the other.
use Rattle.std.proofs.Common.{◌≡◌, ℕ, ◌+◌, ◌-◌, ◌≤◌, List, ◌++◌, Option, length, take, drop, arith, sym, ap, subst, ◌∙◌}
use lib.Seq.{take-add, take-take}
use borrow.Rule.Slice.PartMut.{put_mid, mid_of, same_len_mid, mid_len, take_put}
use Rattle.std.specs.Io.KnownBytes.{Appends, Consumes}
use Rattle.std.proofs.KnownBytes.{Appends-trans, Consumes-trans}
use Rattle.std.specs.Prelude.{Result}
use Rattle.std.specs.declared.io.Error.{Error}
use Rattle.ask.specs.Transfer.{read_count, ReadsOn}

pub tail-read : (done : ℕ) (bytes tail : List ℕ) (r : Result ℕ Error) →
    done ≤ length bytes →
    length tail ≡ length (mid_of done (length bytes - done) bytes) →
    read_count r ≤ length tail →
    ReadsOn done bytes (put_mid done (length bytes - done) bytes tail) r
tail-read done bytes tail r h same counted =
    record {
      kept = take_put done (length bytes - done) bytes tail h;
      within = omega (arith, same, counted, same_len_mid done (length bytes - done) bytes tail same, mid_len done (length bytes) bytes (omega arith));
    }

-- a read behind the first `done` bytes, which stayed
pub Consumes-on : (a b c : Option (List ℕ)) (done more : ℕ) (bytes bytes' : List ℕ) →
    Consumes a b (take done bytes) →
    take done bytes' ≡ take done bytes →
    Consumes b c (take more (drop done bytes')) →
    Consumes a c (take (done + more) bytes')
Consumes-on a b c done more bytes bytes' before kept next =
    let joined = ap (λ l. l ++ take more (drop done bytes')) (sym kept) ∙ sym (take-add done more bytes') in
    subst (Consumes a c) joined (Consumes-trans a b c _ _ before next)

-- a write of what stands behind the first `done` bytes
pub Appends-on : (a b c : Option (List ℕ)) (done more : ℕ) (bytes : List ℕ) →
    Appends a b (take done bytes) →
    more ≤ length bytes - done →
    Appends b c (take more (take (length bytes - done) (drop done bytes))) →
    Appends a c (take (done + more) bytes)
Appends-on a b c done more bytes before fits next =
    let joined = ap (λ l. take done bytes ++ l) (take-take more (length bytes - done) (drop done bytes) fits) ∙ sym (take-add done more bytes) in
    subst (Appends a c) joined (Appends-trans a b c _ _ before next)
