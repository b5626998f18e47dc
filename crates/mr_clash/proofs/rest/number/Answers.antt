use Rattle.std.proofs.Common.{arith, ap, length, refl, sym, ◌∙◌}
use Rattle.std.specs.Int.{w64, to_be_bytes}
use Rattle.mr_proof.proofs.Spellings.{same_word}
use Rattle.mr_clash.proofs.rest.number.Goals as goal

pub returns-then-bytes-ne8 : goal.returns-then-bytes-ne8
returns-then-bytes-ne8 c = λ x rest low is.
    let t = c.take-bytes.ensures (to_be_bytes w64 x) rest refl is in
    let long = ap length t.0 in
    absurd (omega (arith, long))

pub returns : goal.returns
returns c = λ x rest low is.
    let t = c.take-bytes.ensures (to_be_bytes w64 x) rest refl is in
    (same_word c.u64_of_bytes.result x (omega arith) low (sym c.u64_of_bytes.ensures.written ∙ t.0), t.1)
