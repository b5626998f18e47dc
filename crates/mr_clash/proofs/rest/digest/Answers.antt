use Rattle.std.proofs.Common.{arith, ap, length, ◌∙◌}
use Rattle.mr_clash.proofs.rest.digest.Goals as goal

pub returns-then-bytes-ne32 : goal.returns-then-bytes-ne32
returns-then-bytes-ne32 c = λ x rest long is.
    let t = c.take-bytes.ensures x rest long is in
    let wide = ap length t.0 in
    absurd (omega (arith, wide, long))

pub returns : goal.returns
returns c = λ x rest long is. let t = c.take-bytes.ensures x rest long is in
    (c.copy_from_slice.ensures.after ∙ t.0, t.1)
