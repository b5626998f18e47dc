use Rattle.std.proofs.Common.{◌+◌, ◌/◌, ◌%◌, ◌<◌, ap, ◌∙◌, arith, get_or, count_ones}
use Rattle.mr_reach.proofs.Bits.{low_bits}
use Rattle.mr_reach.proofs.marks.rank.Goals as goal

pub overflow_add-result : goal.overflow_add-result
overflow_add-result c =
    let low : c.args.at % 64 < 64 = omega arith in
    let bits = low_bits (get_or c.args.runs.now (c.args.at / 64) (record { before = 0; bits = 0 })).bits
    (c.args.at % 64) low in
    let is = c.ones.ensures ∙ ap count_ones bits in
    let fits = c.requires.fits in
    omega arith

pub returns : goal.returns
returns c =
    let low : c.args.at % 64 < 64 = omega arith in
    let run = get_or c.args.runs.now (c.args.at / 64) (record { before = 0; bits = 0 }) in
    ap (λ n. run.before + n) (c.ones.ensures ∙ ap count_ones (low_bits run.bits (c.args.at % 64) low))
