use Rattle.std.proofs.Common.{List, ℕ, length, ap, arith, decimal, length-append}
use Rattle.std.proofs.lemmas.Fmt.{length-decimal-le}
use Rattle.mr_record.proofs.print.put_short.Goals as goal

pub returns-clause-within : goal.returns-clause-within
returns-clause-within g c =
    let all = ap (λ (xs : List ℕ). length xs) c.put_number.ensures.put in
    let both = length-append c.args.line.now (decimal c.from.result) in
    let short = length-decimal-le 10 c.from.result (omega arith) (omega (arith, c.from.ensures))
    (omega (arith, c.from.ensures)) in
    omega (arith, all, both, short)
