use Rattle.std.proofs.Common.{◌≡◌, ◌*◌, ◌+◌, ◌≤◌, true, get_or, refl, sym, ap, ◌∙◌, arith}
use Rattle.std.specs.Char.{is_ascii_digit}
use Rattle.std.proofs.lemmas.Bool.{and_parts, leb-true}
use Rattle.mr_record.proofs.Fronts.{digits_more}
use Rattle.mr_record.proofs.front.front_number.Goals as goal

pub loop-at-preserved : goal.loop-at-preserved
loop-at-preserved c =
    let digit = get_or c.args.line.now c.loop-at.at 0 in
    let is : is_ascii_digit digit ≡ true = sym c.is_ascii_digit.ensures.value ∙ c.if-not-is_ascii_digit.false in
    let high : digit ≤ 57 = leb-true digit 57 (and_parts _ _ is).1 in
    let more = digits_more c.args.line.now c.loop-at.at c.loop-at.number digit (omega arith) refl is
    c.loop-at.invariant.0 c.loop-at.invariant.1 in
    (more.0, ap (λ d. c.loop-at.number * 10 + d) c.from.ensures ∙ more.1, omega (arith, c.from.ensures, high))
