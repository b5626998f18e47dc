use Rattle.std.proofs.Common.{◌≡◌, length, sym, ◌∙◌, arith}
use Rattle.std.proofs.lemmas.Bool.{eqb-false}
use Rattle.mr_check.proofs.Turning.{turn_trailing}
use Rattle.mr_check.proofs.reader.at_end.Goals as goal

pub returns-clause-turns : goal.returns-clause-turns
returns-clause-turns g c = λ q s at.
    let no : (length c.args.piece.now ≡ 0 → ⊥) = eqb-false (length c.args.piece.now) 0
    (sym c.is_empty.ensures ∙ c.if-is_empty.false) in
    rw c.fail.ensures.value (turn_trailing g.H.Hashes.of g.H.Hashes.holds q c.args.r.now s c.args.piece.now
    c.requires.ends
    (omega arith) at)
