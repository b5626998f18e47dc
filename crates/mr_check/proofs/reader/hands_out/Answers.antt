use Rattle.std.proofs.Common.{sym, refl, ◌∙◌, ◌++◌, ◌∷◌, []}
use Rattle.mr_check.proofs.Turning.{behind_long, behind_short}
use Rattle.mr_check.proofs.reader.hands_out.Goals as goal

pub returns-then-is_long-clause-behind : goal.returns-then-is_long-clause-behind
returns-then-is_long-clause-behind g c = λ q given k last quiet w.
    rw c.fail.ensures.value (behind_long g.H.Hashes.of g.H.Hashes.holds q c.args.r.now
    (given ++ c.args.r.now.machine.latest ∷ []) k last
    c.requires.stage.some c.requires.place (sym c.is_long.ensures ∙ c.if-is_long.true) w)

pub returns-clause-behind : goal.returns-clause-behind
returns-clause-behind g c = λ q given k last quiet w.
    let both = behind_short g.H.Hashes.of g.H.Hashes.holds q c.args.r.now (given ++ c.args.r.now.machine.latest ∷ []) k
    last c.requires.stage.some
    (sym c.is_long.ensures ∙ c.if-is_long.false) c.requires.held w in
    (refl, both.0 ∙ quiet, both.1)
