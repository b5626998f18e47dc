use Rattle.std.proofs.Common.{refl, sym, subst, ◌∙◌}
use Rattle.mr_command.specs.Ending.{RunsPlan}
use Rattle.mr_plan.specs.Lines.{needs_version_2_line}
use Rattle.mr_plan.specs.Plan.{comes}
use Rattle.mr_plan.specs.Saying.{ends, opened_in}
use Rattle.mr_plan.specs.declared.status.Status.TheVariants.{NeedsVersion2}
use Rattle.mr_command.proofs.Going.{comes_given}
use Rattle.mr_command.proofs.Joined.{both_two, says_first, says_joined}
use Rattle.mr_command.proofs.join_command.join_maps.Goals as goal

-- one of the maps is of version 1
pub returns-then-lack_join : goal.returns-then-lack_join
returns-then-lack_join g c =
    let one = opened_in c.args.first.now.nodes.items c.args.first.now.top in
    let other = opened_in c.args.second.now.nodes.items c.args.second.now.top in
    let before = g.S.Shelf.state c.args.shelf.now in
    subst (λ said. RunsPlan (comes said) before before c.without_proof.result)
    (says_first g.H.Hashes.of c.args.proof.now one other (sym c.lack_join.ensures ∙ c.if-lack_join.true))
    (comes_given (ends NeedsVersion2 needs_version_2_line) before c.without_proof.result refl c.without_proof.ensures)

pub join_proof-requires-clause-first : goal.join_proof-requires-clause-first
join_proof-requires-clause-first g c κs within =
    (both_two (opened_in c.args.first.now.nodes.items c.args.first.now.top)
    (opened_in c.args.second.now.nodes.items c.args.second.now.top)
    (sym c.lack_join.ensures ∙ c.if-lack_join.false)).0

pub join_proof-requires-clause-second : goal.join_proof-requires-clause-second
join_proof-requires-clause-second g c κs within =
    (both_two (opened_in c.args.first.now.nodes.items c.args.first.now.top)
    (opened_in c.args.second.now.nodes.items c.args.second.now.top)
    (sym c.lack_join.ensures ∙ c.if-lack_join.false)).1

pub returns : goal.returns
returns g c =
    let one = opened_in c.args.first.now.nodes.items c.args.first.now.top in
    let other = opened_in c.args.second.now.nodes.items c.args.second.now.top in
    subst (λ said. RunsPlan (comes said) (g.S.Shelf.state c.args.shelf.now)
    (g.S.Shelf.state c.write_proof.new.shelf) c.write_proof.result)
    (says_joined g.H.Hashes.of c.args.proof.now one other c.bytes.result.now
    (sym c.lack_join.ensures ∙ c.if-lack_join.false) (c.bytes.ensures ∙ c.in_ok-made.ensures))
    c.write_proof.ensures
