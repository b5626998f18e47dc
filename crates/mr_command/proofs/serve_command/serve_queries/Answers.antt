use Rattle.std.proofs.Common.{length, refl, ap, sym, subst, ◌∙◌}
use Rattle.std.specs.List.{list_any}
use Rattle.mr_bundle.specs.Bundle.{bundle_of}
use Rattle.mr_command.specs.Ending.{RunsPlan}
use Rattle.mr_plan.specs.Lines.{served_line, needs_version_2_line}
use Rattle.mr_plan.specs.Plan.{comes}
use Rattle.mr_plan.specs.declared.status.Status.TheVariants.{NeedsVersion2}
use Rattle.mr_plan.specs.Saying.{ends, lacks_proof, opened_in, say_text}
use Rattle.mr_command.proofs.Bundles.{all_have, says_served, says_unserved}
use Rattle.mr_command.proofs.Going.{comes_given}
use Rattle.mr_command.proofs.serve_command.serve_queries.Goals as goal

-- a query has no proof
pub returns-then-lacks_one : goal.returns-then-lacks_one
returns-then-lacks_one g c =
    let map = opened_in c.args.nodes.now.nodes.items c.args.nodes.now.top in
    let before = g.S.Shelf.state c.args.shelf.now in
    subst (λ said. RunsPlan (comes said) before before c.without_proof.result)
    (says_unserved g.H.Hashes.of c.args.bundle.now map c.args.queries.now
    (ap (λ v. list_any (lacks_proof v) c.args.queries.now) (sym c.map_version.ensures) ∙ sym c.lacks_one.ensures
    ∙ c.if-lacks_one.true))
    (comes_given (ends NeedsVersion2 needs_version_2_line) before c.without_proof.result refl c.without_proof.ensures)

pub prove_all-requires-clause-may_come : goal.prove_all-requires-clause-may_come
prove_all-requires-clause-may_come g c κs within =
    all_have c.args.nodes.now.top.version c.args.queries.now
    (ap (λ v. list_any (lacks_proof v) c.args.queries.now) (sym c.map_version.ensures) ∙ sym c.lacks_one.ensures
    ∙ c.if-lacks_one.false)

pub returns : goal.returns
returns g c =
    let name = c.args.bundle.now in
    let queries = c.args.queries.now in
    let list = c.in_ok-list.list.items in
    subst (λ said. RunsPlan (comes said) (g.S.Shelf.state c.args.shelf.now) (g.S.Shelf.state c.save_proofs.new.shelf)
    c.save_proofs.result)
    ((λ i. say_text ((c.in_ok-line.ensures ∙ ap (served_line (length queries))
    (c.bundle_size.ensures ∙ ap (λ l. length (bundle_of l)) c.deref.ensures.value)) i) name
    (bundle_of (c.deref-2.ensures.value i)))
    ∙ says_served g.H.Hashes.of name (opened_in c.args.nodes.now.nodes.items c.args.nodes.now.top) queries list
    (bundle_of list)
    (ap (λ v. list_any (lacks_proof v) queries) (sym c.map_version.ensures) ∙ sym c.lacks_one.ensures
    ∙ c.if-lacks_one.false)
    c.in_ok-list.ensures.exact refl)
    c.save_proofs.ensures
