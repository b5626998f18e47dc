use Rattle.std.proofs.Common.{◌≡◌, [], Bool, ap, ◌∙◌, subst}
use Rattle.std.specs.Prelude.{Option, Some}
use Rattle.mr_tree.specs.Digest.{by}
use Rattle.mr_tree.proofs.Told.{told_counts}
use Rattle.mr_tree.specs.View as view
use Rattle.mr_pages.specs.Page.{Form, Node}
use Rattle.mr_pages.specs.Faults.{node_faults, first_of, of_level}
use Rattle.mr_pages.specs.private.Judging.{JudgesNode}
use Rattle.mr_pages.specs.Walking.{child_link, page_node, ShowsWanted}
use Rattle.mr_pages.proofs.Giving.{page_gives}
use Rattle.mr_pages.proofs.ViewPages.{node_tells}
use Rattle.mr_pages.proofs.Visits.{knows_of, suits_of}
use Rattle.mr_pages.proofs.visiting.read_checked.Goals as goal

pub check_node-requires-clause-counts : goal.check_node-requires-clause-counts
check_node-requires-clause-counts g c =
    let v = (g.P.Source.state c.args.pages.now).origin.form.version in
    let spelled = c.in_ok-node.ensures.spelled c.if-not-branch.false in
    told_counts v (view.children_in c.node.new.into) (node_tells v c.node.new.into spelled.0).children

pub returns-in-Some-clause-told : goal.returns-in-Some-clause-told
returns-in-Some-clause-told g c =
    let s = g.P.Source.state c.args.pages.now in
    let hash = by s.origin.form.version g.P.Hash.Hashes.of in
    let link = child_link c.args.child.now in
    let n = c.node.new.into in
    page_gives s c.args.child.now.id _ _ (λ f shows.
    let found = subst (λ (b : Bool). ShowsWanted b n (of_level c.args.child.now.level (f.node c.args.child.now.id)))
    c.if-not-branch.false shows in
    ap (λ (o : Option Node). first_of (node_faults hash c.args.root link o)) found
    ∙ subst (λ (form : Form). JudgesNode (by form.version g.P.Hash.Hashes.of) c.args.root link (page_node n)
    (Some c.in-Some.rule)) c.layout-layout.ensures.form c.in-Some.ensures.told) c.in_ok-node.ensures.shows

pub returns-clause-known : goal.returns-clause-known
returns-clause-known g c =
    let s = g.P.Source.state c.args.pages.now in
    knows_of (by s.origin.form.version g.P.Hash.Hashes.of) c.args.child.now c.args.root c.node.new.into
    c.in_ok-of.field-0
    c.is_view.ensures
    (c.in_ok-node.ensures.spelled c.if-not-branch.false)
    (subst (λ (form : Form). node_faults (by form.version g.P.Hash.Hashes.of) c.args.root (child_link c.args.child.now)
    (Some (page_node c.node.new.into)) ≡ []) c.layout-layout.ensures.form c.in_default.ensures.told) c.in_ok-of.ensures

pub returns-clause-suits : goal.returns-clause-suits
returns-clause-suits g c =
    let s = g.P.Source.state c.args.pages.now in
    suits_of (by s.origin.form.version g.P.Hash.Hashes.of) c.args.child.now c.args.root c.node.new.into
    c.in_ok-of.field-0
    c.is_view.ensures
    (c.in_ok-node.ensures.spelled c.if-not-branch.false)
    (subst (λ (form : Form). node_faults (by form.version g.P.Hash.Hashes.of) c.args.root (child_link c.args.child.now)
    (Some (page_node c.node.new.into)) ≡ []) c.layout-layout.ensures.form c.in_default.ensures.told) c.in_ok-of.ensures
