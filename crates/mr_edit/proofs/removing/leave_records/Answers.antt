use Rattle.std.proofs.Common.{◌<◌, ◌≤◌, length, subst, arith}
use Rattle.std.specs.Prelude.{if◌then◌else◌}
use Rattle.mr_tree.specs.declared.tree.Tree.TheOpen as node
use Rattle.mr_edit.specs.Outcome.{WritesNode}
use Rattle.mr_edit.proofs.Leaving.{any_leaf_gone, any_leaf_stayed}
use Rattle.mr_edit.proofs.removing.leave_records.Goals as goal

pub returns-in_ok-free_page-clause-leaves : goal.returns-in_ok-free_page-clause-leaves
returns-in_ok-free_page-clause-leaves g c =
    let few : length c.args.records.items < (if c.args.root then 1 else 6) = omega (arith, c.least_records.ensures) in
    any_leaf_gone g.F.PageFile.scheme c.args.root (g.F.PageFile.told c.args.pager.now.file)
    (g.F.PageFile.told c.free_page.new.pager.file) c.args.pager.now.free c.free_page.new.pager.free c.args.page
    c.args.records.items
    few c.in_ok-free_page.ensures.frees

pub returns-in_ok-entry-clause-leaves : goal.returns-in_ok-entry-clause-leaves
returns-in_ok-entry-clause-leaves g c =
    let many : (if c.args.root then 1 else 6) ≤ length c.args.records.items = omega (arith, c.least_records.ensures) in
    any_leaf_stayed g.F.PageFile.scheme c.args.root (g.F.PageFile.told c.args.pager.now.file)
    (g.F.PageFile.told c.write_leaf.new.pager.file) c.args.pager.now.free c.write_leaf.new.pager.free c.args.page
    c.args.records.items c.new.result.items c.in_ok-entry.entry
    many c.new.ensures.items
    (subst (λ us. WritesNode g.F.PageFile.scheme (g.F.PageFile.told c.args.pager.now.file) c.args.pager.now.free
    (g.F.PageFile.told c.write_leaf.new.pager.file) c.write_leaf.new.pager.free c.args.page (node.Leaf us)
    c.in_ok-entry.entry)
    c.deref.ensures.value c.in_ok-entry.ensures.writes)
