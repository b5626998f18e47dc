use Rattle.mr_edit.proofs.Sums.{leaf_said}
use Rattle.mr_edit.proofs.pager.write_leaf.Goals as goal

pub returns-clause-told : goal.returns-clause-told
returns-clause-told g c =
    leaf_said g.F.PageFile.scheme c.set_leaf.new.self c.args.records.now c.entry-child.result c.args.page
    c.set_leaf.ensures c.requires.some c.requires.few c.requires.layers c.entry-child.ensures
