use Rattle.std.proofs.Common.{arith}
use Rattle.mr_journal.specs.Format.{page_size}
use Rattle.mr_journal.proofs.NewPages.{is_change, spelled_as}
use Rattle.mr_journal.proofs.changing.spell_changes.Goals as goal

pub returns : goal.returns
returns c =
    let size = c.in-Some.ensures in
    is_change c.args.version c.args.pages c.args.old.now c.args.new.now c.spell_pages.new.body.items c.requires.version
    (omega (arith, size.1, size.2)) c.requires.longer
    (spelled_as c.args.version c.in-Some.size (page_size c.args.version) c.args.pages c.args.old.now c.args.new.now
    c.count_changed-count.result c.in_ok-body.body.items c.spell_pages.new.body.items
    size.1 c.count_changed-count.ensures c.in_ok-body.ensures c.in_ok-spell_pages.ensures)
