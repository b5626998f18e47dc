use Rattle.mr_edit.proofs.removing.+shorten.Given as goal

abbrev pub decreases-shorten : goal.decreases-shorten
decreases-shorten g l = l.child.now.level
