use Rattle.mr_edit.proofs.putting.+put_into.Given as goal

abbrev pub decreases-put_into : goal.decreases-put_into
decreases-put_into g l = l.child.now.level
