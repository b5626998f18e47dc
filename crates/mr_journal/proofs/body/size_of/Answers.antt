use Rattle.std.proofs.Common.{ap, sym, arith}
use Rattle.mr_journal.specs.Format.{page_size, is_version}
use Rattle.mr_journal.proofs.body.size_of.Goals as goal

pub returns-then-version-eq1 : goal.returns-then-version-eq1
unfolding page_size
returns-then-version-eq1 c = (
  ap is_version c.if-version-eq1.true,
  sym (ap page_size c.if-version-eq1.true),
  omega
      arith,
  omega arith,
)

pub returns-then-version-eq2 : goal.returns-then-version-eq2
unfolding page_size
returns-then-version-eq2 c = (
  ap is_version c.if-version-eq2.true,
  sym (ap page_size c.if-version-eq2.true),
  omega
      arith,
  omega arith,
)
