use Rattle.std.proofs.Common.{sym}
use Rattle.mr_pages.proofs.putting.child_with.Goals as goal

pub returns : goal.returns
returns c = λ i. record {
  page = c.args.page;
  entry = record {
    level = c.args.entry.now.level;
    rect = sym c.in-Some.is i;
    mask = c.args.entry.now.mask;
    count = c.args.entry.now.count;
    digest = c.args.entry.now.digest;
  };
}
