use Rattle.std.proofs.Common.{◌≡◌, take}
use Rattle.std.specs.Prelude.{◌==◌}
use Rattle.mr_pages.specs.PageBytes.{are_zeros}
use Rattle.mr_pages.proofs.page.put.greatest.Given as goal

-- it is 0 where all bytes so far are
abbrev pub invariant-loop-byte : goal.invariant-loop-byte
invariant-loop-byte l = (l.most == 0) ≡ are_zeros (take l.byte-index l.bytes)
