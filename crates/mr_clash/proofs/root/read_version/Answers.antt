use Rattle.std.proofs.Common.{sym, ◌∙◌}
use Rattle.mr_record.specs.Version.{version_byte}
use Rattle.mr_clash.proofs.Versions.{two_is, one_is}
use Rattle.mr_clash.proofs.root.read_version.Goals as goal

pub returns-then-byte-eq2 : goal.returns-then-byte-eq2
returns-then-byte-eq2 c = λ v rest is.
    let b = c.byte.ensures (version_byte v) rest is in (two_is v (sym b.0 ∙ c.if-byte-eq2.true), b.1)

pub returns-else-byte-eq2 : goal.returns-else-byte-eq2
returns-else-byte-eq2 c = λ v rest is.
    let b = c.byte.ensures (version_byte v) rest is in (one_is v (λ e. c.if-byte-eq2.false (b.0 ∙ e)), b.1)
