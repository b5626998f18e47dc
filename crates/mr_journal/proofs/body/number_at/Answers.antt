use Rattle.std.proofs.Common.{◌+◌, ◌*◌, sym, ◌∙◌}
use Rattle.mr_journal.proofs.Paging.{number_short, number_four}
use Rattle.mr_journal.proofs.body.number_at.Goals as goal

pub returns-in_default : goal.returns-in_default
returns-in_default c = sym (number_short c.args.bytes.now c.in_default.len_below)

pub returns-in-len4-up : goal.returns-in-len4-up
returns-in-len4-up c =
    (λ i. c.from.ensures i * 16777216 + c.from-in-len4-up.ensures i * 65536 + c.from-in-len4-up-2.ensures
    i * 256 + c.from-in-len4-up-3.ensures i)
    ∙ number_four c.args.bytes.now c.in-len4-up.len_at_least
