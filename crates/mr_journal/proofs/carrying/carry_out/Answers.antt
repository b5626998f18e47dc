use Rattle.std.proofs.Common.{rules}
use Rattle.mr_journal.specs.declared.disk.Area.TheVariants.{Map}
use Rattle.mr_journal.specs.Images.{InArea}
use Rattle.mr_journal.specs.Torn.{Torn}
use Rattle.mr_journal.specs.Format.{entries}
use Rattle.mr_journal.specs.private.Parsed.{places}
use Rattle.mr_journal.specs.private.Progress.{IsArmedBy, IsCarriedBy}
use Rattle.mr_journal.proofs.Running.{leads_err}
use Rattle.mr_journal.proofs.Gating.{armed_torn, carry_leads}
use Rattle.mr_journal.proofs.Quiet.{causes_then}
use Rattle.mr_journal.proofs.carrying.carry_out.Goals as goal

pub returns-in_err-put_entries-clause-armed : goal.returns-in_err-put_entries-clause-armed
returns-in_err-put_entries-clause-armed g c map =
    let e = c.in-Some.e in
    leads_err _ _ _ _ c.from_residual.result (InArea Map (Torn (places e.size (entries e.size e.count e.bytes.now))))
    (IsArmedBy c.args.body.now map) (IsArmedBy c.args.body.now map) (IsCarriedBy c.args.body.now map)
    (search rules) c.put_entries.ensures.moves
    (armed_torn c.args.body.now e.size e.count e.bytes.now c.in-Some.ensures map)

pub returns-clause-armed : goal.returns-clause-armed
returns-clause-armed g c =
    let e = c.in-Some.e in
    carry_leads _ _ _ _ _ _ c.args.body.now e.size e.count e.bytes.now c.sync.result c.in-Some.ensures
    (g.met.D.Disk.earlier c.put_entries.new.disk) (g.met.D.Disk.earlier c.sync.new.self)
    (g.met.D.Disk.counts c.args.disk.now)
    c.put_entries.ensures.moves c.in_ok-put_entries.ensures.written c.sync.ensures.passes.moves c.sync.ensures.contents
    c.sync.ensures.durable

pub returns-clause-causes : goal.returns-clause-causes
returns-clause-causes g c =
    causes_then _ _ _ c.in_ok-put_entries.field-0 c.sync.result c.in_ok-put_entries.ensures.causes
    c.sync.ensures.passes.causes
