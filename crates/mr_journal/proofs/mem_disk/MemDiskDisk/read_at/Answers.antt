use Rattle.std.proofs.Common.{◌∙◌, ap, Some, arith}
use Rattle.mr_journal.specs.declared.mem_disk.Call.TheVariants.{Asked}
use Rattle.mr_journal.specs.declared.disk.DiskErr.TheVariants.{Fault}
use Rattle.mr_journal.specs.Images.{Unchanged}
use Rattle.mr_journal.specs.MemoryDisk.{first_image}
use Rattle.mr_journal.proofs.Replaying.{kept_passes, kept_stays, kept_held, asked_steps, asked_held, rose_next, more_next, no_fault}
use Rattle.mr_journal.proofs.mem_disk.MemDiskDisk.read_at.Goals as goal

pub returns-then-next_fails-clause-contents : goal.returns-then-next_fails-clause-contents
returns-then-next_fails-clause-contents c =
    ap Some (kept_held c.args.self.now.map.items c.args.self.now.journal.items c.keep.new.self.map.items
    c.keep.new.self.journal.items c.args.self.now.calls.items c.keep.new.self.calls.items Asked
    c.in_ok-keep.ensures.first.0 c.in_ok-keep.ensures.first.1 c.in_ok-keep.ensures.kept
    ∙ asked_held (first_image c.args.self.now.map.items c.args.self.now.journal.items) c.args.self.now.calls.items)

pub returns-then-next_fails-clause-passes : goal.returns-then-next_fails-clause-passes
returns-then-next_fails-clause-passes c =
    kept_passes c.args.self.now.map.items c.args.self.now.journal.items c.keep.new.self.map.items
    c.keep.new.self.journal.items c.args.self.now.calls.items c.keep.new.self.calls.items Asked c.args.self.now.faults
    c.keep.new.self.faults _ Unchanged
    c.in_ok-keep.ensures.first.0 c.in_ok-keep.ensures.first.1 c.in_ok-keep.ensures.kept
    (asked_steps (first_image c.args.self.now.map.items c.args.self.now.journal.items) c.args.self.now.calls.items)
    (λ e. rose_next _ _ c.in_ok-keep.ensures.counted) (more_next _ _ c.in_ok-keep.ensures.counted)
    (λ x e. absurd (cc))

pub returns-clause-contents : goal.returns-clause-contents
returns-clause-contents c =
    ap Some (kept_held c.args.self.now.map.items c.args.self.now.journal.items c.keep-2.new.self.map.items
    c.keep-2.new.self.journal.items c.args.self.now.calls.items c.keep-2.new.self.calls.items Asked
    c.in_ok-keep-2.ensures.first.0 c.in_ok-keep-2.ensures.first.1 c.in_ok-keep-2.ensures.kept
    ∙ asked_held (first_image c.args.self.now.map.items c.args.self.now.journal.items) c.args.self.now.calls.items)

pub returns-clause-passes : goal.returns-clause-passes
returns-clause-passes c =
    kept_passes c.args.self.now.map.items c.args.self.now.journal.items c.keep-2.new.self.map.items
    c.keep-2.new.self.journal.items c.args.self.now.calls.items c.keep-2.new.self.calls.items Asked
    c.args.self.now.faults c.keep-2.new.self.faults _ Unchanged
    c.in_ok-keep-2.ensures.first.0 c.in_ok-keep-2.ensures.first.1 c.in_ok-keep-2.ensures.kept
    (asked_steps (first_image c.args.self.now.map.items c.args.self.now.journal.items) c.args.self.now.calls.items)
    (λ e. absurd (no_fault _ Fault e)) (omega (arith, c.in_ok-keep-2.ensures.counted))
    (λ x e. c.in_ok-keep-2.ensures.counted)

pub returns-then-next_fails-clause-stays : goal.returns-then-next_fails-clause-stays
returns-then-next_fails-clause-stays c =
    kept_stays c.args.self.now.map.items c.args.self.now.journal.items c.keep.new.self.map.items
    c.keep.new.self.journal.items c.args.self.now.calls.items c.keep.new.self.calls.items c.args.self.now.faults
    c.keep.new.self.faults c.in_ok-keep.ensures.first.0 c.in_ok-keep.ensures.first.1 c.in_ok-keep.ensures.kept

pub returns-clause-stays : goal.returns-clause-stays
returns-clause-stays c =
    kept_stays c.args.self.now.map.items c.args.self.now.journal.items c.keep-2.new.self.map.items
    c.keep-2.new.self.journal.items c.args.self.now.calls.items c.keep-2.new.self.calls.items c.args.self.now.faults
    c.keep-2.new.self.faults c.in_ok-keep-2.ensures.first.0 c.in_ok-keep-2.ensures.first.1 c.in_ok-keep-2.ensures.kept
