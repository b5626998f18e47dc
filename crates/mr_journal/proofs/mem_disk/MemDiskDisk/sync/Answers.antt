use Rattle.std.proofs.Common.{◌∙◌, ap, Some, arith}
use Rattle.mr_journal.specs.declared.mem_disk.Call.TheVariants.{Asked, Synced}
use Rattle.mr_journal.specs.declared.disk.DiskErr.TheVariants.{Fault}
use Rattle.mr_journal.specs.Images.{Unchanged}
use Rattle.mr_journal.specs.MemoryDisk.{first_image}
use Rattle.mr_journal.proofs.Replaying.{kept_passes, kept_held, kept_durable, asked_steps, asked_held, synced_steps, synced_held, rose_next, more_next, no_fault}
use Rattle.mr_journal.proofs.mem_disk.MemDiskDisk.sync.Goals as goal

pub returns-then-next_fails-clause-contents : goal.returns-then-next_fails-clause-contents
returns-then-next_fails-clause-contents c =
    ap Some (kept_held c.args.self.now.map.items c.args.self.now.journal.items c.keep.new.self.map.items
    c.keep.new.self.journal.items c.args.self.now.calls.items c.keep.new.self.calls.items Asked
    c.in_ok-keep.ensures.first.0 c.in_ok-keep.ensures.first.1 c.in_ok-keep.ensures.kept
    ∙ asked_held (first_image c.args.self.now.map.items c.args.self.now.journal.items) c.args.self.now.calls.items)

pub returns-then-next_fails-clause-passes : goal.returns-then-next_fails-clause-passes
returns-then-next_fails-clause-passes c =
    kept_passes c.args.self.now.map.items c.args.self.now.journal.items c.keep.new.self.map.items
    c.keep.new.self.journal.items c.args.self.now.calls.items c.keep.new.self.calls.items Asked c.args.self.now.faults
    c.keep.new.self.faults _ Unchanged
    c.in_ok-keep.ensures.first.0 c.in_ok-keep.ensures.first.1 c.in_ok-keep.ensures.kept
    (asked_steps (first_image c.args.self.now.map.items c.args.self.now.journal.items) c.args.self.now.calls.items)
    (λ e. rose_next _ _ c.in_ok-keep.ensures.counted) (more_next _ _ c.in_ok-keep.ensures.counted)
    (λ x e. absurd (cc))

pub returns-clause-durable : goal.returns-clause-durable
returns-clause-durable c =
    let e = c.in_ok-keep-2.ensures in
    kept_durable c.args.self.now.map.items c.args.self.now.journal.items c.keep-2.new.self.map.items
    c.keep-2.new.self.journal.items c.args.self.now.calls.items c.keep-2.new.self.calls.items c.args.area
    c.keep-2.new.self.faults
    e.first.0 e.first.1 e.kept

pub returns-clause-contents : goal.returns-clause-contents
returns-clause-contents c =
    ap Some (kept_held c.args.self.now.map.items c.args.self.now.journal.items c.keep-2.new.self.map.items
    c.keep-2.new.self.journal.items c.args.self.now.calls.items c.keep-2.new.self.calls.items (Synced c.args.area)
    c.in_ok-keep-2.ensures.first.0 c.in_ok-keep-2.ensures.first.1 c.in_ok-keep-2.ensures.kept
    ∙ synced_held (first_image c.args.self.now.map.items c.args.self.now.journal.items)
    c.args.self.now.calls.items c.args.area)

pub returns-clause-passes : goal.returns-clause-passes
returns-clause-passes c =
    kept_passes c.args.self.now.map.items c.args.self.now.journal.items c.keep-2.new.self.map.items
    c.keep-2.new.self.journal.items c.args.self.now.calls.items c.keep-2.new.self.calls.items (Synced c.args.area)
    c.args.self.now.faults c.keep-2.new.self.faults _ Unchanged
    c.in_ok-keep-2.ensures.first.0 c.in_ok-keep-2.ensures.first.1 c.in_ok-keep-2.ensures.kept
    (synced_steps (first_image c.args.self.now.map.items c.args.self.now.journal.items) c.args.self.now.calls.items
    c.args.area) (λ e. absurd (no_fault _ Fault e)) (omega (arith, c.in_ok-keep-2.ensures.counted))
    (λ x e. c.in_ok-keep-2.ensures.counted)
