use Rattle.std.proofs.Common.{take, length, ap, sym, ◌∙◌}
use Rattle.mr_journal.specs.declared.disk.Area.TheVariants.{Map, Journal}
use Rattle.mr_journal.specs.MemoryDisk.{area_after}
use Rattle.mr_journal.specs.private.Traced.{trace_of}
use Rattle.mr_journal.specs.private.MemoryLaws.{fine_stored}
use Rattle.mr_journal.proofs.Picking.{picked_at, picked_may}
use Rattle.mr_journal.proofs.mem_disk.MemDisk.crash.Goals as goal

pub returns-clause-map : goal.returns-clause-map
returns-clause-map c =
    picked_at c.args.pick Map c.args.self.now.map.items c.deref.result.now c.args.self.now.calls.items
    c.as_slice.result.now c.split_at.result.0.now c.args.step c.min-count.result c.len.result (trace_of c.in_ok-map.map)
    c.in_ok-map-2.map.items
    c.in_ok-map.ensures c.deref.ensures.value c.split_at.ensures.front c.as_slice.ensures.value c.min-count.ensures
    (c.len.ensures ∙ sym c.as_slice.ensures.len ∙ ap length c.as_slice.ensures.value) c.in_ok-map-2.ensures

pub returns-clause-journal : goal.returns-clause-journal
returns-clause-journal c =
    picked_at c.args.pick Journal c.args.self.now.journal.items c.deref-2.result.now c.args.self.now.calls.items
    c.as_slice.result.now c.split_at.result.0.now c.args.step c.min-count.result c.len.result
    (trace_of c.in_ok-journal.journal) c.in_ok-journal-2.journal.items
    c.in_ok-journal.ensures c.deref-2.ensures.value c.split_at.ensures.front c.as_slice.ensures.value
    c.min-count.ensures (c.len.ensures ∙ sym c.as_slice.ensures.len ∙ ap length c.as_slice.ensures.value)
    c.in_ok-journal-2.ensures

pub returns-clause-image : goal.returns-clause-image
returns-clause-image c =
    let calls = take c.args.step c.args.self.now.calls.items in (
      picked_may c.args.pick (area_after Map c.args.self.now.map.items calls) c.in_ok-map-2.map.items
          (fine_stored Map c.args.self.now.map.items calls) (returns-clause-map c),
      picked_may c.args.pick (area_after Journal c.args.self.now.journal.items calls) c.in_ok-journal-2.journal.items
          (fine_stored Journal c.args.self.now.journal.items calls) (returns-clause-journal c),
    )
