use Rattle.std.proofs.Common.{◌∙◌, ℕ, List, length, refl, ◌++◌, ◌∷◌, [], ap, Some, true, false, arith}
use Rattle.mr_journal.specs.declared.disk.DiskErr.TheVariants.{Fault}
use Rattle.mr_journal.specs.Images.{InArea}
use Rattle.mr_journal.specs.Torn.{TornAt}
use Rattle.mr_journal.specs.Images.{written}
use Rattle.mr_journal.specs.MemoryDisk.{first_image, carried_out, contents_after}
use Rattle.mr_journal.specs.private.Traced.{write_call}
use Rattle.mr_journal.proofs.Replaying.{kept_passes, kept_held, untouched, wrote_steps_at, wrote_held, written_torn, rose_next, more_next, no_fault}
use Rattle.mr_journal.specs.private.MemoryLaws.{carried_out_short}
use Rattle.mr_journal.proofs.mem_disk.MemDiskDisk.write_at.Goals as goal

pub returns-in_err-bytes-clause-refused : goal.returns-in_err-bytes-clause-refused
returns-in_err-bytes-clause-refused c =
    untouched c.args.area c.args.at (length c.args.bytes.now) c.args.self.now.map.items c.args.self.now.journal.items
    c.args.self.now.map.items c.args.self.now.journal.items c.args.self.now.calls.items c.args.self.now.calls.items
    c.from_residual.result refl refl refl

pub returns-in_err-keep-clause-refused : goal.returns-in_err-keep-clause-refused
returns-in_err-keep-clause-refused c =
    untouched c.args.area c.args.at (length c.args.bytes.now) c.args.self.now.map.items c.args.self.now.journal.items
    c.keep.new.self.map.items c.keep.new.self.journal.items c.args.self.now.calls.items c.keep.new.self.calls.items
    c.from_residual-in_err-keep.result c.in_err-keep.ensures.first.0 c.in_err-keep.ensures.first.1
    c.in_err-keep.ensures.refused.0

pub returns-in_err-keep-2-clause-refused : goal.returns-in_err-keep-2-clause-refused
returns-in_err-keep-2-clause-refused c =
    untouched c.args.area c.args.at (length c.args.bytes.now) c.args.self.now.map.items c.args.self.now.journal.items
    c.keep-2.new.self.map.items c.keep-2.new.self.journal.items c.args.self.now.calls.items
    c.keep-2.new.self.calls.items c.from_residual-in_err-keep-2.result c.in_err-keep-2.ensures.first.0
    c.in_err-keep-2.ensures.first.1 c.in_err-keep-2.ensures.refused.0

pub returns-then-next_fails-clause-passes : goal.returns-then-next_fails-clause-passes
returns-then-next_fails-clause-passes c =
    kept_passes c.args.self.now.map.items c.args.self.now.journal.items c.keep.new.self.map.items
    c.keep.new.self.journal.items c.args.self.now.calls.items c.keep.new.self.calls.items
    (write_call c.args.area c.args.at c.in_ok-bytes.bytes false) c.args.self.now.faults c.keep.new.self.faults _
    (InArea c.args.area (TornAt c.args.at (length c.args.bytes.now)))
    c.in_ok-keep.ensures.first.0 c.in_ok-keep.ensures.first.1
    (c.in_ok-keep.ensures.kept ∙ ap (λ w. c.args.self.now.calls.items ++ w ∷ []) c.write_of.ensures)
    (wrote_steps_at (first_image c.args.self.now.map.items c.args.self.now.journal.items) c.args.self.now.calls.items
    c.args.area c.args.at c.in_ok-bytes.bytes false (length c.args.bytes.now) (ap length c.in_ok-bytes.ensures.items))
    (λ e. rose_next _ _ c.in_ok-keep.ensures.counted) (more_next _ _ c.in_ok-keep.ensures.counted)
    (λ x e. absurd (cc))

pub returns-clause-passes : goal.returns-clause-passes
returns-clause-passes c =
    kept_passes c.args.self.now.map.items c.args.self.now.journal.items c.keep-2.new.self.map.items
    c.keep-2.new.self.journal.items c.args.self.now.calls.items c.keep-2.new.self.calls.items
    (write_call c.args.area c.args.at c.in_ok-bytes.bytes true) c.args.self.now.faults c.keep-2.new.self.faults _
    (InArea c.args.area (TornAt c.args.at (length c.args.bytes.now)))
    c.in_ok-keep-2.ensures.first.0 c.in_ok-keep-2.ensures.first.1
    (c.in_ok-keep-2.ensures.kept ∙ ap (λ w. c.args.self.now.calls.items ++ w ∷ []) c.write_of-2.ensures)
    (wrote_steps_at (first_image c.args.self.now.map.items c.args.self.now.journal.items) c.args.self.now.calls.items
    c.args.area c.args.at c.in_ok-bytes.bytes true (length c.args.bytes.now) (ap length c.in_ok-bytes.ensures.items))
    (λ e. absurd (no_fault _ Fault e)) (omega (arith, c.in_ok-keep-2.ensures.counted))
    (λ x e. c.in_ok-keep-2.ensures.counted)

pub returns-clause-written : goal.returns-clause-written
returns-clause-written c =
    let e = c.in_ok-keep-2.ensures in
    ap Some (kept_held c.args.self.now.map.items c.args.self.now.journal.items c.keep-2.new.self.map.items
    c.keep-2.new.self.journal.items c.args.self.now.calls.items c.keep-2.new.self.calls.items
    (write_call c.args.area c.args.at c.in_ok-bytes.bytes true) e.first.0 e.first.1
    (c.in_ok-keep-2.ensures.kept ∙ ap (λ w. c.args.self.now.calls.items ++ w ∷ []) c.write_of-2.ensures)
    ∙ wrote_held (first_image c.args.self.now.map.items c.args.self.now.journal.items) c.args.self.now.calls.items
    c.args.area c.args.at c.in_ok-bytes.bytes true
    ∙ ap (λ (l : List ℕ). written c.args.area c.args.at l
    (contents_after (first_image c.args.self.now.map.items c.args.self.now.journal.items) c.args.self.now.calls.items))
    c.in_ok-bytes.ensures.items)

pub returns-then-next_fails-clause-refused : goal.returns-then-next_fails-clause-refused
returns-then-next_fails-clause-refused c =
    let e = c.in_ok-keep.ensures in
    let k = contents_after (first_image c.args.self.now.map.items c.args.self.now.journal.items)
    c.args.self.now.calls.items in
    let half = carried_out false c.in_ok-bytes.bytes.items in (
      written c.args.area c.args.at half k,
      ap Some (kept_held c.args.self.now.map.items c.args.self.now.journal.items c.keep.new.self.map.items
          c.keep.new.self.journal.items c.args.self.now.calls.items c.keep.new.self.calls.items
          (write_call c.args.area c.args.at c.in_ok-bytes.bytes false) e.first.0 e.first.1
          (c.in_ok-keep.ensures.kept ∙ ap (λ w. c.args.self.now.calls.items ++ w ∷ []) c.write_of.ensures)
          ∙ wrote_held (first_image c.args.self.now.map.items c.args.self.now.journal.items) c.args.self.now.calls.items
          c.args.area c.args.at c.in_ok-bytes.bytes false),
      written_torn c.args.area c.args.at (length c.args.bytes.now) half k
          (omega (arith, carried_out_short false c.in_ok-bytes.bytes.items, ap length c.in_ok-bytes.ensures.items)),
    )
