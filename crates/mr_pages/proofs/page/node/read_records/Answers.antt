use Rattle.std.proofs.Common.{length, arith, sym, ap, ◌∙◌, Some, List, ℕ}
use Rattle.mr_pages.specs.PageBytes.{found_record, record_field}
use Rattle.mr_pages.proofs.ManyReads.{many_stops, placed_more}
use Rattle.mr_pages.proofs.page.node.read_records.Goals as goal

pub returns-in-Err : goal.returns-in-Err
returns-in-Err c =
    many_stops (record_field c.args.version) c.loop-place.place-index (length c.args.places.now) c.args.bytes.now _
    c.loop-place.rest.now
    c.loop-place.invariant (ap (found_record c.loop-place.rest.now) (sym c.in-Err.ensures.exact)) c.loop-place-test.true

pub loop-place-preserved : goal.loop-place-preserved
loop-place-preserved c =
    placed_more (record_field c.args.version) c.loop-place.place-index c.args.bytes.now c.loop-place.places
    c.loop-place.rest.now
    c.in-Ok.record c.split_at.result.1.now
    (omega arith) c.loop-place.invariant
    (ap (found_record c.loop-place.rest.now) (sym c.in-Ok.ensures.exact)
    ∙ ap (λ (t : List ℕ). Some (c.in-Ok.record, t)) (sym c.split_at.ensures.back))
