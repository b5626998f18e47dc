use Rattle.std.proofs.Common.{length, take, drop, ap, ◌∙◌, arith, Some, None}
use Rattle.mr_pages.specs.PageBytes.{link_field}
use Rattle.mr_pages.specs.Walking.{child_link}
use Rattle.mr_pages.proofs.ManyReads.{many_stops, mapped_more, link_short, link_there}
use Rattle.mr_pages.proofs.page.node.read_children.Goals as goal

pub returns-then-rest-size : goal.returns-then-rest-size
returns-then-rest-size c =
    many_stops (link_field c.args.version c.args.level) c.loop-place.place-index
    (length c.args.places.now) c.args.bytes.now _ c.loop-place.rest.now
    c.loop-place.invariant (link_short c.args.version c.args.level c.loop-place.rest.now
    (omega (arith, c.if-rest-size.true, c.link_len-size.ensures))) c.loop-place-test.true

pub returns-in-None : goal.returns-in-None
returns-in-None c =
    many_stops (link_field c.args.version c.args.level) c.loop-place.place-index
    (length c.args.places.now) c.args.bytes.now _ c.loop-place.rest.now
    c.loop-place.invariant
    (link_there c.args.version c.args.level c.loop-place.rest.now c.split_at.result.0.now c.split_at.result.1.now None
    (omega (arith, c.if-rest-size.false, c.link_len-size.ensures))
    (c.split_at.ensures.front ∙ ap (λ n. take n c.loop-place.rest.now) c.link_len-size.ensures)
    (c.split_at.ensures.back ∙ ap (λ n. drop n c.loop-place.rest.now) c.link_len-size.ensures) c.in-None.ensures)
    c.loop-place-test.true

pub loop-place-preserved : goal.loop-place-preserved
loop-place-preserved c =
    mapped_more child_link (link_field c.args.version c.args.level) c.loop-place.place-index c.args.bytes.now
    c.loop-place.places
    c.loop-place.rest.now c.in-Some.child c.split_at.result.1.now
    (omega arith) c.loop-place.invariant
    (link_there c.args.version c.args.level c.loop-place.rest.now c.split_at.result.0.now c.split_at.result.1.now
    (Some (child_link c.in-Some.child)) (omega (arith, c.if-rest-size.false, c.link_len-size.ensures))
    (c.split_at.ensures.front ∙ ap (λ n. take n c.loop-place.rest.now) c.link_len-size.ensures)
    (c.split_at.ensures.back ∙ ap (λ n. drop n c.loop-place.rest.now) c.link_len-size.ensures)
    c.in-Some.ensures)
