use Rattle.std.proofs.Common.{◌++◌, take, ap, ◌∙◌, arith, length}
use Rattle.mr_pages.proofs.ViewPages.{links_more}
use Rattle.mr_pages.proofs.page.node.put_children.Goals as goal

pub loop-child-preserved : goal.loop-child-preserved
loop-child-preserved c = record {
  place = omega (
    arith,
    c.put-place.ensures.place,
    c.loop-child.invariant.place,
    ap length c.as_slice.ensures.bytes,
    c.encoded_link.ensures.size,
  );
  bytes = c.put-place.ensures.bytes
      ∙ (λ i. c.loop-child.invariant.bytes i ++ (c.as_slice.ensures.bytes ∙ c.encoded_link.ensures.bytes) i)
      ∙ links_more c.args.version c.args.children.now c.loop-child.child-index c.child-item.result
      (take c.args.at c.args.page.now) c.loop-child-test.true c.child-item.is;
}
