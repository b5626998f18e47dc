use Rattle.std.proofs.Common.{◌-◌, ◌≤◌, length, arith, ◌∙◌}
use Rattle.std.proofs.KnownBytes.{Consumes-trans}
use Rattle.mr_system.proofs.InPlace.{take-put_mid_within, drop-put_mid_within, drop-further}
use Rattle.mr_system.proofs.std_shelf.fill.Goals as goal

pub loop-count-preserved : goal.loop-count-preserved
loop-count-preserved g c =
    let fits : c.in_ok-more.more ≤ length c.read_chunk.new.into = omega (arith, c.in_ok-more.ensures.within) in
    record {
      within = omega (arith, c.in_ok-more.ensures.within);
      bytes = rw
          (take-put_mid_within c.loop-count.count (length c.loop-count.into - c.loop-count.count) c.in_ok-more.more
          c.loop-count.into c.read_chunk.new.into (omega arith) fits)
          (Consumes-trans _ _ _ _ _ c.loop-count.invariant.bytes c.in_ok-more.ensures.bytes);
      rest = drop-put_mid_within c.loop-count.count (length c.loop-count.into - c.loop-count.count) c.in_ok-more.more
          c.loop-count.into c.read_chunk.new.into (omega arith) fits c.read_chunk.auto.into c.in_ok-more.ensures.rest
          ∙ drop-further c.loop-count.count c.in_ok-more.more _ _ c.loop-count.invariant.rest;
    }
