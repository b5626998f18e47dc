use Rattle.std.proofs.Common.{length, ap, ◌∙◌, arith}
use Rattle.std.specs.List.{range_with_len}
use Rattle.mr_pack.proofs.Remains.{all_indexed, all_numbered}
use Rattle.mr_pack.proofs.gathering.whole.Goals as goal

pub returns-clause-indexed : goal.returns-clause-indexed
returns-clause-indexed g c =
    all_indexed (length c.args.items.items) c.in_ok-numbers.numbers.items c.in_ok-places.places.items
    (c.in_ok-numbers.ensures ∙ ap (range_with_len 0) (omega arith))
    (c.in_ok-places.ensures ∙ ap (range_with_len 0) (omega arith))

pub returns-clause-numbered : goal.returns-clause-numbered
returns-clause-numbered g c =
    all_numbered c.args.items.items c.in_ok-numbers.numbers.items
    (c.in_ok-numbers.ensures ∙ ap (range_with_len 0) (omega arith))
