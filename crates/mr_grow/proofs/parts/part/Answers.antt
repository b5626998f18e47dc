use Rattle.std.proofs.Common.{◌≡◌, false, length, get_or, sym, ap, ◌∙◌, arith, rules}
use Rattle.std.proofs.lemmas.List.{length_push, map-id}
use Rattle.std.proofs.lemmas.Iterator.Adapters.{YieldsList-from_vec}
use Rattle.std.proofs.lemmas.Iterator.Consumers.{YieldsList-end}
use Rattle.mr_grow.specs.Parts.{first_part, second_part}
use Rattle.mr_grow.proofs.Cutting.{first_none, second_none, first_kept, second_kept}
use Rattle.mr_grow.proofs.parts.part.Goals as goal

pub loop-item-init : goal.loop-item-init
loop-item-init g c = record {
  count = omega arith;
  first = c.new-first.ensures.items ∙ sym (first_none c.args.sides.now);
  second = c.new-second.ensures.items ∙ sym (second_none c.args.sides.now);
}

pub loop-item-preserved : goal.loop-item-preserved
loop-item-preserved g c =
    let at : c.is_second.result ≡ get_or c.args.sides.now (length c.loop-item.yielded) false = c.is_second.ensures
    ∙ ap (λ n. get_or c.args.sides.now n false) c.loop-item.invariant.count in
    record {
      count = omega (arith, c.loop-item.invariant.count, length_push c.loop-item.yielded c.in-Some.item);
      first = first_kept c.args.sides.now c.loop-item.yielded c.in-Some.item c.loop-item.first.items
          c.put.new.first.items c.is_second.result at c.loop-item.invariant.first c.in_ok-put.ensures.first;
      second = second_kept c.args.sides.now c.loop-item.yielded c.in-Some.item c.loop-item.second.items
          c.put.new.second.items c.is_second.result at c.loop-item.invariant.second c.in_ok-put.ensures.second;
    }

pub returns : goal.returns
returns g c =
    let t = YieldsList-end (YieldsList-from_vec c.args.items.items (search rules) (search rules)) c.loop-item.yielded
    c.loop-item.item-iterator c.loop-item.yielded_by c.next.result c.next.new.self c.in-None.is c.next.ensures.steps in
    let all = sym (map-id c.loop-item.yielded) ∙ t.0 in
    record {
      first = c.loop-item.invariant.first ∙ ap (first_part c.args.sides.now) all;
      second = c.loop-item.invariant.second ∙ ap (second_part c.args.sides.now) all;
    }
