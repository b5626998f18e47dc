use Rattle.std.proofs.Common.{◌≡◌, ◌<◌, ◌-◌, ◌++◌, [], length, map, reverse, take, drop, sym, ap, ◌∙◌, arith, length-take-le}
use Rattle.std.specs.Global.{Vec}
use Rattle.std.proofs.lemmas.List.{append-nil, take_all, take-take}
use Rattle.mr_pack.specs.Cuts.{parts, group_start}
use Rattle.mr_pack.proofs.Cuts.{cut_more, map_reversed}
use Rattle.mr_pack.proofs.Numbers.{start_reaches, start_between, start_within}
use Rattle.mr_pack.proofs.grouping.cut.Goals as goal

pub loop-group-init : goal.loop-group-init
loop-group-init g c =
    let n : c.len-count.result ≡ length c.args.items.items = omega arith in
    let none : reverse (map (λ (v : Vec g.row.T.Denot). v.items) c.in_ok-cut.cut.items) ≡ [] =
    ap (λ vs. reverse (map (λ (v : Vec g.row.T.Denot). v.items) vs)) c.in_ok-cut.ensures.items in
    let starts = group_start c.len-count.result c.args.groups in
    record {
      left =
          sym (take_all _ c.args.items.items
          (omega (arith, start_reaches c.len-count.result c.args.groups (λ h. c.requires.some (omega arith)))));
      done = sym (ap (λ ys. parts starts c.args.groups c.args.items.items ++ ys) none ∙ append-nil _);
    }

pub split_off-requires : goal.split_off-requires
split_off-requires g c =
    let n : c.len-count.result ≡ length c.args.items.items = omega arith in
    let some : 0 < c.args.groups = omega arith in
    let low = start_between c.len-count.result c.args.groups (c.loop-group.group - 1) c.loop-group.group some
    (omega arith) in
    let high = start_within c.len-count.result c.args.groups c.loop-group.group some (omega arith) in
    let size = ap length c.loop-group.invariant.left
    ∙ length-take-le (group_start c.len-count.result c.args.groups c.loop-group.group) c.args.items.items
    (omega arith) in
    omega (arith, low, size, c.group_start-start.ensures)

pub loop-group-preserved : goal.loop-group-preserved
loop-group-preserved g c =
    let some : 0 < c.args.groups = omega arith in
    let starts = group_start c.len-count.result c.args.groups in
    let low = start_between c.len-count.result c.args.groups (c.loop-group.group - 1) c.loop-group.group some
    (omega arith) in
    let start = c.group_start-start.ensures in
    record {
      left =
          c.in_ok-split_off.ensures.items
          ∙ (λ i. take (start i) (c.loop-group.invariant.left i))
          ∙ take-take (starts (c.loop-group.group - 1)) (starts c.loop-group.group) c.args.items.items low;
      done =
          cut_more (λ (v : Vec g.row.T.Denot). v.items) starts (c.loop-group.group - 1) c.loop-group.group
          c.args.items.items c.loop-group.items.items
          c.in_ok-split_off.field-0 c.loop-group.cut.items _ (omega arith) c.loop-group.invariant.done
          c.loop-group.invariant.left
          (c.in_ok-split_off.ensures.tail ∙ ap (λ n. drop n c.loop-group.items.items) start)
          ∙ ap (λ vs. parts starts (c.loop-group.group - 1) c.args.items.items ++ reverse
          (map (λ (v : Vec g.row.T.Denot). v.items) vs)) (sym c.in_ok-push.ensures.items);
    }

pub returns : goal.returns
returns g c =
    let starts = group_start c.len-count.result c.args.groups in
    let items = λ (v : Vec g.row.T.Denot). v.items in
    let n : c.len-count.result ≡ length c.args.items.items = omega arith in
    let end : c.loop-group.group ≡ 0 = omega arith in
    ap (map items) c.reverse.ensures.items
    ∙ map_reversed items c.loop-group.cut.items
    ∙ sym (c.loop-group.invariant.done
    ∙ ap (λ k. parts starts k c.args.items.items ++ reverse (map items c.loop-group.cut.items)) end)
    ∙ ap (λ k. parts (group_start k c.args.groups) c.args.groups c.args.items.items) n
