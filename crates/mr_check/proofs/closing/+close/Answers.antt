use Rattle.std.proofs.Common.{◌-◌, ◌+◌, ◌<◌, ◌≤◌, ◌^◌, vec_len, List, reverse, sym, arith, rules, ◌∙◌, subst}
use Rattle.mr_check.specs.declared.frame.Frame.{Frame}
use Rattle.mr_check.specs.private.Machine.{frames_of, counts_of, HasReadCut}
use Rattle.mr_check.proofs.Counted.{counts_popped, counts_none}
use Rattle.mr_check.proofs.OnTop.{as_before, last_taken}
use Rattle.mr_check.proofs.Nodes.{closed_root, closed_child, missed_parent, closed_parent}
use Rattle.mr_check.proofs.closing.+close.Goals as goal

pub returns-in-None-clause-closes : goal.returns-in-None-clause-closes
returns-in-None-clause-closes g t c = λ given os P r.
    closed_root g.H.Hashes.of g.H.Hashes.holds (g.A.AsQuestion.question c.args.q.now) c.args.m.now c.pop.new.stack
    c.args.node.now given os P
    (subst (λ (fs : List (Frame _)). HasReadCut g.H.Hashes.of g.H.Hashes.holds (g.A.AsQuestion.question c.args.q.now)
    c.args.m.now.head fs
    c.args.m.now.tally c.args.node.now given os P)
    (as_before _ _ _ (c.goes_on.ensures.same c.if-goes_on.false) c.in-None.ensures.0) r)

pub returns-then-goes_on-clause-closes : goal.returns-then-goes_on-clause-closes
returns-then-goes_on-clause-closes g t c = λ given os P r.
    let on = c.goes_on.ensures.adds c.if-goes_on.true in
    closed_child g.H.Hashes.of g.H.Hashes.holds (g.A.AsQuestion.question c.args.q.now) c.args.m.now
    c.goes_on.new.stack on.top on.node on.others c.args.node.now given os P on.adds on.some on.now
    (subst (λ (fs : List (Frame _)). HasReadCut g.H.Hashes.of g.H.Hashes.holds (g.A.AsQuestion.question c.args.q.now)
    c.args.m.now.head fs
    c.args.m.now.tally c.args.node.now given os P) on.was r)

pub returns-then-not-is_to_be_opened-clause-closes : goal.returns-then-not-is_to_be_opened-clause-closes
returns-then-not-is_to_be_opened-clause-closes g t c = λ given os P r.
    missed_parent g.H.Hashes.of g.H.Hashes.holds (g.A.AsQuestion.question c.args.q.now) c.args.m.now.head
    c.args.m.now.tally c.in-Some.frame
    c.add_entry.new.self (reverse c.pop.new.stack.list.items) c.args.node.now c.close-parent.result given os P
    c.add_entry.ensures.gathers
    (last_taken (frames_of c.args.m.now) (reverse c.pop.new.stack.list.items) c.in-Some.frame
    (c.goes_on.ensures.last c.if-goes_on.false)
    (as_before _ _ _ (c.goes_on.ensures.same c.if-goes_on.false) c.in-Some.ensures.0))
    (record {
      level = c.close-parent.ensures.level;
      rect = c.close-parent.ensures.rect;
      mask = c.close-parent.ensures.mask;
      count = c.close-parent.ensures.count;
      digest =
          c.close-parent.ensures.digest;
    })
    (sym c.is_to_be_opened.ensures ∙ c.if-not-is_to_be_opened.true)
    (subst (λ (fs : List (Frame _)). HasReadCut g.H.Hashes.of g.H.Hashes.holds (g.A.AsQuestion.question c.args.q.now)
    c.args.m.now.head fs
    c.args.m.now.tally c.args.node.now given os P)
    (as_before _ _ _ (c.goes_on.ensures.same c.if-goes_on.false) c.in-Some.ensures.0) r)

pub returns-else-not-is_to_be_opened-clause-closes : goal.returns-else-not-is_to_be_opened-clause-closes
returns-else-not-is_to_be_opened-clause-closes g t c = λ given os P r.
    closed_parent g.H.Hashes.of g.H.Hashes.holds (g.A.AsQuestion.question c.args.q.now) c.args.m.now.head
    c.args.m.now.tally c.close.new.m
    c.in-Some.frame c.add_entry.new.self (reverse c.pop.new.stack.list.items) c.args.node.now c.close-parent.result
    given c.close.result os P c.add_entry.ensures.gathers
    (last_taken (frames_of c.args.m.now) (reverse c.pop.new.stack.list.items) c.in-Some.frame
    (c.goes_on.ensures.last c.if-goes_on.false)
    (as_before _ _ _ (c.goes_on.ensures.same c.if-goes_on.false) c.in-Some.ensures.0))
    (record {
      level = c.close-parent.ensures.level;
      rect = c.close-parent.ensures.rect;
      mask = c.close-parent.ensures.mask;
      count = c.close-parent.ensures.count;
      digest =
          c.close-parent.ensures.digest;
    })
    (sym c.is_to_be_opened.ensures ∙ c.if-not-is_to_be_opened.false) (c.close.ensures.closes given)
    (subst (λ (fs : List (Frame _)). HasReadCut g.H.Hashes.of g.H.Hashes.holds (g.A.AsQuestion.question c.args.q.now)
    c.args.m.now.head fs
    c.args.m.now.tally c.args.node.now given os P)
    (as_before _ _ _ (c.goes_on.ensures.same c.if-goes_on.false) c.in-Some.ensures.0) r)

-- ---- how many records are counted

pub add_entry-requires : goal.add_entry-requires
add_entry-requires g t c = record {
  few = omega (
    arith,
    c.requires.few,
    counts_popped (frames_of c.args.m.now) (reverse c.pop.new.stack.list.items) c.in-Some.frame
        (as_before _ _ _ (c.goes_on.ensures.same c.if-goes_on.false) c.in-Some.ensures.0),
  );
}

pub returns-in-None-clause-few : goal.returns-in-None-clause-few
returns-in-None-clause-few g t c = omega (arith, counts_none (reverse c.pop.new.stack.list.items) c.in-None.ensures.1)

pub returns-then-goes_on-clause-few : goal.returns-then-goes_on-clause-few
returns-then-goes_on-clause-few g t c =
    let on = c.goes_on.ensures.adds c.if-goes_on.true in
    omega (
      arith,
      on.counted,
      counts_popped (frames_of c.args.m.now) on.others on.top on.was,
      counts_popped (reverse c.goes_on.new.stack.list.items) on.others
          (record { node = on.node; left = on.top.left - 1 }) on.now,
    )

pub returns-then-not-is_to_be_opened-clause-few : goal.returns-then-not-is_to_be_opened-clause-few
returns-then-not-is_to_be_opened-clause-few g t c = omega (
  arith,
  counts_popped (frames_of c.args.m.now) (reverse c.pop.new.stack.list.items) c.in-Some.frame
      (as_before _ _ _ (c.goes_on.ensures.same c.if-goes_on.false) c.in-Some.ensures.0),
)

pub close-requires : goal.close-requires
close-requires g t c κs within =
    let smaller : vec_len c.pop.new.stack.list < t = omega (arith, c.decreases, c.in-Some.ensures.1) in
    let deep : vec_len c.pop.new.stack.list + c.close-parent.result.level ≤ 7 = omega
    (arith, c.requires.deep, c.in-Some.ensures.1, c.close-parent.ensures.level) in
    let few : (counts_of (reverse c.pop.new.stack.list.items) + c.args.m.now.leaf.node.count)
    + c.close-parent.result.count < 2 ^ 64 = omega (
      arith,
      c.requires.few,
      c.close-parent.ensures.count,
      c.add_entry.ensures.counted,
      counts_popped (frames_of c.args.m.now) (reverse c.pop.new.stack.list.items) c.in-Some.frame
          (as_before _ _ _ (c.goes_on.ensures.same c.if-goes_on.false) c.in-Some.ensures.0),
    ) in
    (smaller, (search rules, (search rules, (deep, few))))

pub returns-else-not-is_to_be_opened-clause-few : goal.returns-else-not-is_to_be_opened-clause-few
returns-else-not-is_to_be_opened-clause-few g t c = omega (
  arith,
  c.close.ensures.few,
  c.close-parent.ensures.count,
  c.add_entry.ensures.counted,
  counts_popped (frames_of c.args.m.now) (reverse c.pop.new.stack.list.items) c.in-Some.frame
      (as_before _ _ _ (c.goes_on.ensures.same c.if-goes_on.false) c.in-Some.ensures.0),
)
