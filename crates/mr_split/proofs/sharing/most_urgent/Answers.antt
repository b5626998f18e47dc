use Rattle.std.proofs.Common.{◌≡◌, refl, ◌+◌, length, ◌∙◌, ap}
use Rattle.mr_split.specs.Split.{most_urgent, is_more_urgent, urgency, mark_at}
use Rattle.mr_split.specs.Choice.{rect_at}
use Rattle.mr_split.proofs.Comparing.{Keeps, rect_is, took, kept, keeps_on, found, urgency_order, urgency_at, more_urgent, less_urgent}
use Rattle.mr_split.proofs.sharing.most_urgent.Goals as goal
use Rattle.mr_split.proofs.sharing.most_urgent.Goals.{then-most-more, else-most-more}

pub loop-i-init : goal.loop-i-init
loop-i-init c = record {
  within = c.requires.some;
  most = c.urgency-most.ensures
      ∙ ap (urgency c.args.first.now c.args.second.now (mark_at c.args.marks.now 0))
      (rect_is c.args.list.now 0 c.index-list-0.result c.requires.some c.index-list-0.is);
  rest = refl;
}

pub loop-i-preserved : goal.loop-i-preserved
loop-i-preserved c =
    let list = c.args.list.now in
    let marks = c.args.marks.now in
    let f = c.args.first.now in
    let s = c.args.second.now in
    let at = c.loop-i.at in
    let i = c.loop-i.i in
    let beats = is_more_urgent list marks f s in
    let old : c.loop-i.most ≡ urgency f s (mark_at marks at) (rect_at list at) = c.loop-i.invariant.most in
    let new : c.urgency-more.result ≡ urgency f s (mark_at marks i) (rect_at list i) =
    c.urgency-more.ensures ∙ ap (urgency f s (mark_at marks i))
    (rect_is list i c.index-list-i.result c.loop-i-test.true c.index-list-i.is) in
    let k : Keeps beats (length list) (i + 1) c.if-most-more.at =
    keeps_on beats (length list) i at c.if-most-more.at c.loop-i-test.true c.loop-i.invariant.within
    (elim c.if-most-more.branch [
      | then-most-more w ↦ took beats at i c.if-most-more.at (more_urgent _ _ _ _ old new w.if-most-more.true) w.at-is
      | else-most-more w ↦ kept beats at i c.if-most-more.at (less_urgent _ _ _ _ old new w.if-most-more.false) w.at-is
    ])
    c.loop-i.invariant.rest in
    record {
      within = k.within;
      most = elim c.if-most-more.branch [
        | then-most-more w ↦ urgency_at list marks f s _ _ i (w.most-is ∙ new) w.at-is
        | else-most-more w ↦ urgency_at list marks f s _ _ at (w.most-is ∙ old) w.at-is
      ];
      rest = k.rest;
    }

pub returns-clause-value : goal.returns-clause-value
unfolding most_urgent
returns-clause-value c =
    found (is_more_urgent c.args.list.now c.args.marks.now c.args.first.now c.args.second.now)
    (urgency_order c.args.list.now c.args.marks.now c.args.first.now c.args.second.now) (length c.args.list.now)
    c.loop-i.i c.loop-i.at
    c.requires.some c.loop-i-test.false c.loop-i.invariant.rest
