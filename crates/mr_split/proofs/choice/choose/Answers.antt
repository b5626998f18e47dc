use Rattle.std.proofs.Common.{subst, ◌≡◌, ◌+◌, length, ◌∙◌, sym}
use Rattle.std.specs.Prelude.{◌≤ℤ◌}
use Rattle.mr_split.specs.Choice.{rect_at, growth, choose, is_fitter, is_fitter_at}
use Rattle.mr_split.proofs.Counts.{choose_least}
use Rattle.mr_split.proofs.Comparing.{Keeps, rect_is, took, kept, keeps_on, found, fitter_order}
use Rattle.mr_split.proofs.choice.choose.Goals as goal
use Rattle.mr_split.proofs.choice.choose.Goals.{then-is_fitter, else-is_fitter}

pub loop-i-preserved : goal.loop-i-preserved
loop-i-preserved c =
    let list = c.args.list.now in
    let new = c.args.new.now in
    let beats = is_fitter_at list new in
    let test : c.is_fitter.result ≡ beats c.loop-i.i c.loop-i.at =
    c.is_fitter.ensures
    ∙ (λ k. is_fitter new (rect_is list c.loop-i.i c.index-list-i.result c.loop-i-test.true c.index-list-i.is k)
    (rect_is list c.loop-i.at c.index-list-at.result c.loop-i.invariant.within c.index-list-at.is k)) in
    let k : Keeps beats (length list) (c.loop-i.i + 1) c.if-is_fitter.at =
    keeps_on beats (length list) c.loop-i.i c.loop-i.at c.if-is_fitter.at c.loop-i-test.true c.loop-i.invariant.within
    (elim c.if-is_fitter.branch [
      | then-is_fitter w ↦ took beats c.loop-i.at c.loop-i.i c.if-is_fitter.at (sym test ∙ w.if-is_fitter.true)
          w.at-is
      | else-is_fitter w ↦ kept beats c.loop-i.at c.loop-i.i c.if-is_fitter.at (sym test ∙ w.if-is_fitter.false)
          w.at-is
    ])
    c.loop-i.invariant.rest in
    record { within = k.within; rest = k.rest }

pub returns-clause-exact : goal.returns-clause-exact
unfolding choose
returns-clause-exact c =
    found (is_fitter_at c.args.list.now c.args.new.now) (fitter_order c.args.list.now c.args.new.now)
    (length c.args.list.now) c.loop-i.i
    c.loop-i.at c.requires c.loop-i-test.false c.loop-i.invariant.rest

pub returns-clause-least : goal.returns-clause-least
returns-clause-least c =
    let list = c.args.list.now in
    let new = c.args.new.now in
    λ i within.
    subst (λ k. growth (rect_at list k) new ≤ℤ growth (rect_at list i) new) (sym (returns-clause-exact c))
    (choose_least list new i within)
