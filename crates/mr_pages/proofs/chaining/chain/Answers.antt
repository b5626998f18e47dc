use Rattle.std.proofs.Common.{◌≡◌, ◌-◌, ◌++◌, take, refl, arith, ◌∙◌}
use Rattle.std.specs.Prelude.{Ok, Err}
use Rattle.std.proofs.lemmas.Result.{err_from_is_err_and}
use Rattle.mr_pages.specs.Faults as faults
use Rattle.mr_pages.proofs.Giving.{err_settles, gives_none, gives_so, gives_next}
use Rattle.mr_pages.proofs.Links.{follow_starts, follow_ends, follow_more, chain_of_none, chain_far}
use Rattle.mr_pages.proofs.Steps.{chain_stops, steps_along}
use Rattle.mr_pages.proofs.Visits.{goes_step, goes_none}
use Rattle.mr_pages.proofs.chaining.chain.Goals as goal

pub loop-init : goal.loop-init
loop-init g c = record {
  told = gives_none (g.P.Source.state c.args.pages.now) c.args.seen.now c.args.seen.now _ refl
      (λ f ps ns saw. follow_starts f.free (g.P.Source.state c.args.pages.now).pages c.args.first ps ns
      c.args.seen.now saw);
  room = refl;
  goes = goes_none (g.P.Source.state c.args.pages.now) _;
  holds = refl;
  stay = λ page kept. kept;
}

pub returns-then-next-eq0-clause-told : goal.returns-then-next-eq0-clause-told
returns-then-next-eq0-clause-told g c =
    let s = g.P.Source.state c.args.pages.now in
    let n = s.pages in
    gives_so s c.args.seen.now c.loop.seen _ _ (λ f so_far ps ns saw.
    follow_ends f.free n c.args.first c.loop.counter c.loop.next ps ns c.loop.seen
    (so_far ps ns saw) (chain_of_none f.free (n - c.loop.counter) c.loop.next c.if-next-eq0.true))
    c.loop.invariant.told

pub returns-in_err-next-clause-told : goal.returns-in_err-next-clause-told
returns-in_err-next-clause-told g c =
    let s = g.P.Source.state c.args.pages.now in
    let n = s.pages in
    let p = err_from_is_err_and c.from_residual.result c.from_residual.ensures.1 in
    let e = c.in_err-next.field-0.0 in
    rw (p.1, p.2) (err_settles (Unit {0}) (Unit {0}) e c.in_err-next.ensures.told (λ gave.
    gives_so s c.args.seen.now c.step.new.seen _ _ (λ f both ps ns saw.
    let so_far = both.0 ps ns saw in
    let walked = ps ++ take c.loop.counter (faults.chain f.free n c.args.first) in
    chain_stops f.free n c.args.first c.loop.counter c.loop.next ps ns c.loop.seen c.step.new.seen
    e (omega (arith, c.loop-test.true, c.count-end.ensures)) c.if-next-eq0.false so_far
    (steps_along f.free (g.P.Source.state c.loop.pages).pages n c.loop.next walked ns
    (Err e) c.loop.seen c.step.new.seen c.loop.invariant.goes.count (both.1 walked ns) so_far.saw))
    (gives_next s (g.P.Source.state c.loop.pages) c.args.seen.now c.loop.seen c.step.new.seen _ _
    c.loop.invariant.goes.from_ c.loop.invariant.goes.same c.loop.invariant.told gave)))

pub loop-preserved : goal.loop-preserved
loop-preserved g c = record {
  told =
      let s = g.P.Source.state c.args.pages.now in
      let n = s.pages in
      gives_so s c.args.seen.now c.step.new.seen _ _ (λ f both ps ns saw.
      let so_far = both.0 ps ns saw in
      let walked = ps ++ take c.loop.counter (faults.chain f.free n c.args.first) in
      follow_more f.free n c.args.first c.loop.counter c.loop.next c.in_ok-next.next ps ns c.loop.seen
      c.step.new.seen (omega (arith, c.loop-test.true, c.count-end.ensures)) c.if-next-eq0.false so_far
      (steps_along f.free (g.P.Source.state c.loop.pages).pages n c.loop.next walked ns
      (Ok c.in_ok-next.next) c.loop.seen c.step.new.seen c.loop.invariant.goes.count (both.1 walked ns) so_far.saw))
      (gives_next s (g.P.Source.state c.loop.pages) c.args.seen.now c.loop.seen c.step.new.seen _ _
      c.loop.invariant.goes.from_ c.loop.invariant.goes.same c.loop.invariant.told c.in_ok-next.ensures.told);
  room = c.step.ensures.room ∙ c.loop.invariant.room;
  goes = goes_step c.in_ok-next.next _ _ _ _ _ _ c.loop.invariant.goes c.in_ok-next.ensures.goes;
  holds = c.step.ensures.holds ∙ c.loop.invariant.holds;
  stay = λ page kept. c.step.ensures.stay page (c.loop.invariant.stay page kept);
}

pub returns-clause-told : goal.returns-clause-told
returns-clause-told g c =
    let s = g.P.Source.state c.args.pages.now in
    let n = s.pages in
    let end : c.loop.counter ≡ n = omega (
      arith,
      c.loop-test.false,
      c.loop.auto.counter-end,
      c.count-end.ensures,
    ) in
    gives_so s c.args.seen.now c.loop.seen _ _ (λ f so_far ps ns saw.
    follow_ends f.free n c.args.first c.loop.counter c.loop.next ps ns c.loop.seen
    (so_far ps ns saw) (chain_far f.free n c.loop.counter c.loop.next end)) c.loop.invariant.told
