use Rattle.std.proofs.Common.{◌≡◌, refl, sym, ◌∙◌}
use Rattle.std.specs.Prelude.{is_none, Some}
use Rattle.std.proofs.lemmas.Result.{err_from_is_err_and}
use Rattle.mr_pages.proofs.Giving.{gives_none, gives_one, gives_so, shelf_failed}
use Rattle.mr_pages.proofs.Steps.{refused_step, passed_step, stopped_step}
use Rattle.mr_pages.proofs.chaining.step.Goals as goal

pub returns-in-Some-clause-told : goal.returns-in-Some-clause-told
returns-in-Some-clause-told g c =
    gives_none (g.P.Source.state c.args.pages.now) c.args.seen.now c.enter.new.self _ c.in-Some.ensures.step
    (λ f ps ns saw. (
      refused_step (g.P.Source.state c.args.pages.now).pages c.args.page ps (is_none (f.free c.args.page)) _
          c.requires.some (c.in-Some.ensures.told _ ps ns saw),
      refl,
    ))

pub returns-in_err-after-clause-told : goal.returns-in_err-after-clause-told
returns-in_err-after-clause-told g c =
    let p = err_from_is_err_and c.from_residual.result c.from_residual.ensures.1 in
    rw (p.1, p.2) (shelf_failed (Unit {0}) c.in_err-after.field-0.0 _)

pub returns-in-Some-2-clause-told : goal.returns-in-Some-2-clause-told
returns-in-Some-2-clause-told g c =
    let s = g.P.Source.state c.args.pages.now in
    gives_so s c.args.seen.now c.enter.new.self _ _ (λ f read ps ns saw.
    let entered = c.in_default.ensures.told _ ps ns saw in
    let free : f.free c.args.page ≡ Some c.in-Some-2.after = sym read ∙ c.in-Some-2.is in (
      passed_step s.pages c.args.page ps (f.free c.args.page) c.in-Some-2.after entered.0 free,
      free,
      entered.1,
    )) (gives_one s c.args.seen.now c.enter.new.self c.args.page _ c.in_default.ensures.step
    c.in_ok-after.ensures.next)

pub returns-in-None-clause-told : goal.returns-in-None-clause-told
returns-in-None-clause-told g c =
    let s = g.P.Source.state c.args.pages.now in
    gives_so s c.args.seen.now c.enter.new.self _ _ (λ f read ps ns saw. (
      stopped_step s.pages c.args.page ps (f.free c.args.page) (sym read ∙ c.in-None.is),
      refl,
    )) (gives_one s c.args.seen.now c.enter.new.self c.args.page _ c.in_default.ensures.step
    c.in_ok-after.ensures.next)
