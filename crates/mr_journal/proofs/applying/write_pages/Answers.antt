use Rattle.std.proofs.Common.{inl, inr, ⊎_elim, ap, ◌∙◌, rules}
use Rattle.mr_journal.specs.Format.{carried}
use Rattle.mr_journal.specs.States.{IsShutAt, IsArmedFor, IsSettledAt, EitherOf}
use Rattle.mr_journal.specs.private.Progress.{IsArmedBy}
use Rattle.mr_journal.proofs.Running.{leads_then, leads_refused}
use Rattle.std.specs.Prelude.{option_map}
use Rattle.std.proofs.lemmas.Result.{on_ok_weaker}
use Rattle.mr_journal.specs.private.Progress.{closed_by}
use Rattle.mr_journal.proofs.Leaving.{some_body, ready_opened, changed_as}
use Rattle.mr_journal.proofs.Quiet.{causes_then}
use Rattle.mr_journal.proofs.applying.write_pages.Goals as goal

pub returns-in_err-arm-clause-shut : goal.returns-in_err-arm-clause-shut
returns-in_err-arm-clause-shut g c map fit =
    let N = carried c.args.body.now map in
    leads_refused _ _ _ _ _ c.from_residual.result (IsSettledAt map (g.D.Disk.state c.args.disk.now).contents)
    (EitherOf (IsShutAt map) (IsArmedFor N)) (IsArmedBy c.args.body.now N)
    (EitherOf (IsShutAt map) (EitherOf (IsArmedFor N) (IsShutAt N)))
    (IsSettledAt N (g.D.Disk.state c.arm.new.disk).contents)
    (search rules) (c.in_err-arm.ensures.armed map fit) (λ x q. ⊎_elim (λ y. inl y) (λ y. inr (inl y)) q)

pub returns-clause-shut : goal.returns-clause-shut
returns-clause-shut g c map fit =
    let N = carried c.args.body.now map in
    leads_then _ _ _ _ _ _ c.in_ok-arm.field-0 c.finish.result
    (IsSettledAt map (g.D.Disk.state c.args.disk.now).contents) (EitherOf (IsShutAt map) (IsArmedFor N))
    (IsArmedBy c.args.body.now N) (EitherOf (IsShutAt N) (IsArmedFor N))
    (IsSettledAt N (g.D.Disk.state c.finish.new.disk).contents)
    (EitherOf (IsShutAt map) (EitherOf (IsArmedFor N) (IsShutAt N)))
    (c.in_ok-arm.ensures.armed map fit) (c.finish.ensures.shut N) (λ x q. ⊎_elim (λ y. inl y) (λ y. inr (inl y)) q)
    (λ x q. ⊎_elim (λ y. inr (inr y)) (λ y. inr (inl y)) q)

pub finish-requires-clause-begins : goal.finish-requires-clause-begins
finish-requires-clause-begins g c =
    let body = c.args.body.now in
    ready_opened body (g.D.Disk.state c.args.disk.now).contents _
    (c.in_ok-arm.ensures.left (some_body c.requires.ready.0 body c.requires.ready.1)) c.requires.begins

pub returns-clause-left : goal.returns-clause-left
returns-clause-left g c =
    let body = c.args.body.now in
    on_ok_weaker c.finish.result
    (λ left. left
    ∙ ap (option_map (closed_by body))
    (c.in_ok-arm.ensures.left (some_body c.requires.ready.0 body c.requires.ready.1))
    ∙ changed_as body (g.D.Disk.state c.args.disk.now).contents)
    c.finish.ensures.left

pub returns-clause-causes : goal.returns-clause-causes
returns-clause-causes g c =
    causes_then _ _ _ c.in_ok-arm.field-0 c.finish.result c.in_ok-arm.ensures.causes
    c.finish.ensures.causes
