use Rattle.std.proofs.Common.{◌≡◌, ℕ, List, length, sym, ap, subst, inl}
use Rattle.mr_store.specs.Paged.{shelved}
use Rattle.mr_command.specs.Counting.{AllowsAudit, opens_for}
use Rattle.mr_command.specs.Ending.{IsCarriedOut}
use Rattle.mr_plan.specs.Plan.{comes}
use Rattle.mr_plan.specs.Say.{needs, say_audit_of}
use Rattle.mr_plan.specs.Untold.{MaySayAudit}
use Rattle.mr_plan.specs.declared.words.Command.TheVariants as commands
use Rattle.mr_command.proofs.Audits.{audited, auditing_unopened}
use Rattle.mr_command.proofs.Going.{judged_needs}
use Rattle.mr_command.proofs.Pages.{unopened_map}
use Rattle.mr_command.proofs.audit_command.audit_query.Given
use Rattle.mr_command.proofs.audit_command.audit_query.Goals as goal

sized : (g : Given.Over) → (xs : List ℕ) → length (g.H.Hashes.of xs) ≡ 32
sized g = (g.met.H.Hashes g.world.𝓛 g.world.𝓜 g.world.𝓡 ((λ s x. x), (λ x. x), (λ x. x), λ x. x)).sized

pub returns-in-Err : goal.returns-in-Err
returns-in-Err g c =
    let hash = g.H.Hashes.of in
    let map = c.args.map.now in
    let q = c.args.query.now in
    let proof = c.args.proof.now in
    let before = g.S.Shelf.state c.args.shelf in
    let after = g.S.Shelf.state c.in-Err.ended.1 in
    unopened_map hash (sized g) map before (MaySayAudit hash map q proof)
    (AllowsAudit hash map (opens_for q) proof)
    (λ m. needs proof (λ bytes. comes (say_audit_of hash q m bytes)))
    (λ m. judged_needs proof (say_audit_of hash q m) before.files) (λ said is. inl is) after
    c.in-Err.ended.0 c.in-Err.ensures (auditing_unopened hash map (opens_for q) proof before after)

pub returns-in-Ok : goal.returns-in-Ok
returns-in-Ok g c =
    let hash = g.H.Hashes.of in
    let o = c.in-Ok.ensures in
    let before = g.S.Shelf.state c.args.shelf in
    let e = c.audit_file-came.ensures in
    let q = c.args.query.now in
    subst (λ w. IsCarriedOut hash (commands.Audit c.args.map q c.args.proof) before w
    c.audit_file-came.result) (sym (ap g.S.Shelf.state c.close.ensures))
    (audited hash (sized g) c.args.map.now (opens_for q) (say_audit_of hash q)
    (MaySayAudit hash c.args.map.now q c.args.proof.now) c.args.proof.now before
    (shelved c.audit_file-came.new.paged) c.in-Ok.paged o e.counts (e.reads_at_most o.none) (λ said is. inl is)
    c.audit_file-came.result e.told e.untold)
