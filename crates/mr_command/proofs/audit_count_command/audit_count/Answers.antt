use Rattle.std.proofs.Common.{◌≡◌, ℕ, List, length, sym, ap, subst, inl}
use Rattle.mr_query.specs.declared.key.Key.{Key}
use Rattle.mr_proof.specs.declared.way.Way.{Way}
use Rattle.mr_store.specs.Paged.{shelved}
use Rattle.mr_command.specs.Counting.{AllowsAudit, opens_for_count}
use Rattle.mr_command.specs.Ending.{ComesAsSaid, IsCarriedOut}
use Rattle.mr_command.specs.private.Windows.{ways_inside}
use Rattle.mr_plan.specs.Counts.{count_ways}
use Rattle.mr_plan.specs.Plan.{comes}
use Rattle.mr_plan.specs.Say.{needs, say_audit_count, say_audit_count_of}
use Rattle.mr_plan.specs.Untold.{MaySayAuditCount}
use Rattle.mr_plan.specs.declared.words.Command.TheVariants as commands
use Rattle.mr_command.proofs.Audits.{audited, auditing_unopened}
use Rattle.mr_command.proofs.Going.{judged_needs}
use Rattle.mr_command.proofs.Pages.{unopened_map}
use Rattle.mr_command.proofs.audit_count_command.audit_count.Given
use Rattle.mr_command.proofs.audit_count_command.audit_count.Goals as goal

sized : (g : Given.Over) → (xs : List ℕ) → length (g.H.Hashes.of xs) ≡ 32
sized g = (g.met.H.Hashes g.world.𝓛 g.world.𝓜 g.world.𝓡 ((λ s x. x), (λ x. x), (λ x. x), λ x. x)).sized

pub returns-in-Err : goal.returns-in-Err
returns-in-Err g c =
    let hash = g.H.Hashes.of in
    let map = c.args.map.now in
    let way = count_ways c.args.query.now in
    let proof = c.args.proof.now in
    let before = g.S.Shelf.state c.args.shelf in
    let after = g.S.Shelf.state c.in-Err.ended.1 in
    unopened_map hash (sized g) map before (MaySayAuditCount hash map way proof)
    (AllowsAudit hash map (opens_for_count way) proof)
    (λ m. needs proof (λ bytes. comes (say_audit_count_of hash way m bytes)))
    (λ m. judged_needs proof (say_audit_count_of hash way m) before.files) (λ said is. inl is) after
    c.in-Err.ended.0 c.in-Err.ensures (auditing_unopened hash map (opens_for_count way) proof before after)

pub returns-in-Ok : goal.returns-in-Ok
returns-in-Ok g c =
    let hash = g.H.Hashes.of in
    let map = c.args.map.now in
    let proof = c.args.proof.now in
    let o = c.in-Ok.ensures in
    let before = g.S.Shelf.state c.args.shelf in
    let end = shelved c.audit_file-came.new.paged in
    let e = c.audit_file-came.ensures in
    let way = ways_inside c.inside_of-inside.result in
    subst (λ w. IsCarriedOut hash (commands.AuditCount c.args.map c.args.query.now c.args.proof) before w
    c.audit_file-came.result) (sym (ap g.S.Shelf.state c.close.ensures))
    (subst (λ (way : Key → Way). ComesAsSaid (say_audit_count hash map way proof) (MaySayAuditCount hash map way proof)
    (AllowsAudit hash map (opens_for_count way) proof) before end c.audit_file-came.result)
    c.inside_of-inside.ensures
    (audited hash (sized g) map (opens_for_count way) (say_audit_count_of hash way)
    (MaySayAuditCount hash map way proof) proof before end c.in-Ok.paged o e.counts (e.reads_at_most o.none)
    (λ said is. inl is) c.audit_file-came.result e.told e.untold))
