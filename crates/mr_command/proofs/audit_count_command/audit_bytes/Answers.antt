use Rattle.std.proofs.Common.{inl}
use Rattle.mr_command.specs.Counting.{opens_for_count}
use Rattle.mr_command.specs.private.Windows.{ways_inside}
use Rattle.mr_plan.specs.Say.{say_audit_count_of}
use Rattle.mr_plan.specs.Untold.{MaySayAuditCount}
use Rattle.mr_store.specs.Paged.{shelved, stands_for}
use Rattle.mr_command.proofs.Audits.{count_found_told, count_found_untold, unfetched_told, unfetched_untold}
use Rattle.mr_command.proofs.Pages.{reads_opened}
use Rattle.mr_command.proofs.Verdicts.{audit_count_writes}
use Rattle.mr_command.proofs.audit_count_command.audit_bytes.Goals as goal

pub returns-in-Ok-clause-told : goal.returns-in-Ok-clause-told
returns-in-Ok-clause-told g c =
    let paged = c.args.paged.now in
    let e = c.in-Ok.ensures in
    count_found_told g.H.Hashes.of c.args.map.now (ways_inside c.args.inside.now) c.args.proof.now c.args.bytes.now
    (shelved paged) (shelved c.count_finding.new.nodes) (stands_for paged) e.kept.files e.kept.faults
    c.in-Ok.finding c.say_counted.result e.told e.quiet c.say_counted.ensures

pub returns-in-Ok-clause-untold : goal.returns-in-Ok-clause-untold
returns-in-Ok-clause-untold g c = λ none.
    let paged = c.args.paged.now in
    let e = c.in-Ok.ensures in
    count_found_untold g.H.Hashes.of c.args.map.now (ways_inside c.args.inside.now) c.args.proof.now c.args.bytes.now
    (shelved paged) (shelved c.count_finding.new.nodes) (stands_for paged) e.kept.files e.kept.faults _
    c.in-Ok.finding c.say_counted.result c.are_bytes.ensures e.judged e.collides e.quiet c.say_counted.ensures

pub returns-in-Err-clause-told : goal.returns-in-Err-clause-told
returns-in-Err-clause-told g c =
    let paged = c.args.paged.now in
    let e = c.in-Err.ensures in
    let hash = g.H.Hashes.of in
    let way = ways_inside c.args.inside.now in
    let bytes = c.args.bytes.now in
    unfetched_told c.args.map.now (λ m. say_audit_count_of hash way m bytes) (shelved paged)
    (shelved c.count_finding.new.nodes) (stands_for paged) e.kept.files e.kept.faults
    (λ m. audit_count_writes hash way m bytes) c.in-Err.error c.unfetched.result e.cause c.unfetched.ensures

pub returns-in-Err-clause-untold : goal.returns-in-Err-clause-untold
returns-in-Err-clause-untold g c = λ none.
    let paged = c.args.paged.now in
    let e = c.in-Err.ensures in
    let hash = g.H.Hashes.of in
    let map = c.args.map.now in
    unfetched_untold hash map (MaySayAuditCount hash map (ways_inside c.args.inside.now) c.args.proof.now)
    (shelved paged) (shelved c.count_finding.new.nodes) (stands_for paged) (λ said is. inl is) e.kept.files
    c.in-Err.error c.unfetched.result e.cause c.unfetched.ensures

pub returns-in-Ok-clause-reads_at_most : goal.returns-in-Ok-clause-reads_at_most
returns-in-Ok-clause-reads_at_most g c = λ none.
    let e = c.in-Ok.ensures in
    reads_opened g.H.Hashes.of (opens_for_count (ways_inside c.args.inside.now)) c.args.bytes.now c.args.paged.now
    c.count_finding.new.nodes e.kept e.fetched none

pub returns-in-Err-clause-reads_at_most : goal.returns-in-Err-clause-reads_at_most
returns-in-Err-clause-reads_at_most g c = λ none.
    let e = c.in-Err.ensures in
    reads_opened g.H.Hashes.of (opens_for_count (ways_inside c.args.inside.now)) c.args.bytes.now c.args.paged.now
    c.count_finding.new.nodes e.kept e.fetched none
