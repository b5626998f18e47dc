use Rattle.std.proofs.Common.{◌≡◌, ℕ, List, sym, subst, inl}
use Rattle.std.specs.Prelude.{Result}
use Rattle.mr_record.specs.declared.version.Version.{Version}
use Rattle.mr_check.specs.Versions.{proof_version}
use Rattle.mr_clash.specs.declared.finding.Finding.{Finding}
use Rattle.mr_command.specs.Counting.{opens_for}
use Rattle.mr_command.specs.Ending.{IsEndingOrHalt}
use Rattle.mr_command.specs.declared.ending.Ending.{Ending}
use Rattle.mr_command.specs.declared.ending.Halt.{Halt}
use Rattle.mr_command.specs.private.Steps.{HasAnswerLines}
use Rattle.mr_plan.specs.Say.{say_audit_of, say_finding}
use Rattle.mr_plan.specs.Untold.{MaySayAudit}
use Rattle.mr_store.specs.Paged.{shelved, stands_for}
use Rattle.mr_command.proofs.Audits.{found_told, found_untold, unfetched_told, unfetched_untold}
use Rattle.mr_command.proofs.Pages.{reads_opened}
use Rattle.mr_command.proofs.Plain.{finding_layers}
use Rattle.mr_command.proofs.Verdicts.{audit_writes}
use Rattle.mr_command.proofs.audit_command.audit_bytes.Goals as goal

said : (bytes : List ℕ) (v : Version) (f : Finding) (result : Result Ending Halt) → v ≡ proof_version bytes
    → IsEndingOrHalt (say_finding v f) result → IsEndingOrHalt (say_finding (proof_version bytes) f) result
said bytes v f result is = subst (λ v. IsEndingOrHalt (say_finding v f) result) is

pub say_found-requires : goal.say_found-requires
say_found-requires g c =
    subst (λ v. HasAnswerLines v c.in-Ok.finding) (sym c.proof_version.ensures)
    (finding_layers g.H.Hashes.of (stands_for c.args.paged.now) _ c.args.query.now c.args.bytes.now c.in-Ok.finding
    c.are_bytes.ensures c.in-Ok.ensures.judged)

pub returns-in-Ok-clause-told : goal.returns-in-Ok-clause-told
returns-in-Ok-clause-told g c =
    let paged = c.args.paged.now in
    let e = c.in-Ok.ensures in
    found_told g.H.Hashes.of c.args.map.now c.args.query.now c.args.proof.now c.args.bytes.now (shelved paged)
    (shelved c.finding_of_nodes.new.nodes) (stands_for paged) e.kept.files e.kept.faults
    c.in-Ok.finding c.say_found.result e.told e.quiet (said c.args.bytes.now c.proof_version.result c.in-Ok.finding
    c.say_found.result c.proof_version.ensures c.say_found.ensures)

pub returns-in-Ok-clause-untold : goal.returns-in-Ok-clause-untold
returns-in-Ok-clause-untold g c = λ none.
    let paged = c.args.paged.now in
    let e = c.in-Ok.ensures in
    found_untold g.H.Hashes.of c.args.map.now c.args.query.now c.args.proof.now c.args.bytes.now (shelved paged)
    (shelved c.finding_of_nodes.new.nodes) (stands_for paged) e.kept.files e.kept.faults _
    c.in-Ok.finding c.say_found.result c.are_bytes.ensures e.judged e.collides e.quiet (said c.args.bytes.now
    c.proof_version.result c.in-Ok.finding c.say_found.result c.proof_version.ensures c.say_found.ensures)

pub returns-in-Err-clause-told : goal.returns-in-Err-clause-told
returns-in-Err-clause-told g c =
    let paged = c.args.paged.now in
    let e = c.in-Err.ensures in
    let hash = g.H.Hashes.of in
    let q = c.args.query.now in
    let bytes = c.args.bytes.now in
    unfetched_told c.args.map.now (λ m. say_audit_of hash q m bytes) (shelved paged)
    (shelved c.finding_of_nodes.new.nodes) (stands_for paged) e.kept.files e.kept.faults
    (λ m. audit_writes hash q m bytes) c.in-Err.error c.unfetched.result e.cause c.unfetched.ensures

pub returns-in-Err-clause-untold : goal.returns-in-Err-clause-untold
returns-in-Err-clause-untold g c = λ none.
    let paged = c.args.paged.now in
    let e = c.in-Err.ensures in
    let hash = g.H.Hashes.of in
    let map = c.args.map.now in
    unfetched_untold hash map (MaySayAudit hash map c.args.query.now c.args.proof.now) (shelved paged)
    (shelved c.finding_of_nodes.new.nodes) (stands_for paged) (λ said is. inl is) e.kept.files
    c.in-Err.error c.unfetched.result e.cause c.unfetched.ensures

pub returns-in-Ok-clause-reads_at_most : goal.returns-in-Ok-clause-reads_at_most
returns-in-Ok-clause-reads_at_most g c = λ none.
    let e = c.in-Ok.ensures in
    reads_opened g.H.Hashes.of (opens_for c.args.query.now) c.args.bytes.now c.args.paged.now
    c.finding_of_nodes.new.nodes
    e.kept e.fetched none

pub returns-in-Err-clause-reads_at_most : goal.returns-in-Err-clause-reads_at_most
returns-in-Err-clause-reads_at_most g c = λ none.
    let e = c.in-Err.ensures in
    reads_opened g.H.Hashes.of (opens_for c.args.query.now) c.args.bytes.now c.args.paged.now
    c.finding_of_nodes.new.nodes
    e.kept e.fetched none
