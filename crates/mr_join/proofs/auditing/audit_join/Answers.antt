use Rattle.std.proofs.Common.{Ok, arith, refl, subst}
use Rattle.std.specs.Prelude.{◌<◌, ◌^◌}
use Rattle.mr_tree.specs.declared.nodes.Top.{Top}
use Rattle.mr_clash.proofs.Roots.{is_said}
use Rattle.mr_join.specs.declared.finding.JoinFinding.TheVariants as findings
use Rattle.mr_join.specs.private.Frames.{frame_value}
use Rattle.mr_join.specs.Causes.{watched}
use Rattle.mr_join.proofs.Fetching.{read_few, unread_few, first_told, second_told, first_few, second_few}
use Rattle.mr_join.proofs.Judged.{read_judged, unread_judged, finding_breaks}
use Rattle.mr_join.proofs.Audited.{read_told, unread_told, honest_told}
use Rattle.mr_join.proofs.auditing.audit_join.Goals as goal

pub returns-in-Err-clause-told : goal.returns-in-Err-clause-told
returns-in-Err-clause-told g c =
    unread_told g.A.Hash.Hashes.of g.B.Hash.Hashes.of (g.A.Nodes.stands c.args.first.now)
    (g.B.Nodes.stands c.args.second.now) c.args.proof.now (Ok (findings.Refused c.in-Err.fault)) c.in-Err.fault
    c.in-Err.ensures refl

pub returns-in-Err-clause-honest : goal.returns-in-Err-clause-honest
returns-in-Err-clause-honest g c =
    honest_told g.A.Hash.Hashes.of g.B.Hash.Hashes.of (g.A.Nodes.stands c.args.first.now)
    (g.B.Nodes.stands c.args.second.now) c.top.result c.top-2.result c.args.proof.now
    (Ok (findings.Refused c.in-Err.fault)) c.top.ensures.is c.top-2.ensures.is c.is_word.ensures c.is_word-2.ensures
    c.accepted_join_is_honest.ensures c.honest_join_is_accepted.ensures
    (g.met.A.Nodes.well_formed c.args.first.now) (g.met.B.Nodes.well_formed c.args.second.now)
    (unread_told g.A.Hash.Hashes.of g.B.Hash.Hashes.of (g.A.Nodes.stands c.args.first.now)
    (g.B.Nodes.stands c.args.second.now) c.args.proof.now (Ok (findings.Refused c.in-Err.fault)) c.in-Err.fault
    c.in-Err.ensures refl)

pub returns-in-Ok-clause-told : goal.returns-in-Ok-clause-told
returns-in-Ok-clause-told g c =
    read_told g.A.Hash.Hashes.of g.B.Hash.Hashes.of (g.A.Nodes.stands c.args.first.now)
    (g.B.Nodes.stands c.args.second.now) c.args.proof.now c.audit_frame.result (frame_value c.in-Ok.frame)
    c.in-Ok.ensures c.audit_frame.ensures.told

pub returns-in-Ok-clause-honest : goal.returns-in-Ok-clause-honest
returns-in-Ok-clause-honest g c =
    honest_told g.A.Hash.Hashes.of g.B.Hash.Hashes.of (g.A.Nodes.stands c.args.first.now)
    (g.B.Nodes.stands c.args.second.now) c.top.result c.top-2.result c.args.proof.now c.audit_frame.result
    c.top.ensures.is c.top-2.ensures.is c.is_word.ensures c.is_word-2.ensures c.accepted_join_is_honest.ensures
    c.honest_join_is_accepted.ensures (g.met.A.Nodes.well_formed c.args.first.now)
    (g.met.B.Nodes.well_formed c.args.second.now)
    (read_told g.A.Hash.Hashes.of g.B.Hash.Hashes.of (g.A.Nodes.stands c.args.first.now)
    (g.B.Nodes.stands c.args.second.now) c.args.proof.now c.audit_frame.result (frame_value c.in-Ok.frame)
    c.in-Ok.ensures c.audit_frame.ensures.told)

pub returns-in-Err-clause-judged : goal.returns-in-Err-clause-judged
returns-in-Err-clause-judged g c =
    unread_judged g.A.Hash.Hashes.of g.B.Hash.Hashes.of (g.A.Nodes.stands c.args.first.now)
    (g.B.Nodes.stands c.args.second.now) (g.A.Nodes.says c.args.first.now) (g.B.Nodes.says c.args.second.now)
    c.args.proof.now c.in-Err.fault
    (is_said g.A.Hash.Hashes.of (g.A.Nodes.stands c.args.first.now) _ _ c.top.ensures.says c.top.ensures.is)
    (is_said g.B.Hash.Hashes.of (g.B.Nodes.stands c.args.second.now) _ _ c.top-2.ensures.says c.top-2.ensures.is)
    c.in-Err.ensures

pub returns-in-Err-clause-rules : goal.returns-in-Err-clause-rules
returns-in-Err-clause-rules g c =
    finding_breaks g.A.Hash.Hashes.of g.B.Hash.Hashes.of (g.A.Nodes.stands c.args.first.now)
    (g.B.Nodes.stands c.args.second.now) (g.A.Nodes.says c.args.first.now) (g.B.Nodes.says c.args.second.now)
    c.args.proof.now (Ok (findings.Refused c.in-Err.fault)) (returns-in-Err-clause-judged g c)

pub returns-in-Err-clause-fetches : goal.returns-in-Err-clause-fetches
returns-in-Err-clause-fetches g c =
    unread_few g.A.Hash.Hashes.of g.B.Hash.Hashes.of (watched (g.A.Nodes.stands c.args.first.now) (g.A.Nodes.fetches
    c.args.first.now)
    (g.A.Nodes.fetches c.args.first.now)) (watched (g.B.Nodes.stands c.args.second.now) (g.B.Nodes.fetches
    c.args.second.now)
    (g.B.Nodes.fetches c.args.second.now)) c.args.proof.now (g.A.Nodes.says c.args.first.now) (g.B.Nodes.says
    c.args.second.now)
    (is_said g.A.Hash.Hashes.of (g.A.Nodes.stands c.args.first.now) _ _ c.top.ensures.says c.top.ensures.is)
    (is_said g.B.Hash.Hashes.of (g.B.Nodes.stands c.args.second.now) _ _ c.top-2.ensures.says c.top-2.ensures.is)
    (omega arith) (omega arith)

pub returns-in-Err-clause-fetched_first : goal.returns-in-Err-clause-fetched_first
returns-in-Err-clause-fetched_first g c =
    first_told g.A.Hash.Hashes.of g.B.Hash.Hashes.of (watched (g.A.Nodes.stands c.args.first.now) (g.A.Nodes.fetches
    c.args.first.now)
    (g.A.Nodes.fetches c.args.first.now))
    (watched (g.B.Nodes.stands c.args.second.now) (g.B.Nodes.fetches c.args.second.now)
    (g.B.Nodes.fetches c.args.second.now)) (g.A.Nodes.says c.args.first.now)
    (g.B.Nodes.says c.args.second.now) c.args.proof.now
    (returns-in-Err-clause-fetches g c)

pub returns-in-Err-clause-fetched_honest_first : goal.returns-in-Err-clause-fetched_honest_first
returns-in-Err-clause-fetched_honest_first g c =
    let one = c.honest_proof_is_accepted.ensures in
    let two = c.honest_proof_is_accepted-2.ensures in
    first_few g.A.Hash.Hashes.of g.B.Hash.Hashes.of (watched (g.A.Nodes.stands c.args.first.now) (g.A.Nodes.fetches
    c.args.first.now)
    (g.A.Nodes.fetches c.args.first.now))
    (watched (g.B.Nodes.stands c.args.second.now) (g.B.Nodes.fetches c.args.second.now)
    (g.B.Nodes.fetches c.args.second.now)) c.args.proof.now
    (g.A.Nodes.says c.args.first.now) (g.B.Nodes.says c.args.second.now)
    (record { accepts = one.accepted; honest = one.honest; quiet = one.quiet })
    (record { accepts = two.accepted; honest = two.honest; quiet = two.quiet })
    (is_said g.A.Hash.Hashes.of (g.A.Nodes.stands c.args.first.now) _ _ c.top.ensures.says c.top.ensures.is)
    (is_said g.B.Hash.Hashes.of (g.B.Nodes.stands c.args.second.now) _ _ c.top-2.ensures.says c.top-2.ensures.is)
    (subst (λ (top : Top). top.batch < 2 ^ 64) c.top.ensures.says c.is_word.ensures)
    (subst (λ (top : Top). top.batch < 2 ^ 64) c.top-2.ensures.says c.is_word-2.ensures)
    (returns-in-Err-clause-fetches g c)
    (g.met.A.Nodes.well_formed c.args.first.now) (g.met.B.Nodes.well_formed c.args.second.now)

pub returns-in-Err-clause-fetched_second : goal.returns-in-Err-clause-fetched_second
returns-in-Err-clause-fetched_second g c =
    second_told g.A.Hash.Hashes.of g.B.Hash.Hashes.of (watched (g.A.Nodes.stands c.args.first.now) (g.A.Nodes.fetches
    c.args.first.now)
    (g.A.Nodes.fetches c.args.first.now))
    (watched (g.B.Nodes.stands c.args.second.now) (g.B.Nodes.fetches c.args.second.now)
    (g.B.Nodes.fetches c.args.second.now)) (g.A.Nodes.says c.args.first.now)
    (g.B.Nodes.says c.args.second.now) c.args.proof.now
    (returns-in-Err-clause-fetches g c)

pub returns-in-Err-clause-fetched_honest_second : goal.returns-in-Err-clause-fetched_honest_second
returns-in-Err-clause-fetched_honest_second g c =
    let one = c.honest_proof_is_accepted.ensures in
    let two = c.honest_proof_is_accepted-2.ensures in
    second_few g.A.Hash.Hashes.of g.B.Hash.Hashes.of (watched (g.A.Nodes.stands c.args.first.now) (g.A.Nodes.fetches
    c.args.first.now)
    (g.A.Nodes.fetches c.args.first.now))
    (watched (g.B.Nodes.stands c.args.second.now) (g.B.Nodes.fetches c.args.second.now)
    (g.B.Nodes.fetches c.args.second.now)) c.args.proof.now
    (g.A.Nodes.says c.args.first.now) (g.B.Nodes.says c.args.second.now)
    (record { accepts = one.accepted; honest = one.honest; quiet = one.quiet })
    (record { accepts = two.accepted; honest = two.honest; quiet = two.quiet })
    (is_said g.A.Hash.Hashes.of (g.A.Nodes.stands c.args.first.now) _ _ c.top.ensures.says c.top.ensures.is)
    (is_said g.B.Hash.Hashes.of (g.B.Nodes.stands c.args.second.now) _ _ c.top-2.ensures.says c.top-2.ensures.is)
    (subst (λ (top : Top). top.batch < 2 ^ 64) c.top.ensures.says c.is_word.ensures)
    (subst (λ (top : Top). top.batch < 2 ^ 64) c.top-2.ensures.says c.is_word-2.ensures)
    (returns-in-Err-clause-fetches g c)
    (g.met.A.Nodes.well_formed c.args.first.now) (g.met.B.Nodes.well_formed c.args.second.now)

pub returns-in-Ok-clause-judged : goal.returns-in-Ok-clause-judged
returns-in-Ok-clause-judged g c =
    read_judged g.A.Hash.Hashes.of g.B.Hash.Hashes.of (g.A.Nodes.stands c.args.first.now)
    (g.B.Nodes.stands c.args.second.now) (g.A.Nodes.says c.args.first.now) (g.B.Nodes.says c.args.second.now)
    c.args.proof.now (frame_value c.in-Ok.frame) c.audit_frame.result
    (is_said g.A.Hash.Hashes.of (g.A.Nodes.stands c.args.first.now) _ _ c.top.ensures.says c.top.ensures.is)
    (is_said g.B.Hash.Hashes.of (g.B.Nodes.stands c.args.second.now) _ _ c.top-2.ensures.says c.top-2.ensures.is)
    c.in-Ok.ensures c.audit_frame.ensures.judged

pub returns-in-Ok-clause-rules : goal.returns-in-Ok-clause-rules
returns-in-Ok-clause-rules g c =
    finding_breaks g.A.Hash.Hashes.of g.B.Hash.Hashes.of (g.A.Nodes.stands c.args.first.now)
    (g.B.Nodes.stands c.args.second.now) (g.A.Nodes.says c.args.first.now) (g.B.Nodes.says c.args.second.now)
    c.args.proof.now c.audit_frame.result (returns-in-Ok-clause-judged g c)

pub returns-in-Ok-clause-fetches : goal.returns-in-Ok-clause-fetches
returns-in-Ok-clause-fetches g c =
    read_few g.A.Hash.Hashes.of g.B.Hash.Hashes.of (watched (g.A.Nodes.stands c.args.first.now) (g.A.Nodes.fetches
    c.args.first.now)
    (g.A.Nodes.fetches c.audit_frame.new.first)) (watched (g.B.Nodes.stands c.args.second.now) (g.B.Nodes.fetches
    c.args.second.now)
    (g.B.Nodes.fetches c.audit_frame.new.second)) c.args.proof.now (g.A.Nodes.says c.args.first.now) (g.B.Nodes.says
    c.args.second.now)
    (is_said g.A.Hash.Hashes.of (g.A.Nodes.stands c.args.first.now) _ _ c.top.ensures.says c.top.ensures.is)
    (is_said g.B.Hash.Hashes.of (g.B.Nodes.stands c.args.second.now) _ _ c.top-2.ensures.says c.top-2.ensures.is)
    (frame_value c.in-Ok.frame) c.in-Ok.ensures c.audit_frame.ensures.fetches

pub returns-in-Ok-clause-fetched_first : goal.returns-in-Ok-clause-fetched_first
returns-in-Ok-clause-fetched_first g c =
    first_told g.A.Hash.Hashes.of g.B.Hash.Hashes.of (watched (g.A.Nodes.stands c.args.first.now) (g.A.Nodes.fetches
    c.args.first.now)
    (g.A.Nodes.fetches c.audit_frame.new.first))
    (watched (g.B.Nodes.stands c.args.second.now) (g.B.Nodes.fetches c.args.second.now)
    (g.B.Nodes.fetches c.audit_frame.new.second)) (g.A.Nodes.says c.args.first.now)
    (g.B.Nodes.says c.args.second.now) c.args.proof.now
    (returns-in-Ok-clause-fetches g c)

pub returns-in-Ok-clause-fetched_honest_first : goal.returns-in-Ok-clause-fetched_honest_first
returns-in-Ok-clause-fetched_honest_first g c =
    let one = c.honest_proof_is_accepted.ensures in
    let two = c.honest_proof_is_accepted-2.ensures in
    first_few g.A.Hash.Hashes.of g.B.Hash.Hashes.of (watched (g.A.Nodes.stands c.args.first.now) (g.A.Nodes.fetches
    c.args.first.now)
    (g.A.Nodes.fetches c.audit_frame.new.first))
    (watched (g.B.Nodes.stands c.args.second.now) (g.B.Nodes.fetches c.args.second.now)
    (g.B.Nodes.fetches c.audit_frame.new.second)) c.args.proof.now
    (g.A.Nodes.says c.args.first.now) (g.B.Nodes.says c.args.second.now)
    (record { accepts = one.accepted; honest = one.honest; quiet = one.quiet })
    (record { accepts = two.accepted; honest = two.honest; quiet = two.quiet })
    (is_said g.A.Hash.Hashes.of (g.A.Nodes.stands c.args.first.now) _ _ c.top.ensures.says c.top.ensures.is)
    (is_said g.B.Hash.Hashes.of (g.B.Nodes.stands c.args.second.now) _ _ c.top-2.ensures.says c.top-2.ensures.is)
    (subst (λ (top : Top). top.batch < 2 ^ 64) c.top.ensures.says c.is_word.ensures)
    (subst (λ (top : Top). top.batch < 2 ^ 64) c.top-2.ensures.says c.is_word-2.ensures)
    (returns-in-Ok-clause-fetches g c)
    (g.met.A.Nodes.well_formed c.args.first.now) (g.met.B.Nodes.well_formed c.args.second.now)

pub returns-in-Ok-clause-fetched_second : goal.returns-in-Ok-clause-fetched_second
returns-in-Ok-clause-fetched_second g c =
    second_told g.A.Hash.Hashes.of g.B.Hash.Hashes.of (watched (g.A.Nodes.stands c.args.first.now) (g.A.Nodes.fetches
    c.args.first.now)
    (g.A.Nodes.fetches c.audit_frame.new.first))
    (watched (g.B.Nodes.stands c.args.second.now) (g.B.Nodes.fetches c.args.second.now)
    (g.B.Nodes.fetches c.audit_frame.new.second)) (g.A.Nodes.says c.args.first.now)
    (g.B.Nodes.says c.args.second.now) c.args.proof.now
    (returns-in-Ok-clause-fetches g c)

pub returns-in-Ok-clause-fetched_honest_second : goal.returns-in-Ok-clause-fetched_honest_second
returns-in-Ok-clause-fetched_honest_second g c =
    let one = c.honest_proof_is_accepted.ensures in
    let two = c.honest_proof_is_accepted-2.ensures in
    second_few g.A.Hash.Hashes.of g.B.Hash.Hashes.of (watched (g.A.Nodes.stands c.args.first.now) (g.A.Nodes.fetches
    c.args.first.now)
    (g.A.Nodes.fetches c.audit_frame.new.first))
    (watched (g.B.Nodes.stands c.args.second.now) (g.B.Nodes.fetches c.args.second.now)
    (g.B.Nodes.fetches c.audit_frame.new.second)) c.args.proof.now
    (g.A.Nodes.says c.args.first.now) (g.B.Nodes.says c.args.second.now)
    (record { accepts = one.accepted; honest = one.honest; quiet = one.quiet })
    (record { accepts = two.accepted; honest = two.honest; quiet = two.quiet })
    (is_said g.A.Hash.Hashes.of (g.A.Nodes.stands c.args.first.now) _ _ c.top.ensures.says c.top.ensures.is)
    (is_said g.B.Hash.Hashes.of (g.B.Nodes.stands c.args.second.now) _ _ c.top-2.ensures.says c.top-2.ensures.is)
    (subst (λ (top : Top). top.batch < 2 ^ 64) c.top.ensures.says c.is_word.ensures)
    (subst (λ (top : Top). top.batch < 2 ^ 64) c.top-2.ensures.says c.is_word-2.ensures)
    (returns-in-Ok-clause-fetches g c)
    (g.met.A.Nodes.well_formed c.args.first.now) (g.met.B.Nodes.well_formed c.args.second.now)
