use Rattle.std.proofs.Common.{refl}
use Rattle.mr_command.proofs.Going.{comes_given}
use Rattle.mr_tool.proofs.WholeRuns.{as_carried, as_plain}
use Rattle.mr_tool.proofs.program.carry_out.Goals as goal

pub returns-in-Root : goal.returns-in-Root
returns-in-Root g c =
    as_plain g.H.Hashes.of _ _ _ _ c.root_on.result.0 c.in-Root.is
    (λ said leads. leads) (λ files n few. few)
    c.root_on.ensures

pub returns-in-Build : goal.returns-in-Build
returns-in-Build g c =
    as_plain g.H.Hashes.of _ _ _ _ c.build_on.result.0 c.in-Build.is
    (λ said leads. leads) (λ files n few. few)
    c.build_on.ensures

pub returns-in-Root2 : goal.returns-in-Root2
returns-in-Root2 g c =
    as_plain g.H.Hashes.of _ _ _ _ c.root_on-in-Root2.result.0 c.in-Root2.is
    (λ said leads. leads) (λ files n few. few)
    c.root_on-in-Root2.ensures

pub returns-in-Build2 : goal.returns-in-Build2
returns-in-Build2 g c =
    as_plain g.H.Hashes.of _ _ _ _ c.build_on-in-Build2.result.0 c.in-Build2.is
    (λ said leads. leads) (λ files n few. few)
    c.build_on-in-Build2.ensures

pub returns-in-Upgrade : goal.returns-in-Upgrade
returns-in-Upgrade g c =
    as_plain g.H.Hashes.of _ _ _ _ c.upgrade-came.result c.in-Upgrade.is
    (λ said leads. leads) (λ files n few. few)
    c.upgrade-came.ensures

pub returns-in-List : goal.returns-in-List
returns-in-List g c =
    as_plain g.H.Hashes.of _ _ _ _ c.list-came.result c.in-List.is
    (λ said leads. leads) (λ files n few. few)
    c.list-came.ensures

pub returns-in-Apply : goal.returns-in-Apply
returns-in-Apply g c = as_carried g.H.Hashes.of _ _ _ _ c.apply.result.0 c.in-Apply.is c.apply.ensures

pub returns-in-ApplyHere : goal.returns-in-ApplyHere
returns-in-ApplyHere g c =
    as_carried g.H.Hashes.of _ _ _ _ c.apply_in_place.result.0 c.in-ApplyHere.is c.apply_in_place.ensures

pub returns-in-Recover : goal.returns-in-Recover
returns-in-Recover g c =
    as_carried g.H.Hashes.of _ _ _ _ c.recover_map.result.0 c.in-Recover.is (c.recover_map.ensures g.H.Hashes.of)

pub returns-in-Prove : goal.returns-in-Prove
returns-in-Prove g c = as_carried g.H.Hashes.of _ _ _ _ c.prove_query.result.0 c.in-Prove.is c.prove_query.ensures

pub returns-in-Check : goal.returns-in-Check
returns-in-Check g c =
    as_carried g.H.Hashes.of _ _ _ _ c.check_on.result.0 c.in-Check.is c.check_on.ensures

pub returns-in-Audit : goal.returns-in-Audit
returns-in-Audit g c = as_carried g.H.Hashes.of _ _ _ _ c.audit_query.result.0 c.in-Audit.is c.audit_query.ensures

pub returns-in-Count : goal.returns-in-Count
returns-in-Count g c = as_carried g.H.Hashes.of _ _ _ _ c.count.result.0 c.in-Count.is c.count.ensures

pub returns-in-CheckCount : goal.returns-in-CheckCount
returns-in-CheckCount g c =
    as_plain g.H.Hashes.of _ _ _ _ c.check_count-came.result c.in-CheckCount.is
    (λ said leads. leads) (λ files n few. few)
    c.check_count-came.ensures

pub returns-in-AuditCount : goal.returns-in-AuditCount
returns-in-AuditCount g c =
    as_carried g.H.Hashes.of _ _ _ _ c.audit_count.result.0 c.in-AuditCount.is c.audit_count.ensures

pub returns-in-Join : goal.returns-in-Join
returns-in-Join g c =
    as_plain g.H.Hashes.of _ _ _ _ c.join-came.result c.in-Join.is
    (λ said leads. leads) (λ files n few. few)
    c.join-came.ensures

pub returns-in-CheckJoin : goal.returns-in-CheckJoin
returns-in-CheckJoin g c =
    as_plain g.H.Hashes.of _ _ _ _ c.check_join_proof-came.result c.in-CheckJoin.is
    (λ said leads. leads) (λ files n few. few)
    c.check_join_proof-came.ensures

pub returns-in-AuditJoin : goal.returns-in-AuditJoin
returns-in-AuditJoin g c =
    as_plain g.H.Hashes.of _ _ _ _ c.audit_join_proof-came.result c.in-AuditJoin.is
    (λ said leads. leads) (λ files n few. few)
    c.audit_join_proof-came.ensures

pub returns-in-Make : goal.returns-in-Make
returns-in-Make g c =
    as_plain g.H.Hashes.of _ _ _ _ c.make-came.result c.in-Make.is
    (λ said leads. leads) (λ files n few. few)
    c.make-came.ensures

pub returns-in-Serve : goal.returns-in-Serve
returns-in-Serve g c =
    as_plain g.H.Hashes.of _ _ _ _ c.serve_on.result.0 c.in-Serve.is
    (λ said leads. leads) (λ files n few. few)
    c.serve_on.ensures

pub returns-in-CheckAll : goal.returns-in-CheckAll
returns-in-CheckAll g c =
    as_plain g.H.Hashes.of _ _ _ _ c.check_bundle-came.result c.in-CheckAll.is
    (λ said leads. leads) (λ files n few. few)
    c.check_bundle-came.ensures

pub returns-in-Demo : goal.returns-in-Demo
returns-in-Demo g c =
    as_plain g.H.Hashes.of _ _ _ _ c.demo.result c.in-Demo.is
    (λ said leads. leads) (λ files n few. few)
    (comes_given _ _ c.demo.result refl c.demo.ensures)
