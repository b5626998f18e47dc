use Rattle.std.proofs.Common.{arith}
use Rattle.mr_clash.proofs.Roots.{root_said}
use Rattle.mr_join.specs.private.Frames.{frame_value}
use Rattle.mr_join.specs.Causes.{watched}
use Rattle.mr_join.proofs.Audited.{declined_told, joined_told}
use Rattle.mr_join.proofs.Fetching.{frame_still, frame_few}
use Rattle.mr_join.proofs.Judged.{declined_judged, parts_judged}
use Rattle.mr_join.proofs.auditing.audit_frame.Goals as goal

pub returns-in-Err-clause-told : goal.returns-in-Err-clause-told
returns-in-Err-clause-told g c =
    declined_told g.A.Hash.Hashes.of g.B.Hash.Hashes.of (g.A.Nodes.stands c.args.first.now)
    (g.B.Nodes.stands c.args.second.now) c.top-one.result c.top-other.result c.root_of-one.result
    c.root_of-other.result
    c.top-one.ensures.is c.top-other.ensures.is c.root_of-one.ensures c.root_of-other.ensures c.args.at
    (frame_value c.args.frame.now) c.declined.result c.in-Err.error c.declined.ensures c.in-Err.ensures

pub returns-in-Ok-clause-told : goal.returns-in-Ok-clause-told
returns-in-Ok-clause-told g c =
    joined_told g.A.Hash.Hashes.of g.B.Hash.Hashes.of (g.A.Nodes.stands c.args.first.now)
    (g.B.Nodes.stands c.args.second.now) c.top-one.result c.top-other.result c.root_of-one.result
    c.root_of-other.result
    c.top-one.ensures.is c.top-other.ensures.is c.root_of-one.ensures c.root_of-other.ensures c.args.at
    (frame_value c.args.frame.now) c.audit_parts.result c.in-Ok.joined c.in-Ok.ensures c.audit_parts.ensures.told

pub returns-in-Err-clause-judged : goal.returns-in-Err-clause-judged
returns-in-Err-clause-judged g c =
    declined_judged g.A.Hash.Hashes.of g.B.Hash.Hashes.of (g.A.Nodes.says c.args.first.now)
    (g.B.Nodes.says c.args.second.now) c.root_of-one.result c.root_of-other.result
    (root_said g.A.Hash.Hashes.of _ _ _ c.top-one.ensures.says c.root_of-one.ensures)
    (root_said g.B.Hash.Hashes.of _ _ _ c.top-other.ensures.says c.root_of-other.ensures) c.args.at
    (frame_value c.args.frame.now) c.declined.result c.in-Err.error c.declined.ensures c.in-Err.ensures

pub returns-in-Ok-clause-judged : goal.returns-in-Ok-clause-judged
returns-in-Ok-clause-judged g c =
    parts_judged g.A.Hash.Hashes.of g.B.Hash.Hashes.of (g.A.Nodes.says c.args.first.now)
    (g.B.Nodes.says c.args.second.now) c.root_of-one.result c.root_of-other.result
    (root_said g.A.Hash.Hashes.of _ _ _ c.top-one.ensures.says c.root_of-one.ensures)
    (root_said g.B.Hash.Hashes.of _ _ _ c.top-other.ensures.says c.root_of-other.ensures) c.args.at
    (frame_value c.args.frame.now) c.audit_parts.result c.in-Ok.joined c.in-Ok.ensures
    c.audit_parts.ensures.judged

pub returns-in-Err-clause-fetches : goal.returns-in-Err-clause-fetches
returns-in-Err-clause-fetches g c =
    frame_still g.A.Hash.Hashes.of g.B.Hash.Hashes.of
    (watched (g.A.Nodes.stands c.args.first.now) (g.A.Nodes.fetches c.args.first.now)
    (g.A.Nodes.fetches c.args.first.now))
    (watched (g.B.Nodes.stands c.args.second.now) (g.B.Nodes.fetches c.args.second.now)
    (g.B.Nodes.fetches c.args.second.now)) (g.A.Nodes.says c.args.first.now) (g.B.Nodes.says c.args.second.now)
    c.args.at (frame_value c.args.frame.now) (omega arith) (omega arith)

pub returns-in-Ok-clause-fetches : goal.returns-in-Ok-clause-fetches
returns-in-Ok-clause-fetches g c =
    frame_few g.A.Hash.Hashes.of g.B.Hash.Hashes.of
    (watched (g.A.Nodes.stands c.args.first.now) (g.A.Nodes.fetches c.args.first.now)
    (g.A.Nodes.fetches c.audit_parts.new.first))
    (watched (g.B.Nodes.stands c.args.second.now) (g.B.Nodes.fetches c.args.second.now)
    (g.B.Nodes.fetches c.audit_parts.new.second)) (g.A.Nodes.says c.args.first.now)
    (g.B.Nodes.says c.args.second.now) c.args.at (frame_value c.args.frame.now) c.root_of-one.result
    c.root_of-other.result (root_said g.A.Hash.Hashes.of _ _ _ c.top-one.ensures.says c.root_of-one.ensures)
    (root_said g.B.Hash.Hashes.of _ _ _ c.top-other.ensures.says c.root_of-other.ensures) c.in-Ok.joined
    c.in-Ok.ensures c.audit_parts.ensures.fetches_first c.audit_parts.ensures.fetches_second
