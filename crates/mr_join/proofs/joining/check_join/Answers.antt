use Rattle.std.proofs.Common.{arith}
use Rattle.mr_record.proofs.Encodings.{IsBytes, IsBytes-from}
use Rattle.mr_join.specs.private.Frames.{frame_value}
use Rattle.mr_join.proofs.Judged.{join_breaks}
use Rattle.mr_join.proofs.ReadParts.{reads_just, parts_read, parts_unread}
use Rattle.mr_join.proofs.joining.check_join.Goals as goal

pub returns-in-Err-clause-rules : goal.returns-in-Err-clause-rules
returns-in-Err-clause-rules g c = λ f e.
    join_breaks (record { of = g.H.Hashes.of; root = c.args.first.now })
    (record { of = g.H.Hashes.of; root = c.args.second.now }) c.args.proof.now f e

pub returns-in-Ok-clause-rules : goal.returns-in-Ok-clause-rules
returns-in-Ok-clause-rules g c = λ f e.
    join_breaks (record { of = g.H.Hashes.of; root = c.args.first.now })
    (record { of = g.H.Hashes.of; root = c.args.second.now }) c.args.proof.now f e

pub returns-in-Err-clause-frame : goal.returns-in-Err-clause-frame
returns-in-Err-clause-frame g c =
    let fits : IsBytes c.args.proof.now = λ i. omega (arith, c.type_inv.proof i) in reads_just c.args.proof.now fits

pub returns-in-Err-clause-parts : goal.returns-in-Err-clause-parts
returns-in-Err-clause-parts g c =
    parts_unread (record { of = g.H.Hashes.of; root = c.args.first.now })
    (record { of = g.H.Hashes.of; root = c.args.second.now }) c.args.proof.now c.in-Err.fault c.in-Err.ensures

pub returns-in-Ok-clause-frame : goal.returns-in-Ok-clause-frame
returns-in-Ok-clause-frame g c =
    let fits : IsBytes c.args.proof.now = λ i. omega (arith, c.type_inv.proof i) in reads_just c.args.proof.now fits

pub returns-in-Ok-clause-parts : goal.returns-in-Ok-clause-parts
returns-in-Ok-clause-parts g c =
    parts_read (record { of = g.H.Hashes.of; root = c.args.first.now })
    (record { of = g.H.Hashes.of; root = c.args.second.now }) c.args.proof.now (frame_value c.in-Ok.frame)
    c.in-Ok.ensures (IsBytes-from c.in-Ok.frame.first.now c.are_bytes.ensures)
    (IsBytes-from c.in-Ok.frame.second.now c.are_bytes-in-Ok.ensures)
