use Rattle.std.proofs.Common.{length, drop, ap, sym, arith}
use Rattle.std.proofs.lemmas.List.{length-append}
use Rattle.mr_record.specs.Record.{record_bytes}
use Rattle.mr_check.specs.private.Machine.{after_record, ways_at}
use Rattle.mr_check.proofs.WholeRecords.{record_long}
use Rattle.mr_check.proofs.Turning.{turn_record, takes_some}
use Rattle.mr_check.proofs.reader.behind_record.Goals as goal

pub last_field-last-requires : goal.last_field-last-requires
last_field-last-requires g c =
    omega (
      arith,
      record_long c.args.r.now.machine.head.version c.args.one.now,
      c.requires.whole.sized,
      c.requires.whole.place,
    )

pub returns-clause-takes : goal.returns-clause-takes
returns-clause-takes g c =
    takes_some c.args.size (length c.args.piece.now) c.behind.result c.behind.ensures.takes
    (omega (arith, record_long c.args.r.now.machine.head.version c.args.one.now, c.requires.whole.sized))
    (omega (
      arith,
      c.requires.whole.sized,
      ap length c.requires.whole.bytes,
      length-append (record_bytes c.args.r.now.machine.head.version c.args.one.now) (drop c.args.size c.args.piece.now),
    ))

pub returns-clause-turns : goal.returns-clause-turns
returns-clause-turns g c = λ s at.
    turn_record g.H.Hashes.of g.H.Hashes.holds (g.A.AsQuestion.question c.args.q.now) c.args.r.now c.behind.new.r s
    c.args.piece.now c.args.size
    c.args.one.now c.behind.result c.requires.whole
    (λ given a p is. rw (sym c.last_field-last.ensures) (c.behind.ensures.behind (g.A.AsQuestion.question c.args.q.now)
    given
    (after_record (ways_at (g.A.AsQuestion.question c.args.q.now) c.args.r.now.machine.head) c.args.r.now.machine.head
    c.args.r.now.machine.leaf.left a.nodes a.records c.args.one.now)
    (c.record-stepped.ensures.steps given a is.0 is.1))) at

pub behind-requires-clause-counted : goal.behind-requires-clause-counted
behind-requires-clause-counted g c = omega (
  arith,
  c.record-stepped.ensures.few,
  c.requires.fits.counted,
  record_long c.args.r.now.machine.head.version c.args.one.now,
  c.requires.whole.sized,
)
