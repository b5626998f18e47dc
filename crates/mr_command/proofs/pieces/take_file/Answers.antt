use Rattle.std.proofs.Common.{◌∙◌, refl, arith}
use Rattle.std.proofs.lemmas.Result.{err_from_is_err_and}
use Rattle.mr_command.proofs.Taking.{nothing_taken, piece_taken, piece_unsettled, file_taken, short_taken, file_stops}
use Rattle.mr_command.proofs.ToFault.{none_read, one_read, more_read, to_fault}
use Rattle.mr_command.proofs.pieces.take_file.Goals as goal

pub returns-in_err-next-clause-takes : goal.returns-in_err-next-clause-takes
returns-in_err-next-clause-takes g c = λ root q is.
    let told = (g.S.Shelf.state c.args.shelf.now).files in
    let had = c.loop-at.invariant.taken root q is in
    let p = err_from_is_err_and c.from_residual.result c.from_residual.ensures.1 in
    rw (p.1, p.2) (file_stops g.H.Hashes.of g.H.Hashes.holds root q told c.args.name.now c.args.size c.loop-at.taken
    c.loop-at.at _ had c.requires.bytes c.in_err-next.field-0.0
    (rw c.loop-at.invariant.files at (c.in_err-next.ensures.takes root q had.front had.taken)))

pub returns-then-count-wanted-clause-takes : goal.returns-then-count-wanted-clause-takes
returns-then-count-wanted-clause-takes g c = λ root q is.
    let told = (g.S.Shelf.state c.args.shelf.now).files in
    let had = c.loop-at.invariant.taken root q is in
    short_taken g.H.Hashes.of g.H.Hashes.holds root q told c.args.name.now c.args.size c.loop-at.taken
    c.in_ok-next.next c.loop-at.at c.min-wanted.result c.in_ok-next.count had
    (omega (arith, c.min-wanted.ensures)) c.if-count-wanted.true
    (rw c.loop-at.invariant.files at (c.in_ok-next.ensures.takes root q had.front had.taken))

pub loop-at-preserved : goal.loop-at-preserved
loop-at-preserved g c =
    let told = (g.S.Shelf.state c.args.shelf.now).files in
    record {
      counts = record {
        faults = omega (arith, c.loop-at.invariant.counts.faults, c.in_ok-next.ensures.causes.counts.faults);
        reads = omega (arith, c.loop-at.invariant.counts.reads, c.in_ok-next.ensures.causes.counts.reads);
      };
      files = c.in_ok-next.ensures.causes.files ∙ c.loop-at.invariant.files;
      faults = c.in_ok-next.ensures.causes.cause ∙ c.loop-at.invariant.faults;
      stops = λ root q is.
          let had = c.loop-at.invariant.taken root q is in
          more_read g.H.Hashes.of root q told c.args.name.now c.args.size (g.S.Shelf.state c.args.shelf.now).reads
          c.loop-at.at (g.S.Shelf.state c.loop-at.shelf).reads (g.S.Shelf.state c.take_next.new.shelf).reads
          c.min-wanted.result c.in_ok-next.count c.loop-at-test.true c.in_ok-next.ensures.one
          (omega (arith, c.min-wanted.ensures, c.requires.room)) c.if-count-wanted.false c.in_ok-next.ensures.within
          (piece_unsettled g.H.Hashes.of g.H.Hashes.holds root q told c.args.name.now c.args.size c.loop-at.taken
          c.in_ok-next.next c.loop-at.at c.min-wanted.result c.in_ok-next.count had
          (rw c.loop-at.invariant.files at (c.in_ok-next.ensures.takes root q had.front had.taken)))
          (c.loop-at.invariant.stops root q is);
      taken = λ root q is.
          let had = c.loop-at.invariant.taken root q is in
          piece_taken g.H.Hashes.of g.H.Hashes.holds root q told c.args.name.now c.args.size c.loop-at.taken
          c.in_ok-next.next c.loop-at.at c.min-wanted.result c.in_ok-next.count had
          (rw c.loop-at.invariant.files at (c.in_ok-next.ensures.takes root q had.front had.taken));
    }

pub returns-clause-takes : goal.returns-clause-takes
returns-clause-takes g c = λ root q is.
    file_taken g.H.Hashes.of g.H.Hashes.holds root q (g.S.Shelf.state c.args.shelf.now).files c.args.name.now
    c.args.size c.loop-at.taken c.loop-at.at (omega (arith, c.loop-at-test.false))
    (c.loop-at.invariant.taken root q is)

-- ---- how far it is read

pub loop-at-init : goal.loop-at-init
loop-at-init g c =
    let before = g.S.Shelf.state c.args.shelf.now in
    record {
      counts = record { faults = omega arith; reads = omega arith };
      files = refl;
      stops = λ root q is. none_read g.H.Hashes.of root q before.files c.args.name.now c.args.size before.reads;
      faults = refl;
      taken = λ root q is. nothing_taken g.H.Hashes.of g.H.Hashes.holds root q before.files c.args.name.now
          c.args.size c.args.intake c.requires.size is;
    }

pub returns-in_err-next-clause-stops : goal.returns-in_err-next-clause-stops
returns-in_err-next-clause-stops g c = λ root q is.
    let before = g.S.Shelf.state c.args.shelf.now in
    to_fault g.H.Hashes.of root q before.files c.args.name.now c.args.size before.reads _ c.requires.size
    (one_read g.H.Hashes.of root q before.files c.args.name.now c.args.size before.reads c.loop-at.at
    (g.S.Shelf.state c.loop-at.shelf).reads (g.S.Shelf.state c.take_next.new.shelf).reads c.loop-at-test.true
    c.in_err-next.ensures.one (c.loop-at.invariant.stops root q is))

pub returns-then-count-wanted-clause-stops : goal.returns-then-count-wanted-clause-stops
returns-then-count-wanted-clause-stops g c = λ root q is.
    let before = g.S.Shelf.state c.args.shelf.now in
    to_fault g.H.Hashes.of root q before.files c.args.name.now c.args.size before.reads _ c.requires.size
    (one_read g.H.Hashes.of root q before.files c.args.name.now c.args.size before.reads c.loop-at.at
    (g.S.Shelf.state c.loop-at.shelf).reads (g.S.Shelf.state c.take_next.new.shelf).reads c.loop-at-test.true
    c.in_ok-next.ensures.one (c.loop-at.invariant.stops root q is))

pub returns-clause-stops : goal.returns-clause-stops
returns-clause-stops g c = λ root q is.
    let before = g.S.Shelf.state c.args.shelf.now in
    to_fault g.H.Hashes.of root q before.files c.args.name.now c.args.size before.reads _ c.requires.size
    (c.loop-at.invariant.stops root q is).read
