use Rattle.std.proofs.Common.{◌∙◌, length, arith, rules}
use Rattle.mr_outside.proofs.Pieces.{FrontOfFile-more, piece_count-read}
use Rattle.mr_outside.proofs.reading.read_up_to.Goals as goal

pub loop-bytes-preserved : goal.loop-bytes-preserved
loop-bytes-preserved g c = record {
  files = c.in_ok-read_piece.ensures.files ∙ c.loop-bytes.invariant.files;
  front = FrontOfFile-more _ _ _ _ _ _ _ c.loop-bytes.invariant.front
      (rw c.loop-bytes.invariant.files at c.in_ok-read_piece.ensures.count)
      (rw c.loop-bytes.invariant.files at c.in_ok-read_piece.ensures.bytes);
  faults = c.in_ok-read_piece.ensures.causes.quiet ∙ c.loop-bytes.invariant.faults;
  reads = omega (arith, c.in_ok-read_piece.ensures.reads);
  pieces = piece_count-read c.args.size (length c.loop-bytes.bytes.items) (length c.read_piece.new.bytes.items)
      c.min-wanted.result c.in_ok-read_piece.field-0
      (g.S.Shelf.state c.loop-bytes.shelf).reads (g.S.Shelf.state c.read_piece.new.shelf).reads _
      (omega arith) (search rules) c.if-branch-wanted.false (search (rules, c.in_ok-read_piece.ensures.grown))
      c.in_ok-read_piece.ensures.one c.loop-bytes.invariant.pieces;
}
