use Rattle.std.proofs.Common.{length, ap, ◌∙◌, arith}
use Rattle.mr_pages.specs.Walking.{head_of}
use Rattle.mr_pages.proofs.Short.{spelled_by}
use Rattle.mr_pages.proofs.page.head.is_spelled.Goals as goal

pub returns : goal.returns
returns c =
    spelled_by c.args.layout (head_of c.args.head.now) c.args.page.now c.split_at.result.0.now c.as_slice.result.now
    c.is_filled.result c.requires.layout.room
    (omega (arith, c.as_slice.ensures.room, ap length c.as_slice.ensures.bytes)) c.requires.size c.requires.sealed
    c.split_at.ensures.front
    (c.as_slice.ensures.bytes ∙ c.encoded-bytes.ensures) c.is_filled.ensures
