use Rattle.std.proofs.Common.{append_assoc}
use Rattle.mr_pages.specs.PageBytes.{head_bytes}
use Rattle.mr_pages.proofs.page.head.encoded.Goals as goal

pub returns : goal.returns
unfolding head_bytes
returns c =
    rw (
      c.put.ensures,
      c.put_root.ensures.bytes,
      c.put_counts.ensures.bytes,
      c.new-bytes.ensures,
      c.to_be_bytes.ensures,
      c.requires,
    ) (simp append_assoc)
