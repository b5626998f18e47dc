use Rattle.std.proofs.Common.{◌++◌, length, ap, ◌∙◌}
use Rattle.mr_tree.specs.Digest.{entry_bytes}
use Rattle.mr_pages.specs.PageBytes.{link_bytes}
use Rattle.mr_pages.proofs.ViewPages.{length_child}
use Rattle.mr_pages.proofs.page.node.encoded_link.Goals as goal

pub returns : goal.returns
unfolding link_bytes
returns c =
    let bytes = c.put-2.ensures ∙ (λ i. (c.put.ensures ∙ (λ k. c.new-bytes.ensures k ++ c.to_be_bytes.ensures k)) i
    ++ (c.as_slice.ensures.bytes ∙ c.encoded.ensures.bytes ∙ ap (entry_bytes c.args.version) c.entry.ensures) i) in
    record {
      bytes = bytes;
      size = ap length bytes ∙ length_child c.args.version c.args.child.now c.is_digest.ensures;
    }
