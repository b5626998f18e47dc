use Rattle.std.proofs.Common.{◌++◌, length, ap, ◌∙◌}
use Rattle.mr_tree.specs.Digest.{root_entry_bytes}
use Rattle.mr_pages.specs.PageBytes.{root_link_bytes}
use Rattle.mr_pages.proofs.ViewPages.{length_root}
use Rattle.mr_pages.proofs.page.head.encoded_root.Goals as goal

pub returns : goal.returns
unfolding root_link_bytes
returns c =
    let bytes = c.put-2.ensures ∙ (λ i. (c.put.ensures ∙ (λ k. c.new-bytes.ensures k ++ c.to_be_bytes.ensures k)) i
    ++ (c.as_slice.ensures.bytes ∙ c.encoded_as_root.ensures.bytes
    ∙ ap (root_entry_bytes c.args.version) c.entry.ensures) i) in
    record {
      bytes = bytes;
      size = ap length bytes ∙ length_root c.args.version c.args.root.now c.is_digest.ensures;
    }
