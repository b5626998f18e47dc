use Rattle.std.proofs.Common.{ap, length, ◌∙◌}
use Rattle.mr_record.specs.Version.{told}
use Rattle.mr_tree.specs.View.{rect_of, mask_over}
use Rattle.mr_clash.proofs.walked.view_summary.Goals as goal

pub returns : goal.returns
returns c =
    let leaf = c.records.ensures.leaf c.requires in
    λ i. record {
      rect = (c.rect.ensures ∙ ap rect_of leaf) i;
      mask = (c.mask.ensures ∙ ap (mask_over c.args.version) leaf) i;
      count = (c.as_told.ensures ∙ ap (λ rs. told c.args.version (length rs)) c.records.ensures.value) i;
    }
