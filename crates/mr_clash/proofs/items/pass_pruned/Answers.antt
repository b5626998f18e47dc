use Rattle.std.proofs.Common.{◌++◌, ◌∙◌}
use Rattle.mr_tree.specs.Digest.{word_bytes}
use Rattle.mr_proof.specs.Fields.{pruned_tag}
use Rattle.mr_proof.specs.Spelling.{shown_bytes}
use Rattle.mr_proof.proofs.SameNodes.{told_few}
use Rattle.mr_clash.proofs.Taking.{shown_fields}
use Rattle.mr_clash.proofs.items.pass_pruned.Goals as goal

pub returns : goal.returns
returns c = λ hash part rest fits is.
    let v = c.args.version in
    let words = word_bytes v part.mask ++ (word_bytes v part.count ++ (part.digest ++ rest)) in
    let t = c.byte-tag.ensures pruned_tag (shown_bytes v part ++ rest) is in
    let r = c.rect-rect.ensures part.rect words fits.ordered fits.coordinates (t.1 ∙ shown_fields v part rest) in
    let m = c.word-mask.ensures part.mask (word_bytes v part.count ++ (part.digest ++ rest)) fits.mask r.1 in
    let n = c.word-count.ensures part.count (part.digest ++ rest) (told_few v part.count fits.few) m.1 in
    let d = c.digest-digest.ensures part.digest rest fits.digest n.1 in
    record {
      says = λ i. record {
        level = c.args.level;
        rect = r.0 i;
        mask = m.0 i;
        count = n.0 i;
        digest = d.0 i;
      };
      behind = d.1;
    }
