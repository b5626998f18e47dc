use Rattle.std.proofs.Common.{◌∙◌}
use Rattle.mr_tree.specs.Digest.{by}
use Rattle.mr_proof.specs.Cut.{Leaf}
use Rattle.mr_proof.specs.Spelling.{cut_bytes}
use Rattle.mr_clash.specs.private.Steps.{entry_with}
use Rattle.mr_clash.proofs.Nodes.{leaf_said}
use Rattle.mr_clash.proofs.items.pass_leaf.Goals as goal

pub returns : goal.returns
returns g c = λ rs rest fits is.
    let v = c.args.version in
    let r = c.leaf_summary-all.ensures rs rest fits is in
    record {
      says = leaf_said (by v g.H.Hashes.of) rs _ c.passed.result.now
          (c.entry_with.ensures ∙ (λ i. entry_with 0 (r.0 i) (c.digest_of-digest.ensures i)))
          (c.passed.ensures (cut_bytes v (Leaf rs)) rest is r.1);
      behind = r.1;
    }
