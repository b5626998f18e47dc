use Rattle.std.proofs.Common.{ap, ◌∙◌}
use Rattle.std.specs.Prelude.{Some}
use Rattle.mr_tree.specs.Digest.{by}
use Rattle.mr_proof.specs.Clash.{differ}
use Rattle.mr_proof.specs.Cut.{Leaf}
use Rattle.mr_proof.specs.Spelling.{cut_bytes}
use Rattle.mr_clash.specs.private.Steps.{entry_with}
use Rattle.mr_clash.proofs.Nodes.{leaf_said}
use Rattle.mr_clash.proofs.walked.compare_leaf.Goals as goal

pub returns : goal.returns
returns g c = λ held rs rest fits is.
    let v = c.args.version in
    let r = c.leaf_summary-all.ensures rs rest fits is in
    let string = c.passed-shown.ensures (cut_bytes v (Leaf rs)) rest is r.1 in
    let digest = c.digest_beside-digest.ensures c.args.owned.items held c.in_ok-clash.ensures in
    record {
      says = leaf_said (by v g.H.Hashes.of) rs _ c.passed-shown.result.now
          (c.entry_with-entry.ensures ∙ (λ i. entry_with 0 (r.0 i) (digest i))) string;
      behind = r.1;
      pair = c.in_ok-clash.ensures ∙ ap (λ y. differ c.args.owned.items (Some y)) string;
    }
