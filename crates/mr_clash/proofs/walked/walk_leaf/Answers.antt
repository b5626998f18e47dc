use Rattle.std.proofs.Common.{ap, ◌++◌, ◌∙◌}
use Rattle.mr_tree.specs.Digest.{by}
use Rattle.mr_proof.specs.Cut.{Leaf}
use Rattle.mr_proof.specs.Spelling.{cut_bytes}
use Rattle.mr_clash.specs.private.Steps.{left}
use Rattle.mr_clash.proofs.OwnNodes.{own_leaf}
use Rattle.mr_clash.proofs.walked.walk_leaf.Goals as goal

pub returns-then-pass_own_leaf : goal.returns-then-pass_own_leaf
returns-then-pass_own_leaf g c = λ held layers rs rest fits is.
    let v = c.args.version in
    let after = left c.pass_own_leaf.new.from in
    rw c.entry_with-entry.ensures
    (own_leaf (by v g.H.Hashes.of) c.args.view.now rs rest (left c.args.from.now) after c.args.child.now.digest
    c.view_summary.result c.is_view.ensures layers (c.records.ensures.leaf c.requires) fits is
    (c.pass_own_leaf.ensures.own c.if-pass_own_leaf.true
    ∙ ap (λ xs. cut_bytes v (Leaf xs) ++ after) c.records.ensures.value) c.view_summary.ensures held)
