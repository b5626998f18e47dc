use Rattle.std.proofs.Common.{ap, map, sym, subst, ◌∙◌}
use Rattle.std.specs.Prelude.{◌≡◌, List}
use Rattle.mr_tree.specs.Digest.{by}
use Rattle.mr_tree.specs.View.{child_entry}
use Rattle.mr_tree.specs.declared.entry.Entry.{Entry}
use Rattle.mr_clash.specs.private.Steps.{inner_summary, HaveSum}
use Rattle.mr_clash.proofs.OwnNodes.{own_inner}
use Rattle.mr_clash.proofs.walked.close_inner.Goals as goal

pub returns-then-are_own : goal.returns-then-are_own
returns-then-are_own g c = λ held.
    let u = c.args.version in
    let says = subst (λ (xs : List Entry). HaveSum xs → c.inner_summary.result ≡ inner_summary xs)
    c.deref-then-are_own.ensures.value c.inner_summary.ensures in
    rw c.entry_with-entry.ensures
    (own_inner (by u g.H.Hashes.of) c.args.view.now c.args.child.now.level c.args.child.now.digest
    c.inner_summary.result c.args.row (c.children.ensures.inner c.requires.inner) (sym c.requires.level)
    (sym c.deref.ensures.value ∙ c.are_own.ensures c.if-are_own.true ∙ ap (map child_entry) c.children.ensures.value)
    says held)
