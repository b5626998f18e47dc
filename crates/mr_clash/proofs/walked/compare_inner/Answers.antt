use Rattle.std.proofs.Common.{sym, ap, subst, ◌∙◌}
use Rattle.std.specs.Prelude.{◌≡◌, List, Some, option_map}
use Rattle.mr_tree.specs.declared.entry.Entry.{Entry}
use Rattle.mr_proof.specs.Clash.{differ, or_else}
use Rattle.mr_clash.specs.private.Steps.{pair_of, string_over, inner_summary, entry_with, HaveSum}
use Rattle.mr_clash.proofs.walked.compare_inner.Goals as goal

pub returns : goal.returns
returns g c = λ held.
    let level = c.args.child.now.level in
    let shown = c.in_ok-shown.ensures ∙ ap (string_over c.args.version level) c.deref.ensures.value in
    let says = subst (λ (xs : List Entry). HaveSum xs → c.inner_summary.result ≡ inner_summary xs)
    c.deref-4.ensures.value c.inner_summary.ensures in
    let digest = c.digest_beside-digest.ensures c.args.owned.items held
    (c.in_ok-clash.ensures ∙ ap (λ y. differ c.args.owned.items (Some y))
    (c.deref-2.ensures.value ∙ sym c.deref-3.ensures.value))
    ∙ ap g.H.Hashes.of (c.deref-3.ensures.value ∙ shown) in
    record {
      says = λ few. c.entry_with-entry.ensures ∙ (λ i. entry_with level (says few i) (digest i));
      pair = c.first_of.ensures ∙ ap (λ o. or_else o (option_map pair_of c.args.row.clash))
          (c.in_ok-clash.ensures ∙ ap (λ y. differ c.args.owned.items (Some y)) (c.deref-2.ensures.value ∙ shown));
    }
