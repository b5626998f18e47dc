use Rattle.std.proofs.Common.{ℕ, ◌≤◌, length, sym, ap, subst, ◌∙◌}
use Rattle.std.specs.Prelude.{All}
use Rattle.std.specs.Global.{Vec}
use Rattle.mr_outside.specs.Bytes.{AreBytes}
use Rattle.mr_bundle.specs.Verdicts.{verdicts}
use Rattle.mr_bundle.specs.Bundle.{parts}
use Rattle.mr_plan.specs.Judged.{HasLines, bundle_text, bundle_status}
use Rattle.mr_command.proofs.Bundles.{gives_parts, verdicts_few}
use Rattle.mr_command.proofs.Plain.{verdicts_lines}
use Rattle.mr_command.proofs.check_all_command.check_bytes.Goals as goal

pub judged_text-requires-clause-few : goal.judged_text-requires-clause-few
judged_text-requires-clause-few g c =
    subst (λ l. length l ≤ length c.args.queries.now) (sym (c.deref-5.ensures.value ∙ c.in_ok-list.ensures))
    (verdicts_few g.H.Hashes.of c.args.root.now c.args.queries.now c.deref-3.result.now c.as_slice.result.now)

pub judged_text-requires-clause-lines : goal.judged_text-requires-clause-lines
judged_text-requires-clause-lines g c =
    let are = subst AreBytes (c.deref.ensures.value ∙ sym c.deref-3.ensures.value) c.are_bytes.ensures in
    subst (All HasLines) (sym (c.deref-5.ensures.value ∙ c.in_ok-list.ensures))
    (verdicts_lines g.H.Hashes.of c.args.root.now c.deref-3.result.now are c.args.queries.now c.as_slice.result.now)

pub returns : goal.returns
returns g c =
    let hash = g.H.Hashes.of in
    let root = c.args.root.now in
    let queries = c.args.queries.now in
    let bytes = c.args.bytes.items in
    let broken = c.in_ok-parts.parts.broken in
    let list = c.as_slice.ensures ∙ c.in_ok-parts.ensures.list
    ∙ ap (λ b. (parts b (length queries)).list) c.deref-2.ensures.value in
    gives_parts hash root queries bytes c.in_ok-list.list.items broken c.text.result
    (c.in_ok-list.ensures ∙ (λ i. verdicts hash root queries (c.deref-3.ensures.value i) (list i)))
    (c.in_ok-parts.ensures.broken ∙ ap (λ b. (parts b (length queries)).broken) c.deref-2.ensures.value)
    (c.text.ensures.status ∙ c.judged_status-status.ensures
    ∙ ap (λ l. bundle_status l broken) c.deref-6.ensures.value)
    (c.text.ensures.printed ∙ ap (λ (v : Vec ℕ). v.items) c.into_bytes.ensures ∙ c.in_ok-text.ensures
    ∙ ap (λ l. bundle_text (length queries) l broken) c.deref-5.ensures.value)
