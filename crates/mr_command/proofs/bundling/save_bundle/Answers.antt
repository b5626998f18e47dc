use Rattle.std.proofs.Common.{◌+◌, ◌++◌, drop, take, ap, sym, subst, ◌∙◌}
use Rattle.std.specs.Prelude.{Err}
use Rattle.mr_bundle.specs.Bundle.{bundle_of, part_bytes}
use Rattle.mr_command.specs.private.Bundled.{HasMadeText}
use Rattle.mr_command.specs.Ending.{halt_of}
use Rattle.mr_command.specs.private.Steps.{SavesFile}
use Rattle.mr_plan.specs.Outcome.{text}
use Rattle.mr_command.proofs.Going.{halted_is}
use Rattle.mr_command.proofs.Piecewise.{all_made, all_put, begun, bundle_more, bundle_whole, unput, unput_all}
use Rattle.mr_command.proofs.Texts.{text_unsynced, text_saved}
use Rattle.mr_command.proofs.bundling.save_bundle.Goals as goal

pub loop-proof-init : goal.loop-proof-init
loop-proof-init g c =
    begun c.args.name.now (g.S.Shelf.state c.args.shelf.now) c.new-waits.result.bytes.items
    (g.S.Shelf.state c.create.new.self) c.new-waits.ensures c.in_ok-create.ensures.made
    c.in_ok-create.ensures.causes.quiet c.in_ok-create.ensures.reads

pub returns-in_err-put_on : goal.returns-in_err-put_on
returns-in_err-put_on g c =
    let name = c.args.name.now in
    let list = c.args.list.now in
    let before = g.S.Shelf.state c.args.shelf.now in
    let after = g.S.Shelf.state c.put_on.new.shelf in
    let i = c.loop-proof.proof-index in
    let p = c.proof-item.result in
    let halt = c.in_err-put_on.field-0.0 in
    let rest = bundle_of (drop (i + 1) list) in
    subst (SavesFile name (text (bundle_of list)) before after)
    (sym (halted_is c.from_residual-in_err-put_on.result halt c.from_residual-in_err-put_on.ensures.1))
    (subst (λ bytes. SavesFile name (text bytes) before after (Err halt))
    (ap (λ b. (bundle_of (take i list) ++ part_bytes b) ++ rest) c.as_slice.ensures
    ∙ bundle_whole list i p c.loop-proof-test.true c.proof-item.is)
    (c.in_err-put_on.ensures before (bundle_of (take i list)) c.loop-proof.invariant rest))

pub loop-proof-preserved : goal.loop-proof-preserved
loop-proof-preserved g c =
    let list = c.args.list.now in
    let before = g.S.Shelf.state c.args.shelf.now in
    let i = c.loop-proof.proof-index in
    subst (λ made. HasMadeText c.args.name.now made c.put_on.new.waits.bytes.items before
    (g.S.Shelf.state c.put_on.new.shelf))
    (ap (λ b. bundle_of (take i list) ++ part_bytes b) c.as_slice.ensures
    ∙ bundle_more list i c.proof-item.result c.loop-proof-test.true c.proof-item.is)
    (c.in_ok-put_on.ensures before (bundle_of (take i list)) c.loop-proof.invariant)

pub returns-in_err-append : goal.returns-in_err-append
returns-in_err-append g c =
    let name = c.args.name.now in
    let list = c.args.list.now in
    let before = g.S.Shelf.state c.args.shelf.now in
    let mid = g.S.Shelf.state c.loop-proof.shelf in
    let after = g.S.Shelf.state c.append.new.self in
    let bytes = c.bytes.result.now in
    let made = all_made name before list c.loop-proof.proof-index c.loop-proof.waits.bytes.items bytes mid
    c.loop-proof-test.false c.bytes.ensures c.loop-proof.invariant in
    let error = c.in_err-append.field-0.0 in
    subst (SavesFile name (text (bundle_of list)) before after)
    (sym (halted_is c.from_residual-in_err-append.result (halt_of error) c.from_residual-in_err-append.ensures.1))
    (unput_all name before (bundle_of list) bytes mid made after (halt_of error)
    (unput name before (bundle_of list) bytes mid made after error c.in_err-append.ensures.writes.front
    c.in_err-append.ensures.writes.reads c.in_err-append.ensures.causes))

pub returns-in_err-sync : goal.returns-in_err-sync
returns-in_err-sync g c =
    let name = c.args.name.now in
    let list = c.args.list.now in
    let before = g.S.Shelf.state c.args.shelf.now in
    let mid = g.S.Shelf.state c.loop-proof.shelf in
    let full = g.S.Shelf.state c.append.new.self in
    let after = g.S.Shelf.state c.sync.new.self in
    let bytes = c.bytes.result.now in
    let made = all_made name before list c.loop-proof.proof-index c.loop-proof.waits.bytes.items bytes mid
    c.loop-proof-test.false c.bytes.ensures c.loop-proof.invariant in
    let error = c.in_err-sync.field-0.0 in
    subst (SavesFile name (text (bundle_of list)) before after)
    (sym (halted_is c.from_residual-in_err-sync.result (halt_of error) c.from_residual-in_err-sync.ensures.1))
    (text_unsynced name (bundle_of list) before full after error
    (all_put name before (bundle_of list) bytes mid made full c.in_ok-append.ensures.writes.whole)
    (c.in_ok-append.ensures.causes.quiet ∙ c.loop-proof.invariant.faults)
    (c.in_ok-append.ensures.writes.reads ∙ c.loop-proof.invariant.reads) c.in_err-sync.ensures.files
    c.in_err-sync.ensures.reads c.in_err-sync.ensures.causes)

pub returns : goal.returns
returns g c =
    let name = c.args.name.now in
    let list = c.args.list.now in
    let before = g.S.Shelf.state c.args.shelf.now in
    let mid = g.S.Shelf.state c.loop-proof.shelf in
    let full = g.S.Shelf.state c.append.new.self in
    let after = g.S.Shelf.state c.sync.new.self in
    let bytes = c.bytes.result.now in
    let made = all_made name before list c.loop-proof.proof-index c.loop-proof.waits.bytes.items bytes mid
    c.loop-proof-test.false c.bytes.ensures c.loop-proof.invariant in
    text_saved name (bundle_of list) before after tt
    (c.in_ok-sync.ensures.files
    ∙ all_put name before (bundle_of list) bytes mid made full c.in_ok-append.ensures.writes.whole)
    (c.in_ok-sync.ensures.causes.quiet ∙ c.in_ok-append.ensures.causes.quiet ∙ c.loop-proof.invariant.faults)
    (c.in_ok-sync.ensures.reads ∙ c.in_ok-append.ensures.writes.reads ∙ c.loop-proof.invariant.reads)
