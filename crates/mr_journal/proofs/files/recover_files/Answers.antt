use Rattle.std.proofs.Common.{◌≡◌, ◌∙◌, OnOk, is_some, sym, ap, subst}
use Rattle.std.specs.String.{string_bytes}
use Rattle.mr_outside.specs.State.{Shelved}
use Rattle.mr_journal.specs.Recovered.{RecoversMap}
use Rattle.mr_journal.proofs.OnFiles.{recovers_as}
use Rattle.mr_journal.proofs.Shelving.{beside_same}
use Rattle.mr_journal.specs.Shelves.{image_on}
use Rattle.mr_journal.proofs.Quiet.{some_map}
use Rattle.mr_journal.proofs.files.recover_files.Goals as goal

pub returns-in-Err-clause-beside : goal.returns-in-Err-clause-beside
returns-in-Err-clause-beside g c = beside_same c.args.map.now c.args.journal.now _ _
    (ap (λ s. (g.S.Shelf.state s).files) c.in-Err.ensures.shelf)

pub returns-in-Ok-clause-recovers : goal.returns-in-Ok-clause-recovers
returns-in-Ok-clause-recovers g c =
    let disk = c.in-Ok.disk in
    let after = c.recover-answer.new.disk in
    let e = c.recover-answer.ensures in
    let u = g.S.Shelf.state after.shelf in
    subst (λ (x : Shelved). RecoversMap c.args.map.now c.args.journal.now x.files (g.S.Shelf.state c.close.result).files
    c.recover-answer.result) (ap g.S.Shelf.state c.in-Ok.ensures.shelf)
    (subst (λ (x : Shelved). RecoversMap c.args.map.now c.args.journal.now (g.S.Shelf.state disk.shelf).files x.files
    c.recover-answer.result) (sym (ap g.S.Shelf.state c.close.ensures))
    (recovers_as c.args.map.now c.args.journal.now (string_bytes disk.map) (string_bytes after.map)
    (string_bytes disk.journal) (string_bytes after.journal) (g.S.Shelf.state disk.shelf) u
    c.in-Ok.ensures.map c.in-Ok.ensures.journal e.kept e.any_moment c.recover-answer.result e.left e.answer))

pub returns-in-Ok-clause-quiet : goal.returns-in-Ok-clause-quiet
returns-in-Ok-clause-quiet g c some =
    let disk = c.in-Ok.disk in
    let r = c.recover-answer.result in
    subst (λ (x : Shelved). OnOk r ((g.S.Shelf.state c.close.result).faults ≡ x.faults))
    (ap g.S.Shelf.state c.in-Ok.ensures.shelf)
    (subst (λ (x : Shelved). OnOk r (x.faults ≡ (g.S.Shelf.state disk.shelf).faults))
    (sym (ap g.S.Shelf.state c.close.ensures))
    (c.recover-answer.ensures.causes.quiet
    (some_map (image_on (string_bytes disk.map) (string_bytes disk.journal)) (g.S.Shelf.state disk.shelf).files
    ∙ ap (λ s. is_some (g.S.Shelf.state s).files) c.in-Ok.ensures.shelf ∙ some)))
