use Rattle.std.proofs.Common.{◌≡◌, ◌∙◌, OnOk, is_some, sym, ap, subst}
use Rattle.std.specs.String.{string_bytes}
use Rattle.mr_outside.specs.State.{Shelved}
use Rattle.mr_journal.specs.declared.disk.DiskErr.TheVariants.{NoMemory}
use Rattle.mr_here.specs.OnFiles.{TellsVersion}
use Rattle.mr_here.proofs.OnShelf.{tells_as, tells_none}
use Rattle.mr_journal.specs.Shelves.{image_on}
use Rattle.mr_journal.proofs.Quiet.{some_map}
use Rattle.mr_here.proofs.files.version_of_files.Goals as goal

pub returns-in-Err-clause-version : goal.returns-in-Err-clause-version
returns-in-Err-clause-version g c =
    tells_none c.args.map.now c.args.journal.now (g.S.Shelf.state c.args.shelf).files NoMemory

pub returns-in-Ok-clause-version : goal.returns-in-Ok-clause-version
returns-in-Ok-clause-version g c =
    let disk = c.in-Ok.disk in
    let r = c.version_held-answer.result in
    subst (λ (x : Shelved). TellsVersion c.args.map.now c.args.journal.now x.files r)
    (ap g.S.Shelf.state c.in-Ok.ensures.shelf)
    (tells_as c.args.map.now c.args.journal.now (string_bytes disk.map) (string_bytes disk.journal)
    (g.S.Shelf.state disk.shelf).files r c.in-Ok.ensures.map c.in-Ok.ensures.journal
    c.version_held-answer.ensures.version)

pub returns-in-Ok-clause-quiet : goal.returns-in-Ok-clause-quiet
returns-in-Ok-clause-quiet g c some =
    let disk = c.in-Ok.disk in
    let r = c.version_held-answer.result in
    subst (λ (x : Shelved). OnOk r ((g.S.Shelf.state c.close.result).faults ≡ x.faults))
    (ap g.S.Shelf.state c.in-Ok.ensures.shelf)
    (subst (λ (x : Shelved). OnOk r (x.faults ≡ (g.S.Shelf.state disk.shelf).faults))
    (sym (ap g.S.Shelf.state c.close.ensures))
    (c.version_held-answer.ensures.causes.quiet
    (some_map (image_on (string_bytes disk.map) (string_bytes disk.journal)) (g.S.Shelf.state disk.shelf).files
    ∙ ap (λ s. is_some (g.S.Shelf.state s).files) c.in-Ok.ensures.shelf ∙ some)))
