use Rattle.std.proofs.Common.{◌≡◌, ◌∙◌, is_some, sym, ap, subst}
use Rattle.std.specs.Prelude.{Err}
use Rattle.std.specs.String.{string_bytes}
use Rattle.mr_outside.specs.State.{Shelved}
use Rattle.mr_journal.proofs.Shelving.{beside_same}
use Rattle.mr_here.specs.OnFiles.{AppliesTo}
use Rattle.mr_here.specs.declared.error.HereErr.TheVariants as errors
use Rattle.mr_here.proofs.OnShelf.{applies_as, applies_none}
use Rattle.mr_journal.specs.Shelves.{image_on}
use Rattle.mr_journal.proofs.Quiet.{some_map}
use Rattle.mr_here.specs.Updated.{WhereJudged}
use Rattle.mr_here.proofs.files.apply_files.Goals as goal

pub returns-in-Err-clause-applies : goal.returns-in-Err-clause-applies
returns-in-Err-clause-applies g c =
    subst (λ (x : Shelved). AppliesTo g.H.Hashes.of c.args.map.now c.args.journal.now c.args.batch.now
    (g.S.Shelf.state c.args.shelf).files x.files (Err errors.NoMemory))
    (sym (ap g.S.Shelf.state c.in-Err.ensures.shelf))
    (applies_none g.H.Hashes.of c.args.batch.now c.args.map.now c.args.journal.now (g.S.Shelf.state c.args.shelf).files)

pub returns-in-Err-clause-beside : goal.returns-in-Err-clause-beside
returns-in-Err-clause-beside g c = beside_same c.args.map.now c.args.journal.now _ _
    (ap (λ s. (g.S.Shelf.state s).files) c.in-Err.ensures.shelf)

pub returns-in-Ok-clause-applies : goal.returns-in-Ok-clause-applies
returns-in-Ok-clause-applies g c =
    let hash = g.H.Hashes.of in
    let batch = c.args.batch.now in
    let disk = c.in-Ok.disk in
    let after = c.apply_here-answer.new.disk in
    let e = c.apply_here-answer.ensures in
    let r = c.apply_here-answer.result in
    let u = g.S.Shelf.state after.shelf in
    subst (λ (x : Shelved). AppliesTo hash c.args.map.now c.args.journal.now batch x.files
    (g.S.Shelf.state c.close.result).files r) (ap g.S.Shelf.state c.in-Ok.ensures.shelf)
    (subst (λ (x : Shelved). AppliesTo hash c.args.map.now c.args.journal.now batch (g.S.Shelf.state disk.shelf).files
    x.files r) (sym (ap g.S.Shelf.state c.close.ensures))
    (applies_as hash batch c.args.map.now c.args.journal.now (string_bytes disk.map) (string_bytes after.map)
    (string_bytes disk.journal) (string_bytes after.journal) (g.S.Shelf.state disk.shelf) u
    c.in-Ok.ensures.map c.in-Ok.ensures.journal e.kept e.any_moment r e.done e.answer e.still))

pub returns-in-Err-clause-quiet : goal.returns-in-Err-clause-quiet
returns-in-Err-clause-quiet g c some said = absurd said

pub returns-in-Ok-clause-quiet : goal.returns-in-Ok-clause-quiet
returns-in-Ok-clause-quiet g c some =
    let disk = c.in-Ok.disk in
    let r = c.apply_here-answer.result in
    subst (λ (x : Shelved). WhereJudged r ((g.S.Shelf.state c.close.result).faults ≡ x.faults))
    (ap g.S.Shelf.state c.in-Ok.ensures.shelf)
    (subst (λ (x : Shelved). WhereJudged r (x.faults ≡ (g.S.Shelf.state disk.shelf).faults))
    (sym (ap g.S.Shelf.state c.close.ensures))
    (c.apply_here-answer.ensures.quiet
    (some_map (image_on (string_bytes disk.map) (string_bytes disk.journal)) (g.S.Shelf.state disk.shelf).files
    ∙ ap (λ s. is_some (g.S.Shelf.state s).files) c.in-Ok.ensures.shelf ∙ some)))
