use Rattle.std.proofs.Common.{◌<◌, ◌^◌, ap, sym, subst, ◌∙◌, arith}
use Rattle.std.specs.Prelude.{All}
use Rattle.mr_edit.specs.Replayed.{IsOfVersion}
use Rattle.mr_pages.specs.declared.layout.Layout.{Layout}
use Rattle.mr_store.specs.CachedFile.{name_of, page_form}
use Rattle.mr_store.specs.Paged.{shelved, stands_for}
use Rattle.mr_store.specs.Stored.{told_bytes}
use Rattle.mr_draft.specs.Draft.{draft_of}
use Rattle.mr_command.specs.private.Applying.{ComesBehind, IsFewOfCopy}
use Rattle.mr_plan.specs.Plan.{comes}
use Rattle.mr_plan.specs.Untold.{MaySayApply}
use Rattle.mr_plan.specs.Say.{say_changed}
use Rattle.mr_command.proofs.Drafts.{uncopied, unapplied, sealed, root_of_some, version_in}
use Rattle.mr_command.proofs.apply_command.change.Goals as goal

pub returns-in-Err : goal.returns-in-Err
returns-in-Err g c = λ name.
    let paged = c.args.paged in
    uncopied g.H.Hashes.of c.args.map.now c.args.new.now name paged.file paged.head c.args.batch.now
    (g.S.Shelf.state c.in-Err.shelf) c.in-Err.error c.uncopied.result c.in-Err.ensures c.uncopied.ensures

pub apply_batch-requires : goal.apply_batch-requires
apply_batch-requires g c =
    let paged = c.args.paged in
    subst (λ v. All (IsOfVersion v) c.args.batch.now.list)
    (version_in (page_form paged.file) paged.head (told_bytes (shelved paged).files (name_of paged.file))
    ∙ sym (ap (λ (l : Layout). l.version) c.in-Ok.ensures.layout)) c.requires.layers

pub returns-in-Err-apply_batch : goal.returns-in-Err-apply_batch
returns-in-Err-apply_batch g c = λ name.
    let hash = g.H.Hashes.of in
    let paged = c.args.paged in
    let before = shelved paged in
    let is = c.in-Err-apply_batch.ensures in
    subst (λ w. ComesBehind (MaySayApply hash c.args.map.now name c.args.new.now) (stands_for paged)
    (λ m. comes (say_changed m.version hash c.args.new.now paged.head.pages m.tree c.args.batch.now))
    (IsFewOfCopy paged.head.pages c.args.batch.now before.reads w.reads) before w
    c.unchanged.result) (sym (ap g.S.Shelf.state c.close.ensures))
    (unapplied hash c.args.map.now c.args.new.now name paged.file paged.head c.args.batch.now
    c.args.dir c.requires.may (draft_of c.in-Ok.draft) c.in-Ok.ensures (draft_of c.apply_batch.new.self) is.kept
    is.within c.in-Err-apply_batch.error c.unchanged.result is.cause is.blames_none_told c.unchanged.ensures)

pub returns : goal.returns
returns g c = λ name.
    let hash = g.H.Hashes.of in
    let paged = c.args.paged in
    let later = c.apply_batch.new.self in
    let is = c.in-Ok-apply_batch.ensures in
    let low : later.batch < 2 ^ 64 = omega (arith, is.batch, c.number.ensures, c.is_word.ensures) in
    sealed hash c.args.map.now c.args.new.now name paged.file paged.head c.args.batch.now c.args.dir c.requires.may
    (draft_of c.in-Ok.draft) c.in-Ok.ensures (draft_of later) is.kept is.within c.apply_batch.new.dir
    is.applies is.batch is.quiet (g.S.Shelf.state c.seal-shelf.result.0) c.seal-shelf.ensures.reads
    c.seal-shelf.result.1 c.say_sealed.result c.seal-shelf.ensures.sealed
    (root_of_some hash later.sheets.file.layout.version later.batch later.count later.root low is.top
    (is.low c.in-Ok.ensures.low) c.seal-shelf.ensures.node c.seal-shelf.result.1
    c.seal-shelf.ensures.digest) c.say_sealed.ensures
