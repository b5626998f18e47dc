use Rattle.std.proofs.Common.{List, ℕ, sym, subst, ap, ◌∙◌}
use Rattle.std.specs.Prelude.{All, OnOk, Result}
use Rattle.mr_edit.specs.Replayed.{IsOfVersion}
use Rattle.mr_pages.specs.Law.{map_in}
use Rattle.mr_pages.specs.declared.layout.Layout.{Layout}
use Rattle.mr_store.specs.CachedFile.{bytes_of, page_form}
use Rattle.mr_store.specs.Paged.{shelved, stands_for}
use Rattle.mr_draft.specs.Draft.{draft_of}
use Rattle.mr_here.specs.declared.error.HereErr.{HereErr}
use Rattle.mr_here.specs.private.Forming.{KeepsOthers, MakesMap}
use Rattle.mr_here.proofs.Beside as besides
use Rattle.mr_here.proofs.InMemory.{can, sealed, shelf_only, version_in}
use Rattle.mr_here.proofs.editing.change.Goals as goal

pub returns-in-Err-clause-made : goal.returns-in-Err-clause-made
returns-in-Err-clause-made g c t told lists may =
    c.unchanged.ensures ∙ shelf_only _ _ c.in-Err.error c.in-Err.ensures.cause

pub apply_batch-requires : goal.apply_batch-requires
apply_batch-requires g c =
    let paged = c.args.paged in
    subst (λ v. All (IsOfVersion v) c.args.batch.now.list)
    (version_in (page_form paged.file) paged.head (bytes_of paged.file)
    ∙ sym (ap (λ (l : Layout). l.version) c.in-Ok.ensures.layout)) c.requires.layers

pub returns-in-Err-apply_batch-clause-made : goal.returns-in-Err-apply_batch-clause-made
returns-in-Err-apply_batch-clause-made g c t told lists may =
    let paged = c.args.paged in
    c.unchanged-in-Err-apply_batch.ensures
    ∙ shelf_only _ _ c.in-Err-apply_batch.error
    (c.in-Err-apply_batch.ensures.blames_none_told t
    (can g.H.Hashes.of paged.file paged.head c.args.new.now c.args.batch.now t told c.args.dir lists may
    (draft_of c.in-Ok.draft) c.in-Ok.ensures))

pub returns-clause-made : goal.returns-clause-made
returns-clause-made g c t told lists may =
    let hash = g.H.Hashes.of in
    let paged = c.args.paged in
    let is = c.in-Ok-apply_batch.ensures in
    subst (MakesMap hash c.args.new.now paged.head.pages (map_in (stands_for paged).version t paged.head.batch)
    c.args.batch.now (g.S.Shelf.state c.seal-shelf.result.0).files) (sym c.digest_of.ensures)
    (sealed hash paged.file paged.head c.args.new.now c.args.batch.now t told c.args.dir lists may
    (draft_of c.in-Ok.draft) c.in-Ok.ensures (draft_of c.apply_batch.new.self) c.apply_batch.new.dir is.kept is.applies
    is.batch c.seal-shelf.result.1 (g.S.Shelf.state c.seal-shelf.result.0) c.seal-shelf.ensures.sealed)

pub returns-clause-others : goal.returns-clause-others
returns-clause-others g c =
    let paged = c.args.paged in
    let after = g.S.Shelf.state c.seal-shelf.result.0 in
    subst (λ (r : Result (List ℕ) HereErr). OnOk r (KeepsOthers c.args.new.now (shelved paged).files after.files))
    (sym c.digest_of.ensures)
    (besides.sealed g.H.Hashes.of paged.file paged.head c.args.new.now (draft_of c.in-Ok.draft) c.in-Ok.ensures
    (draft_of c.apply_batch.new.self) c.in-Ok-apply_batch.ensures.kept c.seal-shelf.result.1 after
    c.seal-shelf.ensures.sealed)
