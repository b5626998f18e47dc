use Rattle.std.proofs.Common.{ap, subst, sym, ◌∙◌}
use Rattle.std.specs.String.{string_bytes}
use Rattle.mr_store.specs.CachedFile.{state_of}
use Rattle.mr_store.specs.declared.cached_file.CachedFile.{CachedFile}
use Rattle.mr_draft.specs.Draft.{CopyFails, draft_of}
use Rattle.mr_draft.proofs.Taken.{copies, sheets, stops}
use Rattle.mr_draft.proofs.draft.copy_map.Goals as goal

pub returns-in-Err-copy_file : goal.returns-in-Err-copy_file
returns-in-Err-copy_file g c =
    let old = c.args.old in
    let is = c.into_parts-file.ensures.file in
    let e = c.in-Ok.ensures in
    subst (λ s. CopyFails g.H.Hashes.of old.head (state_of old.file) c.args.new.now (g.S.Shelf.state s)
    c.in-Err-copy_file.error) (sym c.close.ensures)
    (stops g.H.Hashes.of old.file old.head c.args.new.now c.into_parts-file.ensures.store c.in-Ok.made
    (e.shelf ∙ ap (λ (f : CachedFile g.row.S.Denot g.S.Shelf). f.shelf) is) e.name
    (e.layout ∙ ap (λ (f : CachedFile g.row.S.Denot g.S.Shelf). f.layout) is)
    (e.pages ∙ ap (λ (f : CachedFile g.row.S.Denot g.S.Shelf). f.pages) is)
    (state_of c.copy_file.new.file) c.in-Err-copy_file.error c.as_str.result.now
    (c.as_str.ensures.value ∙ ap (λ (f : CachedFile g.row.S.Denot g.S.Shelf). string_bytes f.name) is)
    c.in-Err-copy_file.ensures.copied)

pub invariant_of-sheets : goal.invariant_of-sheets
invariant_of-sheets g c =
    let old = c.args.old in
    let is = c.into_parts-file.ensures.file in
    let e = c.in-Ok.ensures in
    record {
      sheets = sheets g.H.Hashes.of old.file old.head c.args.new.now c.into_parts-file.ensures.store c.in-Ok.made
          (e.shelf ∙ ap (λ (f : CachedFile g.row.S.Denot g.S.Shelf). f.shelf) is) e.name
          (e.layout ∙ ap (λ (f : CachedFile g.row.S.Denot g.S.Shelf). f.layout) is)
          (e.pages ∙ ap (λ (f : CachedFile g.row.S.Denot g.S.Shelf). f.pages) is)
          c.copy_file.new.file c.copy_file.ensures.only c.as_str.result.now
          (c.as_str.ensures.value ∙ ap (λ (f : CachedFile g.row.S.Denot g.S.Shelf). string_bytes f.name) is)
          c.in-Ok-copy_file.ensures.copied e.entries e.cap;
    }

pub returns : goal.returns
returns g c =
    let old = c.args.old in
    let is = c.into_parts-file.ensures.file in
    let e = c.in-Ok.ensures in
    copies g.H.Hashes.of old.file old.head c.args.new.now c.into_parts-file.ensures.store c.in-Ok.made
    (e.shelf ∙ ap (λ (f : CachedFile g.row.S.Denot g.S.Shelf). f.shelf) is) e.name
    (e.layout ∙ ap (λ (f : CachedFile g.row.S.Denot g.S.Shelf). f.layout) is)
    (e.pages ∙ ap (λ (f : CachedFile g.row.S.Denot g.S.Shelf). f.pages) is)
    c.copy_file.new.file c.copy_file.ensures.only c.as_str.result.now
    (c.as_str.ensures.value ∙ ap (λ (f : CachedFile g.row.S.Denot g.S.Shelf). string_bytes f.name) is)
    c.in-Ok-copy_file.ensures.copied c.into_parts-file.result.1 c.into_parts-file.ensures.head
    (draft_of c.over.result) c.over.ensures
