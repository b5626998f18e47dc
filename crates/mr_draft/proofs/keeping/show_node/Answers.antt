use Rattle.std.proofs.Common.{inl, inr}
use Rattle.mr_pages.specs.PageBytes.{form_of}
use Rattle.mr_store.specs.CachedFile.{state_of, name_of}
use Rattle.mr_draft.specs.Sheets.{page_map_of}
use Rattle.mr_draft.proofs.NodesKept.{outside_none, outside_refuses}
use Rattle.mr_draft.proofs.ReadPages.{page_map_size}
use Rattle.mr_draft.proofs.keeping.show_node.Goals as goal
use Rattle.mr_draft.proofs.keeping.show_node.Goals.{then-child-eq0-via-then-child-eq0, then-child-eq0-via-else-child-eq0+then-child-file}

pub returns-then-child-eq0-clause-blames_none_told : goal.returns-then-child-eq0-clause-blames_none_told
returns-then-child-eq0-clause-blames_none_told g c =
    let f = c.args.file.now in
    outside_none f.layout f.pages g.H.Hashes.of (page_map_of f) c.args.child.now
    (page_map_size f.layout (state_of f).files (name_of f) f.pages)
    (elim c.then-child-eq0.branch [
      | then-child-eq0-via-then-child-eq0 w ↦ inl w.if-child-eq0.true
      | then-child-eq0-via-else-child-eq0+then-child-file w ↦ inr w.if-child-file.true
    ])

pub returns-then-child-eq0-clause-given : goal.returns-then-child-eq0-clause-given
returns-then-child-eq0-clause-given g c =
    let f = c.args.file.now in
    outside_refuses (form_of f.layout) g.H.Hashes.of f.pages c.args.child.now
    (elim c.then-child-eq0.branch [
      | then-child-eq0-via-then-child-eq0 w ↦ inl w.if-child-eq0.true
      | then-child-eq0-via-else-child-eq0+then-child-file w ↦ inr w.if-child-file.true
    ])
