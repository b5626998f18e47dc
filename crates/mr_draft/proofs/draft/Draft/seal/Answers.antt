use Rattle.std.proofs.Common.{◌≡◌, subst}
use Rattle.std.specs.Prelude.{IfOk}
use Rattle.mr_tree.specs.Digest.{root_preimage}
use Rattle.mr_tree.specs.Nodes.{root_entry}
use Rattle.mr_store.specs.declared.cached_file.CachedFile.{CachedFile}
use Rattle.mr_draft.proofs.draft.Draft.seal.Goals as goal

pub returns-clause-digest : goal.returns-clause-digest
returns-clause-digest g c =
    let s = c.args.self in
    subst (λ (f : CachedFile g.row.S.Denot g.S.Shelf). IfOk c.seal_file-result.result (λ digest.
    digest ≡ g.H.Hashes.of (root_preimage f.layout.version s.batch s.count (root_entry s.root))))
    c.into_file-file.ensures.file c.seal_file-result.ensures.digest
