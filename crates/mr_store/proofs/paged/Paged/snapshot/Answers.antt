use Rattle.std.proofs.Common.{subst, sym}
use Rattle.std.specs.Prelude.{IfOk}
use Rattle.mr_tree.specs.Nodes.{IsTop}
use Rattle.mr_tree.specs.Snapshot.{snapshot_model}
use Rattle.mr_pages.proofs.HeadLaws.{form_is}
use Rattle.mr_store.specs.CachedFile.{state_of, name_of, page_form, entries_of}
use Rattle.mr_store.specs.Paged.{stands_for}
use Rattle.mr_store.specs.Stored.{IsSaid}
use Rattle.mr_store.proofs.Maps.{top_is}
use Rattle.mr_store.proofs.paged.Paged.snapshot.Goals as goal

pub copied-requires : goal.copied-requires
copied-requires g c =
    let old = c.args.self.now in
    let f = old.file in
    record {
      top = subst (IsTop g.H.Hashes.of (stands_for old)) (sym c.top_of-top.ensures)
          (top_is (page_form f) (form_is f.layout f.fits) g.H.Hashes.of (state_of f).files (name_of f) old.head
          (entries_of f) f.cache.cap old.store.is);
    }

pub returns-clause-says : goal.returns-clause-says
returns-clause-says g c =
    subst (λ top. IfOk c.copied.result (λ p. IsSaid g.H.Hashes.of top (snapshot_model p.nodes.items p.top)))
    c.top_of-top.ensures c.copied.ensures.says
