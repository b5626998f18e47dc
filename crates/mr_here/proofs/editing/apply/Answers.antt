use Rattle.std.proofs.Common.{◌≡◌, refl, subst, ◌∙◌}
use Rattle.std.specs.Prelude.{Option, Some, IfSome}
use Rattle.mr_tree.specs.Tree.{records}
use Rattle.mr_tree.specs.declared.tree.Tree.{Tree}
use Rattle.mr_pages.specs.Law.{map_in}
use Rattle.mr_store.specs.CachedFile.{bytes_of, page_form}
use Rattle.mr_store.specs.Paged.{stands_for}
use Rattle.mr_batch.specs.Admissible.{batch_fault}
use Rattle.mr_batch.specs.Applied.{IsAdmissible}
use Rattle.mr_batch.specs.Directory.{IsDirectoryOf}
use Rattle.mr_here.proofs.InMemory.{admitted, batch_in, numbers_in, well_in}
use Rattle.mr_here.proofs.editing.apply.Goals as goal

pub returns-in-Err-clause-made : goal.returns-in-Err-clause-made
returns-in-Err-clause-made g c t told =
    let paged = c.args.paged in
    let held : c.top.result.batch ≡ paged.head.batch =
    c.top.ensures.is.batch ∙ batch_in (page_form paged.file) paged.head (bytes_of paged.file) in
    let lists = subst (λ (o : Option Tree). IfSome o (λ u. IsDirectoryOf c.args.dir (records u))) told
    c.requires.lists in
    let well = well_in g.H.Hashes.of paged c.is_map.ensures t told in
    subst (λ n. batch_fault (records t) n c.args.batch.now ≡ Some c.in-Err.fault) held
    (c.in-Err.ensures.exact (records t) (numbers_in t c.args.dir well lists))

pub returns-in-Ok-clause-made : goal.returns-in-Ok-clause-made
returns-in-Ok-clause-made g c t told =
    let hash = g.H.Hashes.of in
    let paged = c.args.paged in
    let held : c.top.result.batch ≡ paged.head.batch =
    c.top.ensures.is.batch ∙ batch_in (page_form paged.file) paged.head (bytes_of paged.file) in
    let lists = subst (λ (o : Option Tree). IfSome o (λ u. IsDirectoryOf c.args.dir (records u))) told
    c.requires.lists in
    let well = well_in hash paged c.is_map.ensures t told in
    let may : IsAdmissible (records t) paged.head.batch c.args.batch.now =
    subst (λ n. IsAdmissible (records t) n c.args.batch.now) held
    ((c.in-Ok.ensures.admissible (records t) (numbers_in t c.args.dir well lists)).0 refl) in
    admitted hash c.args.new.now paged.head.pages (map_in (stands_for paged).version t paged.head.batch)
    c.args.batch.now (g.S.Shelf.state c.change.result.1).files c.change.result.0 may
    (c.change.ensures.made t told lists may)
