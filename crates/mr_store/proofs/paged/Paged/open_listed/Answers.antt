use Rattle.std.proofs.Common.{refl}
use Rattle.mr_pages.proofs.HeadLaws.{form_is}
use Rattle.mr_store.specs.CachedFile.{bytes_of, entries_of, page_form}
use Rattle.mr_store.proofs.Recorded.{some_directory, told_directory}
use Rattle.mr_store.proofs.paged.Paged.open_listed.Goals as goal

pub returns-in-Ok-gathered-clause-lists : goal.returns-in-Ok-gathered-clause-lists
returns-in-Ok-gathered-clause-lists g c =
    let p = c.in-Ok.paged in
    let f = p.file in
    told_directory (page_form f) (form_is f.layout f.fits) g.H.Hashes.of p.head c.in-Ok.all.items
    c.in-Ok-gathered.dir c.in-Ok-gathered.ensures.lists (entries_of f) (bytes_of f) p.store.is.open_
    (c.in-Ok.ensures.listed refl).told

pub returns-in-Ok-gathered-clause-says : goal.returns-in-Ok-gathered-clause-says
returns-in-Ok-gathered-clause-says g c =
    let p = c.in-Ok.paged in
    let f = p.file in
    some_directory (page_form f) (form_is f.layout f.fits) g.H.Hashes.of p.head c.in-Ok.all.items
    c.in-Ok-gathered.dir c.in-Ok-gathered.ensures.lists (c.in-Ok.ensures.listed refl).some
