use Rattle.std.proofs.Common.{sym, subst}
use Rattle.mr_pages.proofs.HeadLaws.{form_is}
use Rattle.mr_store.specs.CachedFile.{state_of, name_of, page_form, entries_of, OfBytes}
use Rattle.mr_store.specs.Opening.{TellsMap}
use Rattle.mr_store.specs.Stored.{map_on}
use Rattle.mr_store.proofs.Maps.{tells_map_of}
use Rattle.mr_store.proofs.Openings.{store_of, checked_of}
use Rattle.mr_store.proofs.opening.over.Goals as goal

pub over-requires : goal.over-requires
over-requires g c =
    let s = c.args.paging in
    let f = s.file in (
      c.type_bounds.send-H,
      (
        c.type_bounds.sync-H,
        record {
          pages = sym c.requires.says.count;
          is = store_of (page_form f) (form_is f.layout f.fits) g.H.Hashes.of (state_of f).files (name_of f) f.pages
              s.first.now (entries_of f) f.cache.cap s.paging c.args.head
              (checked_of g.H.Hashes.of f c.args.head c.requires);
        },
      ),
    )

pub returns-clause-answers : goal.returns-clause-answers
returns-clause-answers g c =
    let s = c.args.paging in
    let f = s.file in
    subst (λ h. OfBytes c.over.result.file ⊥ (TellsMap (page_form f) g.H.Hashes.of (map_on c.over.result.file h)))
    (sym c.over.ensures.head)
    (subst (λ k. OfBytes k ⊥ (TellsMap (page_form f) g.H.Hashes.of (map_on k c.args.head)))
    (sym c.over.ensures.file)
    (tells_map_of (page_form f) (form_is f.layout f.fits) g.H.Hashes.of c.args.head (entries_of f) c.are_sized.ensures
    (state_of f).files (name_of f) f.cache.cap
    (store_of (page_form f) (form_is f.layout f.fits) g.H.Hashes.of (state_of f).files (name_of f) f.pages
    s.first.now (entries_of f) f.cache.cap s.paging c.args.head
    (checked_of g.H.Hashes.of f c.args.head c.requires))))
