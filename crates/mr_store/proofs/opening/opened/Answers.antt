use Rattle.std.proofs.Common.{◌<◌, get_or, arith, refl, subst, sym}
use Rattle.mr_pages.specs.PageBytes.{form_of, IsLayout}
use Rattle.mr_pages.specs.declared.error.MapErr.TheVariants as errors
use Rattle.mr_pages.proofs.Answered.{low_are_bytes, first_told}
use Rattle.mr_store.specs.Opening.{IsOpeningRefused}
use Rattle.mr_store.proofs.Openings.{answered_at, unchecked, no_room}
use Rattle.mr_store.proofs.opening.opened.Goals as goal

pub invariant_of-checked : goal.invariant_of-checked
invariant_of-checked g c =
    let e = c.in-Ok.ensures in
    let l = c.args.front.layout in
    let fits = subst IsLayout e.layout c.in-Ok.file.fits in
    record {
      paging = unchecked g.H.Hashes.of c.in-Ok.file c.args.shelf c.args.name.now l c.args.front.pages
          c.split_at.result.0.now e.shelf e.name e.layout e.pages e.entries e.cap c.requires.some
          c.requires.few c.requires.paged
          (first_told (form_of l) (omega (arith, fits.room)) c.args.front.pages (g.S.Shelf.state c.args.shelf).files
          c.args.name.now c.args.room.now c.split_at.result.0.now c.requires.some
          (omega (arith, fits.small, c.told-room)) c.split_at.ensures.front
          (low_are_bytes c.args.room.now (λ i.
          let low : get_or c.args.room.now i 0 < 256 = omega (arith, c.fits-room i) in low)) c.requires.front);
    }

pub returns-in-Err : goal.returns-in-Err
returns-in-Err g c = record {
  opened = subst (λ x. IsOpeningRefused g.H.Hashes.of c.args.name.now c.args.front.layout c.args.front.pages
      (g.S.Shelf.state c.args.shelf) (g.S.Shelf.state x) errors.NoMemory) (sym c.in-Err.ensures.back) (record {
        refused = no_room (form_of c.args.front.layout) g.H.Hashes.of c.args.name.now (g.S.Shelf.state c.args.shelf)
            (g.S.Shelf.state c.args.shelf);
        files = refl;
        later = omega arith;
        more = omega arith;
        few = omega (arith, c.requires.some);
      });
  unrefused = tt;
  listed = λ wanted. tt;
}

pub returns-in-Ok-clause-opened : goal.returns-in-Ok-clause-opened
returns-in-Ok-clause-opened g c =
    answered_at g.H.Hashes.of _ _ _ _ _ _ _ _ c.checked.result c.in-Ok.ensures.name c.in-Ok.ensures.layout
    c.in-Ok.ensures.pages c.in-Ok.ensures.shelf c.checked.ensures.opened
