use Rattle.std.proofs.Common.{◌≡◌, ◌≤◌, ◌<◌, get_or, ◌+◌, ◌/◌, true, arith, ap, refl, subst, sym}
use Rattle.mr_pages.specs.File.{is_odd_size}
use Rattle.mr_pages.specs.Opening.{opened_as, TellsBytes, SomeBytes, FailsWithoutFault}
use Rattle.std.specs.Prelude.{max, length}
use Rattle.mr_outside.specs.Told.{OfFile}
use Rattle.mr_pages.specs.Page.{Form, page_limit}
use Rattle.mr_pages.specs.PageBytes.{form_of, form_by}
use Rattle.mr_pages.proofs.HeadLaws.{form_is}
use Rattle.mr_pages.proofs.Agreement.{whole_pages_are}
use Rattle.mr_pages.proofs.Answered.{low_are_bytes, form_by_is, some_odd, told_odd, told_answers, causes_quiet, paged_of, first_told, once_of, unread}
use Rattle.mr_pages.proofs.opening.open_front.Goals as goal

pub returns-in-None : goal.returns-in-None
returns-in-None g c =
    let same = ap form_of c.by-layout.ensures.layout in
    let odd = subst (λ f. is_odd_size f.size c.args.size ≡ true) same c.in-None.ensures in
    record {
      told = told_odd (form_by c.args.version) (form_by_is c.args.version) g.H.Hashes.of g.met.H.Hashes.sized _ _
          c.args.size c.requires.are c.requires.size odd;
      of_some_bytes = some_odd (form_by c.args.version) (form_by_is c.args.version) g.H.Hashes.of g.met.H.Hashes.sized
          c.args.size odd;
      causes = causes_quiet _ _ _ _ refl;
      files = refl;
      reads = omega arith;
      reads_at_most = unread (form_by c.args.version) _ _ _ _ (omega arith);
    }

pub open_pages-requires : goal.open_pages-requires
open_pages-requires g c =
    let layout = c.by-layout.result in
    let fits = c.by-layout.ensures.fits in
    let whole = whole_pages_are layout.size c.args.size (omega (arith, fits.room)) c.in-Some.ensures.0 in
    let some = subst (λ n. 1 ≤ n) (sym c.in-Some.ensures.1) whole.some in
    record {
      layout = fits;
      paged = paged_of (form_of layout) _ _ c.args.size c.in-Some.pages c.requires.are c.requires.size
          c.in-Some.ensures.0 c.in-Some.ensures.1;
      first = first_told (form_of layout) (omega (arith, fits.room)) c.in-Some.pages _ _ c.args.room.now
          c.split_at.result.0.now some (omega (arith, fits.small, c.told-room)) c.split_at.ensures.front
          (low_are_bytes c.args.room.now (λ i.
          let low : get_or c.args.room.now i 0 < 256 = omega (arith, c.fits-room i) in low)) c.requires.told;
      some = some;
      few = subst (λ n. n ≤ page_limit) (sym c.in-Some.ensures.1) whole.few;
    }

pub returns-in-Some : goal.returns-in-Some
returns-in-Some g c =
    let layout = c.by-layout.result in
    let fits = c.by-layout.ensures.fits in
    let told = (g.S.Shelf.state c.args.shelf.now).files in
    let name = c.args.name.now in
    let r = opened_as g.W.Whole.shows c.open_pages.result in
    let h = g.H.Hashes.of in
    let same = ap form_of c.by-layout.ensures.layout in
    let whole = whole_pages_are layout.size c.args.size (omega (arith, fits.room)) c.in-Some.ensures.0 in
    record {
      told = subst (λ (f : Form). OfFile told name (FailsWithoutFault r) (λ bytes. TellsBytes f h bytes r)) same
          (told_answers (form_of layout) (form_is layout fits) h g.met.H.Hashes.sized told name r c.requires.are
          c.open_pages.ensures.told);
      of_some_bytes = subst (λ (f : Form). SomeBytes f h r) same c.open_pages.ensures.of_some_bytes;
      causes = c.open_pages.ensures.causes;
      files = c.open_pages.ensures.files;
      reads = c.open_pages.ensures.reads;
      reads_at_most = subst (λ (f : Form). OfFile told name ((g.S.Shelf.state c.open_pages.new.shelf).reads
          ≤ (g.S.Shelf.state c.args.shelf.now).reads) (λ bytes. (g.S.Shelf.state c.open_pages.new.shelf).reads + 1
          ≤ (g.S.Shelf.state c.args.shelf.now).reads + max 1 (length bytes / f.size))) same
          (once_of (form_of layout) told name _ _ c.in-Some.pages
          (paged_of (form_of layout) _ _ c.args.size c.in-Some.pages c.requires.are c.requires.size
          c.in-Some.ensures.0 c.in-Some.ensures.1) (subst (λ n. 1 ≤ n) (sym c.in-Some.ensures.1) whole.some)
          c.open_pages.ensures.reads_at_most);
    }
