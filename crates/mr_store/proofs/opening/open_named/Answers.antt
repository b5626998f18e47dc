use Rattle.std.proofs.Common.{arith, subst, sym}
use Rattle.std.specs.Prelude.{⊤}
use Rattle.mr_outside.specs.Told.{OfFile}
use Rattle.mr_outside.specs.Bytes.{AreBytes}
use Rattle.mr_pages.specs.PageBytes.{form_of}
use Rattle.mr_pages.specs.Source.{IsFrontOfFile}
use Rattle.mr_pages.specs.private.Walks.{IsPaged}
use Rattle.mr_store.proofs.Openings.{matched, opens_from, refuses_from}
use Rattle.mr_store.proofs.opening.open_named.Goals as goal

pub opened-requires-clause-are : goal.opened-requires-clause-are
opened-requires-clause-are g c κs within =
    subst (λ o. OfFile o c.args.name.now ⊤ AreBytes) (sym c.read_first.ensures.files) c.read_first.ensures.are

pub opened-requires-clause-paged : goal.opened-requires-clause-paged
opened-requires-clause-paged g c κs within =
    subst (λ o. IsPaged (form_of c.in-Ok.front.layout) c.in-Ok.front.pages o c.args.name.now)
    (sym c.read_first.ensures.files) c.in-Ok.ensures.paged

pub opened-requires-clause-front : goal.opened-requires-clause-front
opened-requires-clause-front g c κs within =
    subst (λ o. OfFile o c.args.name.now ⊥ (λ bytes. IsFrontOfFile bytes c.read_first.new.room))
    (sym c.read_first.ensures.files) c.in-Ok.ensures.front

pub returns-in-Err : goal.returns-in-Err
returns-in-Err g c = record {
  opened = record {
    answers = c.in-Err.ensures.refused.answers;
    some = c.in-Err.ensures.refused.some;
    why = c.in-Err.ensures.refused.why;
    files = c.read_first.ensures.files;
    later = c.read_first.ensures.faults;
    more = c.read_first.ensures.more;
    few = omega (arith, c.read_first.ensures.one);
    reads = c.in-Err.ensures.reads;
  };
  unrefused = tt;
  listed = λ wanted. tt;
}

pub returns-in-Ok : goal.returns-in-Ok
returns-in-Ok g c =
    let name = c.args.name.now in
    let room = c.read_first.new.room in
    let before = g.S.Shelf.state c.args.shelf in
    let middle = g.S.Shelf.state c.read_first.new.shelf in
    let r = c.read_first.ensures in
    let e = c.in-Ok.ensures in
    let layout = c.in-Ok.front.layout in
    let pages = c.in-Ok.front.pages in
    record {
      opened = matched c.opened.result _ _ _ _
          (λ x o. opens_from g.H.Hashes.of name room layout pages before middle e.version r.files e.quiet r.more r.one
          e.large e.front e.paged x.0 o)
          (λ x o. refuses_from g.H.Hashes.of name room layout pages before middle e.version r.files e.quiet r.more r.one
          e.large e.front e.paged e.at_most c.are_sized.ensures r.are (g.S.Shelf.state x.0) x.1 o)
          c.opened.ensures.opened;
      unrefused = c.opened.ensures.unrefused;
      listed = c.opened.ensures.listed;
    }
