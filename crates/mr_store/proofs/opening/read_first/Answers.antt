use Rattle.std.proofs.Common.{◌≡◌, ◌≤◌, ap, arith, length, subst, sym, ◌∙◌}
use Rattle.std.specs.Prelude.{true, Err}
use Rattle.std.proofs.lemmas.Result.{err_from_is_err_and}
use Rattle.mr_outside.proofs.Pieces.{OfFile-map}
use Rattle.mr_outside.specs.Told.{OfFile}
use Rattle.mr_record.specs.declared.version.Version.TheVariants.{One}
use Rattle.mr_pages.specs.File.{is_odd_size}
use Rattle.mr_pages.specs.declared.error.MapErr.TheVariants as errors
use Rattle.mr_pages.specs.Opening.{of_shelf}
use Rattle.mr_pages.specs.Page.{page_limit}
use Rattle.mr_pages.specs.PageBytes.{layout_by, form_of, form_by}
use Rattle.mr_pages.specs.Source.{IsFrontOfFile}
use Rattle.mr_pages.proofs.Agreement.{whole_pages_are}
use Rattle.mr_pages.proofs.Answered.{bytes_there, fails_of, form_by_is, front_of, once_by, once_failed, paged_of, size_there, small_is_odd, some_failed, some_odd, tells_at, told_by, told_odd, told_small, unread}
use Rattle.mr_store.proofs.Openings.{size_fault, why_of, why_size, why_at}
use Rattle.mr_store.proofs.Stores.{on_err}
use Rattle.mr_store.proofs.opening.read_first.Goals as goal

pub returns-in_err-size-clause-refused : goal.returns-in_err-size-clause-refused
returns-in_err-size-clause-refused g c =
    let p = err_from_is_err_and c.from_residual.result c.from_residual.ensures.1 in
    let e = c.in_err-size.field-0.0 in
    let h = g.H.Hashes.of in
    let sized = g.met.H.Hashes.sized in
    rw (p.1, p.2)
    record {
      answers = tells_at h sized (g.S.Shelf.state c.args.shelf.now).files c.args.name.now (Err (of_shelf e))
          c.in_err-size.ensures.bytes (fails_of e);
      some = (One, some_failed (form_by One) (form_by_is One) h sized (Err (of_shelf e)) (fails_of e));
      why = why_of c.args.name.now (g.S.Shelf.state c.args.shelf.now) (g.S.Shelf.state c.size.new.self) e
          c.in_err-size.ensures.causes;
    }

pub returns-in_err-size-clause-reads : goal.returns-in_err-size-clause-reads
returns-in_err-size-clause-reads g c =
    on_err c.from_residual.result _ (once_failed (g.S.Shelf.state c.args.shelf.now).files c.args.name.now
    (g.S.Shelf.state c.args.shelf.now).reads (g.S.Shelf.state c.size.new.self).reads c.in_err-size.ensures.reads)

pub returns-then-size-clause-refused : goal.returns-then-size-clause-refused
returns-then-size-clause-refused g c =
    let h = g.H.Hashes.of in
    let sized = g.met.H.Hashes.sized in
    let told = (g.S.Shelf.state c.args.shelf.now).files in
    record {
      answers = told_small h sized told c.args.name.now c.in_ok-size.size c.in_ok-size.ensures.bytes
          (size_there told c.args.name.now c.in_ok-size.size c.in_ok-size.ensures.length) c.if-size.true;
      some = (
        One,
        some_odd (form_by One) (form_by_is One) h sized c.in_ok-size.size
            (small_is_odd One c.in_ok-size.size c.if-size.true),
      );
      why = why_size c.args.name.now (g.S.Shelf.state c.args.shelf.now) (g.S.Shelf.state c.size.new.self)
          c.in_ok-size.ensures.causes.quiet;
    }

pub returns-then-size-clause-reads : goal.returns-then-size-clause-reads
returns-then-size-clause-reads g c =
    once_failed (g.S.Shelf.state c.args.shelf.now).files c.args.name.now (g.S.Shelf.state c.args.shelf.now).reads
    (g.S.Shelf.state c.size.new.self).reads c.in_ok-size.ensures.reads

pub returns-in_err-version-clause-refused : goal.returns-in_err-version-clause-refused
returns-in_err-version-clause-refused g c =
    let p = err_from_is_err_and c.from_residual-in_err-version.result c.from_residual-in_err-version.ensures.1 in
    let e = c.in_err-version.field-0.0 in
    let h = g.H.Hashes.of in
    let sized = g.met.H.Hashes.sized in
    rw (p.1, p.2)
    record {
      answers = tells_at h sized (g.S.Shelf.state c.args.shelf.now).files c.args.name.now (Err (of_shelf e))
          c.in_ok-size.ensures.bytes (fails_of e);
      some = (One, some_failed (form_by One) (form_by_is One) h sized (Err (of_shelf e)) (fails_of e));
      why = why_at c.args.name.now (g.S.Shelf.state c.args.shelf.now) (g.S.Shelf.state c.size.new.self)
          (g.S.Shelf.state c.read_front.new.shelf) (of_shelf e) c.in_ok-size.ensures.files
          c.in_ok-size.ensures.causes.quiet
          (why_of c.args.name.now (g.S.Shelf.state c.size.new.self) (g.S.Shelf.state c.read_front.new.shelf) e
          c.in_err-version.ensures.causes);
    }

pub returns-in_err-version-clause-reads : goal.returns-in_err-version-clause-reads
returns-in_err-version-clause-reads g c =
    on_err c.from_residual-in_err-version.result _ (once_failed (g.S.Shelf.state c.args.shelf.now).files
    c.args.name.now (g.S.Shelf.state c.args.shelf.now).reads (g.S.Shelf.state c.read_front.new.shelf).reads
    (c.in_err-version.ensures.reads.refused ∙ c.in_ok-size.ensures.reads))

pub returns-in-None-clause-refused : goal.returns-in-None-clause-refused
returns-in-None-clause-refused g c =
    let told = (g.S.Shelf.state c.args.shelf.now).files in
    let name = c.args.name.now in
    let size = c.in_ok-size.size in
    let room = c.read_front.new.room in
    let v = c.in_ok-version.version in
    let h = g.H.Hashes.of in
    let sized = g.met.H.Hashes.sized in
    let odd = subst (λ f. is_odd_size f.size size ≡ true) (ap form_of c.by-layout.ensures.layout) c.in-None.ensures in
    let front = subst (λ o. OfFile o name ⊥ (λ bytes. IsFrontOfFile bytes room)) c.in_ok-size.ensures.files
    (front_of (g.S.Shelf.state c.size.new.self).files name size room
    (subst (λ o. OfFile o name ⊥ (λ bytes. size ≡ length bytes)) (sym c.in_ok-size.ensures.files)
    c.in_ok-size.ensures.length) c.in_ok-version.ensures.told) in
    record {
      answers = told_by h told name room v (Err (errors.Map size_fault)) c.in_ok-version.ensures.version front
          (told_odd (form_by v) (form_by_is v) h sized told name size
          (bytes_there told name size c.in_ok-size.ensures.bytes c.in_ok-size.ensures.length)
          (size_there told name size c.in_ok-size.ensures.length) odd);
      some = (v, some_odd (form_by v) (form_by_is v) h sized size odd);
      why = why_size name (g.S.Shelf.state c.args.shelf.now) (g.S.Shelf.state c.read_front.new.shelf)
          (c.in_ok-version.ensures.causes.quiet ∙ c.in_ok-size.ensures.causes.quiet);
    }

pub returns-in-None-clause-reads : goal.returns-in-None-clause-reads
returns-in-None-clause-reads g c =
    let told = (g.S.Shelf.state c.args.shelf.now).files in
    let name = c.args.name.now in
    let size = c.in_ok-size.size in
    let room = c.read_front.new.room in
    let v = c.in_ok-version.version in
    let before = (g.S.Shelf.state c.args.shelf.now).reads in
    let mid = (g.S.Shelf.state c.read_front.new.shelf).reads in
    let front = subst (λ o. OfFile o name ⊥ (λ bytes. IsFrontOfFile bytes room)) c.in_ok-size.ensures.files
    (front_of (g.S.Shelf.state c.size.new.self).files name size room
    (subst (λ o. OfFile o name ⊥ (λ bytes. size ≡ length bytes)) (sym c.in_ok-size.ensures.files)
    c.in_ok-size.ensures.length) c.in_ok-version.ensures.told) in
    once_by told name room size v before mid mid c.in_ok-version.ensures.version (omega (arith, c.if-size.false))
    (omega (arith, c.in_ok-size.ensures.reads, c.in_ok-version.ensures.reads.answered))
    (size_there told name size c.in_ok-size.ensures.length) front
    (unread (form_by v) told name mid mid (omega arith))

pub returns-in-Some-clause-version : goal.returns-in-Some-clause-version
returns-in-Some-clause-version g c = c.by-layout.ensures.layout ∙ ap layout_by c.in_ok-version.ensures.version

pub returns-in-Some-clause-large : goal.returns-in-Some-clause-large
returns-in-Some-clause-large g c =
    OfFile-map (g.S.Shelf.state c.args.shelf.now).files c.args.name.now _ _
    (λ bytes e. omega (arith, e, c.if-size.false)) c.in_ok-size.ensures.length

pub returns-in-Some-clause-paged : goal.returns-in-Some-clause-paged
returns-in-Some-clause-paged g c =
    let told = (g.S.Shelf.state c.args.shelf.now).files in
    let name = c.args.name.now in
    let size = c.in_ok-size.size in
    paged_of (form_of c.by-layout.result) told name size c.in-Some.pages
    (bytes_there told name size c.in_ok-size.ensures.bytes c.in_ok-size.ensures.length)
    (size_there told name size c.in_ok-size.ensures.length) c.in-Some.ensures.0 c.in-Some.ensures.1

pub returns-in-Some-clause-not_empty : goal.returns-in-Some-clause-not_empty
returns-in-Some-clause-not_empty g c =
    let fits = c.by-layout.ensures.fits in
    subst (λ n. 1 ≤ n) (sym c.in-Some.ensures.1)
    (whole_pages_are c.by-layout.result.size c.in_ok-size.size (omega (arith, fits.room)) c.in-Some.ensures.0).some

pub returns-in-Some-clause-at_most : goal.returns-in-Some-clause-at_most
returns-in-Some-clause-at_most g c =
    let fits = c.by-layout.ensures.fits in
    subst (λ n. n ≤ page_limit) (sym c.in-Some.ensures.1)
    (whole_pages_are c.by-layout.result.size c.in_ok-size.size (omega (arith, fits.room)) c.in-Some.ensures.0).few

pub returns-in-Some-clause-front : goal.returns-in-Some-clause-front
returns-in-Some-clause-front g c =
    let name = c.args.name.now in
    let size = c.in_ok-size.size in
    let room = c.read_front.new.room in
    subst (λ o. OfFile o name ⊥ (λ bytes. IsFrontOfFile bytes room)) c.in_ok-size.ensures.files
    (front_of (g.S.Shelf.state c.size.new.self).files name size room
    (subst (λ o. OfFile o name ⊥ (λ bytes. size ≡ length bytes)) (sym c.in_ok-size.ensures.files)
    c.in_ok-size.ensures.length) c.in_ok-version.ensures.told)
