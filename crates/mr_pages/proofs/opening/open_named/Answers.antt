use Rattle.std.proofs.Common.{◌≡◌, ◌≤◌, ◌+◌, ◌/◌, arith, sym, subst, ◌∙◌}
use Rattle.std.specs.Prelude.{Err, length, max}
use Rattle.std.proofs.lemmas.Result.{err_from_is_err_and}
use Rattle.mr_outside.specs.Told.{OfFile}
use Rattle.mr_outside.specs.Bytes.{AreBytes}
use Rattle.mr_record.specs.declared.version.Version.TheVariants.{One}
use Rattle.mr_pages.specs.Opening.{opened_as, of_shelf, FailsWithoutFault, TellsBytes}
use Rattle.mr_pages.specs.PageBytes.{form_by}
use Rattle.mr_pages.specs.Source.{IsFrontOfFile}
use Rattle.mr_pages.proofs.Agreement.{agrees}
use Rattle.mr_pages.proofs.Answered.{form_by_is, some_failed, tells_at, agrees_at, fails_of, causes_failed, causes_later, once_failed, once_by, told_by, told_small, some_odd, small_is_odd, causes_quiet, front_of, bytes_there, size_there}
use Rattle.mr_pages.proofs.opening.open_named.Goals as goal

pub returns-in_err-size : goal.returns-in_err-size
returns-in_err-size g c =
    let p = err_from_is_err_and c.from_residual.result c.from_residual.ensures.1 in
    let e = c.in_err-size.field-0.0 in
    let h = g.H.Hashes.of in
    let sized = g.met.H.Hashes.sized in
    rw (p.1, p.2)
    record {
      told = tells_at h sized _ _ (Err (of_shelf e)) c.in_err-size.ensures.bytes (fails_of e);
      of_some_bytes = (One, some_failed (form_by One) (form_by_is One) h sized (Err (of_shelf e)) (fails_of e));
      agrees = agrees_at h sized _ _ c.in_err-size.ensures.bytes;
      every = c.in_err-size.ensures.every;
      law = λ v bytes all. agrees (form_by v) (form_by_is v) h sized bytes all;
      causes = causes_failed _ _ _ e c.in_err-size.ensures.causes;
      files = c.in_err-size.ensures.files;
      reads = omega (arith, c.in_err-size.ensures.reads);
      reads_at_most = once_failed _ _ _ _ c.in_err-size.ensures.reads;
    }

pub returns-then-size : goal.returns-then-size
returns-then-size g c =
    let h = g.H.Hashes.of in
    let sized = g.met.H.Hashes.sized in
    record {
      told = told_small h sized _ c.args.name.now c.in_ok-size.size c.in_ok-size.ensures.bytes
          (size_there _ c.args.name.now c.in_ok-size.size c.in_ok-size.ensures.length) c.if-size.true;
      of_some_bytes = (
        One,
        some_odd (form_by One) (form_by_is One) h sized c.in_ok-size.size
            (small_is_odd One c.in_ok-size.size c.if-size.true),
      );
      agrees = agrees_at h sized _ _ c.in_ok-size.ensures.bytes;
      every = c.in_ok-size.ensures.every;
      law = λ v bytes all. agrees (form_by v) (form_by_is v) h sized bytes all;
      causes = causes_quiet _ _ _ _ c.in_ok-size.ensures.causes.quiet;
      files = c.in_ok-size.ensures.files;
      reads = omega (arith, c.in_ok-size.ensures.reads);
      reads_at_most = once_failed _ _ _ _ c.in_ok-size.ensures.reads;
    }

pub returns-in_err-version : goal.returns-in_err-version
returns-in_err-version g c =
    let p = err_from_is_err_and c.from_residual-in_err-version.result c.from_residual-in_err-version.ensures.1 in
    let e = c.in_err-version.field-0.0 in
    let h = g.H.Hashes.of in
    let sized = g.met.H.Hashes.sized in
    let reads = c.in_err-version.ensures.reads.refused ∙ c.in_ok-size.ensures.reads in
    rw (p.1, p.2)
    record {
      told = tells_at h sized _ _ (Err (of_shelf e)) c.in_ok-size.ensures.bytes (fails_of e);
      of_some_bytes = (One, some_failed (form_by One) (form_by_is One) h sized (Err (of_shelf e)) (fails_of e));
      agrees = agrees_at h sized _ _ c.in_ok-size.ensures.bytes;
      every = c.in_ok-size.ensures.every;
      law = λ v bytes all. agrees (form_by v) (form_by_is v) h sized bytes all;
      causes = causes_later _ _ _ _ (Err (of_shelf e)) c.in_ok-size.ensures.files c.in_ok-size.ensures.causes.quiet
          (causes_failed _ _ _ e c.in_err-version.ensures.causes);
      files = c.in_err-version.ensures.files ∙ c.in_ok-size.ensures.files;
      reads = omega (arith, reads);
      reads_at_most = once_failed _ _ _ _ reads;
    }

pub open_front-requires : goal.open_front-requires
open_front-requires g c =
    let name = c.args.name.now in
    let size = c.in_ok-size.size in
    let room = c.read_front.new.room in
    let same = c.in_ok-version.ensures.files ∙ c.in_ok-size.ensures.files in
    let front = front_of (g.S.Shelf.state c.size.new.self).files name size room
    (subst (λ o. OfFile o name ⊥ (λ bytes. size ≡ length bytes)) (sym c.in_ok-size.ensures.files)
    c.in_ok-size.ensures.length) c.in_ok-version.ensures.told in
    record {
      size = subst (λ o. OfFile o name ⊥ (λ bytes. length bytes ≡ size)) (sym same)
          (size_there _ name size c.in_ok-size.ensures.length);
      told = subst (λ o. OfFile o name ⊥ (λ bytes. IsFrontOfFile bytes room)) (sym c.in_ok-version.ensures.files) front;
      are = subst (λ o. OfFile o name ⊥ AreBytes) (sym same)
          (bytes_there _ name size c.in_ok-size.ensures.bytes c.in_ok-size.ensures.length);
    }

pub returns : goal.returns
returns g c =
    let name = c.args.name.now in
    let size = c.in_ok-size.size in
    let room = c.read_front.new.room in
    let v = c.in_ok-version.version in
    let r = opened_as g.W.Whole.shows c.open_front.result in
    let h = g.H.Hashes.of in
    let sized = g.met.H.Hashes.sized in
    let told = (g.S.Shelf.state c.args.shelf.now).files in
    let s0 = g.S.Shelf.state c.args.shelf.now in
    let s1 = g.S.Shelf.state c.size.new.self in
    let s2 = g.S.Shelf.state c.read_front.new.shelf in
    let s3 = g.S.Shelf.state c.open_front.new.shelf in
    let before = (g.S.Shelf.state c.args.shelf.now).reads in
    let mid = (g.S.Shelf.state c.read_front.new.shelf).reads in
    let after = (g.S.Shelf.state c.open_front.new.shelf).reads in
    let same = c.in_ok-version.ensures.files ∙ c.in_ok-size.ensures.files in
    let front = subst (λ o. OfFile o name ⊥ (λ bytes. IsFrontOfFile bytes room)) c.in_ok-size.ensures.files
    (front_of (g.S.Shelf.state c.size.new.self).files name size room
    (subst (λ o. OfFile o name ⊥ (λ bytes. size ≡ length bytes)) (sym c.in_ok-size.ensures.files)
    c.in_ok-size.ensures.length) c.in_ok-version.ensures.told) in
    record {
      told = told_by h told name room v r c.in_ok-version.ensures.version front
          (subst (λ o. OfFile o name (FailsWithoutFault r) (λ bytes. TellsBytes (form_by v) h bytes r)) same
          c.open_front.ensures.told);
      of_some_bytes = (v, c.open_front.ensures.of_some_bytes);
      agrees = agrees_at h sized _ _ c.in_ok-size.ensures.bytes;
      every = c.in_ok-size.ensures.every;
      law = λ u bytes all. agrees (form_by u) (form_by_is u) h sized bytes all;
      causes = causes_later name s0 s1 s3 r c.in_ok-size.ensures.files c.in_ok-size.ensures.causes.quiet
          (causes_later name s1 s2 s3 r c.in_ok-version.ensures.files c.in_ok-version.ensures.causes.quiet
          c.open_front.ensures.causes);
      files = c.open_front.ensures.files ∙ same;
      reads = omega (
        arith,
        c.in_ok-size.ensures.reads,
        c.in_ok-version.ensures.reads.answered,
        c.open_front.ensures.reads,
      );
      reads_at_most = once_by told name room size v before mid after c.in_ok-version.ensures.version
          (omega (arith, c.if-size.false))
          (omega (arith, c.in_ok-size.ensures.reads, c.in_ok-version.ensures.reads.answered))
          (size_there _ name size c.in_ok-size.ensures.length) front
          (subst (λ o. OfFile o name (after ≤ mid)
          (λ bytes. after + 1 ≤ mid + max 1 (length bytes / (form_by v).size))) same
          c.open_front.ensures.reads_at_most);
    }
