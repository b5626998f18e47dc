use Rattle.std.proofs.Common.{subst}
use Rattle.mr_outside.specs.Told.{OfFile}
use Rattle.mr_pages.specs.File.{form_at}
use Rattle.mr_pages.specs.Opening.{FailsWithoutFault, MapCauses, SomeFile, TellsBytes}
use Rattle.mr_pages.proofs.Answered.{stands_of, only_of, fault_of, well_of, stands_version, shown_itself}
use Rattle.mr_pages.proofs.opening.open_plain.Goals as goal

pub returns : goal.returns
returns g c =
    let told = (g.S.Shelf.state c.args.shelf.now).files in
    let name = c.args.name.now in
    let r = c.open_named.result in
    let h = g.H.Hashes.of in
    let e = c.open_named.ensures in
    let same = shown_itself r in
    let tells = subst (λ a. OfFile told name (FailsWithoutFault a) (λ bytes. TellsBytes (form_at bytes) h bytes a)) same
    e.told in
    let some = subst (SomeFile h) same e.of_some_bytes in
    record {
      stands = stands_of h told name r tells;
      only = only_of form_at h told name r tells;
      fault = λ f is. fault_of form_at h told name r tells f is;
      exact = tells;
      well_formed = well_of h r some;
      of_some_bytes = some;
      law = e.law;
      agrees = e.agrees;
      every = e.every;
      version = λ v bytes t b s. stands_version v h bytes t b s;
      causes = subst (MapCauses name (g.S.Shelf.state c.args.shelf.now) (g.S.Shelf.state c.open_named.new.shelf)) same
          e.causes;
      files = e.files;
      reads = e.reads;
      reads_at_most = e.reads_at_most;
    }
