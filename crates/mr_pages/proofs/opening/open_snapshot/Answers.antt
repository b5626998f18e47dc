use Rattle.mr_pages.specs.Opening.{opened_of}
use Rattle.mr_pages.proofs.Answered.{stands_version, shown_well}
use Rattle.mr_pages.proofs.opening.open_snapshot.Goals as goal

pub returns : goal.returns
returns g c =
    let e = c.open_named.ensures in
    record {
      exact = e.told;
      well_formed = shown_well opened_of g.H.Hashes.of c.open_named.result e.of_some_bytes;
      of_some_bytes = e.of_some_bytes;
      law = e.law;
      agrees = e.agrees;
      every = e.every;
      version = λ v bytes t b s. stands_version v g.H.Hashes.of bytes t b s;
      causes = e.causes;
      files = e.files;
      reads = e.reads;
      reads_at_most = e.reads_at_most;
    }
