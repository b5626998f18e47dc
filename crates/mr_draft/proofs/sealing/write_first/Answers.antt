use Rattle.mr_store.specs.CachedFile.{state_of, name_of}
use Rattle.mr_draft.proofs.Seals.{none_written}
use Rattle.mr_draft.proofs.sealing.write_first.Goals as goal

pub returns-in_err-sync-clause-partly : goal.returns-in_err-sync-clause-partly
returns-in_err-sync-clause-partly g c =
    none_written (name_of c.args.file.now) c.args.page.now (state_of c.args.file.now).files
    (state_of c.sync.new.file).files c.sync.ensures.files
