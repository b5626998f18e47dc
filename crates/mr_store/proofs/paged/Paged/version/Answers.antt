use Rattle.std.proofs.Common.{sym}
use Rattle.mr_store.specs.CachedFile.{page_form, bytes_of}
use Rattle.mr_store.proofs.Maps.{version_is}
use Rattle.mr_store.proofs.paged.Paged.version.Goals as goal

pub returns : goal.returns
returns g c =
    let p = c.args.self.now in
    sym (version_is (page_form p.file) p.head (bytes_of p.file))
