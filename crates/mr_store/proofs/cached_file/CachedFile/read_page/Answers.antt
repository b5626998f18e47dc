use Rattle.std.proofs.Common.{refl}
use Rattle.mr_store.proofs.cached_file.CachedFile.read_page.Goals as goal

pub returns-clause-only : goal.returns-clause-only
returns-clause-only g c = record {
  file = record { name = refl; layout = refl; pages = refl };
  cache = refl;
  files =
      c.page_into.ensures.files;
}
