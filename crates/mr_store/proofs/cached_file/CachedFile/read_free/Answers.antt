use Rattle.mr_store.proofs.cached_file.CachedFile.read_free.Goals as goal

pub returns-clause-free : goal.returns-clause-free
returns-clause-free g c = record {
  bytes = c.read_page.new.into;
  is = c.in_ok-read_page.ensures.page;
  told = c.in_ok-read_page.ensures.told;
  free = c.free_on.ensures.exact;
}
