use Rattle.std.proofs.Common.{◌∙◌}
use Rattle.mr_pages.specs.PageBytes.{filled}
use Rattle.mr_pages.proofs.page.free.put_free.Goals as goal

pub returns : goal.returns
returns c = c.fill.ensures ∙ (λ i. filled (c.requires.size i) ((c.as_slice.ensures.bytes ∙ c.encoded-bytes.ensures) i))
