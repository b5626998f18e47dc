use Rattle.std.proofs.Common.{◌++◌, sym, ap, ◌∙◌, None}
use Rattle.mr_record.specs.declared.version.Version.{Version}
use Rattle.mr_pages.specs.PageBytes.{root_link_bytes}
use Rattle.mr_pages.proofs.page.head.put_zeros.Goals as goal

pub returns-in-One-clause-bytes : goal.returns-in-One-clause-bytes
unfolding root_link_bytes
returns-in-One-clause-bytes c =
    c.put.ensures ∙ ap (λ (v : Version). c.args.bytes.now ++ root_link_bytes v None) (sym c.in-One.is)

pub returns-in-Two-clause-bytes : goal.returns-in-Two-clause-bytes
unfolding root_link_bytes
returns-in-Two-clause-bytes c =
    c.put-in-Two.ensures ∙ ap (λ (v : Version). c.args.bytes.now ++ root_link_bytes v None) (sym c.in-Two.is)
