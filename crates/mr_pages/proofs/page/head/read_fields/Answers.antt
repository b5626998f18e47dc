use Rattle.std.proofs.Common.{◌+◌, get_or, ◌∙◌}
use Rattle.std.specs.Prelude.{slice_range}
use Rattle.std.specs.Int.{w32, from_be_bytes}
use Rattle.mr_pages.specs.Page.{Head}
use Rattle.mr_pages.specs.PageBytes.{root_place, root_in, fields_in}
use Rattle.mr_pages.proofs.page.head.read_fields.Goals as goal

pub returns-clause-fields : goal.returns-clause-fields
unfolding fields_in
returns-clause-fields c =
    let page = c.args.page.now in
    let root = c.read_root-root.ensures ∙ (λ i. root_in c.args.version (c.u64_of_bytes-count.ensures.exact i)
    (get_or page 5 0) (slice_range page root_place (root_place + c.root_len-end.ensures i))) in
    let free = c.u32_of_bytes-2.ensures ∙ (λ i. from_be_bytes w32 (slice_range page
    (root_place + c.root_len-end.ensures i) (root_place + c.root_len-end.ensures i + 4))) in
    λ i. let h : Head = record {
      batch = c.u64_of_bytes.ensures.exact i;
      count = c.u64_of_bytes-count.ensures.exact i;
      pages = c.u32_of_bytes.ensures i;
      root = root i;
      free = free i;
    } in h
