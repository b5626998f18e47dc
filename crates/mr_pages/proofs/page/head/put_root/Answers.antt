use Rattle.std.proofs.Common.{◌++◌, length, sym, ap, ◌∙◌, arith, length-append}
use Rattle.std.specs.Prelude.{Option, option_map}
use Rattle.mr_tree.specs.declared.child.Child.{Child}
use Rattle.mr_pages.specs.PageBytes.{root_link_bytes}
use Rattle.mr_pages.specs.Walking.{child_link}
use Rattle.mr_pages.proofs.page.head.put_root.Goals as goal

pub returns-in-None-clause-bytes : goal.returns-in-None-clause-bytes
returns-in-None-clause-bytes c =
    c.put_zeros.ensures.bytes
    ∙ ap (λ (o : Option Child). c.args.bytes.now ++ root_link_bytes c.args.version (option_map child_link o))
    (sym c.in-None.is)

pub returns-in-Some-clause-bytes : goal.returns-in-Some-clause-bytes
returns-in-Some-clause-bytes c =
    c.put.ensures
    ∙ ap (λ bs. c.args.bytes.now ++ bs) (c.as_slice.ensures.bytes ∙ c.encoded_root.ensures.bytes)
    ∙ ap (λ (o : Option Child). c.args.bytes.now ++ root_link_bytes c.args.version (option_map child_link o))
    (sym c.in-Some.is)

pub returns-in-Some-clause-size : goal.returns-in-Some-clause-size
returns-in-Some-clause-size c =
    omega (
      arith,
      ap length c.put.ensures,
      length-append c.args.bytes.now c.as_slice.result.now,
      ap length c.as_slice.ensures.bytes,
      c.encoded_root.ensures.size,
    )
