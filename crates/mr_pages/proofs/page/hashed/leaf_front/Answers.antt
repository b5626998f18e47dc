use Rattle.std.proofs.Common.{List, length, ap, ◌∙◌}
use Rattle.std.specs.List.{flat_map}
use Rattle.mr_record.specs.Record.{record_bytes}
use Rattle.mr_record.specs.declared.record.Record.{Record}
use Rattle.mr_tree.specs.View.{records_in}
use Rattle.mr_pages.proofs.Fronts.{front_of_leaf}
use Rattle.mr_pages.proofs.page.hashed.leaf_front.Goals as goal

pub returns : goal.returns
returns c =
    front_of_leaf c.args.layout c.args.page.now c.split_at.result.0.now c.args.view.now (records_in c.args.view.now)
    c.width_of.result c.requires.page (c.records.ensures.leaf c.requires.leaf)
    (c.width_of.ensures.value
    ∙ ap (λ (rs : List Record). length (flat_map (record_bytes c.args.layout.version) rs)) c.records.ensures.value)
    c.split_at.ensures.front
