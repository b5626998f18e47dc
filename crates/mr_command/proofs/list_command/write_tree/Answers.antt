use Rattle.std.proofs.Common.{subst, sym, ap, ◌∙◌}
use Rattle.std.specs.Prelude.{All, OnOk}
use Rattle.mr_record.specs.Record.{HasLayer}
use Rattle.mr_outside.specs.Told.{TakesBytes, TakesFront}
use Rattle.mr_record.specs.RecordText.{text_of}
use Rattle.mr_tree.specs.Tree.{records}
use Rattle.mr_command.specs.private.Listing.{items_of}
use Rattle.mr_command.proofs.Layered.{numbered_layers}
use Rattle.mr_command.proofs.Endings.{front_none}
use Rattle.mr_command.proofs.Numbered.{sorted_entries}
use Rattle.mr_command.proofs.list_command.write_tree.Goals as goal

pub returns-in_err-entries-clause-front : goal.returns-in_err-entries-clause-front
returns-in_err-entries-clause-front g c = front_none _ _

pub returns-in_err-sort-clause-front : goal.returns-in_err-sort-clause-front
returns-in_err-sort-clause-front g c = front_none _ _

pub returns-clause-whole : goal.returns-clause-whole
returns-clause-whole g c =
    subst (λ rs. OnOk c.write_entries.result (TakesBytes (g.W.Sink.state c.args.out.now)
    (g.W.Sink.state c.write_entries.new.out) (text_of c.args.version rs)))
    (ap items_of (c.deref.ensures.value ∙ c.in_ok-sort.ensures)
    ∙ sorted_entries c.in_ok-entries.entries.items (records c.args.tree.now) c.in_ok-entries.ensures)
    c.write_entries.ensures.whole

pub returns-clause-front : goal.returns-clause-front
returns-clause-front g c =
    subst (λ rs. TakesFront (g.W.Sink.state c.args.out.now) (g.W.Sink.state c.write_entries.new.out)
    (text_of c.args.version rs))
    (ap items_of (c.deref.ensures.value ∙ c.in_ok-sort.ensures)
    ∙ sorted_entries c.in_ok-entries.entries.items (records c.args.tree.now) c.in_ok-entries.ensures)
    c.write_entries.ensures.front

pub write_entries-requires : goal.write_entries-requires
write_entries-requires g c =
    subst (All (HasLayer c.args.version))
    (sym (ap items_of (c.deref.ensures.value ∙ c.in_ok-sort.ensures)
    ∙ sorted_entries c.in_ok-entries.entries.items (records c.args.tree.now) c.in_ok-entries.ensures))
    (numbered_layers c.args.version (records c.args.tree.now) c.requires)
