use Rattle.std.proofs.Common.{sym, subst}
use Rattle.std.specs.Prelude.{All}
use Rattle.std.specs.List.Sorted.{IsPermutation}
use Rattle.mr_record.specs.Record.{IsRecord}
use Rattle.mr_tree.specs.Tree.{records}
use Rattle.mr_tree.specs.WellFormed.{WellFormed}
use Rattle.mr_pack.specs.HalfFull.{IsHalfFullBelow}
use Rattle.mr_pack.proofs.Contents.{tree_well_formed, tree_mixes}
use Rattle.mr_pack.proofs.Orders.{if_ok}
use Rattle.mr_pack.proofs.Standing.{tree_stands}
use Rattle.mr_pack.proofs.load.pack_distinct.Goals as goal

pub returns-clause-well_formed : goal.returns-clause-well_formed
returns-clause-well_formed c =
    if_ok c.packed.result
    (λ t is. subst WellFormed (sym is)
    (tree_well_formed c.args.list.items c.requires.few
    (subst (All IsRecord) c.deref.ensures.value c.are_records.ensures) c.requires.apart))
    c.packed.ensures

pub returns-clause-half_full : goal.returns-clause-half_full
returns-clause-half_full c =
    if_ok c.packed.result
    (λ t is. subst IsHalfFullBelow (sym is)
    (tree_stands c.args.list.items c.requires.few).below)
    c.packed.ensures

pub returns-clause-same_records : goal.returns-clause-same_records
returns-clause-same_records c =
    if_ok c.packed.result
    (λ t is. subst (λ u. IsPermutation c.args.list.items (records u)) (sym is)
    (tree_mixes c.args.list.items))
    c.packed.ensures
