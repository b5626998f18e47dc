use Rattle.std.proofs.Common.{◌∷◌, sym, subst}
use Rattle.std.specs.List.Sorted.{IsPermutation}
use Rattle.std.proofs.lemmas.Result.{IfOk-weaker}
use Rattle.mr_tree.specs.Tree.{records}
use Rattle.mr_tree.specs.WellFormed.{WellFormed}
use Rattle.mr_grow.proofs.Distinct.{ins_well_formed}
use Rattle.mr_grow.proofs.Kept.{ins_mixes}
use Rattle.mr_grow.proofs.Sizes.{has_room, well_rooted}
use Rattle.mr_grow.proofs.insertion.grow.Goals as goal

pub inserted-requires : goal.inserted-requires
inserted-requires c = has_room c.args.tree (well_rooted c.args.tree c.requires.well_formed)

pub returns-clause-well_formed : goal.returns-clause-well_formed
returns-clause-well_formed c =
    IfOk-weaker c.inserted.result _ _
    (λ t h. subst WellFormed (sym h) (ins_well_formed c.args.one c.args.tree c.requires.well_formed c.requires.absent
    c.requires.room c.is_record.ensures)) c.inserted.ensures

pub returns-clause-records : goal.returns-clause-records
returns-clause-records c =
    IfOk-weaker c.inserted.result _ _
    (λ t h. subst (λ u. IsPermutation (c.args.one ∷ records c.args.tree) (records u)) (sym h)
    (ins_mixes c.args.one c.args.tree (has_room c.args.tree (well_rooted c.args.tree c.requires.well_formed))))
    c.inserted.ensures
