use Rattle.std.proofs.Common.{sym, subst, ap, ◌∙◌}
use Rattle.std.proofs.lemmas.Result.{IfOk-weaker}
use Rattle.mr_record.specs.Sorting.{sorted_by_key}
use Rattle.mr_record.specs.declared.record.Record.{Record}
use Rattle.mr_tree.specs.Tree.{records}
use Rattle.mr_tree.specs.WellFormed.{WellFormed}
use Rattle.mr_grow.specs.Shrink.{Rest, shortened, all_in, WithoutOne}
use Rattle.mr_grow.specs.Views.{IsRooted}
use Rattle.mr_grow.proofs.Dropping.{shrunk_root, del_mixes, del_well_formed}
use Rattle.mr_grow.proofs.Sizes.{well_rooted}
use Rattle.mr_grow.proofs.deletion.shrink.Goals as goal

pub put_all-requires : goal.put_all-requires
put_all-requires c =
    subst IsRooted (sym (c.shorten.ensures ∙ ap (λ (r : Rest). shortened r.tree) c.in_ok-tree.ensures))
    (shrunk_root c.args.number c.args.tree (well_rooted c.args.tree c.requires.well_formed) c.requires.present)

pub returns-clause-exact : goal.returns-clause-exact
returns-clause-exact c =
    let short = c.shorten.ensures ∙ ap (λ (r : Rest). shortened r.tree) c.in_ok-tree.ensures in
    let by_number = c.deref.ensures.value ∙ c.in_ok-sort_by_number.ensures ∙ ap
    (λ (r : Rest). sorted_by_key (λ (s : Record). s.number) r.aside) c.in_ok-tree.ensures in
    IfOk-weaker c.put_all.result _ _ (λ t h. h ∙ (λ i. all_in (by_number i) (short i))) c.put_all.ensures

pub returns-clause-well_formed : goal.returns-clause-well_formed
returns-clause-well_formed c =
    IfOk-weaker c.put_all.result _ _ (λ t h. subst WellFormed (sym h) (del_well_formed c.args.number c.args.tree
    c.requires.well_formed c.requires.present)) (returns-clause-exact c)

pub returns-clause-records : goal.returns-clause-records
returns-clause-records c =
    IfOk-weaker c.put_all.result _ _
    (λ t h. subst (λ u. WithoutOne c.args.number (records c.args.tree) (records u)) (sym h)
    (del_mixes c.args.number c.args.tree (well_rooted c.args.tree c.requires.well_formed) c.requires.present))
    (returns-clause-exact c)
