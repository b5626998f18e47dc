use Rattle.std.proofs.Common.{◌∙◌, sym, subst, ◌≤◌, ◌<◌}
use Rattle.mr_pack.proofs.Numbers.{rounded_up_is, groups_within, some_groups}
use Rattle.mr_pack.proofs.grouping.group_count.Goals as goal

pub returns-clause-value : goal.returns-clause-value
returns-clause-value c = c.div_ceil.ensures ∙ rounded_up_is c.args.count c.args.capacity c.requires

pub returns-clause-within : goal.returns-clause-within
returns-clause-within c =
    subst (λ m. m ≤ c.args.count) (sym (c.div_ceil.ensures ∙ rounded_up_is c.args.count c.args.capacity c.requires))
    (groups_within c.args.count c.args.capacity)

pub returns-clause-not_empty : goal.returns-clause-not_empty
returns-clause-not_empty c = λ h.
    subst (λ m. 0 < m) (sym (c.div_ceil.ensures ∙ rounded_up_is c.args.count c.args.capacity c.requires))
    (some_groups c.args.count c.args.capacity c.requires h)
