use Rattle.std.proofs.Common.{◌++◌, true, false, length, ◌∙◌, ap, sym, subst, arith}
use Rattle.std.specs.Prelude.{◌<◌, AllPairs}
use Rattle.std.specs.List.Sorted.{IsPermutation}
use Rattle.mr_split.specs.Best.{positions}
use Rattle.mr_split.specs.Split.{group, sides}
use Rattle.mr_split.proofs.Counts.{are_sides, first_size, second_size, groups_mix, group_rises}
use Rattle.mr_split.proofs.groups.split.Goals as goal

pub returns-clause-enough_first : goal.returns-clause-enough_first
returns-clause-enough_first c =
    let is = c.in_ok-first.ensures ∙ ap (λ bs. group bs false) (c.deref.ensures.value ∙ c.in_ok-sides.ensures.exact)
    in
    let s = are_sides c.args.list.now c.args.m c.requires.some c.requires.enough in
    omega (arith, ap length is, first_size (sides c.args.list.now c.args.m), s.first)

pub returns-clause-enough_second : goal.returns-clause-enough_second
returns-clause-enough_second c =
    let is = c.in_ok-second.ensures ∙ ap (λ bs. group bs true) (c.deref-2.ensures.value ∙ c.in_ok-sides.ensures.exact)
    in
    let s = are_sides c.args.list.now c.args.m c.requires.some c.requires.enough in
    omega (arith, ap length is, second_size (sides c.args.list.now c.args.m), s.second)

pub returns-clause-all : goal.returns-clause-all
returns-clause-all c =
    let bs = c.in_ok-sides.sides.items in
    let first = c.in_ok-first.ensures ∙ ap (λ bs. group bs false) c.deref.ensures.value in
    let second = c.in_ok-second.ensures ∙ ap (λ bs. group bs true) c.deref-2.ensures.value in
    subst (λ us. IsPermutation (positions (length c.args.list.now)) us) (sym (λ i. first i ++ second i))
    (subst (λ n. IsPermutation (positions n) (group bs false ++ group bs true)) c.in_ok-sides.ensures.all
    (groups_mix bs))

pub returns-clause-rising_first : goal.returns-clause-rising_first
returns-clause-rising_first c =
    subst (AllPairs (λ i j. i < j)) (sym (c.in_ok-first.ensures ∙ ap (λ bs. group bs false) c.deref.ensures.value))
    (group_rises c.in_ok-sides.sides.items false)

pub returns-clause-rising_second : goal.returns-clause-rising_second
returns-clause-rising_second c =
    subst (AllPairs (λ i j. i < j)) (sym (c.in_ok-second.ensures ∙ ap (λ bs. group bs true) c.deref-2.ensures.value))
    (group_rises c.in_ok-sides.sides.items true)
