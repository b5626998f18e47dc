use Rattle.std.proofs.Common.{subst, sym}
use Rattle.mr_join.specs.declared.entry.Entry.{Entry}
use Rattle.mr_join.specs.private.Sweeping.{Within}
use Rattle.mr_join.proofs.Trees.{all_round}
use Rattle.mr_join.proofs.searching.bounds_round.Goals as goal

pub returns : goal.returns
returns c = λ n same.
    let x = c.args.query.now.rect.x0 in
    all_round x c.bounds_of.result c.bounds_of-2.result c.join-sides.result c.bounds_for.result c.join.result
    c.args.front.now n c.args.back.now (c.bounds_of.ensures x c.requires.front)
    (c.bounds_of-2.ensures x c.requires.back)
    (subst (λ (e : Entry). Within x c.bounds_for.result e) (sym same) c.bounds_for.ensures)
    c.join-sides.ensures.first c.join-sides.ensures.second c.join.ensures.first c.join.ensures.second
