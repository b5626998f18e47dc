use Rattle.std.proofs.Common.{subst, ◌<◌, ◌≤◌}
use Rattle.mr_pages.proofs.Placing.{meets_low, meets_empty}
use Rattle.mr_pages.proofs.numbers.Numbers.meet.Goals as goal

pub returns-then-n-len : goal.returns-then-n-len
returns-then-n-len c =
    meets_low c.args.self.now c.args.n (subst (λ k. c.args.n < k) c.len.ensures c.if-n-len.true) c.set.new.self
    c.set.result c.set.ensures.was c.set.ensures.sets

pub returns-then-found-eq0 : goal.returns-then-found-eq0
returns-then-found-eq0 c =
    meets_empty c.args.self.now c.put.new.self c.args.n
    (subst (λ k. k ≤ c.args.n) c.len.ensures c.if-n-len.false) (cc) c.put.ensures
