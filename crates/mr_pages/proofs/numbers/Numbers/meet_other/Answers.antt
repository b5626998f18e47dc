use Rattle.mr_pages.proofs.Placing.{meets_other}
use Rattle.mr_pages.proofs.numbers.Numbers.meet_other.Goals as goal

pub returns : goal.returns
returns c =
    meets_other c.args.self.now c.insert.new.self c.args.n c.requires.high c.requires.apart c.requires.taken
    c.in_ok-insert.ensures.added (λ q. c.in_ok-insert.ensures.updates.0 q) c.in_ok-insert.ensures.len
