use Rattle.mr_clash.proofs.Versions.{no_word, one_word}
use Rattle.mr_clash.proofs.rest.word.Goals as goal

pub returns-in-One : goal.returns-in-One
returns-in-One c = λ x rest low is. no_word c.args.version x rest _ c.in-One.is low is

pub returns-in-Two : goal.returns-in-Two
returns-in-Two c = λ x rest low is.
    let whole = one_word c.args.version x rest _ c.in-Two.is low is in c.number.ensures x rest whole.0 whole.1
