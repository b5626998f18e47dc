use Rattle.std.proofs.Common.{◌<◌, Ok, Err, get_or, arith, rules}
use Rattle.mr_pages.specs.declared.rule.MapRule.TheVariants as rule
use Rattle.mr_pages.proofs.BothWays.{head_written, head_found}
use Rattle.mr_pages.proofs.page.head.head_on.Goals as goal

pub returns-then-not-has_seal-clause-read : goal.returns-then-not-has_seal-clause-read
returns-then-not-has_seal-clause-read c = λ h is. head_found c.args.layout c.args.pages c.args.page.now
    (Err rule.Unsealed) h c.requires.room (search rules) is

pub returns-then-not-fits-clause-read : goal.returns-then-not-fits-clause-read
returns-then-not-fits-clause-read c = λ h is. head_found c.args.layout c.args.pages c.args.page.now
    (Err rule.Header) h c.requires.room (search rules) is

pub returns-then-not-is_spelled-clause-read : goal.returns-then-not-is_spelled-clause-read
returns-then-not-is_spelled-clause-read c = λ h is. head_found c.args.layout c.args.pages c.args.page.now
    (Err rule.Header) h c.requires.room (search rules) is

pub returns-clause-written : goal.returns-clause-written
returns-clause-written c = λ some few.
    head_written c.args.layout c.args.pages c.args.page.now (Ok c.read_fields-head.result) c.requires.room
    (λ i. let fits : get_or c.args.page.now i 0 < 256 = omega (arith, c.type_inv.page i) in fits)
    (search rules) some few

pub returns-clause-read : goal.returns-clause-read
returns-clause-read c = λ h is. head_found c.args.layout c.args.pages c.args.page.now
    (Ok c.read_fields-head.result) h c.requires.room (search rules) is
