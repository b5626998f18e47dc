use Rattle.std.proofs.Common.{sym, ◌∙◌}
use Rattle.mr_query.proofs.Words.{whole_word, cut_word}
use Rattle.mr_query.proofs.word.read_word.Goals as goal

pub returns-in-Some : goal.returns-in-Some
returns-in-Some c =
    c.read_masked.ensures
    ∙ sym (cut_word c.args.word.now c.in-Some.text.now c.in-Some.named.now c.in-Some.ensures)

pub returns-in-None : goal.returns-in-None
returns-in-None c = c.read_unmasked.ensures ∙ sym (whole_word c.args.word.now c.in-None.ensures)
