use Rattle.std.proofs.Common.{ap, ◌∙◌}
use Rattle.mr_query.specs.Word.{query_of}
use Rattle.mr_query.proofs.Words.{result_written, query_read}
use Rattle.mr_query.proofs.word.read_query.Goals as goal

pub returns-clause-written : goal.returns-clause-written
returns-clause-written c =
    rw c.as_bytes.ensures.value at (result_written c.as_bytes.result.now c.read_word.result c.read_word.ensures)

pub returns-clause-read : goal.returns-clause-read
returns-clause-read c = λ q is e. c.read_word.ensures ∙ ap query_of (c.as_bytes.ensures.value ∙ e) ∙ query_read q is
