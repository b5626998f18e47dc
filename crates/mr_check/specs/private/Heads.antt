-- What follows a head, as far as it was read. This serves private functions.
use Rattle.std.specs.Prelude.{ℕ, Option, Some, None}
use Rattle.mr_proof.specs.declared.head.Head.{Head}
use Rattle.mr_proof.specs.Spelling.{Parsed}
use Rattle.mr_proof.specs.declared.way.Way.{Way}
use Rattle.mr_query.specs.declared.key.Key.{Key}
use Rattle.mr_proof.specs.Grammar.{Grammar, reads, part}
use Rattle.mr_check.specs.declared.stage.HeadField.{HeadField}
use Rattle.mr_check.specs.private.Stages.{head_want}
use Rattle.mr_check.specs.private.Machine.{head_next}

-- this field, or what follows the head
abbrev pub head_left : (Option ℕ → Key → Way) → Head → Option HeadField → Grammar Parsed
head_left way h (Some f) = reads (head_want h.kind f) (head_next way h f)
head_left way h None = part way h
