-- A question for tests that is no query: what a window meets is opened, and all else is told by its
-- entry.
use Rattle.std.specs.Prelude.{ℕ, true, Option, None}
use Rattle.mr_geom.specs.Rectangle.{Rectangle}
use Rattle.mr_query.specs.declared.key.Key.{Key}
use Rattle.mr_query.specs.declared.query.Shape.TheVariants.{Window}
use Rattle.mr_query.specs.Word.{asks}
use Rattle.mr_proof.specs.declared.head.Kind.TheVariants as kind
use Rattle.mr_proof.specs.declared.way.Way.{Way}
use Rattle.mr_proof.specs.declared.way.Way.TheVariants as ways
use Rattle.mr_proof.specs.Tight.{Question, question}

abbrev pub whole_for_skipped : Way → Way
whole_for_skipped ways.Skip = ways.Whole
whole_for_skipped ways.Whole = ways.Whole
whole_for_skipped ways.Open = ways.Open

abbrev pub outside_way : Rectangle → Key → Way
outside_way window s = whole_for_skipped ((question (asks (Window window) None)).way None s)

abbrev pub outside : (letter : ℕ) → Rectangle → Question
outside letter window = record {
  kind = kind.Choice letter;
  two_only = true;
  around = None;
  way = λ radius s. outside_way window s;
}
