-- What the check of a proof answers, whole or by pieces.
use Rattle.std.specs.Prelude.{◌≡◌, ℕ, ◌≤◌, ⊤, List, ◌++◌, take, Option, Some, None, Result, Ok, Err}
use Rattle.std.specs.Global.{Vec}
use Rattle.mr_geom.specs.Rectangle.{Rectangle}
use Rattle.mr_record.specs.declared.record.Record.{Record}
use Rattle.mr_proof.specs.declared.rule.Fault.{Fault}
use Rattle.mr_proof.specs.Cut.{Cut, rect}
use Rattle.mr_proof.specs.Tight.{Question}
use Rattle.mr_proof.specs.Handed.{handed_out}
use Rattle.mr_proof.specs.Feeding.{IsUnsettled, CompletesRecord, IsFinal}
use Rattle.mr_check.specs.declared.error.CheckErr.{CheckErr}
use Rattle.mr_check.specs.declared.error.CheckErr.TheVariants as errors
use Rattle.mr_check.specs.declared.fed.Fed.{Fed}
use Rattle.mr_check.specs.declared.fed.Fed.TheVariants as fed

-- what is answered for a proof that has this verdict: the verdict, unless memory ran out
abbrev pub AnswersVerdict : Result (Vec Record) CheckErr → Result (List Record) Fault → Type 0
AnswersVerdict (Ok v) verdict = verdict ≡ Ok v.items
AnswersVerdict (Err (errors.Fault f)) verdict = verdict ≡ Err f
AnswersVerdict (Err errors.NoMemory) verdict = ⊤

-- the bytes of the piece that were taken
abbrev pub taken_of : Fed → List ℕ → List ℕ
taken_of (fed.Found taken item) piece = take taken piece
taken_of _ piece = piece

-- of a record at least one byte of the piece, and no more than there are
abbrev pub TakesFrom : ℕ → Fed → Type 0
TakesFrom long (fed.Found taken item) = (1 ≤ taken) × (taken ≤ long)
TakesFrom long _ = ⊤

-- What is answered for a piece that is fed behind these bytes: a fault just where the verdict of
-- the bytes so far is one that stays, and a record that is handed out where its last byte was
-- taken.
abbrev pub FeedsPiece : (List ℕ → List ℕ) → List ℕ → Question → List ℕ → List ℕ → Fed → Type 0
FeedsPiece hash root q so_far piece fed.More =
    IsUnsettled hash root q (so_far ++ piece)
    × (handed_out q (so_far ++ piece) ≡ handed_out q so_far)
FeedsPiece hash root q so_far piece (fed.Found taken item) =
    IsUnsettled hash root q (so_far ++ take taken piece) × CompletesRecord q so_far piece taken item
FeedsPiece hash root q so_far piece (fed.Fault f) = IsFinal hash root q so_far piece f

-- the rectangle round the map of which a cut is
abbrev pub rect_round : Option Cut → Option Rectangle
rect_round None = None
rect_round (Some P) = rect P
