-- What was fed are bytes.
use Rattle.std.proofs.Common.{ℕ, ◌<◌, ◌^◌, List, [], ◌++◌, take}
use Rattle.std.proofs.lemmas.List.Elements.{All-nil, All-append}
use Rattle.mr_outside.specs.Bytes.{AreBytes}
use Rattle.mr_record.proofs.Encodings.{IsBytes, IsBytes-take, AreBytes-from}
use Rattle.mr_check.specs.declared.fed.Fed.{Fed}
use Rattle.mr_check.specs.declared.fed.Fed.TheVariants as fed
use Rattle.mr_check.specs.Answers.{taken_of}

pub none_fed : AreBytes []
none_fed = All-nil (λ b. b < 2 ^ 8)

taken_bytes : (result : Fed) (piece : List ℕ) → IsBytes piece → AreBytes (taken_of result piece)
taken_bytes fed.More piece fits = AreBytes-from piece fits
taken_bytes (fed.Found n x) piece fits = AreBytes-from (take n piece) (IsBytes-take n piece fits)
taken_bytes (fed.Fault f) piece fits = AreBytes-from piece fits

pub more_fed : (bytes piece : List ℕ) (result : Fed) → AreBytes bytes → IsBytes piece
    → AreBytes (bytes ++ taken_of result piece)
more_fed bytes piece result all fits =
    All-append (λ b. b < 2 ^ 8) bytes (taken_of result piece) all (taken_bytes result piece fits)
