-- A proof that is taken piece by piece, with what was taken before. This serves private functions.
use Rattle.std.specs.Prelude.{◌≤◌, ℕ, List, ◌++◌, length, take, Result, Ok, Err}
use Rattle.mr_record.specs.declared.record.Record.{Record}
use Rattle.mr_proof.specs.Tight.{Question}
use Rattle.mr_proof.specs.Feeding.{IsUnsettled}
use Rattle.mr_check.specs.declared.error.CheckErr.{CheckErr}
use Rattle.mr_tree.specs.declared.hash.Hashes.{Ghosts}
use Rattle.mr_check.specs.declared.verifier.Verifier.{Verifier}
use Rattle.mr_check.specs.Judged.{Took, IsStopped}

-- these bytes were taken, and have no fault that stays; or that is so
abbrev pub TakesPiece : {X H : Type 0} {G : Ghosts H} → (List ℕ → List ℕ) → (H → List ℕ → Type 0)
    → List ℕ → Question → Verifier H G → List Record → List ℕ → Result X CheckErr → Type 0
TakesPiece hash holds root q w kept bytes (Ok x) = Took hash holds root q w kept bytes
    × IsUnsettled hash root q bytes
TakesPiece hash holds root q w kept bytes (Err e) = IsStopped hash root q bytes e

-- whatever was taken before the piece
abbrev pub TakesNextPiece : {X H : Type 0} {G : Ghosts H} → (List ℕ → List ℕ) →
    (H → List ℕ → Type 0)
    → Question → Verifier H G → Verifier H G → List ℕ → List Record → List Record
    → Result X CheckErr
    → Type 0
TakesNextPiece hash holds q before after piece old new result = (root : List ℕ) (bytes : List ℕ)
    → Took hash holds root q before old bytes
    → TakesPiece hash holds root q after new (bytes ++ piece) result

-- so far of the piece was taken
pub record TookSoFar {H : Type 0} {G : Ghosts H} (hash : List ℕ → List ℕ)
    (holds : H → List ℕ → Type 0) (q : Question)
    (first now : Verifier H G) (piece : List ℕ) (at : ℕ) (old kept : List Record) : Type 0 where
  pub within : at ≤ length piece
  pub so : (root : List ℕ) (bytes : List ℕ) → Took hash holds root q first old bytes
      → Took hash holds root q now kept (bytes ++ take at piece)
