use Rattle.std.proofs.Common.{◌≡◌, ◌+◌, ◌-◌, ◌≤◌, ℕ, List, length, vec_len}
use Rattle.mr_outside.specs.State.{Shelved}
use Rattle.mr_outside.specs.Reading.{piece_count}
use Rattle.mr_outside.proofs.Pieces.{FrontOfFile}
use Rattle.mr_outside.proofs.reading.read_up_to.Given as goal

-- the files are as before, what was read is a front of the named one, and each read but the last gave a whole piece
pub record ReadsOn (before now : Shelved) (name : List ℕ) (size : ℕ) (so_far : List ℕ) : Type 0 where
  pub files : now.files ≡ before.files
  pub front : FrontOfFile before.files name size so_far
  pub faults : now.faults ≡ before.faults
  pub reads : before.reads ≤ now.reads
  pub pieces : now.reads + piece_count (size - length so_far) ≤ before.reads + piece_count size

abbrev pub invariant-loop-bytes : goal.invariant-loop-bytes
invariant-loop-bytes g l =
    ReadsOn (g.S.Shelf.state l.initial.shelf) (g.S.Shelf.state l.shelf) l.name l.size l.bytes.items

abbrev pub decreases-loop-bytes : goal.decreases-loop-bytes
decreases-loop-bytes g l = l.size - vec_len l.bytes
