use Rattle.std.proofs.Common.{◌≡◌, ◌-◌, [], List, ℕ}
use Rattle.mr_query.specs.declared.query.Query.{Query}
use Rattle.mr_check.specs.Judged.{IsTaken}
use Rattle.mr_command.specs.Ending.{NoneFalls}
use Rattle.mr_command.proofs.Taking.{HasTaken}
use Rattle.mr_command.proofs.ToFault.{ReadTo}
use Rattle.mr_command.proofs.pieces.take_file.Given as goal

abbrev pub invariant-loop-at : goal.invariant-loop-at
invariant-loop-at g l = record {
  counts : NoneFalls (g.S.Shelf.state l.initial.shelf) (g.S.Shelf.state l.shelf);
  files : (g.S.Shelf.state l.shelf).files ≡ (g.S.Shelf.state l.initial.shelf).files;
  stops : (root : List ℕ) (q : Query) → IsTaken g.H.Hashes.of g.H.Hashes.holds root q l.initial.taken []
      → ReadTo g.H.Hashes.of root q (g.S.Shelf.state l.initial.shelf).files l.name l.size l.at
      (g.S.Shelf.state l.initial.shelf).reads (g.S.Shelf.state l.shelf).reads;
  faults : (g.S.Shelf.state l.shelf).faults ≡ (g.S.Shelf.state l.initial.shelf).faults;
  taken : (root : List ℕ) (q : Query) → IsTaken g.H.Hashes.of g.H.Hashes.holds root q l.initial.taken []
      → HasTaken g.H.Hashes.of g.H.Hashes.holds root q (g.S.Shelf.state l.initial.shelf).files l.name l.size l.at
      l.taken;
}

abbrev pub decreases-loop-at : goal.decreases-loop-at
decreases-loop-at g l = l.size - l.at
