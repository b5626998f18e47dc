-- What private functions make of the parts of a join's proof. Nothing of this has to be believed:
-- no public contract cites it.
use Rattle.std.specs.Prelude.{◌≡◌, List, [], ◌∷◌, ℕ, Option, Some, None}
use Rattle.mr_geom.specs.Rectangle.{Rectangle}
use Rattle.mr_outside.specs.State.{Sunk}
use Rattle.mr_record.specs.declared.record.Record.{Record}
use Rattle.mr_tree.specs.declared.child.Child.{Child}
use Rattle.mr_join.specs.Frame.{frame_bytes}
use Rattle.mr_join.specs.Accepted.{Owned, part_proof, part_taken}

-- a sink of which nothing is told
abbrev pub nothing : Sunk
nothing = record { taken = None; faults = 0 }

-- these are the proof of the first map for the rectangle, and the records that it gives
pub record IsFirstPart (hash : List ℕ → List ℕ) (m : Owned) (w : Rectangle) (bytes : List ℕ)
    (records : List Record) : Type 0 where
  pub own : bytes ≡ part_proof hash m (w ∷ [])
  pub given : records ≡ (part_taken hash m (w ∷ [])).records

-- the proof of a join of which the second map is empty
abbrev pub alone_bytes : (List ℕ → List ℕ) → Owned → List ℕ
alone_bytes hash n =
    frame_bytes (record { rect = None; first = []; second = part_proof hash n [] })

-- the rectangle that a map says of its root node
abbrev pub rect_in : Option Child → Option Rectangle
rect_in None = None
rect_in (Some c) = Some c.rect
