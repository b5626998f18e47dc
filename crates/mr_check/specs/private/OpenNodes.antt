-- What was gathered of an open node. This serves private functions.
use Rattle.std.specs.Prelude.{◌≡◌, ⊤, ℕ, ◌+◌, ◌-◌, ◌<◌, List, [], ◌∷◌, ◌++◌}
use Rattle.mr_record.specs.declared.version.Version.{Version}
use Rattle.mr_tree.specs.HasHashed.{HasHashed, Piece, of_entry}
use Rattle.mr_tree.specs.declared.entry.Entry.{Entry}
use Rattle.mr_tree.specs.declared.node_hasher.NodeHasher.{NodeHasher}
use Rattle.mr_check.specs.declared.frame.Frame.{Frame}

-- the hasher was fed these pieces behind these bytes, and the rectangle, the mask and the count are
-- theirs
abbrev pub Gathered : {H : Type 0} → (H → List ℕ → Type 0) → NodeHasher H → (head : List ℕ)
    → List Piece → Type 0
Gathered holds n head pieces = HasHashed (holds n.hasher) n.rect n.mask n.count head pieces

-- one more entry was added
abbrev pub Adds : {H : Type 0} → Version → (H → List ℕ → Type 0) → (before after : NodeHasher H)
    → Entry → Type 0
Adds v holds before after x =
    (head : List ℕ) (pieces : List Piece) → Gathered holds before head pieces
    → Gathered holds after head (pieces ++ of_entry v x ∷ [])

-- It was added to the open node on top, in which more are to come: one less than before. The other
-- open nodes are as before.
pub record AddsOnTop {H : Type 0} (v : Version) (holds : H → List ℕ → Type 0) (x : Entry)
    (before after : List (Frame H)) : Type 0 where
  pub top : Frame H
  pub node : NodeHasher H
  pub others : List (Frame H)
  pub was : before ≡ top ∷ others
  pub now : after ≡ record { node = node; left = top.left - 1 } ∷ others
  pub some : 0 < top.left
  pub adds : Adds v holds top.node node x
  pub counted : node.count ≡ top.node.count + x.count

-- the open node on top, if there is one, has no more to come
abbrev pub IsLastOnTop : {H : Type 0} → List (Frame H) → Type 0
IsLastOnTop [] = ⊤
IsLastOnTop (f ∷ fs) = f.left ≡ 0
