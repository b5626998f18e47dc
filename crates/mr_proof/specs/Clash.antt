-- The first two strings, of the owner and of a proof, that stand at one place and differ.
use Rattle.std.specs.Prelude.{◌≡◌, ◌≢◌, ℕ, ◌-◌, if◌then◌else◌, List, [], ◌∷◌, Option, Some, None, bytes_eq}
use Rattle.mr_outside.specs.Bytes.{AreBytes}
use Rattle.mr_tree.specs.Digest as digests
use Rattle.mr_tree.specs.Digest.{Scheme, by}
use Rattle.mr_tree.specs.declared.tree.Tree.{Tree}
use Rattle.mr_tree.specs.declared.tree.Tree.TheOpen as node
use Rattle.mr_tree.specs.declared.tree.Tree.TheOpen.{Tree-F}
use Rattle.mr_tree.specs.declared.tree.Tree.TheViews.{out-Tree}
use Rattle.mr_proof.specs.Cut.{Cut, Cuts, Pruned, Leaf, Inner, no_more, first, preimage}
use Rattle.mr_proof.specs.Spelling.{Parsed}
use Rattle.mr_proof.specs.Accepted.{proof_preimage}
use Rattle.mr_proof.specs.declared.head.Kind.{Kind}
use Rattle.mr_proof.specs.Reading.{kind_in, pair_of}

-- two strings: the owner's, and the one that a proof shows in its place
pub record Pair : Type 0 where
  pub owned : List ℕ
  pub shown : List ℕ

-- the two, where they differ; of a pruned part no string is shown
abbrev pub differ : List ℕ → Option (List ℕ) → Option Pair
differ x None = None
differ x (Some y) = if bytes_eq x y then None else Some (record { owned = x; shown = y })

-- the first, where there is one, and else the second
abbrev pub or_else : Option Pair → Option Pair → Option Pair
or_else None second = second
or_else (Some p) second = Some p

abbrev pub children_in : Tree-F Tree → List Tree
children_in node.Empty = []
children_in (node.Leaf records) = []
children_in (node.Inner children) = children

-- the trees under the root node
abbrev pub children : Tree → List Tree
children t = children_in (out-Tree t)

abbrev mutual
  -- Of a tree in one version and a cut of this level in another, by the preimages of their nodes: a
  -- node before its children, and children from left to right. What is pruned is left out.
  pub node_clash : (owned shown : Scheme) → (level : ℕ) → Tree → Cut → Option Pair
  node_clash s u level t (Pruned part) = None
  node_clash s u level t (Leaf records) =
      differ (digests.preimage s t) (preimage u level (Leaf records))
  node_clash s u level t (Inner cuts) = or_else
      (differ (digests.preimage s t) (preimage u level (Inner cuts)))
      (children_clash s u (level - 1) (children t) cuts)

  pub children_clash : (owned shown : Scheme) → (level : ℕ) → List Tree → Cuts → Option Pair
  children_clash s u level ts no_more = None
  children_clash s u level [] (first P Ps) = None
  children_clash s u level (t ∷ ts) (first P Ps) =
      or_else (node_clash s u level t P) (children_clash s u level ts Ps)

abbrev pub part_clash : (owned shown : Scheme) → (level : ℕ) → Tree → Option Cut → Option Pair
part_clash s u level t None = None
part_clash s u level t (Some P) = node_clash s u level t P

-- Of the map with this tree at this batch, in its version, and a head and a cut, in the head's: the
-- roots before the nodes.
abbrev pub pair_clash : Scheme → Tree → (batch : ℕ) → Parsed → Option Pair
pair_clash s t batch x = or_else
    (differ (digests.root_preimage_of s t batch) (Some (proof_preimage s.of x.head x.part)))
    (part_clash s (by x.head.version s.of) x.head.level t x.part)

abbrev pub if_said : Option Parsed → (Parsed → Option Pair) → Option Pair
if_said None f = None
if_said (Some x) f = f x

-- of the map and the head and cut of this kind that the bytes spell; bytes that spell none show no
-- string
abbrev pub clash_of : Kind → Scheme → Tree → (batch : ℕ) → List ℕ → Option Pair
clash_of k s t batch bytes = if_said (pair_of k bytes) (pair_clash s t batch)

-- for a query of whatever kind
abbrev pub clash : Scheme → Tree → (batch : ℕ) → List ℕ → Option Pair
clash s t batch bytes = clash_of (kind_in bytes) s t batch bytes

-- two byte strings that differ and have one hash
pub record IsCollision (hash : List ℕ → List ℕ) (p : Pair) : Type 0 where
  pub differ : p.owned ≢ p.shown
  pub same : hash p.owned ≡ hash p.shown
  pub owned_bytes : AreBytes p.owned
  pub shown_bytes : AreBytes p.shown

-- there is no pair and the fact holds, or there is one, which is a collision
abbrev pub NoneAnd : (List ℕ → List ℕ) → Option Pair → Type 0 → Type 0
NoneAnd hash None fact = fact
NoneAnd hash (Some p) fact = IsCollision hash p
