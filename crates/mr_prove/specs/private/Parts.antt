-- The parts of a proof, one by one. Nothing of this has to be believed: no public contract cites
-- it.
use Rattle.std.specs.Prelude.{◌≡◌, ℕ, List, [], ◌∷◌, length, Option, Some, None, IfSome}
use Rattle.std.specs.List.{flat_map, sum_by}
use Rattle.mr_tree.specs.Tree.{records}
use Rattle.mr_tree.specs.Digest.{Scheme, by}
use Rattle.mr_tree.specs.View.{Node}
use Rattle.mr_tree.specs.Nodes.{MapModel, root_entry}
use Rattle.mr_tree.specs.declared.child.Child.{Child}
use Rattle.mr_tree.specs.declared.nodes.Top.{Top}
use Rattle.mr_tree.specs.declared.tree.Tree.{Tree}
use Rattle.mr_tree.specs.declared.tree.Tree.TheOpen as node
use Rattle.mr_proof.specs.declared.head.Head.{Head}
use Rattle.mr_proof.specs.Fields.{inner_tag}
use Rattle.mr_proof.specs.Cut.{Leaf, opened_nodes}
use Rattle.mr_proof.specs.Spelling.{cut_bytes}
use Rattle.mr_proof.specs.declared.way.Way.{Way}
use Rattle.mr_proof.specs.Tight.{key_at, Question, radius_by}
use Rattle.mr_query.specs.declared.key.Key.{Key}
use Rattle.mr_record.specs.declared.version.Version.{Version}
use Rattle.mr_proof.specs.Honest.{honest_cut, proof_for, opened_for}

-- what is seen of the node of which the child is the entry
abbrev pub child_key : Version → Child → Key
child_key v c = key_at v c.mask c.rect

-- the bytes of the item of an opened node
abbrev pub node_bytes : Version → Node → List ℕ
node_bytes v node.Empty = []
node_bytes v (node.Leaf records) = cut_bytes v (Leaf records)
node_bytes v (node.Inner children) = inner_tag ∷ length children ∷ []

-- the bytes of the honest cut of a tree that is told
unfoldable pub part_at : Scheme → (Key → Way) → Option Tree → List ℕ
part_at scheme way None = []
part_at scheme way (Some t) = cut_bytes scheme.version (honest_cut scheme way t)

-- the number of nodes that it opens
unfoldable pub opened_at : Scheme → (Key → Way) → Option Tree → ℕ
opened_at scheme way None = 0
opened_at scheme way (Some t) = opened_nodes (honest_cut scheme way t)

-- those of the tree under the child's node
abbrev pub part_under : (List ℕ → List ℕ) → (Key → Way) → MapModel → Child → List ℕ
part_under hash way s c = part_at (by s.version hash) way (s.node c.id)

abbrev pub opened_under : (List ℕ → List ℕ) → (Key → Way) → MapModel → Child → ℕ
opened_under hash way s c = opened_at (by s.version hash) way (s.node c.id)

-- the parts of some children, and how many nodes they open
abbrev pub child_parts : Scheme → (Key → Way) → MapModel → List Child → List ℕ
child_parts scheme way s children =
    flat_map (λ (d : Child). part_at scheme way (s.node d.id)) children

abbrev pub opened_in : Scheme → (Key → Way) → MapModel → List Child → ℕ
opened_in scheme way s children =
    sum_by (λ (d : Child). opened_at scheme way (s.node d.id)) children

-- ---- the whole proof

-- the head, by what the nodes say of the map, with this squared radius
abbrev pub head_by : Top → Question → Option ℕ → Head
head_by top q radius = record {
  version = top.version;
  kind = q.kind;
  batch = top.batch;
  count = top.count;
  radius = radius;
  level = (root_entry top.root).level;
}

-- the bytes of the proof, and the number of nodes that it opens, of a map whose tree is told
unfoldable pub proof_at : Scheme → (batch : ℕ) → Question → Option Tree → List ℕ
proof_at scheme batch q None = []
proof_at scheme batch q (Some t) = proof_for scheme q t batch

unfoldable pub all_opened_at : Scheme → Question → Option Tree → ℕ
all_opened_at scheme q None = 0
all_opened_at scheme q (Some t) = opened_for scheme q t

-- those of the map that stands
abbrev pub proof_of : (List ℕ → List ℕ) → Question → MapModel → List ℕ
proof_of hash q s = proof_at (by s.version hash) s.batch q s.tree

abbrev pub opened_by : (List ℕ → List ℕ) → Question → MapModel → ℕ
opened_by hash q s = all_opened_at (by s.version hash) q s.tree

-- the squared radius, where the tree is told, is that of its records
abbrev pub IsRight : Question → MapModel → Option ℕ → Type 0
IsRight q s radius = IfSome s.tree (λ t. radius ≡ radius_by q.around (records t))
