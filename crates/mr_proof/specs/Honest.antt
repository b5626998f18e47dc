-- The proof that an honest server gives: of a cut that opens just the nodes that are to be opened.
use Rattle.std.specs.Prelude.{◌≡◌, ℕ, ◌==◌, if◌then◌else◌, List, [], ◌++◌, Option, Some, None, option_map, map, length}
use Rattle.mr_tree.specs.Tree.{level, records}
use Rattle.mr_tree.specs.Digest.{Scheme, entry_step}
use Rattle.mr_tree.specs.declared.entry.Entry.{Entry}
use Rattle.mr_tree.specs.declared.tree.Tree.{Tree}
use Rattle.mr_tree.specs.declared.tree.Tree.TheOpen as node
use Rattle.mr_tree.specs.declared.tree.Tree.TheOpen.{Tree-F}
use Rattle.mr_tree.specs.declared.tree.Tree.TheFolds.{fold-Tree, map-Tree}
use Rattle.mr_query.specs.declared.query.Query.{Query}
use Rattle.mr_proof.specs.declared.head.Head.{Head}
use Rattle.mr_proof.specs.Cut.{Cut, Leaf, Inner, pruned_cut, cuts_of, opened_nodes}
use Rattle.mr_proof.specs.Spelling.{Parsed, said, head_bytes, part_bytes}
use Rattle.mr_proof.specs.declared.way.Way.{Way}
use Rattle.mr_query.specs.declared.key.Key.{Key}
use Rattle.mr_record.specs.declared.version.Version.{Version}
use Rattle.mr_proof.specs.Tight.{key_at, opens_seen, Question, MayCome, question, radius_by}

-- ---- the honest cut of a tree

-- a node: what its parent holds of it, and the honest cut of it
pub record Part : Type 0 where
  pub entry : Entry
  pub cut : Cut

-- what its parent holds of a node, by the parts of its children
abbrev pub entry_over : Scheme → Tree-F Part → Entry
entry_over s x = entry_step s (map-Tree Part Entry (λ (p : Part). p.entry) x)

-- the node opened, over the cuts of its children
abbrev pub opened_cut : Tree-F Part → Cut
opened_cut node.Empty = Leaf []
opened_cut (node.Leaf records) = Leaf records
opened_cut (node.Inner parts) = Inner (cuts_of (map (λ (p : Part). p.cut) parts))

-- the node opened where its way is so, and else pruned
abbrev pub opened_if_met : Version → (Key → Way) → Cut → Entry → Cut
opened_if_met v way P e =
    if opens_seen way (option_map (key_at v e.mask) e.rect) then P else pruned_cut e

abbrev pub part_step : Scheme → (Key → Way) → Tree-F Part → Part
part_step s way x = record {
  entry = entry_over s x;
  cut = opened_if_met s.version way (opened_cut x) (entry_over s x);
}

abbrev pub part : Scheme → (Key → Way) → Tree → Part
part s way = fold-Tree Part (part_step s way)

-- the cut that opens just the nodes of which the way is to open them, from the root down
abbrev pub honest_cut : Scheme → (Key → Way) → Tree → Cut
honest_cut s way t = (part s way t).cut

-- ---- what is asked of a map

-- the ways by the squared radius of the records of the map
abbrev pub ways_of : Question → Tree → Key → Way
ways_of a t = a.way (radius_by a.around (records t))

-- the head of the honest proof
abbrev pub honest_head : Scheme → Question → Tree → (batch : ℕ) → Head
honest_head s a t batch = record {
  version = s.version;
  kind = a.kind;
  batch = batch;
  count = length (records t);
  radius = radius_by a.around (records t);
  level = level t;
}

-- its cut; of the empty tree there is none
abbrev pub honest_part : Scheme → Question → Tree → Option Cut
honest_part s a t =
    if length (records t) == 0 then None else Some (honest_cut s (ways_of a t) t)

-- both, of the map with this tree at this batch
abbrev pub honest_said : Scheme → Question → Tree → (batch : ℕ) → Parsed
honest_said s a t batch = said (honest_head s a t batch) (honest_part s a t)

-- the bytes of both
abbrev pub proof_for : Scheme → Question → Tree → (batch : ℕ) → List ℕ
proof_for s a t batch =
    head_bytes (honest_head s a t batch) ++ part_bytes s.version (honest_part s a t)

-- those for a query
abbrev pub proof : Scheme → Tree → (batch : ℕ) → Query → List ℕ
proof s t batch q = proof_for s (question q) t batch

-- The bytes are the honest proof. There is none of a map of the first version where a mask is
-- named.
pub record IsProofFor (s : Scheme) (a : Question) (t : Tree) (batch : ℕ) (bytes : List ℕ) : Type 0
  where
    pub may_come : MayCome a s.version
    pub own : bytes ≡ proof_for s a t batch

-- the bytes are that for a query
abbrev pub IsProof : Scheme → Tree → (batch : ℕ) → Query → List ℕ → Type 0
IsProof s t batch q bytes = IsProofFor s (question q) t batch bytes

abbrev pub opened_of : Option Cut → ℕ
opened_of None = 0
opened_of (Some P) = opened_nodes P

-- the number of nodes that the honest proof opens
abbrev pub opened_for : Scheme → Question → Tree → ℕ
opened_for s a t = opened_of (honest_part s a t)

abbrev pub opened : Scheme → Tree → Query → ℕ
opened s t q = opened_for s (question q) t
