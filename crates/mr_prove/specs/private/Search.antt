-- The search for the kth least distance. Nothing of this has to be believed: no public contract
-- cites it.
use Rattle.std.specs.Prelude.{◌≡◌, ℕ, ◌+◌, ◌-◌, ◌*◌, ◌^◌, ◌≤◌, ◌==◌, ◌&&◌, Bool, true, if◌then◌else◌, List, [], ◌++◌, length, map, filter, min, Option, Some, None, All, Result, IfErr, OnOk}
use Rattle.std.specs.BinaryHeap.{IsHeap}
use Rattle.std.specs.List.{sum_by}
use Rattle.std.specs.List.Sorted.{IsPermutation}
use Rattle.std.specs.Ordering.{nat_cmp, on, flip_args}
use Rattle.std.specs.declared.cmp.Ordering.{Ordering}
use Rattle.mr_geom.specs.Distance.{least_squared_distance}
use Rattle.mr_record.specs.declared.record.Record.{Record}
use Rattle.mr_record.specs.declared.version.Version.{Version}
use Rattle.mr_tree.specs.Tree.{records}
use Rattle.mr_tree.specs.Digest.{Scheme, by}
use Rattle.mr_tree.specs.View.{Node, records_in, children_in}
use Rattle.mr_tree.specs.Nodes.{MapModel, MayFetch, ShowsNode}
use Rattle.mr_tree.specs.declared.child.Child.{Child}
use Rattle.mr_tree.specs.declared.tree.Tree.{Tree}
use Rattle.mr_query.specs.Layers.{share_layer}
use Rattle.mr_query.specs.Nearest.{distances, kth_least, is_within}
use Rattle.mr_query.specs.Scan.{on_layers}
use Rattle.mr_query.specs.declared.key.Key.{Key}
use Rattle.mr_query.specs.private.Radius.{below}
use Rattle.mr_proof.specs.Cut.{opened_nodes}
use Rattle.mr_proof.specs.declared.question.Around.{Around}
use Rattle.mr_proof.specs.declared.way.Way.{Way}
use Rattle.mr_proof.specs.Tight.{way_if, opens_at}
use Rattle.mr_proof.specs.Honest.{honest_cut}
use Rattle.mr_prove.specs.Causes.{HasProveCause}
use Rattle.mr_prove.specs.private.Parts.{child_key, opened_at}
use Rattle.mr_prove.specs.declared.error.ProveErr.{ProveErr}
use Rattle.mr_prove.specs.declared.sought.Sought.{Sought}
use Rattle.mr_prove.specs.declared.waiting.Waiting.{Waiting}
use Rattle.mr_tree.specs.Limits.{inner_limit}

-- ---- what a search promises

-- the distances of those of some records that are on the layers
abbrev pub distances_on : Around → List Record → List ℕ
distances_on a records = distances a.center (on_layers a.layers records)

-- the kth least of those of a tree
abbrev pub kth_in : Around → Tree → Option ℕ
kth_in a t = kth_least a.k (distances_on a (records t))

-- the nodes that lie within the radius and have one of the layers are opened
abbrev pub near_way : Around → Option ℕ → Key → Way
near_way a radius part =
    way_if (is_within a.center radius part.rect && share_layer part.mask a.layers)

-- how many nodes the honest cut opens for the kth least distance of the tree's records
abbrev pub near_opened : Scheme → Around → Tree → ℕ
near_opened scheme a t =
    if length (records t) == 0 then 0
    else opened_nodes (honest_cut scheme (near_way a (kth_in a t)) t)

-- the honest cut opens the child's node
abbrev pub IsNear : Around → MapModel → Child → Tree → Type 0
IsNear a s c t = opens_at (near_way a (kth_in a t)) (child_key s.version c) ≡ true

-- the greatest squared distance of two points of a map
abbrev pub farthest : ℕ
farthest = 2 * ((2 ^ 32 - 1) * (2 ^ 32 - 1))

-- A search fails by a fetch or for want of memory, between these counts of faults of the nodes.
pub record SearchCauses {A : Type 0} (s : MapModel) (before after : ℕ)
    (result : Result A ProveErr) : Type 0 where
  pub cause : IfErr result (HasProveCause s before after ⊥)
  pub still : OnOk result (after ≡ before)

-- ---- what is searched for

-- the point, the number and the layers that it is for
abbrev pub aim : Sought → Around
aim w = record { center = w.center; k = w.k; layers = w.layers }

-- the child's node has one of the layers, as far as the version tells
abbrev pub has_layer : Around → Version → Child → Bool
has_layer a v c = share_layer (child_key v c).mask a.layers

-- ---- the queue

-- the order of the queue: the nearest is the greatest
abbrev pub nearest_first : Waiting → Waiting → Ordering
nearest_first = flip_args (on (λ (w : Waiting). w.far) nat_cmp)

abbrev pub waiting : Around → Child → Waiting
waiting a c = record { far = least_squared_distance c.rect a.center; child = c }

-- what waits of some children: those that have one of the layers
abbrev pub waiting_of : Around → Version → List Child → List Waiting
waiting_of a v children = map (waiting a) (filter (has_layer a v) children)

-- what is known of each that waits
pub record IsWaitingChild (hash : List ℕ → List ℕ) (a : Around) (s : MapModel) (w : Waiting) : Type
    0 where
  pub far : w.far ≡ least_squared_distance w.child.rect a.center
  pub may : MayFetch hash s w.child
  pub layered : has_layer a s.version w.child ≡ true

-- at least as many as there are nodes below it
abbrev pub weight : Waiting → ℕ
weight w = 65 ^ w.child.level

-- ---- the least distances so far

-- the k least, or fewer, in a heap
pub record Best (k : ℕ) (best : List ℕ) : Type 0 where
  pub heap : IsHeap nat_cmp best
  pub few : length best ≤ k
  pub low : All (λ n. n ≤ farthest) best

-- nothing this far away is nearer than the radius
abbrev pub IsReached : Option ℕ → ℕ → Type 0
IsReached None far = ⊥
IsReached (Some r) far = r ≤ far

-- ---- what a search knows

-- the distances of the records in a tree that are on the layers, where it is told
unfoldable pub distances_at : Around → Option Tree → List ℕ
distances_at a None = []
distances_at a (Some t) = distances_on a (records t)

-- how many distances below x lie in the nodes that wait
abbrev pub unseen : Around → MapModel → ℕ → List Waiting → ℕ
unseen a s x pending =
    sum_by (λ (w : Waiting). below x (distances_at a (s.node w.child.id))) pending

-- how many nodes within the radius the search may still fetch
abbrev pub unopened : Scheme → Around → Option ℕ → MapModel → List Waiting → ℕ
unopened scheme a radius s pending =
    sum_by (λ (w : Waiting). opened_at scheme (near_way a radius) (s.node w.child.id)) pending

-- below each number lie, counted up to k, as many distances as were kept or wait
pub record Searching (hash : List ℕ → List ℕ) (a : Around) (s : MapModel)
    (pending : List Waiting) (best : List ℕ) : Type 0 where
  pub waits : All (IsWaitingChild hash a s) pending
  pub found : (t : Tree) → s.tree ≡ Some t → (x : ℕ) →
      min a.k (below x (distances_on a (records t)))
      ≡ min a.k (below x best + unseen a s x pending)

-- the fetches so far, and those that may come, are no more than the honest cut opens
pub record Bounded (hash : List ℕ → List ℕ) (a : Around) (s : MapModel)
    (pending : List Waiting) (before now : ℕ) : Type 0 where
  pub few : (t : Tree) → s.tree ≡ Some t →
      now + unopened (by s.version hash) a (kth_in a t) s pending
      ≤ before + near_opened (by s.version hash) a t

-- nothing was fetched yet: all waits that there is
pub record IsStart (hash : List ℕ → List ℕ) (a : Around) (s : MapModel)
    (pending : List Waiting) : Type 0 where
  pub waits : All (IsWaitingChild hash a s) pending
  pub all : (t : Tree) → s.tree ≡ Some t → (x : ℕ) →
      unseen a s x pending ≡ below x (distances_on a (records t))
  pub few : (t : Tree) → s.tree ≡ Some t →
      unopened (by s.version hash) a (kth_in a t) s pending
      ≤ near_opened (by s.version hash) a t

-- A node was fetched: its children that have one of the layers wait, and the distances of its
-- records on the layers are among those of which the k least are kept.
pub record Visited (hash : List ℕ → List ℕ) (a : Around) (s : MapModel) (c : Child)
    (queue queue_now : List Waiting) (best best_now : List ℕ) : Type 0 where
  pub node : Node
  pub shows : ShowsNode hash s c node
  pub children : length (children_in node) ≤ inner_limit
  pub lower : All (λ (d : Child). d.level + 1 ≡ c.level) (children_in node)
  pub queued : IsPermutation (queue ++ waiting_of a s.version (children_in node)) queue_now
  pub least : (x : ℕ) → min a.k (below x best_now)
      ≡ min a.k (below x best + below x (distances_on a (records_in node)))
