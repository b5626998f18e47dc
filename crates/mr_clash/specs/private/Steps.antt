-- What the auditor's private functions do, one by one. Nothing of this has to be believed: no
-- public contract cites it.
use Rattle.std.specs.Prelude.{◌≡◌, ◌≢◌, ℕ, ◌+◌, ◌-◌, ◌<◌, ◌≤◌, ◌^◌, ◌∷◌, ◌++◌, List, length, map, sum, Option, Some, None, option_map, IfOk, IfSome, IsSome, Result, Bool, true, false}
use Rattle.std.specs.Global.{Vec}
use Rattle.std.specs.List.{flat_map}
use Rattle.mr_geom.specs.Rectangle.{Rectangle}
use Rattle.mr_outside.specs.Bytes.{AreBytes}
use Rattle.mr_record.specs.declared.record.Record.{Record}
use Rattle.mr_record.specs.declared.version.Version.{Version}
use Rattle.mr_record.specs.Version.{told}
use Rattle.mr_tree.specs.Limits.{level_limit}
use Rattle.mr_tree.specs.Tree.{union_of, rect_step, mask_of, mask_step, layer_bit, count_step}
use Rattle.mr_tree.specs.Digest.{Scheme, by, inner_tag, entry_bytes, root_preimage}
use Rattle.mr_tree.specs.Nodes.{MapModel}
use Rattle.mr_tree.specs.declared.entry.Entry.{Entry}
use Rattle.mr_tree.specs.declared.child.Child.{Child}
use Rattle.mr_tree.specs.declared.nodes.Top.{Top}
use Rattle.mr_tree.specs.declared.tree.Tree.{Tree}
use Rattle.mr_tree.specs.declared.tree.Tree.TheOpen as node
use Rattle.mr_proof.specs.declared.head.Head.{Head}
use Rattle.mr_proof.specs.declared.head.Kind.{Kind}
use Rattle.mr_proof.specs.Cut.{Cut, Cuts, Pruned, Leaf, Inner, number_of_cuts, entry, entries, digest, preimage, opened_nodes, all_opened}
use Rattle.mr_proof.specs.Spelling.{cut_bytes, cuts_bytes, part_bytes, FitsCut, FitCuts, IsSpelled}
use Rattle.mr_proof.specs.Accepted.{proof_preimage, root_found}
use Rattle.mr_proof.specs.Honest.{opened_of}
use Rattle.mr_proof.specs.Clash.{Pair, differ, or_else, node_clash, children_clash, clash_of}
use Rattle.mr_clash.specs.Finding.{root_at}
use Rattle.mr_clash.specs.declared.finding.Clash.{Clash}
use Rattle.mr_clash.specs.declared.summary.Summary.{Summary}
use Rattle.mr_clash.specs.declared.rest.Rest.{Rest}
use Rattle.mr_clash.specs.declared.root.HeadSays.{HeadSays}
use Rattle.mr_clash.specs.declared.walked.Row.{Row}
use Rattle.mr_clash.specs.declared.walked.Walked.{Walked}

-- ---- values

-- the bytes that are left
abbrev pub left : Rest → List ℕ
left r = r.bytes.now

abbrev pub pair_of : Clash → Pair
pair_of c = record { owned = c.owned.items; shown = c.shown.items }

-- two strings that differ and have one hash
pub record IsClash (hash : List ℕ → List ℕ) (p : Pair) : Type 0 where
  pub apart : p.owned ≢ p.shown
  pub same : hash p.owned ≡ hash p.shown

-- and that are bytes, which their type tells
abbrev pub AreByteStrings : Pair → Type 0
AreByteStrings p = AreBytes p.owned × AreBytes p.shown

-- ---- what is said of nodes

-- of a record, as the leaf that has it says it
abbrev pub record_summary : Version → Record → Summary
record_summary v r = record { rect = Some r.rect; mask = layer_bit v r; count = told v 1 }

-- of all records of a leaf
abbrev pub leaf_summary : Version → List Record → Summary
leaf_summary v rs = record {
  rect = rect_step (node.Leaf rs);
  mask = mask_step v (node.Leaf rs);
  count = count_step v (node.Leaf rs);
}

abbrev pub rects_of : List Entry → List (Option Rectangle)
rects_of es = map (λ (e : Entry). e.rect) es

abbrev pub masks_of : List Entry → List ℕ
masks_of es = map (λ (e : Entry). e.mask) es

abbrev pub counts_of : List Entry → List ℕ
counts_of es = map (λ (e : Entry). e.count) es

-- of all that an inner node has these entries of
abbrev pub inner_summary : List Entry → Summary
inner_summary es = record {
  rect = union_of (rects_of es);
  mask = mask_of (masks_of es);
  count = sum (counts_of es);
}

-- their counts have a sum of 64 bits
abbrev pub HaveSum : List Entry → Type 0
HaveSum es = sum (counts_of es) < 2 ^ 64

-- what is said of a node of this level with this digest
abbrev pub entry_with : (level : ℕ) → Summary → (digest : List ℕ) → Entry
entry_with level x digest = record {
  level = level;
  rect = x.rect;
  mask = x.mask;
  count = x.count;
  digest = digest;
}

-- ---- the bytes of a proof, taken from the front

-- an item was passed over, and this is said of its node
pub record Passed (scheme : Scheme) (level : ℕ) (P : Cut) (rest : List ℕ) (x : Entry)
    (after : List ℕ) : Type 0 where
  pub says : x ≡ entry scheme level P
  pub behind : after ≡ rest

-- whatever cut of this level stands next, and whatever behind it
abbrev pub PassesCut : {E : Type 0} → Scheme → ℕ → (before after : List ℕ)
    → Result Entry E → Type 0
PassesCut scheme level before after result =
    (P : Cut) (rest : List ℕ) → level ≤ level_limit → FitsCut scheme.version level P
    → before ≡ cut_bytes scheme.version P ++ rest
    → IfOk result (λ x. Passed scheme level P rest x after)

pub record PassedAll (scheme : Scheme) (level : ℕ) (Ps : Cuts) (rest : List ℕ)
    (xs : List Entry) (after : List ℕ) : Type 0 where
  pub say : xs ≡ entries scheme level Ps
  pub behind : after ≡ rest

abbrev pub PassesAll : {E : Type 0} → Scheme → (level count : ℕ)
    → (before after : List ℕ) → Result (Vec Entry) E → Type 0
PassesAll scheme level count before after result =
    (Ps : Cuts) (rest : List ℕ) → level ≤ level_limit → FitCuts scheme.version level Ps
    → number_of_cuts Ps ≡ count → before ≡ cuts_bytes scheme.version Ps ++ rest
    → IfOk result (λ v. PassedAll scheme level Ps rest v.items after)

-- ---- a node of the map and a cut of it

abbrev pub is_pruned : Cut → Bool
is_pruned (Pruned part) = true
is_pruned (Leaf records) = false
is_pruned (Inner cuts) = false

-- What was found of the node with this id and the cut of it that a proof shows: a pair is a
-- collision, and where the map is told, the pair is that of the definition.
pub record Compared (scheme : Scheme) (s : MapModel) (id level : ℕ) (P : Cut)
    (pair : Option Pair) : Type 0 where
  pub collides : IfSome pair (IsClash scheme.of)
  pub told : IsSome s.tree → IfSome (s.node id) (λ t. pair ≡ node_clash scheme scheme level t P)

pub record ComparedAll (scheme : Scheme) (s : MapModel) (level : ℕ) (cs : List Child)
    (Ps : Cuts) (pair : Option Pair) : Type 0 where
  pub collides : IfSome pair (IsClash scheme.of)
  pub told : IsSome s.tree → (ts : List Tree)
      → map (λ (c : Child). s.node c.id) cs ≡ map Some ts
      → pair ≡ children_clash scheme scheme level ts Ps

-- An item of this level was passed over beside the node of the map of which the child is the entry.
-- The pair is that of the two, where they have one digest.
pub record WalkedOne (scheme : Scheme) (s : MapModel) (c : Child) (level : ℕ) (P : Cut)
    (rest : List ℕ) (w : Walked) (after : List ℕ) : Type 0 where
  pub says : w.entry ≡ entry scheme level P
  pub behind : after ≡ rest
  pub compared : c.digest ≡ digest scheme level P
      → Compared scheme s c.id level P (option_map pair_of w.clash)

abbrev pub WalksCut : {E : Type 0} → Scheme → MapModel → Child → (before after : List ℕ)
    → Result Walked E → Type 0
WalksCut scheme s c before after result =
    (P : Cut) (rest : List ℕ) → FitsCut scheme.version c.level P
    → before ≡ cut_bytes scheme.version P ++ rest
    → IfOk result (λ w. WalkedOne scheme s c c.level P rest w after)

-- the digests that the map holds of some children, and those of some cuts
abbrev pub held_of : List Child → List (List ℕ)
held_of cs = map (λ (c : Child). c.digest) cs

abbrev pub shown_digests : List Entry → List (List ℕ)
shown_digests es = map (λ (e : Entry). e.digest) es

-- the same of some items of this level, side by side
pub record WalkedAll (scheme : Scheme) (s : MapModel) (level : ℕ) (cs : List Child)
    (Ps : Cuts) (rest : List ℕ) (row : Row) (after : List ℕ) : Type 0 where
  pub say : row.entries.items ≡ entries scheme level Ps
  pub behind : after ≡ rest
  pub compared : held_of cs ≡ shown_digests (entries scheme level Ps)
      → ComparedAll scheme s level cs Ps (option_map pair_of row.clash)

abbrev pub WalksAll : {E : Type 0} → Scheme → MapModel → ℕ → List Child
    → (before after : List ℕ) → Result Row E → Type 0
WalksAll scheme s level cs before after result =
    (Ps : Cuts) (rest : List ℕ) → FitCuts scheme.version level Ps → number_of_cuts Ps ≡ length cs
    → before ≡ cuts_bytes scheme.version Ps ++ rest
    → IfOk result (λ row. WalkedAll scheme s level cs Ps rest row after)

-- of the children of an inner node of this level, as many as they are
abbrev pub WalksChildren : {E : Type 0} → Scheme → MapModel → ℕ → List Child
    → (before after : List ℕ) → Result Row E → Type 0
WalksChildren scheme s level cs before after result =
    (Ps : Cuts) (rest : List ℕ) → FitsCut scheme.version level (Inner Ps)
    → before ≡ cut_bytes scheme.version (Inner Ps) ++ rest
    → IfOk result (λ row. WalkedAll scheme s (level - 1) cs Ps rest row after)

-- a leaf was passed over, and its string compared with the owner's
pub record WalkedLeaf (scheme : Scheme) (rs : List Record) (rest owned : List ℕ)
    (w : Walked) (after : List ℕ) : Type 0 where
  pub says : w.entry ≡ entry scheme 0 (Leaf rs)
  pub behind : after ≡ rest
  pub pair : option_map pair_of w.clash ≡ differ owned (preimage scheme 0 (Leaf rs))

-- the string of an inner node of this level, by what is said of its children
abbrev pub string_over : Version → ℕ → List Entry → List ℕ
string_over v level children =
    inner_tag ∷ level ∷ length children ∷ flat_map (entry_bytes v) children

-- so many items made an inner node of this level, and its string was compared with the owner's
pub record Closed (scheme : Scheme) (level : ℕ) (owned : List ℕ) (row : Row) (w : Walked)
    : Type 0 where
  pub says : HaveSum row.entries.items → w.entry ≡ entry_with level
      (inner_summary row.entries.items)
      (scheme.of (string_over scheme.version level row.entries.items))
  pub pair : option_map pair_of w.clash
      ≡ or_else (differ owned (Some (string_over scheme.version level row.entries.items)))
      (option_map pair_of row.clash)

-- ---- the whole

-- what a head says was read
pub record SaysOf (h : Head) (rest : List ℕ) (said : HeadSays) (after : List ℕ) : Type 0 where
  pub version : said.version ≡ h.version
  pub batch : said.batch ≡ h.batch
  pub count : said.count ≡ h.count
  pub level : said.level ≡ h.level
  pub behind : after ≡ rest

-- the two strings of the roots, by what is said of the root node of a cut
abbrev pub ComparesRoots : {E : Type 0} → (List ℕ → List ℕ) → Top → HeadSays → Entry
    → Result (Option Clash) E → Type 0
ComparesRoots hash top said x result =
    (h : Head) (P : Option Cut) → said.version ≡ h.version → said.batch ≡ h.batch
    → said.count ≡ h.count → root_preimage (h.version) h.batch h.count x ≡ proof_preimage
    hash h P
    → IfOk result (λ o. option_map pair_of o ≡ differ (root_at top)
    (Some (proof_preimage hash h P)))

-- what was found of the map and the head and cut that bytes spell
pub record ComparedMap (hash : List ℕ → List ℕ) (s : MapModel) (k : Kind) (bytes : List ℕ)
    (pair : Option Pair) : Type 0 where
  pub collides : IfSome pair (IsClash hash)
  pub told : IfSome s.tree (λ t. pair ≡ clash_of k (by s.version hash) t s.batch bytes)

-- the root item was passed over beside no node
abbrev pub PassesRoot : {E : Type 0} → Scheme → ℕ → List ℕ → Result Walked E → Type 0
PassesRoot scheme level before result =
    (P : Cut) → level ≤ level_limit → FitsCut scheme.version level P
    → before ≡ cut_bytes scheme.version P → IfOk result (λ w. w.entry ≡ entry scheme level P)

-- The root item was passed over, if there is one. What is said of it gives the string of the root,
-- and where the strings of the roots are one, the pair is that of the whole.
pub record WalkedRoot (hash : List ℕ → List ℕ) (s : MapModel) (top : Top) (h : Head)
    (P : Option Cut) (bytes : List ℕ) (w : Walked) : Type 0 where
  pub root : root_preimage (h.version) h.batch h.count w.entry ≡ proof_preimage hash h P
  pub compared : None ≡ differ (root_at top) (Some (proof_preimage hash h P))
      → ComparedMap hash s h.kind bytes (option_map pair_of w.clash)

abbrev pub WalksRoot : {E : Type 0} → (List ℕ → List ℕ) → MapModel → Top → HeadSays → List ℕ
    → Result Walked E → Type 0
WalksRoot hash s top said before result =
    (h : Head) (P : Option Cut) (bytes : List ℕ) → IsSpelled h P bytes → said.version ≡ h.version
    → said.count ≡ h.count → said.level ≡ h.level → before ≡ part_bytes h.version P
    → IfOk result (λ w. WalkedRoot hash s top h P bytes w)

abbrev pub ComparesMap : {E : Type 0} → (List ℕ → List ℕ) → MapModel → Top → Kind → List ℕ
    → Result (Option Clash) E → Type 0
ComparesMap hash s top k bytes result =
    (h : Head) (P : Option Cut) → h.kind ≡ k → IsSpelled h P bytes
    → root_found hash h P ≡ hash (root_at top)
    → IfOk result (λ o. ComparedMap hash s k bytes (option_map pair_of o))

-- ---- how many nodes are fetched, between these counts

-- whatever cut of this level stands next, no more than it opens
abbrev pub FetchesItem : Version → ℕ → (before : List ℕ) → (now later : ℕ) → Type 0
FetchesItem v level before now later = (P : Cut) (rest : List ℕ) → FitsCut v level P
    → before ≡ cut_bytes v P ++ rest → later ≤ now + opened_nodes P

-- the same of so many cuts side by side
abbrev pub FetchesItems : Version → (level count : ℕ) → (before : List ℕ) → (now later : ℕ)
    → Type 0
FetchesItems v level count before now later = (Ps : Cuts) (rest : List ℕ) → FitCuts v level Ps
    → number_of_cuts Ps ≡ count → before ≡ cuts_bytes v Ps ++ rest → later ≤ now + all_opened Ps

-- and of those of an inner node of this level
abbrev pub FetchesChildren : Version → ℕ → (before : List ℕ) → (now later : ℕ) → Type 0
FetchesChildren v level before now later = (Ps : Cuts) (rest : List ℕ)
    → FitsCut v level (Inner Ps) → before ≡ cut_bytes v (Inner Ps) ++ rest
    → later ≤ now + all_opened Ps

-- the same behind the head of a proof
abbrev pub FetchesRoot : HeadSays → (before : List ℕ) → (now later : ℕ) → Type 0
FetchesRoot said before now later = (h : Head) (P : Option Cut) (bytes : List ℕ)
    → IsSpelled h P bytes → said.version ≡ h.version → said.count ≡ h.count
    → said.level ≡ h.level → before ≡ part_bytes h.version P → later ≤ now + opened_of P

-- and of all of it
abbrev pub FetchesMap : Kind → (bytes : List ℕ) → (now later : ℕ) → Type 0
FetchesMap k bytes now later = (h : Head) (P : Option Cut) → h.kind ≡ k → IsSpelled h P bytes
    → later ≤ now + opened_of P
