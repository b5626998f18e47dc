-- What a reader that was fed a front of a proof still waits for, and what it keeps of what it was
-- fed. This serves private functions and proofs: the relation that it defines is known by what
-- contracts say of it.
use Rattle.std.specs.Prelude.{◌≡◌, ℕ, zero, suc, ◌+◌, ◌-◌, ◌<◌, ◌≤◌, Bool, not, ◌==◌, if◌then◌else◌, List, [], ◌∷◌, ◌++◌, length, map, filter, reverse, ⊤, Option, Some, None, Ok, Err}
use Rattle.std.specs.List.{flat_map}
use Rattle.mr_geom.specs.Rectangle.{Rectangle}
use Rattle.mr_record.specs.declared.record.Record.{Record}
use Rattle.mr_record.specs.declared.version.Version.{Version}
use Rattle.mr_record.specs.declared.version.Version.TheVariants.{One, Two}
use Rattle.mr_record.specs.Version.{told}
use Rattle.mr_tree.specs.Tree.{first_level}
use Rattle.mr_tree.specs.Digest.{Scheme, by, leaf_tag, inner_tag, no_entry, root_preimage}
use Rattle.mr_tree.specs.HasHashed.{Piece, of_record, of_entry}
use Rattle.mr_tree.specs.declared.entry.Entry.{Entry}
use Rattle.mr_proof.specs.declared.way.Way.{Way}
use Rattle.mr_proof.specs.declared.head.Kind.{Kind}
use Rattle.mr_proof.specs.declared.head.Head.{Head}
use Rattle.mr_proof.specs.declared.rule.Rule.{Rule}
use Rattle.mr_proof.specs.declared.want.Want.{Want}
use Rattle.mr_proof.specs.declared.want.Want.TheVariants as want
use Rattle.mr_proof.specs.declared.field.Field.{Field}
use Rattle.mr_proof.specs.Fields.{pruned_tag}
use Rattle.mr_proof.specs.Cut.{Cut, Cuts, Pruned, Leaf, Inner, first, cuts_of, entry, records}
use Rattle.mr_proof.specs.Spelling.{Parsed, said, opened_records}
use Rattle.mr_query.specs.declared.key.Key.{Key}
use Rattle.mr_proof.specs.Tight.{Question, key_at, keeps_record}
use Rattle.mr_proof.specs.Refused.{is_other_count}
use Rattle.mr_proof.specs.Accepted.{proof_preimage}
use Rattle.mr_proof.specs.Grammar.{Grammar, opens, done, reads, notes, number_in, version_in, wide_in, tag_in, rect_in, bytes_in, payload, layer, some_records, opened, leaf, some_items, inner, unopened, layers_and_count, pruned, item, radius, level, part}
use Rattle.mr_check.specs.declared.frame.Frame.{Frame}
use Rattle.mr_check.specs.declared.stage.HeadField.{HeadField}
use Rattle.mr_check.specs.declared.stage.HeadField.TheVariants as field
use Rattle.mr_check.specs.declared.stage.Stage.{Stage}
use Rattle.mr_check.specs.declared.stage.Stage.TheVariants as stage
use Rattle.mr_check.specs.declared.counts.Counts.{Counts}
use Rattle.mr_check.specs.declared.machine.Machine.{Machine}
use Rattle.mr_check.specs.declared.machine.StepResult.{StepResult}
use Rattle.mr_check.specs.declared.machine.StepResult.TheVariants as stepped
use Rattle.mr_check.specs.private.Stops.{past_notes, noted}
use Rattle.mr_check.specs.private.Stages.{want_at, FitsStage}
use Rattle.mr_check.specs.private.Counting.{capped, CountsRecords}
use Rattle.mr_check.specs.private.OpenNodes.{Gathered}
use Rattle.mr_check.specs.Answers.{rect_round}
use Rattle.mr_check.specs.Whole.{whole_of, wholes_of, whole_in}

-- ---- what follows a node and a record

-- an inner node that is open: the cuts of the children that were read, and how many children stand
-- behind the one that is under way
pub record Open : Type 0 where
  pub front : List Cut
  pub left : ℕ

-- these cuts, and then those
abbrev pub with_front : List Cut → Cuts → Cuts
with_front [] Ps = Ps
with_front (P ∷ front) Ps = first P (with_front front Ps)

abbrev pub ways_at : Question → Head → Key → Way
ways_at q h = q.way h.radius

abbrev pub is_handed_out : Question → Head → Record → Bool
is_handed_out q h r = keeps_record (q.way h.radius) r

-- what follows a node of this level below these open nodes, its parent first
abbrev pub after : (Key → Way) → Head → ℕ → List Open → Cut → Grammar Parsed
after way h level [] P = done (said h (Some P))
after way h level (o ∷ os) P =
    some_items (item h.version way level) o.left (λ Ps.
    opened h.version way (Inner (with_front o.front (first P Ps))) (after way h (level + 1) os))

-- what follows a record of a leaf, behind these and with so many more to come
abbrev pub after_record : (Key → Way) → Head → ℕ → List Open → List Record → Record → Grammar Parsed
after_record way h left os rs r =
    notes (opens r (keeps_record way r)) (some_records h.version way left (λ ts.
    opened h.version way (Leaf (rs ++ r ∷ ts)) (after way h 0 os)))

-- ---- what follows the field under way

abbrev pub head_so : Version → Kind → ℕ → ℕ → Option ℕ → ℕ → Head
head_so v k b c r l =
    record { version = v; kind = k; batch = b; count = c; radius = r; level = l }

abbrev pub after_radius : (Option ℕ → Key → Way) → Version → Kind → ℕ → ℕ → Option ℕ
    → Grammar Parsed
after_radius way v k b c r = level c (λ l. part way (head_so v k b c r l))

abbrev pub after_count : (Option ℕ → Key → Way) → Version → Kind → ℕ → ℕ → Grammar Parsed
after_count way v k b c = radius k (λ r. after_radius way v k b c r)

abbrev pub after_kind : (Option ℕ → Key → Way) → Version → Kind → Grammar Parsed
after_kind way v k =
    reads want.Batch (λ b. reads want.Count (λ c. after_count way v k (number_in b) (number_in c)))

abbrev pub after_version : (Option ℕ → Key → Way) → Version → Kind → Grammar Parsed
after_version way v k = reads (want.Kind k) (λ _. after_kind way v k)

abbrev pub head_next : (Option ℕ → Key → Way) → Head → HeadField → Field → Grammar Parsed
head_next way h (field.Magic two_only) f =
    reads (want.Version two_only) (λ v. after_version way (version_in v) h.kind)
head_next way h (field.Version two_only) f = after_version way (version_in f) h.kind
head_next way h field.Kind f = after_kind way h.version h.kind
head_next way h field.Batch f =
    reads want.Count (λ c. after_count way h.version h.kind (number_in f) (number_in c))
head_next way h field.Count f = after_count way h.version h.kind h.batch (number_in f)
head_next way h field.Flag f =
    if number_in f == 0 then after_radius way h.version h.kind h.batch h.count None
    else reads want.Radius
    (λ r. after_radius way h.version h.kind h.batch h.count (Some (wide_in r)))
head_next way h field.Radius f =
    after_radius way h.version h.kind h.batch h.count (Some (wide_in f))
head_next way h field.Level f =
    part way (head_so h.version h.kind h.batch h.count h.radius (number_in f))

-- an opened node behind its tag
abbrev pub opened_item : Version → (Key → Way) → ℕ → (Cut → Grammar Parsed) → Grammar Parsed
opened_item v way zero next = leaf v way next
opened_item v way (suc w) next = inner v way (item v way w) next

-- the stage behind a tag
abbrev pub stage_of : ℕ → ℕ → Stage
stage_of level t =
    if t == pruned_tag then stage.Shown level else if level == 0 then stage.Records
    else stage.Entries (level - 1)

abbrev pub node_next : Version → (Key → Way) → ℕ → (Cut → Grammar Parsed) → ℕ → Grammar Parsed
node_next v way w next t =
    if t == pruned_tag then pruned v way next else opened_item v way w next

-- a pruned part behind its rectangle, mask and count; without its count; and without its mask
abbrev pub behind_tally : (Cut → Grammar Parsed) → Rectangle → (mask count : ℕ) → Grammar Parsed
behind_tally next r m c =
    reads want.Digest (λ d.
    next (Pruned (record { rect = r; mask = m; count = c; digest = bytes_in d })))

abbrev pub behind_mask : (Key → Way) → (Cut → Grammar Parsed) → Rectangle → ℕ → Grammar Parsed
behind_mask way next r m =
    unopened way (key_at Two m r) (reads want.Tally (λ c. behind_tally next r m (number_in c)))

abbrev pub shown_next : Version → (Key → Way) → (Cut → Grammar Parsed) → Rectangle
    → Grammar Parsed
shown_next v way next r = layers_and_count v way r (λ m c. behind_tally next r m c)

-- a record behind its number, rectangle, layer and length; without its length; without its layer;
-- and without its rectangle
abbrev pub behind_length : (Record → Grammar Parsed) → ℕ → Rectangle → ℕ → ℕ → Grammar Parsed
behind_length next n r i l =
    payload l (λ p. next (record { number = n; rect = r; layer = i; payload = p }))

abbrev pub behind_layer : (Record → Grammar Parsed) → ℕ → Rectangle → ℕ → Grammar Parsed
behind_layer next n r i = reads want.Length (λ l. behind_length next n r i (number_in l))

abbrev pub behind_sides : Version → (Record → Grammar Parsed) → ℕ → Rectangle → Grammar Parsed
behind_sides v next n r = layer v (λ i. behind_layer next n r i)

abbrev pub behind_number : Version → (Record → Grammar Parsed) → ℕ → Grammar Parsed
behind_number v next n = reads want.Rect (λ r. behind_sides v next n (rect_in r))

-- the stage behind the rectangle of a record
abbrev pub behind_rect : Version → ℕ → Rectangle → Stage
behind_rect One n r = stage.Length n r 0
behind_rect Two n r = stage.Layer n r

-- what is open above the field under way: the inner nodes, and the records of a leaf that were read
pub record Above : Type 0 where
  pub nodes : List Open
  pub records : List Record

-- what follows the field under way, by its value
abbrev pub next_at : (Option ℕ → Key → Way) → Head → ℕ → Above → Stage → Field → Grammar Parsed
next_at way h left a (stage.Head f) v = head_next way h f v
next_at way h left a (stage.Tag l) v =
    node_next h.version (way h.radius) l (after (way h.radius) h l a.nodes) (tag_in v)
next_at way h left a (stage.Shown l) v =
    shown_next h.version (way h.radius) (after (way h.radius) h l a.nodes) (rect_in v)
next_at way h left a (stage.Mask l r) v =
    behind_mask (way h.radius) (after (way h.radius) h l a.nodes) r (number_in v)
next_at way h left a (stage.Tally l r m) v =
    behind_tally (after (way h.radius) h l a.nodes) r m (number_in v)
next_at way h left a (stage.Digest l r m c) v =
    after (way h.radius) h l a.nodes (Pruned (record
    { rect = r; mask = m; count = c; digest = bytes_in v }))
next_at way h left a (stage.Entries w) v =
    some_items (item h.version (way h.radius) w) (number_in v)
    (λ Ps. opened h.version (way h.radius) (Inner Ps) (after (way h.radius) h (w + 1) a.nodes))
next_at way h left a stage.Records v =
    some_records h.version (way h.radius) (number_in v)
    (λ rs. opened h.version (way h.radius) (Leaf rs) (after (way h.radius) h 0 a.nodes))
next_at way h left a stage.Number v =
    behind_number h.version (after_record (way h.radius) h left a.nodes a.records) (number_in v)
next_at way h left a (stage.Sides n) v =
    behind_sides h.version (after_record (way h.radius) h left a.nodes a.records) n (rect_in v)
next_at way h left a (stage.Layer n r) v =
    behind_layer (after_record (way h.radius) h left a.nodes a.records) n r (number_in v)
next_at way h left a (stage.Length n r i) v =
    behind_length (after_record (way h.radius) h left a.nodes a.records) n r i (number_in v)
next_at way h left a (stage.Payload n r i l) v =
    after_record (way h.radius) h left a.nodes a.records (record
    { number = n; rect = r; layer = i; payload = bytes_in v })
next_at way h left a (stage.End node) v = done (said h None)

-- what is still to be read
abbrev pub left_at : (Option ℕ → Key → Way) → Head → ℕ → Above → Option Cut → Option Want → Stage
    → Grammar Parsed
left_at way h left a whole None s = done (said h whole)
left_at way h left a whole (Some w) s = reads w (next_at way h left a s)

-- ---- what is kept of what was read

-- the open nodes, the last first
abbrev pub frames_of : {H : Type 0} → Machine H → List (Frame H)
frames_of m = reverse m.frames.list.items

-- how many records these nodes count so far
abbrev pub counts_of : {H : Type 0} → List (Frame H) → ℕ
counts_of [] = 0
counts_of (f ∷ fs) = f.node.count + counts_of fs

-- how many all open nodes do
abbrev pub counted_so_far : {H : Type 0} → Machine H → ℕ
counted_so_far m = counts_of (frames_of m) + m.leaf.node.count

-- the scheme of a proof with this head
abbrev pub scheme : (List ℕ → List ℕ) → Head → Scheme
scheme hash h = by h.version hash

-- what is said of some children, and their pieces of the preimage
abbrev pub said_of : Scheme → ℕ → List Cut → List Entry
said_of s w front = map (entry s w) front

abbrev pub levels_of : List Entry → List ℕ
levels_of es = map (λ (e : Entry). e.level) es

abbrev pub pieces_of_cuts : Scheme → ℕ → List Cut → List Piece
pieces_of_cuts s w front = map (λ (P : Cut). of_entry s.version (entry s w P)) front

-- the frame is that of an open node whose children are of this level
pub record IsFrame {H : Type 0} (s : Scheme) (holds : H → List ℕ → Type 0) (w : ℕ) (f : Frame H)
    (o : Open) : Type 0 where
  pub left : f.left ≡ o.left
  pub gathers : Gathered holds f.node
      (inner_tag ∷ (w + 1) ∷ (length o.front + (o.left + 1)) ∷ []) (pieces_of_cuts s w o.front)
  pub level : 0 < length o.front → first_level (levels_of (said_of s w o.front)) ≡ w

-- the frames are those of the open nodes, of which the first has children of this level
abbrev pub AreFrames : {H : Type 0} → Scheme → (H → List ℕ → Type 0) → ℕ → List (Frame H)
    → List Open → Type 0
AreFrames s holds w [] [] = ⊤
AreFrames s holds w [] (o ∷ os) = ⊥
AreFrames s holds w (f ∷ fs) [] = ⊥
AreFrames s holds w (f ∷ fs) (o ∷ os) =
    IsFrame s holds w f o × AreFrames s holds (w + 1) fs os

-- the frame is that of an open leaf with these records so far, and one under way
abbrev pub IsLeaf : {H : Type 0} → Version → (H → List ℕ → Type 0) → Frame H → List Record
    → Type 0
IsLeaf v holds f rs =
    Gathered holds f.node (leaf_tag ∷ (length rs + (f.left + 1)) ∷ []) (map (of_record v) rs)

-- the records of the children that were read, in reading order
abbrev pub so_far : List Open → List Record
so_far [] = []
so_far (o ∷ os) = so_far os ++ flat_map records o.front

-- the counts of the pruned parts among the children that were read, where they are asked for
-- whole, added up
abbrev pub whole_so_far : Version → (Key → Way) → List Open → ℕ
whole_so_far v way [] = 0
whole_so_far v way (o ∷ os) = whole_so_far v way os + wholes_of v way (cuts_of o.front)

-- the records of the leaf before this one, and this one, which is the last, were read; with it
-- these were handed out
pub record LeafRead {H : Type 0} (hash : List ℕ → List ℕ) (holds : H → List ℕ → Type 0)
    (q : Question)
    (h : Head) (fs : List (Frame H)) (t : Counts) (leaf : Frame H) (given : List Record)
    (a : Above)
    (r : Record) : Type 0 where
  pub gathers : Gathered holds leaf.node (leaf_tag ∷ length (a.records ++ r ∷ []) ∷ [])
      (map (of_record h.version) (a.records ++ r ∷ []))
  pub depth : length a.nodes ≡ h.level
  pub frames : AreFrames (scheme hash h) holds 0 fs a.nodes
  pub kept : given ≡ filter (is_handed_out q h) (so_far a.nodes ++ (a.records ++ r ∷ []))
  pub tally : CountsRecords q.around h.radius given t.radius
  pub whole : t.whole ≡ capped (whole_so_far h.version (ways_at q h) a.nodes)

-- below the open nodes a node of this level is under way; of all records so far these were handed
-- out
pub record InTree {H : Type 0} (hash : List ℕ → List ℕ) (holds : H → List ℕ → Type 0) (q : Question)
    (h : Head) (fs : List (Frame H)) (t : Counts) (v : ℕ) (given : List Record)
    (a : Above) : Type 0 where
  pub depth : v + length a.nodes ≡ h.level
  pub frames : AreFrames (scheme hash h) holds v fs a.nodes
  pub kept : given ≡ filter (is_handed_out q h) (so_far a.nodes ++ a.records)
  pub tally : CountsRecords q.around h.radius given t.radius
  pub whole : t.whole ≡ capped (whole_so_far h.version (ways_at q h) a.nodes)

-- in the head
pub record InHead {H : Type 0} (q : Question) (h : Head) (fs : List (Frame H)) (t : Counts)
    (given : List Record) : Type 0 where
  pub kind : h.kind ≡ q.kind
  pub frames : fs ≡ []
  pub nothing : given ≡ []
  pub tally : (radius : Option ℕ) → CountsRecords q.around radius [] t.radius
  pub whole : t.whole ≡ 0

-- whether another number of records is said of the root node than of the map, as the version tells
-- it
abbrev pub is_other_tally : Head → Entry → Bool
is_other_tally h node = not (node.count == told h.version h.count)

-- behind the last field
pub record AtEnd (hash : List ℕ → List ℕ) (q : Question) (h : Head) (t : Counts)
    (node : Entry)
    (given : List Record) (part : Option Cut) : Type 0 where
  pub root : root_preimage h.version h.batch h.count node ≡ proof_preimage hash h part
  pub rect : node.rect ≡ rect_round part
  pub counted : is_other_tally h node ≡ is_other_count h part
  pub kept : given ≡ filter (is_handed_out q h) (opened_records part)
  pub tally : CountsRecords q.around h.radius given t.radius
  pub whole : t.whole ≡ capped (whole_in h.version (ways_at q h) part)

abbrev pub IsOpen : {H : Type 0} → (List ℕ → List ℕ) → (H → List ℕ → Type 0) → Question → Machine H
    → Stage → List Record → Above → Option Cut → Type 0
IsOpen hash holds q m (stage.Head f) given a whole = InHead q m.head (frames_of m) m.tally given
IsOpen hash holds q m (stage.Tag v) given a whole =
    (a.records ≡ []) × InTree hash holds q m.head (frames_of m) m.tally v given a
IsOpen hash holds q m (stage.Shown v) given a whole =
    (a.records ≡ []) × InTree hash holds q m.head (frames_of m) m.tally v given a
IsOpen hash holds q m (stage.Mask v r) given a whole =
    (a.records ≡ []) × InTree hash holds q m.head (frames_of m) m.tally v given a
IsOpen hash holds q m (stage.Tally v r n) given a whole =
    (a.records ≡ []) × InTree hash holds q m.head (frames_of m) m.tally v given a
IsOpen hash holds q m (stage.Digest v r n c) given a whole =
    (a.records ≡ []) × InTree hash holds q m.head (frames_of m) m.tally v given a
IsOpen hash holds q m (stage.Entries w) given a whole =
    (a.records ≡ []) × InTree hash holds q m.head (frames_of m) m.tally (w + 1) given a
IsOpen hash holds q m stage.Records given a whole =
    (a.records ≡ []) × InTree hash holds q m.head (frames_of m) m.tally 0 given a
IsOpen hash holds q m (stage.End node) given a whole = AtEnd hash q m.head m.tally node given whole
IsOpen hash holds q m _ given a whole =
    IsLeaf m.head.version holds m.leaf a.records
    × InTree hash holds q m.head (frames_of m) m.tally 0 given a

-- ---- the machine

-- a cut of a node was read, of which this is said, and the records handed out are those of it and
-- of what was read before
pub record HasReadCut {H : Type 0} (hash : List ℕ → List ℕ) (holds : H → List ℕ → Type 0)
    (q : Question)
    (h : Head) (fs : List (Frame H)) (t : Counts) (node : Entry) (given : List Record)
    (os : List Open) (P : Cut) : Type 0 where
  pub says : entry (scheme hash h) node.level P ≡ node
  pub depth : node.level + length os ≡ h.level
  pub frames : AreFrames (scheme hash h) holds node.level fs os
  pub kept : given ≡ filter (is_handed_out q h) (so_far os ++ records P)
  pub tally : CountsRecords q.around h.radius given t.radius
  pub whole : t.whole
      ≡ capped (whole_so_far h.version (ways_at q h) os + whole_of h.version (ways_at q h) P)

-- The machine waits for this, and these records were handed out.
pub record WaitsForField {H : Type 0} (hash : List ℕ → List ℕ) (holds : H → List ℕ → Type 0)
    (q : Question)
    (m : Machine H) (given : List Record) (g : Grammar Parsed) : Type 0 where
  pub above : Above
  pub whole : Option Cut
  pub waits : g ≡ left_at q.way m.head m.leaf.left above whole
      (want_at m.head.kind m.stage) m.stage
  pub is_open : IsOpen hash holds q m m.stage given above whole

-- past the notes here it waits for what comes next
pub record WaitsPast {H : Type 0} (hash : List ℕ → List ℕ) (holds : H → List ℕ → Type 0)
    (q : Question) (m : Machine H) (given : List Record) (g : Grammar Parsed) : Type 0 where
  pub next : Grammar Parsed
  pub past : past_notes g ≡ Ok next
  pub waits : WaitsForField hash holds q m given next

-- what a step comes to, where this stands behind the field
abbrev pub StepsPastField : {H : Type 0} → (List ℕ → List ℕ) → (H → List ℕ → Type 0) → Question →
    Machine H
    → List Record → Grammar Parsed → StepResult → Type 0
StepsPastField hash holds q m given g stepped.On = (noted g ≡ []) × WaitsPast hash holds q m given g
StepsPastField hash holds q m given g stepped.Found =
    (noted g ≡ m.latest ∷ []) × WaitsPast hash holds q m (given ++ m.latest ∷ []) g
StepsPastField hash holds q m given g (stepped.Broken rule) = past_notes g ≡ Err rule

-- what comes of a node that was read whole
abbrev pub ClosesNode : {H : Type 0} → (List ℕ → List ℕ) → (H → List ℕ → Type 0) → Question →
    Machine H
    → List Record → Grammar Parsed → Option Rule → Type 0
ClosesNode hash holds q m given g None = WaitsPast hash holds q m given g
ClosesNode hash holds q m given g (Some rule) = past_notes g ≡ Err rule

-- the stage that a step, or a node that was read whole, leads to is one that there may be
abbrev pub StepFits : Kind → Stage → ℕ → StepResult → Type 0
StepFits k s deep (stepped.Broken rule) = deep ≤ 7
StepFits k s deep _ = FitsStage k s deep

abbrev pub CloseFits : Kind → Stage → ℕ → Option Rule → Type 0
CloseFits k s deep None = FitsStage k s deep
CloseFits k s deep (Some rule) = deep ≤ 7

abbrev pub stepped_by : Option Rule → StepResult
stepped_by None = stepped.On
stepped_by (Some rule) = stepped.Broken rule

-- the records handed out, with one more where it is handed out too
abbrev pub plus : Bool → List Record → Record → List Record
plus handed_on given r = if handed_on then given ++ r ∷ [] else given

abbrev pub found_by : Option Rule → Bool → StepResult
found_by (Some rule) handed_on = stepped.Broken rule
found_by None handed_on = if handed_on then stepped.Found else stepped.On

-- the stage behind a field of a head, which is not whole or whole
abbrev pub stage_behind : Head → Option HeadField → Stage
stage_behind h (Some f) = stage.Head f
stage_behind h None =
    if h.count == 0 then stage.End no_entry
    else stage.Tag h.level
