-- How many nodes of either map the proof of a join fetches, and its audit.
use Rattle.std.specs.Prelude.{ℕ, ◌+◌, ◌≤◌, List, [], ◌∷◌, Option, Some, None, Result, Ok, Err}
use Rattle.mr_geom.specs.Rectangle.{Rectangle}
use Rattle.mr_record.specs.declared.record.Record.{Record}
use Rattle.mr_record.specs.declared.version.Version.TheVariants.{Two}
use Rattle.mr_tree.specs.Digest.{by}
use Rattle.mr_tree.specs.Nodes.{IsTop}
use Rattle.mr_tree.specs.declared.nodes.Top.{Top}
use Rattle.mr_proof.specs.Honest.{opened_for}
use Rattle.mr_proof.specs.Reading.{checked}
use Rattle.mr_clash.specs.QuestionFindings.{opened_checked}
use Rattle.mr_count.specs.Chosen.{chosen}
use Rattle.mr_join.specs.declared.fault.JoinFault.{JoinFault}
use Rattle.mr_join.specs.declared.pair.Pair.{Pair}
use Rattle.mr_join.specs.Meets.{meets_way, rects_of}
use Rattle.mr_join.specs.Frame.{Frame, frame_of}
use Rattle.mr_join.specs.Verdict.{Held, letter, first_records, join_verdict}
use Rattle.mr_join.specs.Accepted.{Owned, part_taken}
use Rattle.mr_join.specs.Causes.{Watched}
use Rattle.mr_join.specs.Finding.{said_by}

-- ---- by the honest proof

-- how many nodes of a map its proof for some rectangles opens
abbrev pub part_opens : (List ℕ → List ℕ) → Owned → List Rectangle → ℕ
part_opens hash m list = opened_for (by Two hash) (chosen letter (meets_way list)) m.tree

-- of the first map, by the rectangle of the second; none where that is empty
abbrev pub first_opens : (List ℕ → List ℕ) → Owned → Option Rectangle → ℕ
first_opens f m None = 0
first_opens f m (Some w) = part_opens f m (w ∷ [])

-- of the second map, for the records that the first one's proof gives
abbrev pub second_opens : (f g : List ℕ → List ℕ) → Owned → Owned → Option Rectangle → ℕ
second_opens f g m n None = part_opens g n []
second_opens f g m n (Some w) = part_opens g n (rects_of (part_taken f m (w ∷ [])).records)

-- ---- by bytes that are offered

-- how many nodes of a map bytes open that are accepted for some rectangles; else none
abbrev pub part_opened : Held → List Rectangle → List ℕ → ℕ
part_opened h list bytes =
    opened_checked (checked h.of h.root (chosen letter (meets_way list)) bytes)

abbrev pub first_opened : Held → Option Rectangle → List ℕ → ℕ
first_opened h None bytes = 0
first_opened h (Some w) bytes = part_opened h (w ∷ []) bytes

abbrev pub second_opened : Held → Result (List Record) JoinFault → List ℕ → ℕ
second_opened g (Ok rs) bytes = part_opened g (rects_of rs) bytes
second_opened g (Err f) bytes = 0

-- of the frame that is read
abbrev pub first_in : Held → Result Frame JoinFault → ℕ
first_in h (Ok x) = first_opened h x.rect x.first
first_in h (Err f) = 0

abbrev pub second_in : Held → Held → Result Frame JoinFault → ℕ
second_in h g (Ok x) = second_opened g (first_records h x.rect x.first) x.second
second_in h g (Err f) = 0

-- none where the whole is refused
abbrev pub if_accepted : Result (List Pair) JoinFault → ℕ → ℕ
if_accepted (Ok pairs) opened = opened
if_accepted (Err f) opened = 0

-- how many nodes of the first map, and of the second, bytes open that are accepted; else none
abbrev pub join_first_opened : Held → Held → List ℕ → ℕ
join_first_opened h g bytes = if_accepted (join_verdict h g bytes) (first_in h (frame_of bytes))

abbrev pub join_second_opened : Held → Held → List ℕ → ℕ
join_second_opened h g bytes =
    if_accepted (join_verdict h g bytes) (second_in h g (frame_of bytes))

-- Told or not, no more nodes of either map are fetched between these counts than accepted bytes
-- open, by the verdict against the root digests of what maps that stand so say of themselves, which
-- are these.
pub record FetchesForJoin (f g : List ℕ → List ℕ) (a b : Watched) (top other : Top)
    (bytes : List ℕ) : Type 0 where
  pub is_top : IsTop f a.map top
  pub is_other : IsTop g b.map other
  pub first : a.after ≤ a.before + join_first_opened (said_by f top) (said_by g other) bytes
  pub second : b.after ≤ b.before + join_second_opened (said_by f top) (said_by g other) bytes
