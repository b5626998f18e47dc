-- What the proof of a join is worth: it is the honest proof, and its pairs are all of the two maps;
-- or it shows two strings that differ and have one hash.
use Rattle.std.specs.Prelude.{◌≡◌, ℕ, ◌^◌, ◌<◌, List, [], ◌∷◌, Option, Some, None, Result, Ok, Err}
use Rattle.mr_geom.specs.Rectangle.{Rectangle}
use Rattle.mr_record.specs.declared.version.Version.TheVariants.{Two}
use Rattle.mr_tree.specs.Tree.{rect, records}
use Rattle.mr_tree.specs.Digest.{Scheme, by, root}
use Rattle.mr_tree.specs.Nodes.{MapModel}
use Rattle.mr_tree.specs.WellFormed.{WellFormed}
use Rattle.mr_tree.specs.declared.tree.Tree.{Tree}
use Rattle.mr_proof.specs.declared.head.Kind.TheVariants as kind
use Rattle.mr_proof.specs.Honest.{honest_said, proof_for}
use Rattle.mr_proof.specs.Clash as clashes
use Rattle.mr_proof.specs.Clash.{clash_of, NoneAnd}
use Rattle.mr_count.specs.Chosen.{chosen, taken_of}
use Rattle.mr_count.specs.declared.taken.Taken.{Taken}
use Rattle.mr_join.specs.declared.fault.JoinFault.{JoinFault}
use Rattle.mr_join.specs.declared.pair.Pair.{Pair}
use Rattle.mr_join.specs.Meets.{meets_way, rects_of}
use Rattle.mr_join.specs.Pairs.{pairs_of}
use Rattle.mr_join.specs.Frame.{Frame, frame_of, frame_bytes}
use Rattle.mr_join.specs.Verdict.{Held, letter, join_verdict}

-- a map of version 2, which its owner has: its tree, and the batch that it stands at
pub record Owned : Type 0 where
  pub tree : Tree
  pub batch : ℕ

pub record IsOwned (m : Owned) : Type 0 where
  pub well : WellFormed m.tree
  pub batch : m.batch < 2 ^ 64

-- that with this tree, of which nodes stand for this
abbrev pub owned : MapModel → Tree → Owned
owned s t = record { tree = t; batch = s.batch }

-- what a client holds of it, or of one of another version
abbrev pub held : Scheme → Owned → Held
held s m = record { of = s.of; root = root s m.tree m.batch }

-- ---- the honest proof

-- that of a map for some rectangles, and what it gives
abbrev pub part_proof : (List ℕ → List ℕ) → Owned → List Rectangle → List ℕ
part_proof hash m list = proof_for (by Two hash) (chosen letter (meets_way list)) m.tree m.batch

abbrev pub part_taken : (List ℕ → List ℕ) → Owned → List Rectangle → Taken
part_taken hash m list =
    taken_of (meets_way list)
    (honest_said (by Two hash) (chosen letter (meets_way list)) m.tree m.batch)

-- The frame by the rectangle of the second map: the proof of the first map for that rectangle, and
-- that of the second map for the records which the first one gives.
abbrev pub frame_for : (f g : List ℕ → List ℕ) → Owned → Owned → Option Rectangle → Frame
frame_for f g m n None = record { rect = None; first = []; second = part_proof g n [] }
frame_for f g m n (Some w) = record {
  rect = Some w;
  first = part_proof f m (w ∷ []);
  second = part_proof g n (rects_of (part_taken f m (w ∷ [])).records);
}

abbrev pub honest_frame : (f g : List ℕ → List ℕ) → Owned → Owned → Frame
honest_frame f g m n = frame_for f g m n (rect n.tree)

-- the bytes that an honest server sends
abbrev pub join_proof : (f g : List ℕ → List ℕ) → Owned → Owned → List ℕ
join_proof f g m n = frame_bytes (honest_frame f g m n)

-- all pairs of records, one of each map, that meet
abbrev pub map_pairs : Owned → Owned → List Pair
map_pairs m n = pairs_of (records m.tree) (records n.tree)

-- ---- collisions

-- the first two strings that stand at one place and differ, of the map and of its part
abbrev pub part_clash : Scheme → Owned → List ℕ → Option clashes.Pair
part_clash s m bytes = clash_of (kind.Choice letter) s m.tree m.batch bytes

-- of the first map, which has no part where there is no rectangle, and of the second
abbrev pub first_part_clash : Scheme → Owned → Option Rectangle → List ℕ → Option clashes.Pair
first_part_clash s m None bytes = None
first_part_clash s m (Some w) bytes = part_clash s m bytes

abbrev pub first_of_frame : Scheme → Owned → Result Frame JoinFault → Option clashes.Pair
first_of_frame s m (Ok x) = first_part_clash s m x.rect x.first
first_of_frame s m (Err f) = None

abbrev pub second_of_frame : Scheme → Owned → Result Frame JoinFault → Option clashes.Pair
second_of_frame s n (Ok x) = part_clash s n x.second
second_of_frame s n (Err f) = None

abbrev pub first_clash : Scheme → Owned → List ℕ → Option clashes.Pair
first_clash s m bytes = first_of_frame s m (frame_of bytes)

abbrev pub second_clash : Scheme → Owned → List ℕ → Option clashes.Pair
second_clash s n bytes = second_of_frame s n (frame_of bytes)

-- ---- what accepted bytes are worth

-- they are those that an honest server sends, and give all pairs
pub record IsHonestJoin (f g : List ℕ → List ℕ) (m n : Owned) (bytes : List ℕ)
    (pairs : List Pair) : Type 0 where
  pub own : bytes ≡ join_proof f g m n
  pub whole : pairs ≡ map_pairs m n

-- What bytes are worth that are accepted against the root digests of two maps of version 2,
-- whatever the maps and the hash functions.
abbrev pub AcceptedJoinIsHonest : (f g : List ℕ → List ℕ) → List ℕ → Type 0
AcceptedJoinIsHonest f g bytes =
    (m n : Owned) (pairs : List Pair) → IsOwned m → IsOwned n
    → join_verdict (held (by Two f) m) (held (by Two g) n) bytes ≡ Ok pairs
    → NoneAnd f (first_clash (by Two f) m bytes)
    (NoneAnd g (second_clash (by Two g) n bytes) (IsHonestJoin f g m n bytes pairs))

-- the honest proof of two maps is accepted, gives all pairs, and shows no two strings
pub record AcceptsJoinOf (f g : List ℕ → List ℕ) (m n : Owned) : Type 0 where
  pub accepted : join_verdict (held (by Two f) m) (held (by Two g) n) (join_proof f g m n)
      ≡ Ok (map_pairs m n)
  pub first : first_clash (by Two f) m (join_proof f g m n) ≡ None
  pub second : second_clash (by Two g) n (join_proof f g m n) ≡ None

abbrev pub AcceptsHonestJoin : (f g : List ℕ → List ℕ) → Type 0
AcceptsHonestJoin f g = (m n : Owned) → IsOwned m → IsOwned n → AcceptsJoinOf f g m n
