-- What an accepted proof for a choice is worth: it is the honest proof, and what it gives is of the
-- map, or it shows two strings that differ and have one hash.
use Rattle.std.specs.Prelude.{◌≡◌, ℕ, ◌^◌, ◌<◌, List, None, Ok}
use Rattle.mr_geom.specs.Rectangle.{Rectangle}
use Rattle.mr_record.specs.declared.version.Version.TheVariants.{Two}
use Rattle.mr_tree.specs.Tree.{records}
use Rattle.mr_tree.specs.Digest.{Scheme, by, root}
use Rattle.mr_tree.specs.WellFormed.{WellFormed, HasLayers}
use Rattle.mr_tree.specs.declared.tree.Tree.{Tree}
use Rattle.mr_query.specs.declared.key.Key.{Key}
use Rattle.mr_proof.specs.declared.head.Kind.TheVariants as kind
use Rattle.mr_proof.specs.declared.way.Way.{Way}
use Rattle.mr_proof.specs.Honest.{honest_said, proof_for, IsProofFor}
use Rattle.mr_proof.specs.Clash.{clash_of, NoneAnd}
use Rattle.mr_count.specs.declared.taken.Taken.{Taken}
use Rattle.mr_count.specs.Chosen.{chosen, taken_of, verdict_for, total_whole, IsChosen}
use Rattle.mr_count.specs.Inside.{inside_way, count_inside}

-- the bytes are those that an honest server sends, and what they give is of the map
pub record IsHonestChoice (s : Scheme) (t : Tree) (batch letter : ℕ) (way : Key → Way)
    (bytes : List ℕ) (x : Taken) : Type 0 where
  pub own : IsProofFor s (chosen letter way) t batch bytes
  pub given : IsChosen t way x

-- What bytes are worth that are accepted against the root digest of a map of the scheme's version,
-- whatever the map. (There is no honest proof of a map of version 1.)
abbrev pub AcceptedChoiceIsHonest : Scheme → (letter : ℕ) → (Key → Way) → List ℕ → Type 0
AcceptedChoiceIsHonest s letter way bytes =
    (t : Tree) (batch : ℕ) (x : Taken) → WellFormed t → HasLayers s.version t → batch < 2 ^ 64
    → verdict_for s.of (root s t batch) letter way bytes ≡ Ok x
    → NoneAnd s.of (clash_of (kind.Choice letter) s t batch bytes)
    (IsHonestChoice s t batch letter way bytes x)

-- For the records inside a window and on some layers: what they count is how many of the map's
-- records there are, or they show two strings that differ and have one hash.
abbrev pub AcceptedCountIsTrue : Scheme → (letter : ℕ) → Rectangle → (layers : ℕ) → List ℕ → Type 0
AcceptedCountIsTrue s letter w layers bytes =
    (t : Tree) (batch : ℕ) (x : Taken) → WellFormed t → HasLayers s.version t → batch < 2 ^ 64
    → verdict_for s.of (root s t batch) letter (inside_way w layers) bytes ≡ Ok x
    → NoneAnd s.of (clash_of (kind.Choice letter) s t batch bytes)
    (total_whole (inside_way w layers) x ≡ count_inside w layers (records t))

-- the honest proof of a map of version 2 is accepted, what it gives is of the map, and it shows no
-- pair of strings
pub record AcceptsHonestProofOf (hash : List ℕ → List ℕ) (letter : ℕ) (way : Key → Way) (t : Tree)
    (batch : ℕ) : Type 0 where
  pub accepted : verdict_for hash (root (by Two hash) t batch) letter way
      (proof_for (by Two hash) (chosen letter way) t batch)
      ≡ Ok (taken_of way (honest_said (by Two hash) (chosen letter way) t batch))
  pub given : IsChosen t way (taken_of way (honest_said (by Two hash) (chosen letter way) t batch))
  pub quiet : clash_of (kind.Choice letter) (by Two hash) t batch
      (proof_for (by Two hash) (chosen letter way) t batch) ≡ None

-- that of every map of version 2
abbrev pub AcceptsHonestChoice : (List ℕ → List ℕ) → (letter : ℕ) → (Key → Way) → Type 0
AcceptsHonestChoice hash letter way = (t : Tree) (batch : ℕ) → WellFormed t → batch < 2 ^ 64
    → AcceptsHonestProofOf hash letter way t batch
