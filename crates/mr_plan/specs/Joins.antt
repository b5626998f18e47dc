-- Joins: all pairs of records, one of each of two maps, whose rectangles meet; and the lines on
-- them and on their proofs.
use Rattle.std.specs.Prelude.{ℕ, ◌||◌, Bool, true, false, List, [], ◌∷◌, ◌++◌, codes, decimal, Result}
use Rattle.std.specs.List.{flat_map}
use Rattle.hex.specs.Hex.{encode_lower}
use Rattle.mr_record.specs.declared.version.Version.{Version}
use Rattle.mr_record.specs.declared.version.Version.TheVariants.{One, Two}
use Rattle.mr_tree.specs.Digest.{by}
use Rattle.mr_pages.specs.declared.opening.Opened.{Opened}
use Rattle.mr_proof.specs.RuleNames.{rule_text}
use Rattle.mr_proof.specs.declared.rule.Fault.{Fault}
use Rattle.mr_join.specs.Accepted.{Owned, join_proof}
use Rattle.mr_join.specs.Finding.{join_found}
use Rattle.mr_join.specs.FrameRules as frames
use Rattle.mr_join.specs.Verdict.{Held, join_verdict}
use Rattle.mr_join.specs.declared.fault.JoinFault.{JoinFault}
use Rattle.mr_join.specs.declared.fault.JoinFault.TheVariants as faults
use Rattle.mr_join.specs.declared.finding.JoinFinding.{JoinFinding}
use Rattle.mr_join.specs.declared.pair.Pair.{Pair}
use Rattle.mr_plan.specs.Refusal.{found_text}

-- the map in a file, as its owner has it
abbrev pub owned_in : Opened → Owned
owned_in map = record { tree = map.tree; batch = map.batch }

-- the honest proof of the join of two maps
abbrev pub join_of : (List ℕ → List ℕ) → (first second : Opened) → List ℕ
join_of hash first second = join_proof hash hash (owned_in first) (owned_in second)

-- a root digest, as its holder has it
abbrev pub held_root : (List ℕ → List ℕ) → (root : List ℕ) → Held
held_root hash root = record { of = hash; root = root }

-- the pairs that bytes prove against two root digests, or their fault
abbrev pub join_given : (List ℕ → List ℕ) → (first second : List ℕ) → List ℕ
    → Result (List Pair) JoinFault
join_given hash first second bytes =
    join_verdict (held_root hash first) (held_root hash second) bytes

-- what the audit of the bytes finds, on two maps
abbrev pub joined_found : (List ℕ → List ℕ) → (first second : Opened) → List ℕ → JoinFinding
joined_found hash first second bytes =
    join_found (by first.version hash) (by second.version hash) (owned_in first) (owned_in second)
    bytes

-- a map of the first version has no join
abbrev pub is_first : Version → Bool
is_first One = true
is_first Two = false

-- one of two maps is of that version
abbrev pub lacks_join : (first second : Opened) → Bool
lacks_join first second = is_first first.version || is_first second.version

-- ---- lines

-- `pair FIRST SECOND`, by the numbers of the two records
unfoldable pub pair_line : Pair → List ℕ
pair_line pair =
    codes "pair " ++ decimal pair.first ++ codes " " ++ decimal pair.second ++ 10 ∷ []

-- a line for each pair
abbrev pub pair_lines : List Pair → List ℕ
pair_lines pairs = flat_map pair_line pairs

-- the two maps, as lines name them
abbrev pub first_name : List ℕ
first_name = codes "first"

abbrev pub second_name : List ℕ
second_name = codes "second"

-- `refused MAP RULE at PLACE`, and the digest that was found
unfoldable pub part_refused_line : (map : List ℕ) → Fault → List ℕ
part_refused_line map fault = codes "refused " ++ map ++ codes " " ++ rule_text fault.rule
    ++ codes " at " ++ decimal fault.at ++ found_text fault.rule ++ 10 ∷ []

-- the line on a join's proof that is refused: `refused frame RULE at PLACE`, or that of a part
unfoldable pub join_refused_line : JoinFault → List ℕ
join_refused_line (faults.Frame rule at) = codes "refused frame " ++ frames.rule_text rule
    ++ codes " at " ++ decimal at ++ 10 ∷ []
join_refused_line (faults.First fault) = part_refused_line first_name fault
join_refused_line (faults.Second fault) = part_refused_line second_name fault

-- `collision MAP`, and two strings that differ and have one hash, the owner's first, each in
-- hexadecimal on a line of its own
unfoldable pub map_collision_lines : (map owned shown : List ℕ) → List ℕ
map_collision_lines map owned shown = codes "collision " ++ map ++ 10 ∷ encode_lower owned
    ++ 10 ∷ encode_lower shown ++ 10 ∷ []
