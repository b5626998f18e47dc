-- What private functions find and fetch, of maps that need not be told. Nothing of this has to be
-- believed: no public contract cites it.
use Rattle.std.specs.Prelude.{◌≡◌, ◌⊎◌, ℕ, ◌+◌, ◌≤◌, List, [], ◌∷◌, Option, Some, None}
use Rattle.mr_geom.specs.Rectangle.{Rectangle}
use Rattle.mr_tree.specs.declared.nodes.Top.{Top}
use Rattle.mr_proof.specs.Clash as clashes
use Rattle.mr_join.specs.declared.fault.JoinFault.TheVariants as faults
use Rattle.mr_join.specs.declared.finding.JoinFinding.{JoinFinding}
use Rattle.mr_join.specs.declared.finding.JoinFinding.TheVariants as findings
use Rattle.mr_join.specs.declared.finding.Worth.{Worth}
use Rattle.mr_join.specs.declared.finding.Worth.TheVariants as worths
use Rattle.mr_join.specs.declared.pair.Pair.{Pair}
use Rattle.mr_join.specs.Frame.{Frame}
use Rattle.mr_join.specs.Verdict.{part_verdict, first_records, frame_verdict}
use Rattle.mr_join.specs.Causes.{Watched}
use Rattle.mr_join.specs.Finding.{finding_of, said_by}
use Rattle.mr_join.specs.Fetches.{part_opened, first_opened, second_opened, if_accepted}
use Rattle.mr_join.specs.private.Worths.{worth_by, behind}

-- ---- what is found

-- the worth of a part by the verdict against the root digest of what a map says of itself
pub record WorthFor (hash : List ℕ → List ℕ) (top : Top) (list : List Rectangle)
    (bytes : List ℕ) (worth : Worth) : Type 0 where
  pub clash : Option clashes.Pair
  pub found : worth ≡ worth_by (part_verdict (said_by hash top) list bytes) clash

abbrev pub FirstWorthFor : (List ℕ → List ℕ) → Top → Option Rectangle → List ℕ → Worth → Type 0
FirstWorthFor hash top None bytes worth = worth ≡ worths.Sound
FirstWorthFor hash top (Some w) bytes worth = WorthFor hash top (w ∷ []) bytes worth

-- the finding by the worth of the second part, behind a first part that is sound
pub record FindsBehind (hash : List ℕ → List ℕ) (top : Top) (list : List Rectangle)
    (bytes : List ℕ) (pairs : List Pair) (finding : JoinFinding) : Type 0 where
  pub second : Worth
  pub is_second : WorthFor hash top list bytes second
  pub found : finding ≡ behind second pairs

-- by the worth of the first part
abbrev pub FindsBy : (List ℕ → List ℕ) → Top → List Rectangle → List ℕ → List Pair → Worth
    → JoinFinding → Type 0
FindsBy hash top list bytes pairs (worths.Refused f) finding =
    finding ≡ findings.Refused (faults.First f)
FindsBy hash top list bytes pairs (worths.Collision owned shown) finding =
    finding ≡ findings.First owned shown
FindsBy hash top list bytes pairs worths.Sound finding =
    FindsBehind hash top list bytes pairs finding

-- of both parts, which are accepted with these pairs
pub record FindsParts (f g : List ℕ → List ℕ) (top other : Top) (x : Frame) (list : List Rectangle)
    (pairs : List Pair) (finding : JoinFinding) : Type 0 where
  pub one : Worth
  pub is_one : FirstWorthFor f top x.rect x.first one
  pub found : FindsBy g other list x.second pairs one finding

-- of a frame
pub record FindsFrameFor (f g : List ℕ → List ℕ) (top other : Top) (at : ℕ) (x : Frame)
    (finding : JoinFinding) : Type 0 where
  pub first : Option clashes.Pair
  pub second : Option clashes.Pair
  pub found : finding
      ≡ finding_of (frame_verdict (said_by f top) (said_by g other) at x) first second

-- ---- what is fetched

-- no more nodes are fetched than bytes open that are accepted for some rectangles; or none, where
-- the map is not asked
abbrev pub MayFetchPart : (List ℕ → List ℕ) → Watched → Top → List Rectangle → List ℕ → Type 0
MayFetchPart hash a top list bytes = (a.after ≤ a.before)
    ⊎ (a.after ≤ a.before + part_opened (said_by hash top) list bytes)

abbrev pub FirstFetches : (List ℕ → List ℕ) → Watched → Top → Option Rectangle → List ℕ → Type 0
FirstFetches hash a top None bytes = a.after ≤ a.before
FirstFetches hash a top (Some w) bytes = MayFetchPart hash a top (w ∷ []) bytes

-- of a frame
pub record FrameFetches (f g : List ℕ → List ℕ) (a b : Watched) (top other : Top) (at : ℕ)
    (x : Frame) : Type 0 where
  pub first : a.after
      ≤ a.before + if_accepted (frame_verdict (said_by f top) (said_by g other) at x)
      (first_opened (said_by f top) x.rect x.first)
  pub second : b.after
      ≤ b.before + if_accepted (frame_verdict (said_by f top) (said_by g other) at x)
      (second_opened (said_by g other) (first_records (said_by f top) x.rect x.first) x.second)
