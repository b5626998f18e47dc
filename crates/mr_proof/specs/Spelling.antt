-- The one spelling of a head and a cut.
use Rattle.std.specs.Prelude.{◌≡◌, ℕ, ◌-◌, ◌^◌, ◌<◌, ◌≤◌, ⊤, ◌==◌, if◌then◌else◌, List, [], ◌∷◌, ◌++◌, length, All, Option, Some, None, IfSome}
use Rattle.std.specs.List.{flat_map}
use Rattle.std.specs.Int.{w64, w128, to_be_bytes}
use Rattle.mr_geom.specs.Rectangle.{IsOrdered, FitsMap}
use Rattle.mr_outside.specs.Bytes.{AreBytes}
use Rattle.mr_record.specs.Record.{IsRecord, HasLayer, record_bytes}
use Rattle.mr_record.specs.Version.{version_byte, told}
use Rattle.mr_record.specs.declared.version.Version.{Version}
use Rattle.mr_record.specs.declared.version.Version.TheVariants.{Two}
use Rattle.mr_tree.specs.Digest.{entry_bytes}
use Rattle.mr_record.specs.declared.record.Record.{Record}
use Rattle.mr_proof.specs.declared.head.Kind.{Kind}
use Rattle.mr_proof.specs.declared.head.Kind.TheVariants as kind
use Rattle.mr_proof.specs.declared.head.Head.{Head}
use Rattle.mr_proof.specs.declared.pruned_entry.PrunedEntry.{PrunedEntry}
use Rattle.mr_proof.specs.Limits.{count_limit, radius_limit, level_limit, leaf_limit, inner_limit, place_limit}
use Rattle.mr_proof.specs.Fields.{magic, kind_byte, pruned_tag, leaf_tag, inner_tag}
use Rattle.mr_proof.specs.Cut.{Cut, Cuts, Pruned, Leaf, Inner, no_more, first, entry_shown, number_of_cuts, records}

-- ---- items

-- those of the part's entry, which do not tell its level
abbrev pub shown_bytes : Version → PrunedEntry → List ℕ
shown_bytes v part = entry_bytes v (entry_shown 0 part)

abbrev mutual
  pub cut_bytes : Version → Cut → List ℕ
  cut_bytes v (Pruned part) = pruned_tag ∷ shown_bytes v part
  cut_bytes v (Leaf records) = leaf_tag ∷ length records ∷ flat_map (record_bytes v) records
  cut_bytes v (Inner cuts) = inner_tag ∷ number_of_cuts cuts ∷ cuts_bytes v cuts

  pub cuts_bytes : Version → Cuts → List ℕ
  cuts_bytes v no_more = []
  cuts_bytes v (first P Ps) = cut_bytes v P ++ cuts_bytes v Ps

-- any mask of 64 bits, 0 too, and a count from 1 to 2^20; in the first version both are 0
pub record FitsShown (v : Version) (part : PrunedEntry) : Type 0 where
  pub ordered : IsOrdered part.rect
  pub coordinates : FitsMap part.rect
  pub mask : part.mask < 2 ^ told v 64
  pub counted : told v 1 ≤ part.count
  pub few : part.count ≤ told v count_limit
  pub digest : length part.digest ≡ 32
  pub bytes : AreBytes part.digest

pub record FitsLeaf (v : Version) (level : ℕ) (records : List Record) : Type 0 where
  pub at_leaf : level ≡ 0
  pub some : 1 ≤ length records
  pub few : length records ≤ leaf_limit
  pub each : All IsRecord records
  pub layers : All (HasLayer v) records

pub record FitsInner (level count : ℕ) : Type 0 where
  pub above : 1 ≤ level
  pub some : 1 ≤ count
  pub few : count ≤ inner_limit

abbrev mutual
  -- a cut of this level, with each value in its range
  pub FitsCut : Version → ℕ → Cut → Type 0
  FitsCut v level (Pruned part) = FitsShown v part
  FitsCut v level (Leaf records) = FitsLeaf v level records
  FitsCut v level (Inner cuts) =
      FitsInner level (number_of_cuts cuts) × FitCuts v (level - 1) cuts

  pub FitCuts : Version → ℕ → Cuts → Type 0
  FitCuts v level no_more = ⊤
  FitCuts v level (first P Ps) = FitsCut v level P × FitCuts v level Ps

-- ---- the head

-- a flag and a squared radius, in a proof for nearest records
abbrev pub radius_bytes : Kind → Option ℕ → List ℕ
radius_bytes kind.W r = []
radius_bytes (kind.Choice letter) r = []
radius_bytes kind.K None = 0 ∷ []
radius_bytes kind.K (Some r) = 1 ∷ to_be_bytes w128 r

abbrev pub level_bytes : ℕ → ℕ → List ℕ
level_bytes count level = if count == 0 then [] else level ∷ []

abbrev pub head_bytes : Head → List ℕ
head_bytes h =
    magic ++ version_byte h.version ∷ kind_byte h.kind
    ∷ (to_be_bytes w64 h.batch ++ (to_be_bytes w64 h.count ++
    (radius_bytes h.kind h.radius ++ level_bytes h.count h.level)))

-- only a proof for nearest records has a radius
abbrev pub FitsRadius : Kind → Option ℕ → Type 0
FitsRadius kind.W r = r ≡ None
FitsRadius (kind.Choice letter) r = r ≡ None
FitsRadius kind.K r = IfSome r (λ n. n ≤ radius_limit)

-- a choice has proofs of the second version alone
abbrev pub FitsVersion : Kind → Version → Type 0
FitsVersion (kind.Choice letter) v = v ≡ Two
FitsVersion _ v = ⊤

-- each value in its range
pub record FitsProofHead (h : Head) : Type 0 where
  pub version : FitsVersion h.kind h.version
  pub batch : h.batch < 2 ^ 64
  pub count : h.count ≤ count_limit
  pub radius : FitsRadius h.kind h.radius
  pub level : h.level ≤ level_limit
  pub empty : h.count ≡ 0 → h.level ≡ 0

-- ---- both

-- a head and, where there are records, a cut
pub record Parsed : Type 0 where
  pub head : Head
  pub part : Option Cut

abbrev pub said : Head → Option Cut → Parsed
said h P = record { head = h; part = P }

abbrev pub opened_records : Option Cut → List Record
opened_records None = []
opened_records (Some P) = records P

abbrev pub part_bytes : Version → Option Cut → List ℕ
part_bytes v None = []
part_bytes v (Some P) = cut_bytes v P

-- there is a cut, of the head's level, just where the head's count is not 0
abbrev pub FitsPart : Head → Option Cut → Type 0
FitsPart h None = h.count ≡ 0
FitsPart h (Some P) = (0 < h.count) × FitsCut h.version h.level P

-- The whole of the bytes is the spelling of the head and the cut. All fields end by the place
-- limit, since the last one does.
pub record IsSpelled (h : Head) (P : Option Cut) (bytes : List ℕ) : Type 0 where
  pub head : FitsProofHead h
  pub part : FitsPart h P
  pub whole : bytes ≡ head_bytes h ++ part_bytes h.version P
  pub short : length bytes ≤ place_limit
