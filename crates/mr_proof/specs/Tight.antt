-- What a proof has to show, and cuts that open what they need and nothing else.
use Rattle.std.specs.Prelude.{◌≡◌, ◌≢◌, ℕ, ◌^◌, ◌<◌, ◌≤◌, ⊤, Bool, true, false, ◌&&◌, if◌then◌else◌, List, Option, Some, None, option_map, is_some, IfSome, bit_or}
use Rattle.mr_geom.specs.Rectangle.{Rectangle, IsOrdered, FitsMap}
use Rattle.mr_geom.specs.Plane.{Inside}
use Rattle.mr_record.specs.declared.record.Record.{Record}
use Rattle.mr_record.specs.declared.version.Version.{Version}
use Rattle.mr_record.specs.declared.version.Version.TheVariants.{One, Two}
use Rattle.mr_record.specs.Version.{told}
use Rattle.mr_query.specs.declared.query.Query.{Query}
use Rattle.mr_query.specs.declared.query.Shape.{Shape}
use Rattle.mr_query.specs.declared.query.Shape.TheVariants.{Window, Nearest}
use Rattle.mr_query.specs.declared.key.Key.{Key}
use Rattle.mr_query.specs.Layers.{all_layers, asked_layers, share_layer}
use Rattle.mr_query.specs.Nearest.{distances, kth_least, is_within}
use Rattle.mr_query.specs.Region.{record_key, reaches}
use Rattle.mr_query.specs.Scan.{on_layers}
use Rattle.mr_query.specs.Word.{FitsPoint}
use Rattle.mr_proof.specs.declared.question.Around.{Around}
use Rattle.mr_proof.specs.declared.head.Kind.{Kind}
use Rattle.mr_proof.specs.declared.head.Kind.TheVariants as kind
use Rattle.mr_proof.specs.declared.head.Head.{Head}
use Rattle.mr_proof.specs.declared.way.Way.{Way}
use Rattle.mr_proof.specs.declared.way.Way.TheVariants as ways
use Rattle.mr_proof.specs.Cut.{Cut, Cuts, Pruned, Leaf, Inner, no_more, first, rect, mask, count}
use Rattle.mr_proof.specs.Spelling.{opened_records}

-- ---- ways

-- the first version tells of no layers, so there a part may have any
abbrev pub mask_seen : Version → ℕ → ℕ
mask_seen One mask = all_layers
mask_seen Two mask = mask

-- what is seen of a part with this rectangle and this mask when its way is chosen
abbrev pub key_at : Version → (mask : ℕ) → Rectangle → Key
key_at v mask r = record { rect = r; mask = mask_seen v mask }

-- what is seen of a node by a cut of it
abbrev pub key_of : Version → Cut → Option Key
key_of v P = option_map (key_at v (mask v P)) (rect P)

abbrev pub is_open : Way → Bool
is_open ways.Skip = false
is_open ways.Whole = false
is_open ways.Open = true

-- what is not left out
abbrev pub is_kept : Way → Bool
is_kept ways.Skip = false
is_kept ways.Whole = true
is_kept ways.Open = true

-- opened where it is met, and else left out
abbrev pub way_if : Bool → Way
way_if met = if met then ways.Open else ways.Skip

-- whether a part of which this is seen is opened, and whether it is not left out
abbrev pub opens_at : (Key → Way) → Key → Bool
opens_at way part = is_open (way part)

abbrev pub keeps_at : (Key → Way) → Key → Bool
keeps_at way part = is_kept (way part)

-- whether a record is not left out
abbrev pub keeps_record : (Key → Way) → Record → Bool
keeps_record way r = keeps_at way (record_key r)

-- whether a node of which something is seen is opened
abbrev pub opens_seen : (Key → Way) → Option Key → Bool
opens_seen way None = false
opens_seen way (Some s) = is_open (way s)

-- ---- what a proof has to show

-- The kind; whether only proofs of the second version may come: where a mask is named, and of a
-- choice; the point, number and layers that the head's squared radius is of, if it has one; and
-- what each part is to be, by that radius.
pub record Question : Type 0 where
  pub kind : Kind
  pub two_only : Bool
  pub around : Option Around
  pub way : Option ℕ → Key → Way

-- a proof of this version may come
abbrev pub MayCome : Question → Version → Type 0
MayCome a One = a.two_only ≡ false
MayCome a Two = ⊤

-- the kth least squared distance of those records of a map or of a cut that are on the layers,
-- where there are as many
abbrev pub radius_by : Option Around → List Record → Option ℕ
radius_by None records = None
radius_by (Some x) records = kth_least x.k (distances x.center (on_layers x.layers records))

-- only heads of kind K have a radius: that of a point of the map and at least one record
abbrev pub FitsAround : Kind → Option Around → Type 0
FitsAround kind.W x = x ≡ None
FitsAround kind.K None = ⊥
FitsAround kind.K (Some x) = FitsPoint x.center × (1 ≤ x.k)
FitsAround (kind.Choice c) x = x ≡ None

-- the letter of a choice is a byte
abbrev pub FitsLetter : Kind → Type 0
FitsLetter (kind.Choice c) = c < 2 ^ 8
FitsLetter _ = ⊤

-- a choice has proofs of the second version alone
abbrev pub needs_two : Kind → Bool
needs_two (kind.Choice c) = true
needs_two _ = false

-- some layers, all of them among those of another mask
pub record AreAmong (some all : ℕ) : Type 0 where
  pub one : 1 ≤ some
  pub fits : all < 2 ^ 64
  pub among : bit_or some all ≡ all

-- what lies in a part that is pruned has the same way
abbrev pub IsNarrow : (Key → Way) → Type 0
IsNarrow way = (a b : Key) → IsOrdered a.rect → IsOrdered b.rect → FitsMap a.rect → FitsMap b.rect
    → Inside a.rect b.rect → AreAmong a.mask b.mask → way b ≢ ways.Open → way a ≡ way b

-- where heads have a radius, a part is opened just where it lies within it and has one of the
-- layers, and else left out
abbrev pub IsCircle : Option Around → (Option ℕ → Key → Way) → Type 0
IsCircle None way = ⊤
IsCircle (Some x) way = (radius : Option ℕ) (part : Key)
    → way radius part
    ≡ way_if (is_within x.center radius part.rect && share_layer part.mask x.layers)

-- what the proof system rests on
pub record IsLawful (a : Question) : Type 0 where
  pub letter : FitsLetter a.kind
  pub two_only : needs_two a.kind ≡ true → a.two_only ≡ true
  pub around : FitsAround a.kind a.around
  pub circle : IsCircle a.around a.way
  pub narrow : (radius : Option ℕ) → IsNarrow (a.way radius)

-- ---- what the proof of an answer to a query has to show

abbrev pub kind_of_shape : Shape → Kind
kind_of_shape (Window w) = kind.W
kind_of_shape (Nearest p k) = kind.K

abbrev pub kind_of : Query → Kind
kind_of q = kind_of_shape q.shape

abbrev pub around_in : (layers : ℕ) → Shape → Option Around
around_in layers (Window w) = None
around_in layers (Nearest p k) = Some (record { center = p; k = k; layers = layers })

abbrev pub around_of : Query → Option Around
around_of q = around_in (asked_layers q) q.shape

-- what is in reach of the query is opened, and all else left out
abbrev pub question : Query → Question
question q = record {
  kind = kind_of q;
  two_only = is_some q.mask;
  around = around_of q;
  way = λ radius part. way_if (reaches q radius part);
}

-- ---- tight cuts

abbrev mutual
  -- each pruned part is to be pruned, and each opened node opened
  pub IsTightCut : Version → (Key → Way) → Cut → Type 0
  IsTightCut v way (Pruned part) = opens_seen way (key_of v (Pruned part)) ≡ false
  IsTightCut v way (Leaf records) = opens_seen way (key_of v (Leaf records)) ≡ true
  IsTightCut v way (Inner cuts) = (opens_seen way (key_of v (Inner cuts)) ≡ true)
      × AreTightCuts v way cuts

  pub AreTightCuts : Version → (Key → Way) → Cuts → Type 0
  AreTightCuts v way no_more = ⊤
  AreTightCuts v way (first P Ps) = IsTightCut v way P × AreTightCuts v way Ps

-- The cut, where there is one, is tight for the ways by the head's radius, which is that of the
-- opened records on the layers asked for; and in the second version it counts as many records as
-- the head.
pub record IsTight (a : Question) (h : Head) (P : Option Cut) : Type 0 where
  pub parts : IfSome P (IsTightCut h.version (a.way h.radius))
  pub radius : h.radius ≡ radius_by a.around (opened_records P)
  pub counted : IfSome P (λ P. count h.version P ≡ told h.version h.count)
