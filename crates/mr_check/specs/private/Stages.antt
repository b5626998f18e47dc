-- The field that is under way, by the stage that a reader has reached. This serves private
-- functions.
use Rattle.std.specs.Prelude.{ℕ, ◌+◌, ◌≤◌, Option, Some, None}
use Rattle.mr_proof.specs.declared.head.Kind.{Kind}
use Rattle.mr_proof.specs.declared.want.Want.{Want}
use Rattle.mr_proof.specs.declared.want.Want.TheVariants as want
use Rattle.mr_proof.specs.declared.field.Field.{Field}
use Rattle.mr_proof.specs.Fields.{size_of, HasForm}
use Rattle.mr_check.specs.declared.stage.HeadField.{HeadField}
use Rattle.mr_check.specs.declared.stage.HeadField.TheVariants as part
use Rattle.mr_check.specs.declared.stage.Stage.{Stage}
use Rattle.mr_check.specs.declared.stage.Stage.TheVariants as stage
use Rattle.mr_record.specs.Record.{payload_limit}
use Rattle.mr_record.specs.Version.{highest_layer}
use Rattle.mr_record.specs.declared.version.Version.TheVariants.{Two}
use Rattle.mr_proof.specs.Limits.{count_limit}

abbrev pub head_want : Kind → HeadField → Want
head_want k (part.Magic two_only) = want.Magic
head_want k (part.Version two_only) = want.Version two_only
head_want k part.Kind = want.Kind k
head_want k part.Batch = want.Batch
head_want k part.Count = want.Count
head_want k part.Flag = want.Flag
head_want k part.Radius = want.Radius
head_want k part.Level = want.Level

abbrev pub want_at : Kind → Stage → Option Want
want_at k (stage.Head f) = Some (head_want k f)
want_at k (stage.Tag v) = Some (want.Tag v)
want_at k (stage.Shown v) = Some want.Rect
want_at k (stage.Mask v r) = Some want.Mask
want_at k (stage.Tally v r m) = Some want.Tally
want_at k (stage.Digest v r m c) = Some want.Digest
want_at k (stage.Entries w) = Some want.InnerCount
want_at k stage.Records = Some want.LeafCount
want_at k stage.Number = Some want.Number
want_at k (stage.Sides n) = Some want.Rect
want_at k (stage.Layer n r) = Some want.Layer
want_at k (stage.Length n r i) = Some want.Length
want_at k (stage.Payload n r i l) = Some (want.Payload l)
want_at k (stage.End node) = None

-- a value that the field under way may have
abbrev pub MayBe : Option Want → Field → Type 0
MayBe None f = ⊥
MayBe (Some w) f = HasForm w f

-- how high the node under way lies at most; no node is open in a head
abbrev pub height : Stage → ℕ
height (stage.Head f) = 7
height (stage.Tag v) = v
height (stage.Shown v) = v
height (stage.Mask v r) = v
height (stage.Tally v r m) = v
height (stage.Digest v r m c) = v
height (stage.Entries w) = w + 1
height _ = 0

-- the size of the field, and of a payload's in room for it
abbrev pub size_in : Option Want → ℕ
size_in None = 0
size_in (Some w) = size_of w

abbrev pub room_in : Option Want → ℕ
room_in None = 1
room_in (Some w) = size_of w

-- the count of a pruned part, once it was read, and the layer of a record
abbrev pub count_in : Stage → ℕ
count_in (stage.Digest v r m c) = c
count_in _ = 0

abbrev pub layer_in : Stage → ℕ
layer_in (stage.Length n r i) = i
layer_in (stage.Payload n r i l) = i
layer_in _ = 0

-- with so many open nodes above it, there are no more levels than a proof may have; each field has
-- a byte, and fits the room for one; and a count and a layer that were read are within their limits
pub record FitsStage (k : Kind) (s : Stage) (open_nodes : ℕ) : Type 0 where
  pub levels : open_nodes + height s ≤ 7
  pub some : 1 ≤ room_in (want_at k s)
  pub few : room_in (want_at k s) ≤ payload_limit
  pub counted : count_in s ≤ count_limit
  pub layer : layer_in s ≤ highest_layer Two
