-- How many records the pruned parts of a cut have of which all is asked for.
use Rattle.std.specs.Prelude.{ℕ, ◌+◌, Bool, true, false, if◌then◌else◌, Option, Some, None}
use Rattle.mr_record.specs.declared.version.Version.{Version}
use Rattle.mr_query.specs.declared.key.Key.{Key}
use Rattle.mr_proof.specs.declared.way.Way.{Way}
use Rattle.mr_proof.specs.declared.way.Way.TheVariants as ways
use Rattle.mr_proof.specs.Cut.{Cut, Cuts, Pruned, Leaf, Inner, no_more, first}
use Rattle.mr_proof.specs.Tight.{key_at}

-- whether a part is pruned since all in it is asked for
abbrev pub is_whole : Way → Bool
is_whole ways.Skip = false
is_whole ways.Whole = true
is_whole ways.Open = false

abbrev mutual
  -- The counts of the pruned parts of the cut whose way is whole, added up. Each is the number of
  -- records that the part says it has, in version 1 none. The records of opened leaves are not
  -- among them.
  pub whole_of : Version → (Key → Way) → Cut → ℕ
  whole_of v way (Pruned part) =
      if is_whole (way (key_at v part.mask part.rect)) then part.count else 0
  whole_of v way (Leaf records) = 0
  whole_of v way (Inner cuts) = wholes_of v way cuts

  pub wholes_of : Version → (Key → Way) → Cuts → ℕ
  wholes_of v way no_more = 0
  wholes_of v way (first P Ps) = whole_of v way P + wholes_of v way Ps

-- the same of a map, of which there is no cut where it is empty
abbrev pub whole_in : Version → (Key → Way) → Option Cut → ℕ
whole_in v way None = 0
whole_in v way (Some P) = whole_of v way P
