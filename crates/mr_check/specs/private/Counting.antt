-- Counts of records: of all that are handed out and of those that are near, and of those of pruned
-- parts. This serves private functions.
use Rattle.std.specs.Prelude.{◌≡◌, ℕ, ◌-◌, ◌^◌, min, Bool, false, nat_lt, nat_le, List, length, Option, Some, None}
use Rattle.std.specs.List.{count_by}
use Rattle.mr_record.specs.declared.record.Record.{Record}
use Rattle.mr_query.specs.Nearest.{distance}
use Rattle.mr_proof.specs.Refused.{is_other_radius}
use Rattle.mr_proof.specs.declared.question.Around.{Around}
use Rattle.mr_check.specs.declared.radius_counts.RadiusCounts.{RadiusCounts}

abbrev pub is_near : Option Around → Option ℕ → Record → Bool
is_near None radius r = false
is_near (Some x) None r = false
is_near (Some x) (Some n) r = nat_lt (distance x.center r) n

abbrev pub is_in : Option Around → Option ℕ → Record → Bool
is_in None radius r = false
is_in (Some x) None r = false
is_in (Some x) (Some n) r = nat_le (distance x.center r) n

abbrev pub no_counts : RadiusCounts
no_counts = record { found = 0; nearer = 0; within = 0 }

-- the number, which stands still at the end of its type
abbrev pub capped : ℕ → ℕ
capped n = min n (2 ^ 64 - 1)

-- the counts of these records
pub record CountsRecords (x : Option Around) (radius : Option ℕ) (rs : List Record)
    (t : RadiusCounts) :
    Type 0 where
  pub found : t.found ≡ capped (length rs)
  pub nearer : t.nearer ≡ capped (count_by (is_near x radius) rs)
  pub within : t.within ≡ capped (count_by (is_in x radius) rs)

-- Whether the squared radius is another than that of these records, if heads have one. All of them
-- are on the layers that it is of, as those that are handed out are.
abbrev pub other_radius : Option Around → Option ℕ → List Record → Bool
other_radius None radius rs = false
other_radius (Some x) radius rs = is_other_radius x radius rs
