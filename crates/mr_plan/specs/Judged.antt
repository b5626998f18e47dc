-- What is printed of a bundle: the verdict on each part, how many there are of each kind, and where
-- it is broken.
use Rattle.std.specs.Prelude.{◌≡◌, ℕ, zero, suc, ◌+◌, ◌-◌, ◌==◌, ◌&&◌, ⊤, if◌then◌else◌, All, Bool, true, false, is_none, List, [], ◌∷◌, ◌++◌, length, count_by, Option, Some, None, codes, decimal}
use Rattle.mr_record.specs.Record.{HasLayer}
use Rattle.mr_record.specs.RecordText.{text_of}
use Rattle.mr_bundle.specs.declared.verdict.Verdict.{Verdict}
use Rattle.mr_bundle.specs.declared.verdict.Verdict.TheVariants as verdicts
use Rattle.mr_plan.specs.Refusal.{refused_line}
use Rattle.mr_plan.specs.declared.status.Status.{Status}
use Rattle.mr_plan.specs.declared.status.Status.TheVariants.{Done, Refused}

-- `query QUERY ok NUMBER`, and a line of the proof's version for each of so many records; or `query
-- QUERY ` and the line on a proof that is refused
unfoldable pub verdict_text : (query : ℕ) → Verdict → List ℕ
verdict_text query (verdicts.Accepted v answer) = codes "query " ++ decimal query ++ codes " ok "
    ++ decimal (length answer) ++ 10 ∷ text_of v answer
verdict_text query (verdicts.Refused fault) =
    codes "query " ++ decimal query ++ codes " " ++ refused_line fault

-- the verdicts in their order, from this query on
abbrev pub verdict_lines : (query : ℕ) → List Verdict → List ℕ
verdict_lines query [] = []
verdict_lines query (v ∷ vs) = verdict_text query v ++ verdict_lines (query + 1) vs

-- `query QUERY missing`
unfoldable pub missing_part_line : (query : ℕ) → List ℕ
missing_part_line query = codes "query " ++ decimal query ++ codes " missing" ++ 10 ∷ []

-- that for so many queries, from this one on
abbrev pub missing_lines : (query parts : ℕ) → List ℕ
missing_lines query zero = []
missing_lines query (suc parts) =
    missing_lines query parts ++ missing_part_line (query + parts)

-- `accepted NUMBER refused NUMBER missing NUMBER`
unfoldable pub summary_line : (accepted refused missing : ℕ) → List ℕ
summary_line accepted refused missing = codes "accepted " ++ decimal accepted
    ++ codes " refused " ++ decimal refused ++ codes " missing " ++ decimal missing ++ 10 ∷ []

-- `bundle broken at PLACE`
unfoldable pub broken_line : (place : ℕ) → List ℕ
broken_line place = codes "bundle broken at " ++ decimal place ++ 10 ∷ []

-- that, where it is
abbrev pub broken_text : Option ℕ → List ℕ
broken_text None = []
broken_text (Some place) = broken_line place

abbrev pub is_accepted : Verdict → Bool
is_accepted (verdicts.Accepted v answer) = true
is_accepted (verdicts.Refused fault) = false

-- the verdict is an answer
abbrev pub IsAccepted : Verdict → Type 0
IsAccepted v = is_accepted v ≡ true

-- the layers of its answer are those of the version in whose lines it is printed
abbrev pub HasLines : Verdict → Type 0
HasLines (verdicts.Accepted v answer) = All (HasLayer v) answer
HasLines (verdicts.Refused fault) = ⊤

-- how many verdicts are so
abbrev pub accepted_count : List Verdict → ℕ
accepted_count vs = count_by is_accepted vs

-- all of it, for so many queries; those without a verdict are missing
unfoldable pub bundle_text : (queries : ℕ) → List Verdict → (broken : Option ℕ) → List ℕ
bundle_text queries vs broken =
    let n = length vs in
    let accepted = accepted_count vs in
    verdict_lines 1 vs ++ missing_lines (n + 1) (queries - n)
    ++ summary_line accepted (n - accepted) (queries - n) ++ broken_text broken

-- refused, where a verdict is a fault or the bundle is broken
abbrev pub bundle_status : List Verdict → (broken : Option ℕ) → Status
bundle_status vs broken =
    if accepted_count vs == length vs && is_none broken then Done else Refused
