-- The verdicts on the parts of a bundle.
use Rattle.std.specs.Prelude.{ℕ, List, length, map, zip, Result, Ok, Err}
use Rattle.mr_record.specs.declared.record.Record.{Record}
use Rattle.mr_record.specs.declared.version.Version.{Version}
use Rattle.mr_query.specs.declared.query.Query.{Query}
use Rattle.mr_proof.specs.declared.rule.Fault.{Fault}
use Rattle.mr_proof.specs.Reading.{verdict}
use Rattle.mr_check.specs.Versions.{proof_version}
use Rattle.mr_bundle.specs.Bundle.{bytes_of}
use Rattle.mr_bundle.specs.declared.reading.Part.{Part}
use Rattle.mr_bundle.specs.declared.checking.Asked.{Asked}
use Rattle.mr_bundle.specs.declared.verdict.Verdict.{Verdict}
use Rattle.mr_bundle.specs.declared.verdict.Verdict.TheVariants.{Accepted, Refused}

-- that on a proof of this version
abbrev pub verdict_of : Version → Result (List Record) Fault → Verdict
verdict_of v (Ok answer) = Accepted v answer
verdict_of v (Err fault) = Refused fault

-- each part's bytes, beside the query at the part's place
abbrev pub asked : List Query → List ℕ → List Part → List (Query × List ℕ)
asked queries bundle parts = zip queries (map (bytes_of bundle) parts)

-- the verdict on some bytes against a query
abbrev pub judged : (List ℕ → List ℕ) → (root : List ℕ) → Query × List ℕ → Verdict
judged hash root one = verdict_of (proof_version one.1) (verdict hash root one.0 one.1)

-- at each place, the verdict on the part against the query there
abbrev pub verdicts : (List ℕ → List ℕ) → (root : List ℕ) → List Query → (bundle : List ℕ)
    → List Part → List Verdict
verdicts hash root queries bundle parts = map (judged hash root) (asked queries bundle parts)

-- the number that a gate is told: of the records answered, or the place of the fault
abbrev pub number_in : Verdict → ℕ
number_in (Accepted v answer) = length answer
number_in (Refused fault) = fault.at

-- what a piece of the work is. This serves private functions.
abbrev pub asked_values : Asked → Query × List ℕ
asked_values one = (one.query.now, one.proof.now)
