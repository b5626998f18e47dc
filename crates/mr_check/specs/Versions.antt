-- The version that the bytes of a proof tell.
use Rattle.std.specs.Prelude.{◌≡◌, ℕ, ⊤, ◌==◌, if◌then◌else◌, List, slice_index_or, Result, Ok, Err}
use Rattle.std.specs.Global.{Vec}
use Rattle.mr_record.specs.declared.record.Record.{Record}
use Rattle.mr_record.specs.declared.version.Version.{Version}
use Rattle.mr_record.specs.declared.version.Version.TheVariants.{One, Two}
use Rattle.mr_proof.specs.declared.rule.Fault.{Fault}
use Rattle.mr_check.specs.declared.error.CheckErr.{CheckErr}
use Rattle.mr_check.specs.declared.error.CheckErr.TheVariants as errors

-- the version of the proof that bytes are: the second exactly where byte 4 is 2
abbrev pub proof_version : List ℕ → Version
proof_version bytes = if slice_index_or bytes 4 0 == 2 then Two else One

-- what is answered at the end of a proof that was taken in and has this verdict: the answer beside
-- the version of the proof, unless memory ran out
abbrev pub AnswersBeside : List ℕ → Result (Version × Vec Record) CheckErr
    → Result (List Record) Fault → Type 0
AnswersBeside bytes (Ok a) verdict = (verdict ≡ Ok a.1.items) × (a.0 ≡ proof_version bytes)
AnswersBeside bytes (Err (errors.Fault f)) verdict = verdict ≡ Err f
AnswersBeside bytes (Err errors.NoMemory) verdict = ⊤
