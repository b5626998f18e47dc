-- What a command comes to behind an input that has to be there.
use Rattle.std.proofs.Common.{◌≡◌, ℕ, ◌+◌, ◌≤◌, List, refl, sym, ap, subst, ◌∙◌, arith}
use Rattle.std.specs.Prelude.{Option, Some, None, Result, Ok, Err}
use Rattle.std.specs.Global.{Vec}
use Rattle.mr_outside.specs.Files.{Files, file}
use Rattle.mr_outside.specs.State.{Shelved}
use Rattle.mr_record.specs.Answer.{RefusesText}
use Rattle.mr_record.specs.declared.text_fault.TextErr.{TextErr}
use Rattle.mr_record.specs.declared.text_fault.TextErr.TheVariants as texts
use Rattle.mr_record.specs.declared.text_fault.TextFault.{TextFault}
use Rattle.mr_command.specs.Counting.{pieces_of, reads_taken}
use Rattle.mr_command.specs.Ending.{AreJudged, RunsPlan}
use Rattle.mr_command.specs.private.Steps.{ReadsInput}
use Rattle.mr_command.specs.private.Inputs.{FollowsBytes, FollowsText, GoesOnOrEnds, ReadsText, SaysText}
use Rattle.mr_plan.specs.Lines.{bad_text_line}
use Rattle.mr_plan.specs.Outcome.{Outcome}
use Rattle.mr_plan.specs.Plan.{Input, Plan, comes}
use Rattle.mr_plan.specs.Say.{ends, given, needs}
use Rattle.mr_command.specs.declared.ending.Ending.{Ending}
use Rattle.mr_command.specs.declared.ending.Halt.{Halt}
use Rattle.mr_command.specs.declared.ending.Halt.TheVariants as halts
use Rattle.mr_plan.specs.declared.status.Status.TheVariants.{BadText}
use Rattle.mr_command.proofs.Counting.{OnceFrom, TakenFrom, few_none}
use Rattle.mr_command.proofs.Going.{comes_given, comes_halted, comes_missing, comes_on}
use Rattle.mr_command.proofs.Plans.{stays}

-- ---- an outcome that follows

-- memory ran out before it came
spent : (said : Outcome) (at : Shelved) → RunsPlan (comes said) at at (Err halts.NoMemory)
spent said at = record {
  counts = record { faults = omega arith; reads = omega arith };
  judged = tt;
  came = (tt, stays said.written at.files at.files refl);
  outside = tt;
  quiet = tt;
  few = few_none at.files said at.reads at.reads refl;
}

pub says_bytes : (said : List ℕ → Outcome) (told : Option Files) → FollowsBytes (λ bytes. comes (said bytes)) told
says_bytes said told = record { pieces = λ bytes. refl; judged = λ bytes. tt }

pub says_text : {A : Type 0} (said : Result A TextFault → Outcome)
    → ((f : TextFault) → said (Err f) ≡ ends BadText (bad_text_line f)) → FollowsText (λ found. comes (said found))
says_text said fault = record {
  fault = λ f. ap (λ o. comes o) (fault f);
  pieces = λ found input. refl;
  judged = λ found told. tt;
  given_up = λ found at. spent (said found) at;
}

-- ---- the bytes of a file

module _ (name : List ℕ) (next : List ℕ → Plan) (before after : Shelved)
    (follows : FollowsBytes next before.files) where
  judged : AreJudged (needs name next) before.files
  judged None is = tt
  judged (Some bytes) is = follows.judged bytes

  taken : OnceFrom before.files name before.reads after.reads
      → TakenFrom before.files name next before.reads after.reads
  taken once = by_files before.files once
    where
      by_input : (input : Input) → after.reads ≤ before.reads + pieces_of input
          → after.reads ≤ before.reads + reads_taken (given name next input) input
      by_input None once = once
      by_input (Some bytes) once = subst (λ n. after.reads ≤ before.reads + n) (sym (follows.pieces bytes)) once

      by_files : (told : Option Files) → OnceFrom told name before.reads after.reads
          → TakenFrom told name next before.reads after.reads
      by_files None once = tt
      by_files (Some files) once = by_input (file files name) once

  pub goes_needed : (read : Result (Vec ℕ) (Result Ending Halt)) → ReadsInput name before after read
      → GoesOnOrEnds (needs name next) (λ (bytes : Vec ℕ). next bytes.items) before after read
  goes_needed (Ok bytes) got = λ later result on.
      comes_on name next bytes.items before after later
      (record { counts = got.counts; files = got.files; faults = got.read.2 }) (taken got.once) got.read.0 got.read.1
      judged result on
  goes_needed (Err (Ok ending)) got =
      comes_missing name next before after ending got.counts (taken got.once) got.files judged
      (got.read.0, got.read.1) got.read.2 got.read.3
  goes_needed (Err (Err halt)) got =
      comes_halted name next before after halt got.counts (taken got.once) got.files judged got.read

-- ---- the values of a text

module _ {A : Type 0} (values : List ℕ → Result (List A) TextFault) (name : List ℕ) (before mid : Shelved) where
  in_bytes : (next : Result (List A) TextFault → Plan) → FollowsText next
      → FollowsBytes (λ text. next (values text)) before.files
  in_bytes next follows = record {
    pieces = λ text. follows.pieces (values text) (Some text);
    judged = λ text. follows.judged (values text) before.files;
  }

  -- its file was not read
  pub text_unread : (came : Result Ending Halt) → ReadsInput name before mid (Err came)
      → ReadsText values name before mid (Err came)
  text_unread came got next follows =
      goes_needed name (λ text. next (values text)) before mid (in_bytes next follows) (Err came) got

  module _ (text : Vec ℕ) (got : ReadsInput name before mid (Ok text)) where
    pub text_read : (v : Vec A) → values text.items ≡ Ok v.items → ReadsText values name before mid (Ok v)
    text_read v is next follows later result on =
        goes_needed name (λ bytes. next (values bytes)) before mid (in_bytes next follows) (Ok text) got later result
        (subst (λ found. RunsPlan (next found) mid later result) (sym is) on)

    pub text_refused : (error : TextErr) (came : Result Ending Halt) → RefusesText error (values text.items)
        → SaysText error came → ReadsText values name before mid (Err came)
    text_refused (texts.Text fault) came is says next follows =
        goes_needed name (λ bytes. next (values bytes)) before mid (in_bytes next follows) (Ok text) got mid came
        (subst (λ plan. RunsPlan plan mid mid came) (sym (ap next is ∙ follows.fault fault))
        (comes_given (ends BadText (bad_text_line fault)) mid came refl says))
    text_refused texts.NoMemory came is says next follows =
        goes_needed name (λ bytes. next (values bytes)) before mid (in_bytes next follows) (Ok text) got mid came
        (subst (RunsPlan (next (values text.items)) mid mid) (sym says) (follows.given_up (values text.items) mid))
