-- The text of an ending: its line, then its records.
use Rattle.std.proofs.Common.{◌≡◌, ℕ, List, [], ◌∷◌, ◌++◌, refl, sym, ap, subst, ◌∙◌, append_assoc, append-nil, arith}
use Rattle.std.specs.Prelude.{Result, Ok, Err, OnOk}
use Rattle.mr_outside.specs.Causes.{SinkCauses}
use Rattle.mr_outside.specs.Faults.{Rose}
use Rattle.mr_outside.specs.State.{Sunk}
use Rattle.mr_outside.specs.Told.{TakesBytes, TakesFront}
use Rattle.mr_outside.specs.declared.sink.SinkErr.{SinkErr}
use Rattle.mr_outside.proofs.Taking.{TakesBytes-none, TakesBytes-append}
use Rattle.mr_record.specs.declared.record.Record.{Record}
use Rattle.mr_record.specs.RecordText.{line_of, text_of}
use Rattle.mr_record.specs.declared.version.Version.{Version}

-- a line alone
pub line_alone : (v : Version) (line : List ℕ) (records : List Record) → records ≡ [] → line
    ++ text_of v records ≡ line
unfolding text_of
line_alone v line records none = ap (λ rs. line ++ text_of v rs) none ∙ append-nil line

-- nothing at all
pub no_records : (v : Version) (records : List Record) → records ≡ [] → text_of v records ≡ []
unfolding text_of
no_records v records none = ap (text_of v) none

-- the text of two lists of records
pub text_both : (v : Version) (xs ys : List Record) → text_of v (xs ++ ys) ≡ text_of v xs ++ text_of v ys
unfolding text_of
text_both v [] ys = refl
text_both v (x ∷ xs) ys =
    ap (λ text. (line_of v x ++ 10 ∷ []) ++ text) (text_both v xs ys)
    ∙ sym (append_assoc (line_of v x ++ 10 ∷ []) (text_of v xs) (text_of v ys))

-- nothing was taken
pub front_none : (s : Sunk) (text : List ℕ) → TakesFront s s text
front_none s text = record { front = []; rest = text; whole = refl; takes = TakesBytes-none s }

-- a front of the first part
pub front_before : (before after : Sunk) (first second : List ℕ) → TakesFront before after first
    → TakesFront before after (first ++ second)
front_before before after first second part = record {
  front = part.front;
  rest = part.rest ++ second;
  whole = ap (λ text. text ++ second) part.whole ∙ append_assoc part.front part.rest second;
  takes = part.takes;
}

-- the first part and a front of the second
pub front_after : (before between after : Sunk) (first second : List ℕ) → TakesBytes before between first
    → TakesFront between after second → TakesFront before after (first ++ second)
front_after before between after first second takes part = record {
  front = first ++ part.front;
  rest = part.rest;
  whole = ap (λ text. first ++ text) part.whole ∙ sym (append_assoc first part.front part.rest);
  takes = TakesBytes-append before between after first part.front takes part.takes;
}

-- both parts, where the second was written
pub whole_after : (before between after : Sunk) (first second : List ℕ) (result : Result Unit SinkErr)
    → TakesBytes before between first → OnOk result (TakesBytes between after second)
    → OnOk result (TakesBytes before after (first ++ second))
whole_after before between after first second (Ok done) takes more =
    TakesBytes-append before between after first second takes more
whole_after before between after first second (Err error) takes more = tt

-- a call behind one that counted no fault
pub causes_after : (before between after : Sunk) (result : Result Unit SinkErr)
    → between.faults ≡ before.faults → SinkCauses between after result → SinkCauses before after result
causes_after before between after (Ok done) same causes = record {
  fault = λ e. subst (λ n. Rose n after.faults) same (causes.fault e);
  faults = omega (arith, same, causes.faults);
  quiet = causes.quiet ∙ same;
}
causes_after before between after (Err error) same causes = record {
  fault = λ e. subst (λ n. Rose n after.faults) same (causes.fault e);
  faults = omega (arith, same, causes.faults);
  quiet = tt;
}
