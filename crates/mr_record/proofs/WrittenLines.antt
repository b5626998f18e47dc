-- A text of records whose lines are gathered and written.
use Rattle.std.proofs.Common.{◌≡◌, ℕ, zero, suc, ◌+◌, ◌<◌, List, [], ◌∷◌, ◌++◌, length, take, drop, get_or, refl, sym, ap, subst, ◌∙◌, append_assoc, append-nil, arith}
use Rattle.std.specs.Prelude.{All}
use Rattle.std.proofs.lemmas.List.Elements.{All-nil, All-more}
use Rattle.mr_record.specs.private.Gathered.{SendsFront}
use Rattle.mr_record.specs.Record.{IsRecord}
use Rattle.mr_record.specs.declared.record.Record.{Record}
use Rattle.mr_record.specs.declared.version.Version.{Version}
use Rattle.mr_record.specs.RecordText.{line_of, text_of}
use Rattle.mr_outside.specs.State.{Sunk}
use Rattle.mr_outside.specs.Told.{TakesBytes, TakesFront}
use Rattle.mr_outside.proofs.Taking.{TakesBytes-none, TakesBytes-append}

module _ (v : Version) where
  abbrev line : Record → List ℕ
  line r = line_of v r ++ 10 ∷ []

  all_parts : (a b c d : List ℕ) → (a ++ (b ++ c)) ++ d ≡ (a ++ b) ++ (c ++ d)
  all_parts a b c d = simp append_assoc

  -- one record more
  text_more : (rs : List Record) (i : ℕ) (r : Record) → i < length rs → r ≡ get_or rs i r
      → text_of v (take i rs) ++ line r ≡ text_of v (take (suc i) rs)
  unfolding text_of
  text_more [] i r low is = absurd (omega arith)
  text_more (s ∷ ss) zero r low is = ap line is ∙ sym (append-nil (line s))
  text_more (s ∷ ss) (suc i) r low is =
      append_assoc (line s) (text_of v (take i ss)) (line r)
      ∙ ap (λ text. line s ++ text) (text_more ss i r (omega arith) is)

  -- the text is that of the first records and of the rest
  text_parts : (rs : List Record) (i : ℕ) → text_of v rs ≡ text_of v (take i rs) ++ text_of v (drop i rs)
  unfolding text_of
  text_parts [] zero = refl
  text_parts [] (suc i) = refl
  text_parts (r ∷ rs) zero = refl
  text_parts (r ∷ rs) (suc i) =
      ap (λ text. line r ++ text) (text_parts rs i)
      ∙ sym (append_assoc (line r) (text_of v (take i rs)) (text_of v (drop i rs)))

  -- the lines of the first records were taken or are held, and no fault was counted
  pub record HasGathered (before now : Sunk) (records : List Record) (done : ℕ) (held : List ℕ) : Type 0 where
    pub each : All IsRecord (take done records)
    pub sent : List ℕ
    pub whole : text_of v (take done records) ≡ sent ++ held
    pub takes : TakesBytes before now sent
    pub faults : now.faults ≡ before.faults

  pub none_gathered : (s : Sunk) (rs : List Record) (held : List ℕ) → held ≡ [] → HasGathered s s rs 0 held
  unfolding text_of
  none_gathered s rs held none = record {
    each = All-nil IsRecord;
    sent = [];
    whole = sym none;
    takes = TakesBytes-none s;
    faults = refl;
  }

  module _ (before between after : Sunk) (rs : List Record) (i : ℕ) (held : List ℕ)
      (has : HasGathered before between rs i held) where
    -- one line more, behind what was still held once the sink took some of it
    pub gathered_more : (r : Record) (kept more : List ℕ) → i < length rs → r ≡ get_or rs i r → IsRecord r
        → SendsFront between after held kept → after.faults ≡ between.faults → more ≡ kept ++ line r
        → HasGathered before after rs (i + 1) more
    gathered_more r kept more low is one sends quiet puts =
        let next : suc i ≡ i + 1 = omega arith in
        record {
          each = All-more IsRecord rs i r low has.each (subst IsRecord is one);
          sent = has.sent ++ sends.sent;
          whole = sym (text_more rs i r low is ∙ ap (λ n. text_of v (take n rs)) next)
              ∙ ap (λ text. text ++ line r) (has.whole ∙ ap (λ text. has.sent ++ text) sends.whole)
              ∙ all_parts has.sent sends.sent kept (line r)
              ∙ ap (λ text. (has.sent ++ sends.sent) ++ text) (sym puts);
          takes = TakesBytes-append before between after has.sent sends.sent has.takes sends.takes;
          faults = quiet ∙ has.faults;
        }

    -- a front of what was held
    pub front_gathered : TakesFront between after held → TakesFront before after (text_of v rs)
    front_gathered part = record {
      front = has.sent ++ part.front;
      rest = part.rest ++ text_of v (drop i rs);
      whole = text_parts rs i
          ∙ ap (λ text. text ++ text_of v (drop i rs)) (has.whole ∙ ap (λ text. has.sent ++ text) part.whole)
          ∙ all_parts has.sent part.front part.rest (text_of v (drop i rs));
      takes = TakesBytes-append before between after has.sent part.front has.takes part.takes;
    }

    -- all of it, behind the last record
    pub all_gathered : take i rs ≡ rs → TakesBytes between after held → TakesBytes before after (text_of v rs)
    all_gathered all more =
        subst (TakesBytes before after) (sym has.whole ∙ ap (text_of v) all)
        (TakesBytes-append before between after has.sent held has.takes more)
