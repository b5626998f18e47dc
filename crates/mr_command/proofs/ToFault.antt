-- How far the file of a proof is read: up to the piece that fixes a fault.
use Rattle.std.proofs.Common.{◌≡◌, ℕ, ◌+◌, ◌-◌, ◌*◌, ◌≤◌, ◌<◌, min, List, length, take, Option, Some, None, MatchOption, refl, subst, inl, inr, arith}
use Rattle.std.specs.Prelude.{◌⊎◌, ltb, Result}
use Rattle.std.proofs.lemmas.Bool.{cases_Bool, ltb-true, ltb-false}
use Rattle.mr_outside.specs.Files.{Files, file}
use Rattle.mr_outside.specs.Reading.{piece_count}
use Rattle.mr_outside.specs.State.{Shelved}
use Rattle.mr_outside.specs.Told.{OfFile, OfFiles}
use Rattle.mr_query.specs.declared.query.Query.{Query}
use Rattle.mr_proof.specs.Feeding.{IsUnsettled}
use Rattle.mr_proof.specs.Tight.{question}
use Rattle.mr_command.specs.Counting.{pieces_of, reads_taken, AllowsReads, IsToFault}
use Rattle.mr_command.specs.Ending.{RunsPlan, ComesAsSaid}
use Rattle.mr_command.specs.private.Steps.{ReadsFileOnce}
use Rattle.mr_plan.specs.Outcome.{Outcome}
use Rattle.mr_plan.specs.Plan.{Input, LeadsToOutcome, Plan, comes}
use Rattle.mr_plan.specs.Say.{given, needs}
use Rattle.mr_command.specs.private.Taking.{ReadsToFault}
use Rattle.mr_command.specs.declared.ending.Ending.{Ending}
use Rattle.mr_command.specs.declared.ending.Halt.{Halt}
use Rattle.mr_command.proofs.Rereading.{comes_plain}

-- nothing at all is read
pub none_to_fault : (hash : List ℕ → List ℕ) (root : List ℕ) (q : Query) (told : Option Files) (name : List ℕ)
    (before after : ℕ) → after ≡ before → ReadsToFault hash root q told name before after
none_to_fault hash root q None name before after same = tt
none_to_fault hash root q (Some files) name before after same =
    (0, omega (arith, same), omega arith, at_once (file files name))
  where
    at_once : (found : Option (List ℕ)) → IsToFault hash root q found 0
    at_once None = tt
    at_once (Some bytes) = inl (omega arith)

-- no piece twice
pub once_to_fault : (hash : List ℕ → List ℕ) (root : List ℕ) (q : Query) (name : List ℕ) (before after : Shelved)
    → ReadsToFault hash root q before.files name before.reads after.reads → ReadsFileOnce name before after
once_to_fault hash root q name before after reads = by_files before.files reads
  where
    by_files : (o : Option Files) → ReadsToFault hash root q o name before.reads after.reads
        → OfFiles o (λ files. after.reads ≤ before.reads + pieces_of (file files name))
    by_files None reads = tt
    by_files (Some files) reads = omega (arith, reads.1, reads.2)

-- so many pieces were read of a file of this length: in all but the last no fault is fixed
pub record HasRead (hash : List ℕ → List ℕ) (root : List ℕ) (q : Query) (told : Option Files) (name : List ℕ)
    (size before now : ℕ) : Type 0 where
  pub pieces : ℕ
  pub few : now ≤ before + pieces
  pub most : pieces ≤ piece_count size
  pub last : (pieces ≤ 1) ⊎ OfFile told name ⊥ (λ bytes. IsUnsettled hash root (question q)
      (take ((pieces - 1) * 65536) bytes))

pub to_fault : (hash : List ℕ → List ℕ) (root : List ℕ) (q : Query) (told : Option Files) (name : List ℕ)
    (size before now : ℕ) → OfFile told name ⊥ (λ bytes. size ≡ length bytes)
    → HasRead hash root q told name size before now → ReadsToFault hash root q told name before now
to_fault hash root q None name size before now long read = tt
to_fault hash root q (Some files) name size before now long read = by_found (file files name) long read.last
  where
    by_found : (o : Option (List ℕ)) → MatchOption o ⊥ (λ bytes. size ≡ length bytes)
        → (read.pieces ≤ 1)
        ⊎ MatchOption o ⊥ (λ bytes. IsUnsettled hash root (question q) (take ((read.pieces - 1) * 65536) bytes))
        → (n : ℕ) × (now ≤ before + n) × (n ≤ pieces_of o) × IsToFault hash root q o n
    by_found None long last = absurd long
    by_found (Some bytes) long last =
        (read.pieces, read.few, subst (λ n. read.pieces ≤ piece_count n) long read.most, last)

-- up to this place, where all that was read fixes no fault
pub record ReadTo (hash : List ℕ → List ℕ) (root : List ℕ) (q : Query) (told : Option Files) (name : List ℕ)
    (size at before now : ℕ) : Type 0 where
  pub read : HasRead hash root q told name size before now
  pub place : (at ≡ read.pieces * 65536) ⊎ (size ≤ at)
  pub all : (at ≡ 0) ⊎ OfFile told name ⊥ (λ bytes. IsUnsettled hash root (question q) (take at bytes))

module _ (hash : List ℕ → List ℕ) (root : List ℕ) (q : Query) (told : Option Files) (name : List ℕ)
    (size before : ℕ) where
  pub none_read : ReadTo hash root q told name size 0 before before
  none_read = record {
    read = record { pieces = 0; few = omega arith; most = omega arith; last = inl (omega arith) };
    place = inl refl;
    all = inl refl;
  }

  -- one piece more
  one_more : (at now later : ℕ) → at < size → later ≤ now + 1
      → (so : ReadTo hash root q told name size at before now)
      → (r : HasRead hash root q told name size before later) × (r.pieces ≡ so.read.pieces + 1)
  one_more at now later left one so = elim so.place [
    | inl here ↦ (
      record {
        pieces = so.read.pieces + 1;
        few = omega (arith, one, so.read.few);
        most = omega (arith, here, left);
        last = elim so.all [
          | inl first ↦ inl (omega (arith, first, here))
          | inr none ↦ inr (subst (λ k. OfFile told name ⊥ (λ bytes. IsUnsettled hash root (question q) (take k bytes)))
              (place_is here) none)
        ];
      },
      refl,
    )
    | inr end ↦ absurd (omega (arith, end, left))
  ]
    where
      place_is : at ≡ so.read.pieces * 65536 → at ≡ (so.read.pieces + 1 - 1) * 65536
      place_is here = omega (arith, here)

  pub one_read : (at now later : ℕ) → at < size → later ≤ now + 1
      → ReadTo hash root q told name size at before now → HasRead hash root q told name size before later
  one_read at now later left one so = (one_more at now later left one so).0

  -- which fixes no fault
  pub more_read : (at now later wanted count : ℕ) → at < size → later ≤ now + 1 → wanted ≡ min (size - at) 65536
      → wanted ≤ count → count ≤ wanted
      → OfFile told name ⊥ (λ bytes. IsUnsettled hash root (question q) (take (at + count) bytes))
      → ReadTo hash root q told name size at before now → ReadTo hash root q told name size (at + count) before later
  more_read at now later wanted count left one wanted_is most least none so =
      let more = one_more at now later left one so in
      record { read = more.0; place = place_is more.0.pieces more.1; all = inr none }
    where
      place_is : (n : ℕ) → n ≡ so.read.pieces + 1 → (at + count ≡ n * 65536) ⊎ (size ≤ at + count)
      place_is n is = elim so.place [
        | inl here ↦ elim (cases_Bool (ltb (size - at) 65536)) [
          | inl short ↦ inr (omega (arith, ltb-true (size - at) 65536 short, wanted_is, most))
          | inr whole ↦
              inl (omega (arith, ltb-false (size - at) 65536 whole, wanted_is, most, least, here, is))
        ]
        | inr end ↦ absurd (omega (arith, end, left))
      ]

-- ---- the command that reads so

taken_in : (said : List ℕ → Outcome) (name : List ℕ) (n : ℕ) (input : Input) → n ≤ pieces_of input
    → n ≤ reads_taken (given name (λ bytes. comes (said bytes)) input) input
taken_in said name n None few = few
taken_in said name n (Some bytes) few = few

module _ (hash : List ℕ → List ℕ) (root : List ℕ) (q : Query) (name : List ℕ) (said : List ℕ → Outcome)
    (before after : Shelved) where
  abbrev plan : Plan
  plan = needs name (λ bytes. comes (said bytes))

  few_judged : (told : Option Files) (r t : ℕ) → ReadsToFault hash root q told name r t
      → OfFiles told (λ files. (n : ℕ) × (t ≤ r + n) × (AllowsReads plan files n × IsToFault hash root q
      (file files name) n))
  few_judged None r t reads = tt
  few_judged (Some files) r t reads =
      let here = taken_in said name reads.0 (file files name) reads.2 in
      (reads.0, reads.1, ((reads.0, 0, omega arith, here, inl refl), reads.3))

  -- over any files it is what its plan says, but for the count of its reads
  pub comes_judged : (result : Result Ending Halt)
      → ReadsToFault hash root q before.files name before.reads after.reads → RunsPlan plan before after result
      → ComesAsSaid plan (LeadsToOutcome plan None) (λ files n. AllowsReads plan files n × IsToFault hash root q
      (file files name) n) before after result
  comes_judged result reads on =
      let all = comes_plain plan before after (LeadsToOutcome plan None) (AllowsReads plan) result (λ said leads. leads)
      (λ files n few. few) on in
      record {
        counts = all.counts;
        judged = all.judged;
        came = all.came;
        outside = all.outside;
        quiet = all.quiet;
        few = few_judged before.files before.reads after.reads reads;
      }
