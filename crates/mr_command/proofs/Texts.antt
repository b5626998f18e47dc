-- A text that is written to a file by one call after another, and what a refused one leaves.
use Rattle.std.proofs.Common.{◌≡◌, ℕ, List, [], refl, sym, ap, subst, ◌∙◌, inl, inr, arith}
use Rattle.std.specs.Prelude.{false, Option, Some, None, MatchOption, IsErrOf, ⊤, Ok, Err}
use Rattle.mr_outside.specs.Faults.{Rose}
use Rattle.mr_outside.specs.Files.{Files, with_file, grown}
use Rattle.mr_outside.specs.State.{Shelved}
use Rattle.mr_outside.specs.Told.{OfFile, MayMiss}
use Rattle.mr_outside.specs.Causes.{ShelfCauses}
use Rattle.mr_outside.specs.Writing.{IsChanged, IsChangedPartly}
use Rattle.mr_outside.specs.declared.shelf.ShelfErr.{ShelfErr}
use Rattle.mr_outside.specs.declared.shelf.ShelfErr.TheVariants as shelf
use Rattle.mr_outside.proofs.Changes.{IsChanged-grown, OfFile-put}
use Rattle.mr_command.specs.Ending.{StopsCommand, halt_of}
use Rattle.mr_command.specs.private.Steps.{SavesFile}
use Rattle.mr_plan.specs.Outcome.{text}
use Rattle.mr_record.specs.RecordText.{text_of}
use Rattle.mr_record.specs.declared.version.Version.TheVariants.{One}
use Rattle.mr_tree.specs.Digest.{by}
use Rattle.mr_batch.specs.Workload.{generated}
use Rattle.mr_plan.specs.Lines.{made_line}
use Rattle.mr_plan.specs.Say.{lacks_proof_for, unless_lacking, say_make_of, say_proof_of, say_text, say_written}
use Rattle.mr_proof.specs.Honest.{proof_for}
use Rattle.mr_proof.specs.Tight.{Question}
use Rattle.mr_pages.specs.declared.opening.Opened.{Opened}

-- the call was refused, and so
abbrev Refused : ShelfErr → ShelfErr → Type 0
Refused error other = IsErrOf {T = Unit {0}} {E = ShelfErr} (Err error) other

-- why a refusal of the shelf halts a command
stops_by : (before after : Shelved) (error : ShelfErr)
    → (Refused error shelf.Missing → Rose before.faults after.faults)
    → (Refused error shelf.Fault → Rose before.faults after.faults) → StopsCommand before after (halt_of error)
stops_by before after shelf.Missing missing fault = missing refl
stops_by before after shelf.Fault missing fault = fault refl
stops_by before after shelf.NoMemory missing fault = tt

-- a file that is there is missing only at a fault
miss_rose : (told : Option Files) (name : List ℕ) (n m : ℕ) → OfFile told name ⊥ (λ bytes. ⊤)
    → MayMiss told name n m → Rose n m
miss_rose None name n m there miss = miss
miss_rose (Some files) name n m there miss =
    absurd (subst (λ o. MatchOption o ⊥ (λ bytes. ⊤)) miss there)

-- a call that was refused once the file stood there
pub stops_there : (name held : List ℕ) (before made after : Shelved) (error : ShelfErr)
    → IsChanged (with_file name) held before.files made.files → made.faults ≡ before.faults
    → ShelfCauses {A = Unit} name made after (Err error) → StopsCommand before after (halt_of error)
stops_there name held before made after error put quiet c =
    stops_by before after error
    (λ e. subst (λ n. Rose n after.faults) quiet (miss_rose made.files name made.faults after.faults
    (OfFile-put name held ⊥ (λ bytes. ⊤) before.files made.files put tt) (c.missing e)))
    (λ e. subst (λ n. Rose n after.faults) quiet (c.fault e))

module _ (name bytes : List ℕ) (before : Shelved) where
  -- it was not made
  pub text_unmade : (after : Shelved) (error : ShelfErr) → after.files ≡ before.files → after.reads ≡ before.reads
      → (Refused error shelf.Missing → before.files ≡ None) → ShelfCauses {A = Unit} name before after (Err error)
      → SavesFile name (text bytes) before after (Err (halt_of error))
  text_unmade after error same reads never c = record {
    counts = record { faults = c.faults; reads = omega (arith, reads) };
    unread = reads;
    saved = (
      stops_by before after error
          (λ e. subst (λ o. MayMiss o name before.faults after.faults) (never e) (c.missing e))
          c.fault,
      inl same,
    );
  }

  -- it was made, and written in part
  pub text_begun : (made after : Shelved) (error : ShelfErr)
      → IsChanged (with_file name) [] before.files made.files → made.faults ≡ before.faults
      → made.reads ≡ before.reads → IsChangedPartly (grown name) bytes made.files after.files
      → after.reads ≡ made.reads → ShelfCauses {A = Unit} name made after (Err error)
      → SavesFile name (text bytes) before after (Err (halt_of error))
  text_begun made after error create quiet reads part more c = record {
    counts = record { faults = omega (arith, quiet, c.faults); reads = omega (arith, reads, more) };
    unread = more ∙ reads;
    saved = (
      stops_there name [] before made after error create quiet c,
      inr (
        part.front,
        inl (part.rest, part.whole),
        IsChanged-grown name [] part.front before.files made.files after.files create part.changed,
      ),
    );
  }

  -- it was written
  pub text_put : (made after : Shelved) → IsChanged (with_file name) [] before.files made.files
      → IsChanged (grown name) bytes made.files after.files
      → IsChanged (with_file name) bytes before.files after.files
  text_put made after create put = IsChanged-grown name [] bytes before.files made.files after.files create put

  pub text_unsynced : (full after : Shelved) (error : ShelfErr)
      → IsChanged (with_file name) bytes before.files full.files → full.faults ≡ before.faults
      → full.reads ≡ before.reads → after.files ≡ full.files → after.reads ≡ full.reads
      → ShelfCauses {A = Unit} name full after (Err error)
      → SavesFile name (text bytes) before after (Err (halt_of error))
  text_unsynced full after error put quiet reads same more c = record {
    counts = record { faults = omega (arith, quiet, c.faults); reads = omega (arith, reads, more) };
    unread = more ∙ reads;
    saved = (
      stops_there name bytes before full after error put quiet c,
      inr (bytes, inr refl, same ∙ put),
    );
  }

  pub text_saved : (after : Shelved) (done : Unit) → IsChanged (with_file name) bytes before.files after.files
      → after.faults ≡ before.faults → after.reads ≡ before.reads
      → SavesFile name (text bytes) before after (Ok done)
  text_saved after done put quiet reads = record {
    counts = record { faults = omega (arith, quiet); reads = omega (arith, reads) };
    unread = reads;
    saved = ((bytes, refl, put), quiet);
  }

-- the honest proof is what was written, where there is one
pub says_proof : (hash : List ℕ → List ℕ) (a : Question) (name : List ℕ) (map : Opened) (bytes : List ℕ)
    → lacks_proof_for map.version a ≡ false → bytes ≡ proof_for (by map.version hash) a map.tree map.batch
    → say_written name bytes ≡ say_proof_of hash a name map
unfolding say_proof_of
says_proof hash a name map bytes has is =
    ap (say_written name) is
    ∙ ap (λ b. unless_lacking b (say_written name (proof_for (by map.version hash) a map.tree map.batch))) (sym has)

-- the text of generated records is what was written
pub says_made : (count seed : ℕ) (line name bytes : List ℕ) → line ≡ made_line count
    → bytes ≡ text_of One (generated count seed) → say_text line name bytes ≡ say_make_of count seed name
unfolding say_make_of
says_made count seed line name bytes lines texts = λ i. say_text (lines i) name (texts i)
