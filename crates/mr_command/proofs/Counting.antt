-- What a command reads behind a step of it, over files that are told.
use Rattle.std.proofs.Common.{◌≡◌, ℕ, ◌+◌, ◌≤◌, List, length, refl, sym, subst, inl, inr, arith}
use Rattle.std.specs.Prelude.{Option, Some, None, MatchOption}
use Rattle.mr_outside.specs.Files.{Files, file}
use Rattle.mr_outside.specs.Reading.{piece_count}
use Rattle.mr_outside.specs.Told.{OfFile, OfFiles}
use Rattle.mr_record.specs.declared.version.Version.{Version}
use Rattle.mr_pages.specs.File.{version_of}
use Rattle.mr_pages.specs.Opening.{pages_in}
use Rattle.mr_command.specs.Counting.{pieces_of, reads_taken, AllowsReads}
use Rattle.mr_plan.specs.Found.{Found, ShowsMap}
use Rattle.mr_plan.specs.Outcome.{Outcome}
use Rattle.mr_plan.specs.Plan.{Input, Plan, comes, opens, IsInput}
use Rattle.mr_plan.specs.Say.{needs, given}

-- P of the files, where they are told; here of a count of reads
abbrev pub AllowsFrom : Option Files → Plan → (before after : ℕ) → Type 0
AllowsFrom told plan before after =
    OfFiles told (λ files. (n : ℕ) × (after ≤ before + n) × AllowsReads plan files n)

abbrev pub OnceFrom : Option Files → List ℕ → (before after : ℕ) → Type 0
OnceFrom told name before after = OfFiles told (λ files. after ≤ before + pieces_of (file files name))

-- one input, by what follows on it
abbrev pub TakenFrom : Option Files → List ℕ → (List ℕ → Plan) → (before after : ℕ) → Type 0
TakenFrom told name next before after = OfFiles told
    (λ files. after ≤ before + reads_taken (given name next (file files name)) (file files name))

-- in pieces, where what follows opens no map
pub text_taken : (told : Option Files) (name : List ℕ) (said : List ℕ → Outcome) (before after : ℕ)
    → OnceFrom told name before after → TakenFrom told name (λ bytes. comes (said bytes)) before after
text_taken None name said before after once = tt
text_taken (Some files) name said before after once = by_input (file files name) once
  where
    by_input : (input : Input) → after ≤ before + pieces_of input
        → after ≤ before + reads_taken (given name (λ bytes. comes (said bytes)) input) input
    by_input None once = once
    by_input (Some bytes) once = once

-- page by page, where a map is opened
pub map_taken : (told : Option Files) (name : List ℕ) (hash : List ℕ → List ℕ)
    (next : Found → Plan) (before after : ℕ)
    → OfFile told name (after ≡ before) (λ bytes. after ≤ before + pages_in bytes)
    → TakenFrom told name (λ bytes. opens (version_of bytes) hash bytes next) before after
map_taken None name hash next before after once = tt
map_taken (Some files) name hash next before after once = by_input (file files name) once
  where
    by_input : (input : Input) → MatchOption input (after ≡ before) (λ bytes. after ≤ before + pages_in bytes)
        → after ≤ before + reads_taken (given name (λ bytes. opens (version_of bytes) hash bytes next) input) input
    by_input None same = omega (arith, same)
    by_input (Some bytes) once = once

-- what is read behind an input comes on top
pub few_behind : (told : Option Files) (name : List ℕ) (next : List ℕ → Plan) (bytes : List ℕ) (r s t : ℕ)
    → IsInput told name (Some bytes) → TakenFrom told name next r s → AllowsFrom told (next bytes) s t
    → AllowsFrom told (needs name next) r t
few_behind None name next bytes r s t is once on = tt
few_behind (Some files) name next bytes r s t is once on =
    let here : ℕ = reads_taken (given name next (file files name)) (file files name) in (
      here + on.0,
      omega (arith, once, on.1),
      (
        here,
        on.0,
        refl,
        omega arith,
        inr (subst (λ input. AllowsReads (given name next input) files on.0) (sym is) on.2),
      ),
    )

-- nothing is, where the command stops there
pub few_stopped : (told : Option Files) (name : List ℕ) (next : List ℕ → Plan) (r t : ℕ) → TakenFrom told name next r t
    → AllowsFrom told (needs name next) r t
few_stopped None name next r t once = tt
few_stopped (Some files) name next r t once =
    let here : ℕ = reads_taken (given name next (file files name)) (file files name) in
    (here, once, (here, 0, omega arith, omega arith, inl refl))

-- nothing at all
pub few_none : (told : Option Files) (said : Outcome) (r t : ℕ) → t ≡ r → AllowsFrom told (comes said) r t
few_none None said r t same = tt
few_none (Some files) said r t same = (0, omega (arith, same), refl)

pub few_found : (told : Option Files) (v : Version) (hash : List ℕ → List ℕ) (bytes : List ℕ) (next : Found → Plan)
    (found : Found) (r t : ℕ) → ShowsMap v hash bytes found → AllowsFrom told (next found) r t
    → AllowsFrom told (opens v hash bytes next) r t
few_found None v hash bytes next found r t is on = tt
few_found (Some files) v hash bytes next found r t is on = (on.0, on.1, (found, is, on.2))

once_in : (found : Option (List ℕ)) (before after : ℕ)
    → MatchOption found (after ≡ before) (λ bytes. after ≤ before + piece_count (length bytes))
    → after ≤ before + pieces_of found
once_in None before after same = omega (arith, same)
once_in (Some bytes) before after few = few

pub once_of : (told : Option Files) (name : List ℕ) (before after : ℕ)
    → OfFile told name (after ≡ before) (λ bytes. after ≤ before + piece_count (length bytes))
    → OnceFrom told name before after
once_of None name before after few = tt
once_of (Some files) name before after few = once_in (file files name) before after few

-- where nothing is read
pub once_none : (told : Option Files) (name : List ℕ) (n : ℕ) → OnceFrom told name n n
once_none None name n = tt
once_none (Some files) name n = omega arith

-- and by what follows
pub taken_none : (told : Option Files) (name : List ℕ) (next : List ℕ → Plan) (n : ℕ) → TakenFrom told name next n n
taken_none None name next n = tt
taken_none (Some files) name next n = omega arith
