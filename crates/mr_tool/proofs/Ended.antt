-- What a run came to: that it stopped, or that its command went to its end, by the files that it read and by how its
-- text was printed.
use Rattle.std.proofs.Common.{◌≡◌, ℕ, List, refl, sym, subst, ◌∙◌, inl, inr}
use Rattle.std.specs.Prelude.{◌⊎◌, Option, Some, None, IfSome, Result, Ok, Err}
use Rattle.mr_outside.specs.Faults.{Rose}
use Rattle.mr_outside.specs.Files.{Files}
use Rattle.mr_outside.specs.Told.{OfFiles, TakesBytes}
use Rattle.mr_outside.specs.Bytes.{AreBytes}
use Rattle.mr_record.specs.declared.version.Version.{Version}
use Rattle.mr_tree.specs.WellFormed.{HasLayers}
use Rattle.mr_tree.specs.declared.tree.Tree.{Tree}
use Rattle.mr_pages.specs.File.{version_of}
use Rattle.mr_pages.specs.Law.{IsMapFile, map_in}
use Rattle.mr_pages.proofs.Answered.{stands_version}
use Rattle.mr_command.specs.Answer.{World, HasStopped, IsWhole}
use Rattle.mr_command.specs.Ending.{EndsPlan, EndsAsSaid, FindsMap, printed_of}
use Rattle.mr_command.specs.private.Steps.{PrintsEnding}
use Rattle.mr_plan.specs.Outcome.{Outcome}
use Rattle.mr_plan.specs.Plan.{Plan, comes, opens, Input, IsInput}
use Rattle.mr_plan.specs.Untold.{MaySayUntold}
use Rattle.mr_tool.specs.Asked.{HoldsBytes}
use Rattle.mr_plan.specs.Say.{given, given_map, needs, needs_map, needs_beside, say}
use Rattle.mr_command.specs.declared.ending.Ending.{Ending}
use Rattle.mr_command.specs.declared.ending.Halt.{Halt}
use Rattle.mr_command.specs.declared.ending.Halt.TheVariants as halts
use Rattle.mr_pages.specs.declared.opening.Opened.{Opened}
use Rattle.mr_plan.specs.declared.status.Status.{Status}
use Rattle.mr_plan.specs.declared.status.Status.TheVariants.{Done, Refused, Collision, Outside, NoMemory}
use Rattle.mr_plan.specs.declared.words.Command.{Command}
use Rattle.mr_command.proofs.Going.{version_by}
use Rattle.mr_command.proofs.Rereading.{IsCarriedLoudly}

-- ---- to the end, or stopped

-- a command came to its end, and its text was printed
pub record HasRun (plan : Plan) (may : Outcome → Type 0) (before after : World) (status : Status) : Type 0 where
  pub text : List ℕ
  pub ends : EndsAsSaid plan may before.shelf.files after.shelf.files status text
  pub printed : TakesBytes before.sink after.sink text

-- what stopped the printing stopped the run
stopped_printing : (before after : World) (status : Status)
    → (status ≡ NoMemory) ⊎ ((status ≡ Outside) × Rose before.sink.faults after.sink.faults)
    → HasStopped before after status
stopped_printing before after status (inl none) = inl none
stopped_printing before after status (inr failed) = inr (failed.0, inr failed.1)

abbrev pub may_be : (List ℕ → List ℕ) → Command → Outcome → Type 0
may_be hash command = MaySayUntold hash (Some command)

-- so a command is run, or it stopped
abbrev pub IsRunOr : (List ℕ → List ℕ) → Command → World → World → Status → Type 0
IsRunOr hash command before after status =
    HasRun (say hash (Some command)) (may_be hash command) before after status ⊎ HasStopped before after status

pub ran : (hash : List ℕ → List ℕ) (command : Command) (before after : World) (status : Status)
    (came : Result Ending Halt) → IsCarriedLoudly hash command before.shelf after.shelf came
    → PrintsEnding came before.sink after.sink status → IsRunOr hash command before after status
ran hash command before after status (Ok ending) came ended = elim ended.printed [
  | inl whole ↦ inl (record {
    text = printed_of ending;
    ends = subst (λ s. EndsAsSaid (say hash (Some command)) (may_be hash command) before.shelf.files
        after.shelf.files s (printed_of ending)) (sym whole.0) came.came;
    printed = whole.1;
  })
  | inr stop ↦ inr (stopped_printing before after status stop.0)
]
ran hash command before after status (Err halts.Words) came ended = absurd came.came.0
ran hash command before after status (Err halts.Shelf) came ended = inr (elim ended.printed [
  | inl whole ↦ inr (whole.0, inl came.came.0)
  | inr stop ↦ stopped_printing before after status stop.0
])
ran hash command before after status (Err halts.NoMemory) came ended = inr (inl ended.printed.0)

-- ---- over files that are told

input_is : (told : Option Files) (name bytes : List ℕ) (input : Input) → HoldsBytes told name bytes
    → IsInput told name input → input ≡ Some bytes
input_is None name bytes input held is = absurd held
input_is (Some files) name bytes input held is = sym is ∙ held

of_told : (told : Option Files) (name bytes : List ℕ) (P : Type 0) → HoldsBytes told name bytes
    → OfFiles told (λ files. P) → P
of_told None name bytes P held of = absurd held
of_told (Some files) name bytes P held of = of

-- where this file is told, a command came to its end by its plan
pub told_ends : (told after : Option Files) (name bytes : List ℕ) (plan : Plan) (may : Outcome → Type 0)
    (status : Status) (text : List ℕ) → HoldsBytes told name bytes → EndsAsSaid plan may told after status text
    → EndsPlan plan told after status text
told_ends None after name bytes plan may status text held ends = absurd held
told_ends (Some files) after name bytes plan may status text held ends = ends

-- a command that reads this file came to its end by its bytes
module _ (name bytes : List ℕ) (before after : Option Files) (status : Status) (text : List ℕ)
    (held : HoldsBytes before name bytes) where
  pub taken_on : (next : List ℕ → Plan) → EndsPlan (needs name next) before after status text
      → AreBytes bytes
  taken_on next ends = subst (λ input. IfSome input AreBytes)
      (input_is before name bytes ends.0 held ends.1) ends.2

  pub ends_on : (next : List ℕ → Plan) → EndsPlan (needs name next) before after status text
      → EndsPlan (next bytes) before after status text
  ends_on next ends = subst (λ input. EndsPlan (given name next input) before after status text)
      (input_is before name bytes ends.0 held ends.1) ends.3

-- what is opened is the map that the file stands for
pub opened_on : (v : Version) (hash : List ℕ → List ℕ) (name held : List ℕ) (t : Tree) (batch : ℕ)
    (before after : Option Files) (status : Status) (text : List ℕ) → HoldsBytes before name held
    → IsMapFile hash held (map_in v t batch)
    → (next : Opened → Plan) → EndsPlan (opens v hash held (given_map next)) before after status text
    → EndsPlan (next (map_in v t batch)) before after status text
opened_on v hash name held t batch before after status text holds stands next on =
    let finds = of_told before name held (FindsMap v hash held on.0) holds on.1.1 in
    subst (λ found. EndsPlan (given_map next found) before after status text) (finds (map_in v t batch) (refl, stands))
    on.3

-- a command that opens this file came to its end by the map that it stands for
pub map_on : (v : Version) (hash : List ℕ → List ℕ) (name held : List ℕ) (t : Tree) (batch : ℕ)
    (before after : Option Files) (status : Status) (text : List ℕ) → HoldsBytes before name held
    → IsMapFile hash held (map_in v t batch)
    → (next : Opened → Plan) → EndsPlan (needs_map hash name next) before after status text
    → EndsPlan (next (map_in v t batch)) before after status text
map_on v hash name held t batch before after status text holds stands next ends =
    opened_on v hash name held t batch before after status text holds stands next
    (subst (λ u. EndsPlan (opens u hash held (given_map next)) before after status text)
    (stands_version v hash held t batch stands.stands)
    (ends_on name held before after status text holds (λ bytes. opens (version_of bytes) hash bytes (given_map next))
    ends))

-- a command that reads a file beside the map came to its end by both
pub beside_on : (v : Version) (hash : List ℕ → List ℕ) (map held : List ℕ) (t : Tree) (batch : ℕ)
    (before after : Option Files) (status : Status) (text : List ℕ) → HoldsBytes before map held
    → IsMapFile hash held (map_in v t batch) → (name bytes : List ℕ) → HoldsBytes before name bytes
    → (said : Opened → List ℕ → Outcome) (may : Outcome → Type 0)
    → EndsAsSaid (needs_beside hash map name said) may before after status text
    → EndsPlan (comes (said (map_in v t batch) bytes)) before after status text
beside_on v hash map held t batch before after status text map_held stands name bytes name_held said may ends =
    let next : Opened → Plan = λ m. needs name (λ bytes. comes (said m bytes)) in
    let mapped = map_on v hash map held t batch before after status text map_held stands next
    (told_ends before after map held (needs_beside hash map name said) may status text map_held ends) in
    ends_on name bytes before after status text name_held (λ bytes. comes (said (map_in v t batch) bytes)) mapped

-- an outcome without a file, to its end
pub whole_of : (said : Outcome) (other : Outcome) (before after : World) (status : Status) (text : List ℕ)
    → said ≡ other → EndsPlan (comes said) before.shelf.files after.shelf.files status text
    → TakesBytes before.sink after.sink text → IsWhole other before after status
whole_of said other before after status text e on printed =
    let there : EndsPlan (comes other) before.shelf.files after.shelf.files status text =
    subst (λ o. EndsPlan (comes o) before.shelf.files after.shelf.files status text) e on in
    record { status = there.0; printed = subst (TakesBytes before.sink after.sink) there.1 printed; files = there.2 }

-- the layers of a map are those of its version
pub layers_of : (v : Version) (hash : List ℕ → List ℕ) (held : List ℕ) (t : Tree) (batch : ℕ)
    → IsMapFile hash held (map_in v t batch) → HasLayers v t
layers_of v hash held t batch stands = subst (λ u. HasLayers u t) (version_by v) stands.layers

-- ---- by the status

-- what stopped a run was not that all was done
pub not_stopped : {A : Type 0} (before after : World) (status : Status) → status ≡ Done
    → HasStopped before after status → A
not_stopped before after status done (inl none) = absurd (cc)
not_stopped before after status done (inr failed) =
    let outside : status ≡ Outside = failed.0 in absurd (cc)

pub not_refused : {A : Type 0} (status : Status) → status ≡ Done → status ≡ Refused → A
not_refused status done refused = absurd (cc)

-- a status that is not that of a collision
pub other_status : {A : Type 0} (status other : Status) → status ≡ Collision → status ≡ other
    → (Collision ≡ other → ⊥) → A
other_status status other is was not = absurd (not (sym is ∙ was))

-- what stopped a run was no collision
pub not_collided : {A : Type 0} (before after : World) (status : Status) → status ≡ Collision
    → HasStopped before after status → A
not_collided before after status is (inl none) = other_status status NoMemory is none (λ c. cc)
not_collided before after status is (inr failed) = other_status status Outside is failed.0 (λ c. cc)
