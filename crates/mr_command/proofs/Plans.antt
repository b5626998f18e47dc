-- What plans lead to.
use Rattle.std.proofs.Common.{◌≡◌, ℕ, List, [], refl, sym, ap, subst, ◌∙◌, inl, inr, rules}
use Rattle.std.specs.Prelude.{Option, Some, None, option_map}
use Rattle.mr_outside.specs.Files.{Files, file, with_file}
use Rattle.mr_outside.specs.Bytes.{AreBytes}
use Rattle.mr_command.specs.Ending.{AreJudged, EndsPlan, GivesUpPlan}
use Rattle.mr_plan.specs.Outcome.{Outcome, Written, Nothing, File, InPlace, LeavesWritten, MayLeave}
use Rattle.mr_plan.specs.Plan.{Plan, comes, reads, opens, seeks, Input, IsInput, IsSought, LacksInput, LeadsToOutcome, IsOutcomeOver}
use Rattle.mr_plan.specs.declared.status.Status.{Status}
use Rattle.mr_plan.proofs.InPlace.{untold_beside}
use Rattle.mr_command.proofs.Showing.{found_in, one_found}

-- what the file of this name holds, or any content
input_of : (told : Option Files) (name : List ℕ) → (input : Input) × IsInput told name input
input_of None name = (None, tt)
input_of (Some files) name = (file files name, refl)

-- what the file of this name holds, none where it is absent, or any content
sought_of : (told : Option Files) (name : List ℕ) → (bytes : List ℕ) × IsSought told name bytes
sought_of None name = ([], all_none)
  where
    all_none : AreBytes []
    all_none = search rules
sought_of (Some files) name = (_, refl)

-- each plan leads to an outcome
pub leads_on : (plan : Plan) (told : Option Files) → AreJudged plan told → (said : Outcome) × LeadsToOutcome plan
    told said
leads_on (comes said) told judged = (said, refl)
leads_on (reads name next) told judged =
    let input = input_of told name in
    let on = leads_on (next input.0) told (judged input.0 input.1) in
    (on.0, (input.0, input.1, on.1))
leads_on (opens v hash bytes next) told judged =
    let found = found_in v hash bytes judged.0 in
    let on = leads_on (next found.0) told (judged.1 found.0 found.1) in
    (on.0, (found.0, found.1, on.1))
leads_on (seeks name next) told judged =
    let sought = sought_of told name in
    let on = leads_on (next sought.0) told (judged sought.0 sought.1) in
    (on.0, (sought.0, sought.1, on.1))

-- and over files that are told, to one
pub one_outcome : (plan : Plan) (files : Files) → AreJudged plan (Some files) → (said : Outcome)
    → LeadsToOutcome plan (Some files) said → IsOutcomeOver plan files said
one_outcome (comes meant) files judged said leads = leads
one_outcome (reads name next) files judged said leads =
    one_outcome (next (file files name)) files (judged (file files name) refl) said
    (subst (λ input. LeadsToOutcome (next input) (Some files) said) (sym leads.1) leads.2)
one_outcome (opens v hash bytes next) files judged said leads = λ found shown.
    one_outcome (next found) files (judged.1 found shown) said
    (subst (λ f. LeadsToOutcome (next f) (Some files) said)
    (one_found v hash bytes judged.0 leads.0 found leads.1 shown) leads.2)
one_outcome (seeks name next) files judged said leads =
    subst (λ bytes. IsOutcomeOver (next bytes) files said) (sym leads.1)
    (one_outcome (next leads.0) files (judged leads.0 leads.1) said leads.2)

-- an outcome of this status and text, with the files left as it says
pub record HasEnded (plan : Plan) (before after : Option Files) (status : Status) (text : List ℕ)
    : Type 0 where
  pub said : Outcome
  pub leads : LeadsToOutcome plan before said
  pub status_is : status ≡ said.status
  pub text_is : text ≡ said.printed
  pub files : LeavesWritten said.written before after

pub ended_so : (plan : Plan) (before after : Option Files) (status : Status) (text : List ℕ)
    → EndsPlan plan before after status text → HasEnded plan before after status text
ended_so (comes said) before after status text ends = record
    { said = said; leads = refl; status_is = ends.0; text_is = ends.1; files = ends.2 }
ended_so (reads name next) before after status text ends =
    let on = ended_so (next ends.0) before after status text ends.3 in
    record {
      said = on.said;
      leads = (ends.0, ends.1, on.leads);
      status_is = on.status_is;
      text_is = on.text_is;
      files = on.files;
    }
ended_so (opens v hash bytes next) before after status text ends =
    let on = ended_so (next ends.0) before after status text ends.3 in
    record {
      said = on.said;
      leads = (ends.0, ends.1.0, on.leads);
      status_is = on.status_is;
      text_is = on.text_is;
      files = on.files;
    }
ended_so (seeks name next) before after status text ends =
    let on = ended_so (next ends.0) before after status text ends.2 in
    record {
      said = on.said;
      leads = (ends.0, ends.1, on.leads);
      status_is = on.status_is;
      text_is = on.text_is;
      files = on.files;
    }

-- an outcome that was not reached, with the files left as it allows
pub record HasGivenUp (plan : Plan) (before after : Option Files) : Type 0 where
  pub said : Outcome
  pub leads : LeadsToOutcome plan before said
  pub files : MayLeave said.written before after

pub stays : (written : Written) (before after : Option Files) → after ≡ before
    → MayLeave written before after
stays Nothing before after same = same
stays (File name content) before after same = inl same
stays (InPlace map journal held content) before after same = inl same

-- where files are not told, none is left otherwise
pub last_leaves : (written : Written) (before after : Option Files) → before ≡ None → MayLeave written before after
    → after ≡ before
last_leaves Nothing before after none may = may
last_leaves (File name content) before after none (inl same) = same
last_leaves (File name content) before after none (inr held) =
    held.2 ∙ ap (option_map (with_file name held.0)) none ∙ sym none
last_leaves (InPlace map journal held content) before after none (inl same) = same
last_leaves (InPlace map journal held content) before after none (inr beside) =
    untold_beside map journal before after none beside.0

pub given_up : (plan : Plan) (before after : Option Files) → AreJudged plan before → GivesUpPlan plan before after
    → HasGivenUp plan before after
given_up (comes said) before after judged up = record { said = said; leads = refl; files = up }
given_up (reads name next) before after judged (inl same) =
    let on = leads_on (reads name next) before judged in
    record { said = on.0; leads = on.1; files = stays on.0.written before after same }
given_up (reads name next) before after judged (inr up) =
    let on = given_up (next up.0) before after (judged up.0 up.1) up.2 in
    record { said = on.said; leads = (up.0, up.1, on.leads); files = on.files }
given_up (opens v hash bytes next) before after judged up =
    let on = given_up (next up.0) before after (judged.1 up.0 up.1) up.2 in
    record { said = on.said; leads = (up.0, up.1, on.leads); files = on.files }
given_up (seeks name next) before after judged (inl same) =
    let on = leads_on (seeks name next) before judged in
    record { said = on.0; leads = on.1; files = stays on.0.written before after same }
given_up (seeks name next) before after judged (inr up) =
    let on = given_up (next up.0) before after (judged up.0 up.1) up.2 in
    record { said = on.said; leads = (up.0, up.1, on.leads); files = on.files }

-- ---- over files that are not told

-- no input is told to be absent
pub lacks_none : (plan : Plan) → LacksInput plan None → ⊥
lacks_none (comes said) lacks = lacks
lacks_none (reads name next) (inl absent) = absent
lacks_none (reads name next) (inr on) = lacks_none (next on.0) on.2
lacks_none (opens v hash bytes next) lacks = lacks_none (next lacks.0) lacks.2
lacks_none (seeks name next) lacks = lacks_none (next lacks.0) lacks.2

-- no file is left otherwise
pub up_none : (plan : Plan) (after : Option Files) → GivesUpPlan plan None after → after ≡ None
up_none (comes said) after up = last_leaves said.written None after refl up
up_none (reads name next) after (inl same) = same
up_none (reads name next) after (inr on) = up_none (next on.0) after on.2
up_none (opens v hash bytes next) after up = up_none (next up.0) after up.2
up_none (seeks name next) after (inl same) = same
up_none (seeks name next) after (inr on) = up_none (next on.0) after on.2
