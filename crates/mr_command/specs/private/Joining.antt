-- A map that is taken from a file into memory. This serves private functions.
use Rattle.std.specs.Prelude.{ℕ, List, Result}
use Rattle.mr_outside.specs.State.{Shelved}
use Rattle.mr_tree.specs.declared.nodes.Top.{Top}
use Rattle.mr_tree.specs.declared.stored.Stored.{Stored}
use Rattle.mr_pages.specs.declared.opening.Opened.{Opened}
use Rattle.mr_plan.specs.Plan.{Plan}
use Rattle.mr_plan.specs.Say.{needs_map, opened_in}
use Rattle.mr_command.specs.Ending.{RunsPlan}
use Rattle.mr_command.specs.private.Steps.{GoesOn, HasReadMap}
use Rattle.mr_command.specs.declared.ending.Ending.{Ending}
use Rattle.mr_command.specs.declared.ending.Halt.{Halt}

-- a file was read that stands for the map of these nodes
abbrev pub TakesMap : (List ℕ → List ℕ) → List ℕ → Shelved → Shelved → List Stored → Top → Type 0
TakesMap hash name before after nodes top =
    HasReadMap hash name before after (opened_in nodes top)

-- the command comes to its end without the map, whatever was to follow on it
abbrev pub EndsWithoutMap : (List ℕ → List ℕ) → List ℕ → Shelved → Shelved → Result Ending Halt
    → Type 0
EndsWithoutMap hash name before after came = (next : Opened → Plan) → GoesOn next before.files
    → RunsPlan (needs_map hash name next) before after came
