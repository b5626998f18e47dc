-- The exit statuses of the program.
use Rattle.std.specs.Prelude.{ℕ}
use Rattle.mr_plan.specs.declared.status.Status.{Status}
use Rattle.mr_plan.specs.declared.status.Status.TheVariants.{Done, BadWords, Refused, BadText, BadMap, BadBatch, Collision, Outside, NoMemory, NeedsVersion2}

abbrev pub code_of : Status → ℕ
code_of Done = 0
code_of BadWords = 1
code_of Refused = 2
code_of BadText = 3
code_of BadMap = 4
code_of BadBatch = 5
code_of Collision = 6
code_of Outside = 7
code_of NoMemory = 8
code_of NeedsVersion2 = 10
