use Rattle.std.proofs.Common.{ap, ◌∙◌}
use Rattle.std.specs.Prelude.{codes}
use Rattle.mr_outside.specs.Files.{file}
use Rattle.mr_outside.specs.Memory.{MemoryShelf}
use Rattle.mr_outside.proofs.Changes.{file-with_file}
use Rattle.mr_here.proofs.forming.shelf_with.Goals as goal

pub returns : goal.returns
returns c = ap (λ (s : MemoryShelf). file s.files (codes "map")) c.in_ok-put.ensures.ok
    ∙ file-with_file (codes "map") c.args.map.now _
