use Rattle.std.proofs.Common.{arith}
use Rattle.mr_pack.proofs.Numbers.{slice_within}
use Rattle.mr_pack.proofs.grouping.slice_start.Goals as goal

pub returns-clause-within : goal.returns-clause-within
returns-clause-within c =
    omega (
      arith,
      c.group_start.ensures,
      slice_within c.args.count c.args.groups c.args.slices c.args.slice
          c.requires.some c.requires.some_slices c.requires.within,
    )
