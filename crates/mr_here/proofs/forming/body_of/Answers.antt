use Rattle.std.proofs.Common.{arith}
use Rattle.mr_here.proofs.InMemory.{few_pages, longer_by}
use Rattle.mr_here.proofs.forming.body_of.Goals as goal

pub overflow_cast-pages : goal.overflow_cast-pages
overflow_cast-pages c =
    omega (
      arith,
      few_pages c.args.version c.args.old.now c.args.new.now c.requires.0 c.requires.1 c.size_in.result
          c.size_in.ensures,
    )

pub spell_changes-requires-clause-longer : goal.spell_changes-requires-clause-longer
spell_changes-requires-clause-longer c =
    longer_by c.args.version c.args.old.now c.args.new.now c.requires.0 c.requires.1 c.size_in.result c.size_in.ensures
    c.byte.result c.byte.ensures
