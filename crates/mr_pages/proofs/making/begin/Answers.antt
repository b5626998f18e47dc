use Rattle.mr_pages.proofs.Written.{begun_or_not}
use Rattle.mr_pages.proofs.making.begin.Goals as goal

pub returns : goal.returns
returns g c = λ size behind is.
    begun_or_not size c.args.name.now c.args.bytes.now behind is (g.S.Shelf.state c.args.shelf.now)
    (g.S.Shelf.state c.create.new.self) c.in_ok-create.ensures.made c.in_ok-create.ensures.causes.quiet
    c.in_ok-create.ensures.reads (g.S.Shelf.state c.append.new.self) c.append.result c.append.ensures.writes
    c.append.ensures.causes
