use Rattle.mr_outside.proofs.Pieces.{OfFile-map}
use Rattle.mr_pages.proofs.Filled.{front_over, piece_over, zeros_over}
use Rattle.mr_pages.proofs.reading.read_filled.Goals as goal

pub returns-in-Ok-clause-bytes : goal.returns-in-Ok-clause-bytes
returns-in-Ok-clause-bytes g c =
    piece_over (g.S.Shelf.state c.args.shelf.now).files c.args.name.now c.args.at c.in-Ok.count c.args.into.now
    c.read_at.new.into c.fill_up.new.page c.read_at.auto.into c.fill_up.ensures c.in-Ok.ensures.gives

pub returns-in-Ok-clause-rest : goal.returns-in-Ok-clause-rest
returns-in-Ok-clause-rest g c =
    zeros_over c.in-Ok.count c.args.into.now c.read_at.new.into c.fill_up.new.page c.read_at.auto.into
    c.in-Ok.ensures.fills.within c.fill_up.ensures

pub returns-in-Ok-clause-count : goal.returns-in-Ok-clause-count
returns-in-Ok-clause-count g c =
    OfFile-map (g.S.Shelf.state c.args.shelf.now).files c.args.name.now _ _ (λ file given. given.count_is)
    c.in-Ok.ensures.gives

pub returns-in-Ok-clause-front : goal.returns-in-Ok-clause-front
returns-in-Ok-clause-front g c =
    front_over (g.S.Shelf.state c.args.shelf.now).files c.args.name.now c.args.at c.in-Ok.count c.args.into.now
    c.read_at.new.into c.fill_up.new.page c.read_at.auto.into c.in-Ok.ensures.fills.within c.fill_up.ensures
    c.in-Ok.ensures.gives
