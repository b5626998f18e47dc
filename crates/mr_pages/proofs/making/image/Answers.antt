use Rattle.mr_pages.specs.PageBytes.{form_of}
use Rattle.mr_pages.proofs.Imaged.{can_be_put, put_room, image_empty, image_some}
use Rattle.mr_pages.proofs.making.image.Goals as goal

pub put_tree-requires-clause-can : goal.put_tree-requires-clause-can
put_tree-requires-clause-can g c = can_be_put c.args.tree.now c.requires.well c.in_default.not-Empty

pub put_tree-requires-clause-room : goal.put_tree-requires-clause-room
put_tree-requires-clause-room g c = put_room c.args.tree.now c.requires.well c.in_default.not-Empty

pub returns-in-Empty : goal.returns-in-Empty
returns-in-Empty g c =
    image_empty (form_of c.args.layout) g.H.Hashes.of c.args.tree.now c.in_ok-pages.pages.items c.in-Empty.is
    c.in_ok-pages.ensures

pub returns-in_ok-root-in_default : goal.returns-in_ok-root-in_default
returns-in_ok-root-in_default g c =
    image_some (form_of c.args.layout) g.H.Hashes.of c.args.tree.now c.in_ok-pages.pages.items
    c.put_tree.new.pages.items _ c.in_default.not-Empty c.in_ok-pages.ensures c.in_ok-root-in_default.ensures.put
