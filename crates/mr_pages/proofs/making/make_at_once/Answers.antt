use Rattle.std.proofs.Common.{◌≡◌, ◌/◌, ◌∙◌, length, ap, arith}
use Rattle.mr_pages.specs.PageBytes.{form_of}
use Rattle.mr_pages.specs.Saved.{saved_nodes}
use Rattle.mr_pages.proofs.Imaged.{pages_fit}
use Rattle.mr_pages.proofs.InPieces.{made_at_once}
use Rattle.mr_pages.proofs.making.make_at_once.Goals as goal

pub overflow_cast-result : goal.overflow_cast-result
overflow_cast-result g c =
    let long : c.len.result ≡ length c.in_ok-pages.pages.items = omega (arith, c.len.ensures, c.in_ok-pages.pages.ok) in
    let fit = pages_fit (form_of c.args.layout) g.H.Hashes.of c.args.tree.now c.in_ok-pages.pages.items
    c.in_ok-pages.root c.requires.well (omega (arith, c.requires.layout.room)) c.in_ok-pages.ensures in
    omega (arith, fit, ap (λ n. n / c.args.layout.size) long)

pub returns : goal.returns
returns g c =
    let form = form_of c.args.layout in
    let long : c.len.result ≡ length c.in_ok-pages.pages.items = omega (arith, c.len.ensures, c.in_ok-pages.pages.ok) in
    made_at_once form g.H.Hashes.of c.args.tree.now c.args.name.now (g.S.Shelf.state c.args.shelf.now)
    (g.S.Shelf.state c.begin.new.shelf) c.in_ok-pages.pages.items c.deref.result.now c.in_ok-pages.root
    (c.len.result / c.args.layout.size) (omega (arith, c.requires.layout.room)) c.in_ok-pages.ensures
    c.deref.ensures.value
    (c.in_ok-begin.ensures c.args.layout.size (saved_nodes form g.H.Hashes.of c.args.tree.now)
    (c.deref.ensures.value ∙ c.in_ok-pages.ensures.bytes))
    (ap (λ n. n / c.args.layout.size) long)
