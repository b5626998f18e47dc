use Rattle.std.proofs.Common.{arith, ◌≡◌, ◌∙◌, ap, sym, subst, false, get_or}
use Rattle.mr_pages.specs.Faults.{has, first_of}
use Rattle.mr_pages.proofs.Links.{first_lost}
use Rattle.mr_pages.proofs.Chains.{none_lost}
use Rattle.mr_pages.proofs.visited.Visited.lost.Goals as goal

pub returns-then-not-index-clause-told : goal.returns-then-not-index-clause-told
returns-then-not-index-clause-told c = λ ps ns saw.
    let here : has c.loop-page.page ps ≡ false = sym (saw.reached c.loop-page.page c.loop-page-test.true)
    ∙ sym (subst (λ b. b ≡ get_or c.args.self.now.reached.items c.loop-page.page b) c.if-not-index.true
    c.index.ensures) in
    first_lost c.args.pages ps c.loop-page.page (c.loop-page.invariant ps ns saw) here c.loop-page.auto.page
    c.loop-page-test.true

pub returns-clause-told : goal.returns-clause-told
returns-clause-told c = λ ps ns saw.
    ap first_of (none_lost c.args.pages ps (λ p low high. c.loop-page.invariant ps ns saw p low
    (omega (arith, high, c.loop-page-test.false))))
