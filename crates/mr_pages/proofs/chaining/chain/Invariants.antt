use Rattle.std.proofs.Common.{◌≡◌, ℕ, List, length}
use Rattle.std.specs.Prelude.{Ok}
use Rattle.mr_pages.specs.Walking.{Saw}
use Rattle.mr_pages.specs.Source.{ReadsWithinRoom, Stay, left}
use Rattle.mr_pages.specs.private.Walks.{GivesPages}
use Rattle.mr_pages.proofs.Links.{Followed}
use Rattle.mr_pages.proofs.chaining.chain.Given as goal

-- the chain was followed so far without a fault
abbrev pub invariant-loop : goal.invariant-loop
invariant-loop g l = record {
  told : GivesPages (g.P.Source.state l.fn.pages) l.fn.seen l.seen (λ f. (ps ns : List ℕ) →
      Saw (g.P.Source.state l.fn.pages).pages l.fn.seen ps ns →
      Followed f.free (g.P.Source.state l.fn.pages).pages l.first l.counter l.next ps ns l.seen);
  room : length l.seen.reached.items ≡ length l.fn.seen.reached.items;
  goes : ReadsWithinRoom {A = Unit {0}} (g.P.Source.state l.fn.pages) (g.P.Source.state l.pages) (left l.fn.seen)
      (left l.seen)
      (Ok tt);
  holds : g.P.Source.held l.pages ≡ g.P.Source.held l.fn.pages;
  stay : Stay (g.P.Source.keeps l.fn.pages) (g.P.Source.keeps l.pages);
}
