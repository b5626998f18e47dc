use Rattle.std.proofs.Common.{sym, ◌∙◌}
use Rattle.std.proofs.lemmas.Slice.Eq.{bytes_eq-Decides}
use Rattle.mr_store.proofs.Caches.{found_shown}
use Rattle.mr_store.proofs.cache.find.Goals as goal

pub show-requires-clause-shape : goal.show-requires-clause-shape
show-requires-clause-shape c =
    (found_shown c.args.cache.now.entries c.args.child.now.id c.in-Some.kept.now c.in-Some.ensures c.requires).shape

pub show-requires-clause-level : goal.show-requires-clause-level
show-requires-clause-level c =
    (found_shown c.args.cache.now.entries c.args.child.now.id c.in-Some.kept.now c.in-Some.ensures c.requires).level

pub returns-else-not-are_same : goal.returns-else-not-are_same
returns-else-not-are_same c = record {
  kept = c.in-Some.kept.now;
  there = sym c.in-Some.ensures;
  that = record {
    level = c.if-kept-child.false;
    digest = (bytes_eq-Decides _ _).0 (sym c.are_same.ensures ∙ c.if-not-are_same.false);
  };
  node = c.show.ensures;
}
