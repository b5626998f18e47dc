use Rattle.std.proofs.Common.{◌≡◌, ℕ, ◌<◌, ◌≤◌, length, take}
use Rattle.std.specs.Prelude.{◌⊎◌, All, Ok, false}
use Rattle.mr_tree.specs.declared.child.Child.{Child}
use Rattle.mr_tree.specs.Digest.{by}
use Rattle.mr_pages.specs.Walking.{child_link}
use Rattle.mr_pages.specs.Source.{ReadsWithinRoom, Stay, IsReached, left}
use Rattle.mr_pages.specs.private.Walks.{GivesPages}
use Rattle.mr_pages.proofs.Visits.{WalkedBelow}
use Rattle.mr_pages.proofs.visiting.+visit.Given as goal

abbrev pub decreases-visit : goal.decreases-visit
decreases-visit g l = l.child.now.level

-- no fault was met at this node and below the children so far, and what was reached is kept
abbrev pub invariant-loop-one : goal.invariant-loop-one
invariant-loop-one g l = record {
  told : GivesPages (g.P.Source.state l.fn.pages) l.fn.seen l.seen
      (WalkedBelow (by (g.P.Source.state l.fn.pages).origin.form.version g.P.Hash.Hashes.of)
      (g.P.Source.makes (by (g.P.Source.state l.fn.pages).origin.form.version g.P.Hash.Hashes.of) false)
      (g.P.Source.held l.fn.pages) (g.P.Source.held l.pages) (g.P.Source.state l.fn.pages).pages l.fn.seen l.root
      (child_link l.child) l.one-items (take l.one-index l.one-items) l.below.items l.seen);
  room : length l.seen.reached.items ≡ length l.fn.seen.reached.items;
  goes : ReadsWithinRoom {A = Unit {0}} (g.P.Source.state l.fn.pages) (g.P.Source.state l.pages) (left l.fn.seen)
      (left l.seen)
      (Ok tt);
  kept : (page : ℕ) → IsReached l.seen page → IsReached l.fn.seen page ⊎ ((page ≡ l.child.id) ⊎ g.P.Source.keeps
      l.pages page);
  inside : All (λ (c : Child). (1 ≤ c.id) × (c.id < (g.P.Source.state l.fn.pages).pages))
      (take l.one-index l.one-items);
  stay : Stay (g.P.Source.keeps l.fn.pages) (g.P.Source.keeps l.pages);
}
