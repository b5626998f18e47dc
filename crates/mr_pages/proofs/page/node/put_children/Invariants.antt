use Rattle.std.proofs.Common.{◌≡◌, ◌+◌, ◌*◌, ◌++◌, take, map}
use Rattle.std.specs.List.{flat_map}
use Rattle.mr_pages.specs.PageBytes.{link_bytes, link_size}
use Rattle.mr_pages.specs.Walking.{child_link}
use Rattle.mr_pages.proofs.page.node.put_children.Given as goal

abbrev pub invariant-loop-child : goal.invariant-loop-child
invariant-loop-child l = record {
  place : l.place ≡ l.at + link_size l.version * l.child-index;
  bytes : take l.place l.page ≡ take l.at l.fn.page ++ flat_map (link_bytes l.version)
      (map child_link (take l.child-index l.children));
}
