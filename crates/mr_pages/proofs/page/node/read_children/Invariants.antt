use Rattle.std.proofs.Common.{◌≡◌, take, map}
use Rattle.std.specs.Prelude.{Some}
use Rattle.mr_pages.specs.PageBytes.{many, link_field}
use Rattle.mr_pages.specs.Walking.{child_link}
use Rattle.mr_pages.proofs.page.node.read_children.Given as goal

-- the first places hold what was read so far
abbrev pub invariant-loop-place : goal.invariant-loop-place
invariant-loop-place l = many (link_field l.version l.level) l.place-index l.bytes
    ≡ Some (map child_link (take l.place-index l.places), l.rest)
