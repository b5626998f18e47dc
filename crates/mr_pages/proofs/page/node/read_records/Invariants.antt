use Rattle.std.proofs.Common.{◌≡◌, take}
use Rattle.std.specs.Prelude.{Some}
use Rattle.mr_pages.specs.PageBytes.{many, record_field}
use Rattle.mr_pages.proofs.page.node.read_records.Given as goal

-- the first places hold what was read so far
abbrev pub invariant-loop-place : goal.invariant-loop-place
invariant-loop-place l = many (record_field l.version) l.place-index l.bytes ≡ Some
    (take l.place-index l.places, l.rest)
