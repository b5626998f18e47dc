use Rattle.std.proofs.Common.{ℕ, List, length, ◌≡◌}
use Rattle.mr_outside.specs.Bytes.{AreBytes}
use Rattle.mr_pages.specs.File.{form_at, version_of}
use Rattle.mr_pages.specs.Law.{AgreesWithFault}
use Rattle.mr_pages.specs.PageBytes.{form_by}
use Rattle.mr_pages.proofs.Agreement.{agrees}
use Rattle.mr_pages.proofs.Answered.{form_by_is}
use Rattle.mr_plan.specs.Plan.{Plan, comes}
use Rattle.mr_plan.specs.Say.{needs_map, opened_in, say_join_of}
use Rattle.mr_pages.specs.declared.opening.Opened.{Opened}
use Rattle.mr_command.proofs.Going.{comes_map}
use Rattle.mr_command.proofs.Joined.{goes_second, judged_any}
use Rattle.mr_command.proofs.join_command.join.Given
use Rattle.mr_command.proofs.join_command.join.Goals as goal

sized : (g : Given.Over) → (xs : List ℕ) → length (g.H.Hashes.of xs) ≡ 32
sized g = (g.met.H.Hashes g.world.𝓛 g.world.𝓜 g.world.𝓡 ((λ s x. x), (λ x. x), (λ x. x), λ x. x)).sized

agree : (g : Given.Over) → (bytes : List ℕ) → AreBytes bytes → AgreesWithFault (form_at bytes) g.H.Hashes.of bytes
agree g bytes are =
    agrees (form_by (version_of bytes)) (form_by_is (version_of bytes)) g.H.Hashes.of (sized g) bytes are

pub returns-in-Ok : goal.returns-in-Ok
returns-in-Ok g c =
    let hash = g.H.Hashes.of in
    let next : Opened → Opened → Plan = λ one other. comes (say_join_of hash c.args.proof.now one other) in
    let before = g.S.Shelf.state c.args.shelf.now in
    let e = c.in-Ok.ensures in
    let nodes = c.in-Ok.nodes in
    comes_map hash c.args.first.now (λ one. needs_map hash c.args.second.now (next one)) before
    (g.S.Shelf.state c.take_map.new.shelf) (g.S.Shelf.state c.join_file.new.shelf)
    (opened_in nodes.nodes.items nodes.top) c.join_file.result e.takes
    (goes_second hash c.args.second.now next before.files
    (judged_any hash before.files c.args.second.now (e.every c.args.second.now) (agree g))
    (λ one other. tt)) c.join_file.ensures

pub returns-in-Err : goal.returns-in-Err
returns-in-Err g c =
    let hash = g.H.Hashes.of in
    let next : Opened → Opened → Plan = λ one other. comes (say_join_of hash c.args.proof.now one other) in
    let before = g.S.Shelf.state c.args.shelf.now in
    let e = c.in-Err.ensures in
    e.takes (λ one. needs_map hash c.args.second.now (next one))
    (goes_second hash c.args.second.now next before.files
    (judged_any hash before.files c.args.second.now (e.every c.args.second.now) (agree g))
    (λ one other. tt))
