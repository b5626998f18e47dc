use Rattle.std.proofs.Common.{◌≡◌, ℕ, List, length, ap, ◌∙◌, Err}
use Rattle.mr_record.specs.declared.version.Version.{Version}
use Rattle.mr_outside.specs.Bytes.{AreBytes}
use Rattle.mr_pages.specs.Law.{AgreesWithFault}
use Rattle.mr_pages.specs.PageBytes.{form_by}
use Rattle.mr_pages.proofs.Agreement.{agrees}
use Rattle.mr_pages.proofs.Answered.{bytes_there, form_by_is}
use Rattle.mr_command.specs.declared.ending.Halt.TheVariants as halts
use Rattle.mr_command.proofs.HereAll.{halts_here, missing_here}
use Rattle.mr_command.proofs.HereDone.{there_here}
use Rattle.mr_command.proofs.here_command.apply_in_place.Given
use Rattle.mr_command.proofs.here_command.apply_in_place.Goals as goal

sized : (g : Given.Over) → (xs : List ℕ) → length (g.H.Hashes.of xs) ≡ 32
sized g = (g.met.H.Hashes g.world.𝓛 g.world.𝓜 g.world.𝓡 ((λ s x. x), (λ x. x), (λ x. x), λ x. x)).sized

agree : (g : Given.Over) → (w : Version) (bytes : List ℕ) → AreBytes bytes
    → AgreesWithFault (form_by w) g.H.Hashes.of bytes
agree g w bytes are = agrees (form_by w) (form_by_is w) g.H.Hashes.of (sized g) bytes are

pub returns-in-Err-Missing : goal.returns-in-Err-Missing
returns-in-Err-Missing g c =
    let e = c.size.ensures in
    missing_here g.H.Hashes.of (agree g) c.args.map.now c.args.batch.now (g.S.Shelf.state c.args.shelf)
    (g.S.Shelf.state c.size.new.self) e.files e.causes.faults e.reads e.every
    (e.causes.missing (c.in-Err-Missing.is ∙ ap (λ x. Err x) c.in-Err-Missing.field-0-is)) c.missing.result
    c.missing.ensures

pub returns-in-Err-Fault : goal.returns-in-Err-Fault
returns-in-Err-Fault g c =
    let e = c.size.ensures in
    halts_here g.H.Hashes.of (agree g) c.args.map.now c.args.batch.now (g.S.Shelf.state c.args.shelf)
    (g.S.Shelf.state c.size.new.self) e.files e.causes.faults e.reads e.every halts.Shelf
    (e.causes.fault (c.in-Err-Fault.is ∙ ap (λ x. Err x) c.in-Err-Fault.field-0-is))

pub returns-in-Err-NoMemory : goal.returns-in-Err-NoMemory
returns-in-Err-NoMemory g c =
    let e = c.size.ensures in
    halts_here g.H.Hashes.of (agree g) c.args.map.now c.args.batch.now (g.S.Shelf.state c.args.shelf)
    (g.S.Shelf.state c.size.new.self) e.files e.causes.faults e.reads e.every halts.NoMemory tt

pub returns-in-Ok : goal.returns-in-Ok
returns-in-Ok g c =
    let e = c.size.ensures in
    let before = g.S.Shelf.state c.args.shelf in
    there_here g.H.Hashes.of (agree g) c.args.map.now c.args.batch.now before
    (g.S.Shelf.state c.size.new.self) e.files e.causes.faults e.reads e.every
    (bytes_there before.files c.args.map.now c.in-Ok.field-0 e.bytes c.in-Ok.ensures.length)
    c.in-Ok.ensures.causes.quiet (g.S.Shelf.state c.apply_there.result.1) c.apply_there.result.0 c.apply_there.ensures
