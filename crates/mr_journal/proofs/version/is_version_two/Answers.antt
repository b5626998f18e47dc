use Rattle.std.proofs.Common.{List, ℕ, Option, IfSome, get_or, sym, ap, subst, ◌≡◌, ◌∙◌}
use Rattle.mr_journal.specs.Images.{Image}
use Rattle.mr_journal.specs.Format.{restored}
use Rattle.mr_journal.proofs.Gating.{version_first, version_same}
use Rattle.mr_journal.proofs.Quiet.{causes_as, causes_then}
use Rattle.mr_journal.proofs.Running.{answered}
use Rattle.mr_journal.proofs.version.is_version_two.Goals as goal

pub returns-in-Some-clause-version : goal.returns-in-Some-clause-version
returns-in-Some-clause-version g c =
    let h = c.in_ok-held.held in
    version_first h.journal.items h.map_length (g.D.Disk.state c.args.disk.now).contents c.in-Some.byte
    c.in_ok-held.ensures.held
    (λ map long. ap (λ (j : List ℕ). get_or (restored (record { map = map; journal = j })) 4 0)
    (sym c.as_slice.ensures.value) ∙ c.in-Some.ensures map long)

pub returns-clause-version : goal.returns-clause-version
returns-clause-version g c =
    let h = c.in_ok-held.held in
    let byte = c.in_ok-map_byte-in-None.field-0 in
    version_same h.journal.items h.map_length (g.D.Disk.state c.args.disk.now).contents byte
    c.in_ok-held.ensures.held
    (λ map long. ap (λ (j : List ℕ). get_or (restored (record { map = map; journal = j })) 4 0)
    (sym c.as_slice.ensures.value) ∙ c.in-None.ensures map long)
    (subst (λ (o : Option Image). IfSome o (λ k. byte ≡ get_or k.map 4 0)) c.read_journal.ensures.contents
    c.in_ok-map_byte-in-None.ensures.byte)

pub returns-clause-causes : goal.returns-clause-causes
returns-clause-causes g c =
    let byte = c.in_ok-map_byte-in-None.field-0 in
    causes_as _ _ byte _
    (causes_then _ _ _ c.in_ok-held.held (answered byte) c.in_ok-held.ensures.causes
    c.in_ok-map_byte-in-None.ensures.causes)
