use Rattle.std.proofs.Common.{ap, sym, ◌∙◌}
use Rattle.mr_tree.specs.Digest.{by}
use Rattle.mr_draft.proofs.Replays.{replays_on, within_on, stops_on}
use Rattle.mr_draft.proofs.draft.replay_in.Goals as goal

pub returns-in-Ok-clause-replays : goal.returns-in-Ok-clause-replays
returns-in-Ok-clause-replays g c =
    let made = c.pager_of-pager.ensures in
    let again = c.sheets_of-sheets.ensures in
    let name = sym (again.same_reference ∙ c.replay-replayed.ensures.kept.same ∙ made.same_reference) in
    replays_on (by g.V.StaticVersion.version g.H.Hashes.of) c.args.root.now c.args.dir.now c.args.batch.now _ _ _ _ _ _
    (ap (λ x. x.file) made.sheets) made.free (sym (ap (λ x. x.file) (c.sheets-1.given.1 name ∙ again.sheets))) _
    c.replay-replayed.new.root c.replay-replayed.new.dir c.in-Ok.ensures.replays

pub returns-in-Ok-clause-within : goal.returns-in-Ok-clause-within
returns-in-Ok-clause-within g c =
    let made = c.pager_of-pager.ensures in
    let again = c.sheets_of-sheets.ensures in
    let name = sym (again.same_reference ∙ c.replay-replayed.ensures.kept.same ∙ made.same_reference) in
    within_on (by g.V.StaticVersion.version g.H.Hashes.of) c.args.root.now c.args.dir.now c.args.batch.now _ _ _ _ _ _
    (ap (λ x. x.file) made.sheets) made.free (sym (ap (λ x. x.file) (c.sheets-1.given.1 name ∙ again.sheets)))
    c.in-Ok.ensures.within

pub returns-in-Err-clause-within : goal.returns-in-Err-clause-within
returns-in-Err-clause-within g c =
    let made = c.pager_of-pager.ensures in
    let again = c.sheets_of-sheets.ensures in
    let name = sym (again.same_reference ∙ c.replay-replayed.ensures.kept.same ∙ made.same_reference) in
    within_on (by g.V.StaticVersion.version g.H.Hashes.of) c.args.root.now c.args.dir.now c.args.batch.now _ _ _ _ _ _
    (ap (λ x. x.file) made.sheets) made.free (sym (ap (λ x. x.file) (c.sheets-1.given.1 name ∙ again.sheets)))
    c.in-Err.ensures.within

pub returns-in-Err-clause-stops : goal.returns-in-Err-clause-stops
returns-in-Err-clause-stops g c =
    let made = c.pager_of-pager.ensures in
    stops_on (by g.V.StaticVersion.version g.H.Hashes.of) c.args.root.now c.replay-replayed.new.root c.args.dir.now
    c.replay-replayed.new.dir c.args.batch.now c.in-Err.error _ _ _ _ (ap (λ x. x.file) made.sheets) made.free
    c.in-Err.ensures.stops
