use Rattle.mr_record.specs.declared.version.Version.TheVariants.{One, Two}
use Rattle.mr_draft.proofs.Replays.{replays_in, within_in, stops_in}
use Rattle.mr_draft.proofs.draft.replay_any.Goals as goal

pub returns-in-One-clause-replays : goal.returns-in-One-clause-replays
returns-in-One-clause-replays g c =
    let f = c.args.sheets.now.file in
    replays_in g.H.Hashes.of f.layout.version One c.in-One.is c.args.root.now c.args.dir.now c.args.batch.now f
    c.replay_in.new.sheets.file c.args.free c.replay_in.result c.replay_in.new.root c.replay_in.new.dir
    c.replay_in.ensures.replays

pub returns-in-One-clause-within : goal.returns-in-One-clause-within
returns-in-One-clause-within g c =
    let f = c.args.sheets.now.file in
    within_in g.H.Hashes.of f.layout.version One c.in-One.is c.args.root.now c.args.dir.now c.args.batch.now f
    c.replay_in.new.sheets.file c.args.free c.replay_in.ensures.within

pub returns-in-Two-clause-replays : goal.returns-in-Two-clause-replays
returns-in-Two-clause-replays g c =
    let f = c.args.sheets.now.file in
    replays_in g.H.Hashes.of f.layout.version Two c.in-Two.is c.args.root.now c.args.dir.now c.args.batch.now f
    c.replay_in-in-Two.new.sheets.file c.args.free c.replay_in-in-Two.result c.replay_in-in-Two.new.root
    c.replay_in-in-Two.new.dir
    c.replay_in-in-Two.ensures.replays

pub returns-in-Two-clause-within : goal.returns-in-Two-clause-within
returns-in-Two-clause-within g c =
    let f = c.args.sheets.now.file in
    within_in g.H.Hashes.of f.layout.version Two c.in-Two.is c.args.root.now c.args.dir.now c.args.batch.now f
    c.replay_in-in-Two.new.sheets.file c.args.free c.replay_in-in-Two.ensures.within

pub returns-in-One-clause-stops : goal.returns-in-One-clause-stops
returns-in-One-clause-stops g c =
    let f = c.args.sheets.now.file in
    stops_in g.H.Hashes.of f.layout.version One c.in-One.is c.args.root.now c.args.dir.now c.args.batch.now f
    c.replay_in.new.sheets.file c.args.free c.replay_in.result c.replay_in.new.root c.replay_in.new.dir
    c.replay_in.ensures.stops

pub returns-in-Two-clause-stops : goal.returns-in-Two-clause-stops
returns-in-Two-clause-stops g c =
    let f = c.args.sheets.now.file in
    stops_in g.H.Hashes.of f.layout.version Two c.in-Two.is c.args.root.now c.args.dir.now c.args.batch.now f
    c.replay_in-in-Two.new.sheets.file c.args.free c.replay_in-in-Two.result c.replay_in-in-Two.new.root
    c.replay_in-in-Two.new.dir c.replay_in-in-Two.ensures.stops
