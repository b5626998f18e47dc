use Rattle.std.proofs.Common.{inl, inr, refl}
use Rattle.std.proofs.lemmas.Result.{err_from_is_err_and, IfErr-weaker}
use Rattle.mr_tree.specs.Digest.{by}
use Rattle.mr_store.specs.CachedFile.{state_of}
use Rattle.mr_edit.specs.Changing.{CanReplay}
use Rattle.mr_edit.specs.Shelves.{HasShelfCause}
use Rattle.mr_edit.proofs.Alike.{handed_on}
use Rattle.mr_draft.specs.Draft.{draft_state, draft_of, StopsBatch}
use Rattle.mr_draft.specs.Sheets.{page_map_of}
use Rattle.mr_draft.proofs.Ends.{keeps_draft, blames_none, can_replay, applied, applied_within, is_top, off_none, on_any, stops_at}
use Rattle.mr_draft.proofs.draft.Draft.apply_batch.Goals as goal

pub returns-in_err-free-clause-kept : goal.returns-in_err-free-clause-kept
returns-in_err-free-clause-kept g c =
    let s = c.args.self.now in
    let t = c.replay_any.new.sheets in
    let k = c.replay_any.ensures.kept in
    keeps_draft g.H.Hashes.of (draft_of s) (draft_state t.file s.free c.replay_any.new.root s.count s.batch)
    t.sheets.sized k.name k.pages
    k.files k.faults k.reads k.layout
    t.sheets.file_

pub returns-clause-kept : goal.returns-clause-kept
returns-clause-kept g c =
    let s = c.args.self.now in
    let t = c.replay_any.new.sheets in
    let k = c.replay_any.ensures.kept in
    keeps_draft g.H.Hashes.of (draft_of s)
    (draft_state t.file c.in_ok-free.free c.replay_any.new.root c.len.result c.number-self.result) t.sheets.sized k.name
    k.pages
    k.files k.faults k.reads k.layout
    t.sheets.file_

pub returns-in_err-free-clause-blames_none_told : goal.returns-in_err-free-clause-blames_none_told
returns-in_err-free-clause-blames_none_told g c = λ u can.
    let s = c.args.self.now in
    let t = c.replay_any.new.sheets in
    let p = err_from_is_err_and c.from_residual.result c.from_residual.ensures.1 in
    rw (p.1, p.2)
    (blames_none (CanReplay (by s.sheets.file.layout.version g.H.Hashes.of) (page_map_of s.sheets.file) s.free s.root
    c.args.dir.now c.args.batch.now) (state_of s.sheets.file).faults (state_of t.file).faults
    c.in_err-free.field-0.0 (can_replay g.H.Hashes.of (draft_of s) c.args.dir.now c.args.batch.now u can)
    c.in_err-free.ensures.cause c.in_err-free.ensures.blames_none_told)

pub returns-clause-applies : goal.returns-clause-applies
returns-clause-applies g c =
    let s = c.args.self.now in
    let t = c.replay_any.new.sheets in
    on_any c.judge_top.result
    (applied g.H.Hashes.of (draft_of s) c.args.dir.now c.args.batch.now
    (draft_state t.file c.in_ok-free.free c.replay_any.new.root c.len.result c.number-self.result) c.replay_any.new.dir
    c.replay_any.ensures.kept.layout c.in_ok-free.ensures.replays c.len.ensures.exact)

pub returns-clause-blames_none_told : goal.returns-clause-blames_none_told
returns-clause-blames_none_told g c = λ u can.
    let s = c.args.self.now in
    let t = c.replay_any.new.sheets in
    let after = draft_state t.file c.in_ok-free.free c.replay_any.new.root c.len.result c.number-self.result in
    let a = applied g.H.Hashes.of (draft_of s) c.args.dir.now c.args.batch.now after c.replay_any.new.dir
    c.replay_any.ensures.kept.layout c.in_ok-free.ensures.replays c.len.ensures.exact u can in
    off_none (HasShelfCause (state_of s.sheets.file).faults (state_of t.file).faults)
    c.judge_top.result c.len.result c.replay_any.new.root c.judge_top.ensures.off
    (is_top g.H.Hashes.of after _ a.draft)

pub returns-in_err-free-clause-within : goal.returns-in_err-free-clause-within
returns-in_err-free-clause-within g c =
    let s = c.args.self.now in
    applied_within g.H.Hashes.of (draft_of s) c.args.dir.now c.args.batch.now (state_of s.sheets.file).reads
    (state_of c.replay_any.new.sheets.file).reads c.replay_any.ensures.within

pub returns-clause-within : goal.returns-clause-within
returns-clause-within g c =
    let s = c.args.self.now in
    applied_within g.H.Hashes.of (draft_of s) c.args.dir.now c.args.batch.now (state_of s.sheets.file).reads
    (state_of c.replay_any.new.sheets.file).reads c.replay_any.ensures.within

pub returns-clause-low : goal.returns-clause-low
returns-clause-low g c = on_any c.judge_top.result c.replay_any.ensures.low

pub returns-in_err-free-clause-stops : goal.returns-in_err-free-clause-stops
returns-in_err-free-clause-stops g c =
    let s = c.args.self.now in
    let after = draft_state c.replay_any.new.sheets.file s.free c.replay_any.new.root s.count s.batch in
    let is = c.in_err-free.ensures in
    handed_on c.from_residual.result c.in_err-free.field-0.0
    (StopsBatch g.H.Hashes.of (draft_of s) c.args.dir.now c.args.batch.now after c.replay_any.new.dir)
    c.from_residual.ensures.1
    (inl (stops_at g.H.Hashes.of (draft_of s) c.args.dir.now c.args.batch.now after c.replay_any.new.dir
    c.in_err-free.field-0.0 is.stops is.cause is.page refl refl))

pub returns-clause-stops : goal.returns-clause-stops
returns-clause-stops g c =
    IfErr-weaker c.judge_top.result _ _ (λ e off. inr (record { batch = c.number-self.ensures; off = off }))
    c.judge_top.ensures.off

pub returns-in_err-free-clause-at_most : goal.returns-in_err-free-clause-at_most
returns-in_err-free-clause-at_most g c = c.replay_any.new.sheets.sheets.few

pub returns-clause-at_most : goal.returns-clause-at_most
returns-clause-at_most g c = c.replay_any.new.sheets.sheets.few
