use Rattle.mr_draft.proofs.Objects.{grown_sheets}
use Rattle.mr_draft.proofs.sheets.Sheets.grow.Goals as goal

pub invariant_of-self : goal.invariant_of-self
invariant_of-self g c =
    let e = c.add_page.ensures in
    let s = c.args.self.now in
    record {
      sheets = grown_sheets g.H.Hashes.of s.file c.add_page.new.file e.kept.layout e.cache e.pages s.sheets
          c.add_page.result e.small e.one e.told e.loses e.same;
    }
