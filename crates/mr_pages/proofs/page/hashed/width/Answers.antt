use Rattle.std.proofs.Common.{length, sym, ap, ◌∙◌, ◌+◌, List, ℕ}
use Rattle.mr_record.specs.Record.{record_bytes}
use Rattle.mr_record.specs.declared.version.Version.{Version}
use Rattle.mr_record.specs.declared.version.Version.TheVariants.{One, Two}
use Rattle.mr_record.proofs.RecordFields.{length-record_bytes}
use Rattle.mr_pages.proofs.page.hashed.width.Goals as goal

pub returns-in-One-clause-value : goal.returns-in-One-clause-value
returns-in-One-clause-value c =
    ap (λ (bs : List ℕ). 25 + length bs) c.bytes.ensures.value ∙ sym (length-record_bytes One c.args.one.now)
    ∙ ap (λ (v : Version). length (record_bytes v c.args.one.now)) (sym c.in-One.is)

pub returns-in-Two-clause-value : goal.returns-in-Two-clause-value
returns-in-Two-clause-value c =
    ap (λ (bs : List ℕ). 26 + length bs) c.bytes-in-Two.ensures.value ∙ sym (length-record_bytes Two c.args.one.now)
    ∙ ap (λ (v : Version). length (record_bytes v c.args.one.now)) (sym c.in-Two.is)
