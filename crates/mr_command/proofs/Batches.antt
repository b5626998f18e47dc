-- What is said of a batch, by whether it may be applied.
use Rattle.std.proofs.Common.{◌≡◌, ℕ, List, get_or, refl, ap}
use Rattle.std.specs.Prelude.{All, Option, Some, None, Ok, Err}
use Rattle.mr_record.specs.declared.record.Record.{Record}
use Rattle.mr_tree.specs.Tree.{records}
use Rattle.mr_batch.specs.Admissible.{batch_fault}
use Rattle.mr_batch.specs.Applied.{IsAdmissible}
use Rattle.mr_batch.specs.Changes.{Changes}
use Rattle.mr_batch.specs.declared.admission.BatchFault.{BatchFault}
use Rattle.mr_batch.proofs.Walking.{admitted}
use Rattle.mr_record.specs.declared.version.Version.{Version}
use Rattle.mr_batch.proofs.BatchTexts.{answer_written}
use Rattle.mr_batch.specs.BatchText.{batch_of_text, IsChange}
use Rattle.mr_batch.specs.declared.change.Change.{Change}
use Rattle.mr_batch.specs.declared.change.Change.TheVariants.{Add, Remove}
use Rattle.mr_edit.specs.Replayed.{IsOfVersion}
use Rattle.mr_plan.specs.Say.{say_admitted, say_batch, say_changed}
use Rattle.mr_pages.specs.declared.opening.Opened.{Opened}

-- nothing hinders a batch that may be applied
pub no_fault : (rs : List Record) (held : ℕ) (b : Changes) → IsAdmissible rs held b → batch_fault rs held b ≡ None
no_fault rs held b may = at (batch_fault rs held b) refl
  where
    at : (o : Option BatchFault) → batch_fault rs held b ≡ o → batch_fault rs held b ≡ None
    at None e = e
    at (Some f) e = let fine = (admitted (Err f) rs held b e).1 may in absurd cc

-- and where nothing hinders it, it may be
pub fits_if_none : (rs : List Record) (held : ℕ) (b : Changes) → batch_fault rs held b ≡ None → IsAdmissible rs held b
fits_if_none rs held b e = (admitted (Ok tt) rs held b e).0 refl

pub says_applied : (hash : List ℕ → List ℕ) (new : List ℕ) (pages : ℕ) (map : Opened) (b : Changes)
    → IsAdmissible (records map.tree) map.batch b
    → say_batch hash new pages map b ≡ say_changed map.version hash new pages map.tree b
says_applied hash new pages map b may =
    ap (say_admitted map.version hash new pages map.tree b) (no_fault (records map.tree) map.batch b may)

of_change : (v : Version) (c : Change) → IsChange v c → IsOfVersion v c
of_change v (Add r) is = is.1
of_change v (Remove n) is = tt

-- the changes of a text of a version are of that version
pub of_text : (v : Version) (text : List ℕ) (b : Changes) → batch_of_text v text ≡ Ok b → All (IsOfVersion v) b.list
of_text v text b e k d within =
    of_change v (get_or b.list k d) ((answer_written v text (Ok b) e).0.changes.each k d within)
