use Rattle.std.proofs.Common.{◌≡◌, ◌*◌, ◌-◌, ◌≤◌, length}
use Rattle.std.specs.Prelude.{max}
use Rattle.mr_outside.specs.State.{Shelved}
use Rattle.mr_pages.specs.PageBytes.{form_of}
use Rattle.mr_store.specs.CachedFile.{state_of, name_of}
use Rattle.mr_draft.specs.Sheets.{HasCopied, IsFiled, OnlyWrites}
use Rattle.mr_draft.proofs.copying.copy_pages.Given as goal

abbrev pub invariant-loop-page : goal.invariant-loop-page
invariant-loop-page g l = record {
  positive : 1 ≤ l.page;
  within : l.page ≤ max 1 l.initial.file.pages;
  room : length l.room ≡ 16 * l.initial.file.layout.size;
  only : OnlyWrites l.initial.file l.file;
  so_far : (s : Shelved) → IsFiled s.files l.old →
      HasCopied (form_of l.initial.file.layout) l.old (name_of l.initial.file) l.initial.file.pages 1 s
      (state_of l.initial.file) →
      HasCopied (form_of l.initial.file.layout) l.old (name_of l.initial.file) l.initial.file.pages l.page s
      (state_of l.file);
}

abbrev pub decreases-loop-page : goal.decreases-loop-page
decreases-loop-page g l = l.file.pages - l.page
