-- Which page a refusal blames, once the root is known.
use Rattle.std.specs.Prelude.{ℕ, ◌==◌, if◌then◌else◌}
use Rattle.mr_pages.specs.declared.rule.MapRule.{MapRule}
use Rattle.mr_pages.specs.declared.rule.MapRule.TheVariants as rule
use Rattle.mr_edit.specs.declared.error.EditErr.{EditErr}
use Rattle.mr_edit.specs.declared.error.EditErr.TheVariants as errors

-- the page of the root, in the place of page 0, where no node stands
abbrev pub page_on : (root page : ℕ) → MapRule → ℕ
page_on root page rule.Page = if page == 0 then root else page
page_on root page other = page

-- the same refusal, of that page
abbrev pub blaming : (root : ℕ) → EditErr → EditErr
blaming root (errors.Map fault) =
    errors.Map (record { page = page_on root fault.page fault.rule; rule = fault.rule })
blaming root e = e
