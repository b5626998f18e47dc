use Rattle.std.proofs.Common.{◌≡◌, false, length, ap, subst, sym, ◌∙◌}
use Rattle.mr_store.specs.CachedFile.{state_of, name_of, page_form, entries_of}
use Rattle.mr_store.specs.Kept.{keeps_opened}
use Rattle.mr_store.specs.private.Paging.{HoldsPage}
use Rattle.mr_store.proofs.Recorded.{any_ok, listed_over}
use Rattle.mr_store.proofs.Sources.{still_paging, keeps_more, held_full, unchecked_at}
use Rattle.mr_store.proofs.paging.PagingSource.make.Goals as goal

pub invariant_of-self : goal.invariant_of-self
invariant_of-self g c = record { paging = c.args.self.now.paging }

pub invariant_of-self-2 : goal.invariant_of-self-2
invariant_of-self-2 g c =
    let s = c.args.self.now in
    let f = s.file in
    record {
      paging = unchecked_at g.H.Hashes.of f c.keep.new.self s.first.now c.keep.ensures.only
          (still_paging (page_form f) g.H.Hashes.of (state_of f).files (name_of f) f.pages s.first.now f.cache
          c.keep.new.self.cache s.paging c.args.child.now c.args.node (state_of f).faults (state_of f).reads
          c.requires c.keep.result c.keep.ensures.gains c.keep.ensures.same c.keep.ensures.only.cap);
    }

pub returns-clause-made : goal.returns-clause-made
returns-clause-made g c =
    any_ok c.keep.result _ (λ m x root before ts suits all.
    listed_over c.args.node before c.args.self.now.list c.list_node.new.list c.args._below.items ts all
    c.in_ok-list_node.ensures)

pub returns-clause-stay : goal.returns-clause-stay
returns-clause-stay g c = λ page held.
    let s = c.args.self.now in
    let f = s.file in
    subst (λ n. HoldsPage n (entries_of c.keep.new.self) page) (sym c.keep.ensures.only.file.pages)
    (keeps_more (page_form f) g.H.Hashes.of (state_of f).files (name_of f) f.pages s.first.now f.cache
    c.keep.new.self.cache s.paging c.args.child.now c.args.node (state_of f).faults (state_of f).reads c.requires
    c.keep.result c.len-count.ensures.valid c.keep.ensures.gains c.keep.ensures.same page held)

pub returns-then-not-is_kept-clause-made : goal.returns-then-not-is_kept-clause-made
returns-then-not-is_kept-clause-made g c = λ x root before ts suits all.
    listed_over c.args.node before c.args.self.now.list c.list_node.new.list c.args._below.items ts all
    c.in_ok-list_node.ensures

pub returns-then-not-is_kept-clause-kept : goal.returns-then-not-is_kept-clause-kept
returns-then-not-is_kept-clause-kept g c =
    let s = c.args.self.now in
    let f = s.file in
    held_full (page_form f) g.H.Hashes.of (state_of f).files (name_of f) f.pages s.first.now f.cache
    f.cache s.paging c.args.child.now c.args.node (state_of f).faults (state_of f).reads c.requires
    c.len-count.ensures.valid (ap (λ k. keeps_opened k c.args.node) (sym c.len-count.ensures.len)
    ∙ sym c.is_kept.ensures ∙ c.if-not-is_kept.true)
