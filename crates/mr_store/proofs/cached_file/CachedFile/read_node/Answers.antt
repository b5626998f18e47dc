use Rattle.mr_store.specs.CachedFile.{state_of, name_of, page_form}
use Rattle.mr_store.proofs.PageReads.{again_told, has_node, given_by, failed_given, if_shown}
use Rattle.mr_store.proofs.cached_file.CachedFile.read_node.Goals as goal

pub returns-in-Ok-clause-told : goal.returns-in-Ok-clause-told
returns-in-Ok-clause-told g c =
    let f = c.args.self.now in
    again_told (page_form f) (name_of f) f.pages c.args.child.now c.read_page.new.into c.check_page.result
    c.check_page.new.into
    g.H.Hashes.of (state_of f).files c.in-Ok.ensures.told c.check_page.ensures.told

pub returns-in-Ok-clause-has : goal.returns-in-Ok-clause-has
returns-in-Ok-clause-has g c =
    let f = c.args.self.now in
    if_shown c.check_page.result _ _ (λ spelled. has_node (page_form f) (name_of f) f.pages c.args.child.now
    c.read_page.new.into c.check_page.result c.check_page.new.into (state_of f).files c.in-Ok.ensures.told spelled)
    c.check_page.ensures.spelled

pub returns-in-Ok-clause-given : goal.returns-in-Ok-clause-given
returns-in-Ok-clause-given g c =
    let f = c.args.self.now in
    given_by (page_form f) g.H.Hashes.of f.pages c.args.child.now c.read_page.new.into c.check_page.result
    c.check_page.new.into
    c.in-Ok.ensures.page c.check_page.ensures.exact

pub returns-in-Err-clause-given : goal.returns-in-Err-clause-given
returns-in-Err-clause-given g c =
    let f = c.args.self.now in
    failed_given (page_form f) g.H.Hashes.of f.pages c.args.child.now c.in-Err.error c.from.result
    c.from.ensures
