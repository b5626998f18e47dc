use Rattle.std.proofs.Common.{false, ◌≢◌, ◌≤◌, ◌<◌, length, sym, ap, subst, ◌∙◌, arith}
use Rattle.std.specs.Prelude.{IfSome}
use Rattle.std.proofs.lemmas.Result.{IfOk-weaker}
use Rattle.mr_tree.specs.View.{records_in, size}
use Rattle.mr_tree.specs.declared.tree.Tree.TheOpen as node
use Rattle.mr_pages.specs.Walking.{page_node}
use Rattle.mr_edit.specs.PageMap.{HasNode}
use Rattle.mr_edit.specs.Causes.{KnowsBelow}
use Rattle.mr_edit.proofs.Leaving.{shortens_leaf, shortens_many, shortens_one}
use Rattle.mr_edit.proofs.Looking.{can_look}
use Rattle.mr_edit.proofs.Owners.{known_writes, children_below, only_below}
use Rattle.mr_edit.proofs.Results.{if_err}
use Rattle.mr_edit.proofs.Sound.{never, handed}
use Rattle.mr_edit.proofs.FreeReads.{frees_looked, frees_below, frees_only}
use Rattle.mr_edit.proofs.removing.+shorten.Goals as goal

pub returns-then-level-eq0-clause-shortens : goal.returns-then-level-eq0-clause-shortens
returns-then-level-eq0-clause-shortens g t c =
    let view = c.read_checked.new.into in
    let is = c.records-records.ensures.leaf (sym c.level.ensures.value ∙ c.if-level-eq0.true) in
    let long : 1 ≤ length (records_in view) = subst (λ n. 1 ≤ size n) is c.in_ok-read_checked.ensures.not_empty in
    let some : length (records_in view) ≢ 0 = λ none. omega (arith, long, none) in
    shortens_leaf g.F.PageFile.scheme (g.F.PageFile.told c.args.pager.now.file) (g.F.PageFile.told
    c.read_checked.new.file)
    c.args.pager.now.free c.args.child.now (records_in view) c.in_ok-read_checked.ensures.same
    (subst (λ n. IfSome (g.F.PageFile.told c.args.pager.now.file) (λ b. HasNode b c.args.child.now.id (page_node n))) is
    c.in_ok-read_checked.ensures.node) some

pub returns-then-children-ne1-clause-shortens : goal.returns-then-children-ne1-clause-shortens
returns-then-children-ne1-clause-shortens g t c =
    let cs = c.children-children.result.now in
    let high : 0 < c.level.result = omega (arith, c.if-level-eq0.false) in
    let is = c.children-children.ensures.inner (subst (λ n. 0 < n) c.level.ensures.value high)
    ∙ ap node.Inner (sym c.children-children.ensures.value) in
    shortens_many g.F.PageFile.scheme (g.F.PageFile.told c.args.pager.now.file) (g.F.PageFile.told
    c.read_checked.new.file)
    c.args.pager.now.free c.args.child.now cs c.in_ok-read_checked.ensures.same
    (subst (λ n. IfSome (g.F.PageFile.told c.args.pager.now.file) (λ b. HasNode b c.args.child.now.id (page_node n))) is
    c.in_ok-read_checked.ensures.node) c.if-children-ne1.true

pub returns-clause-shortens : goal.returns-clause-shortens
returns-clause-shortens g t c =
    let cs = c.children-children.result.now in
    let high : 0 < c.level.result = omega (arith, c.if-level-eq0.false) in
    let is = c.children-children.ensures.inner (subst (λ n. 0 < n) c.level.ensures.value high)
    ∙ ap node.Inner (sym c.children-children.ensures.value) in
    IfOk-weaker c.shorten.result _ _
    (λ e h. shortens_one g.F.PageFile.scheme (g.F.PageFile.told c.args.pager.now.file)
    (g.F.PageFile.told c.read_checked.new.file) (g.F.PageFile.told c.free_page.new.pager.file)
    (g.F.PageFile.told c.shorten.new.pager.file)
    c.args.pager.now.free c.free_page.new.pager.free c.shorten.new.pager.free c.args.child.now cs
    c.index-children-0.result
    e c.in_ok-read_checked.ensures.same
    (subst (λ n. IfSome (g.F.PageFile.told c.args.pager.now.file) (λ b. HasNode b c.args.child.now.id (page_node n))) is
    c.in_ok-read_checked.ensures.node)
    c.if-children-ne1.false c.index-children-0.is c.in_ok-free_page.ensures.frees h)
    c.shorten.ensures.shortens

pub returns-in_err-read_checked-clause-blames_none_told : goal.returns-in_err-read_checked-clause-blames_none_told
returns-in_err-read_checked-clause-blames_none_told g t c =
    handed c.from_residual.result c.in_err-read_checked.field-0.0
    (KnowsBelow g.F.PageFile.scheme false (g.F.PageFile.told c.args.pager.now.file) c.args.pager.now.free
    c.args.child.now) c.from_residual.ensures.1
    (never c.in_err-read_checked.field-0.0 _ _
    (λ k. can_look g.F.PageFile.scheme false (g.F.PageFile.told c.args.pager.now.file) c.args.pager.now.free
    c.args.child.now k)
    c.in_err-read_checked.ensures.blames_none_told)

pub returns-in_err-free_page-clause-blames_none_told : goal.returns-in_err-free_page-clause-blames_none_told
returns-in_err-free_page-clause-blames_none_told g t c =
    handed c.from_residual-in_err-free_page.result c.in_err-free_page.field-0.0
    (KnowsBelow g.F.PageFile.scheme false (g.F.PageFile.told c.args.pager.now.file) c.args.pager.now.free
    c.args.child.now) c.from_residual-in_err-free_page.ensures.1
    (never c.in_err-free_page.field-0.0 _ _
    (λ k. known_writes g.F.PageFile.scheme false (g.F.PageFile.told c.args.pager.now.file)
    (g.F.PageFile.told c.read_checked.new.file) c.args.pager.now.free c.args.child.now
    c.in_ok-read_checked.ensures.same k)
    c.in_err-free_page.ensures.blames_none_told)

pub returns-clause-blames_none_told : goal.returns-clause-blames_none_told
returns-clause-blames_none_told g t c =
    let cs = c.children-children.result.now in
    let high : 0 < c.level.result = omega (arith, c.if-level-eq0.false) in
    let is = c.children-children.ensures.inner (subst (λ n. 0 < n) c.level.ensures.value high)
    ∙ ap node.Inner (sym c.children-children.ensures.value) in
    if_err c.shorten.result _ _
    (λ e h. never e _ _
    (λ k. only_below g.F.PageFile.scheme (g.F.PageFile.told c.free_page.new.pager.file) c.free_page.new.pager.free cs
    c.index-children-0.result c.if-children-ne1.false c.index-children-0.is
    (children_below g.F.PageFile.scheme (g.F.PageFile.told c.args.pager.now.file)
    (g.F.PageFile.told c.read_checked.new.file)
    (g.F.PageFile.told c.free_page.new.pager.file) c.args.pager.now.free c.free_page.new.pager.free c.args.child.now cs
    c.in_ok-read_checked.ensures.same
    (subst (λ n. IfSome (g.F.PageFile.told c.args.pager.now.file) (λ b. HasNode b c.args.child.now.id (page_node n))) is
    c.in_ok-read_checked.ensures.node) c.in_ok-free_page.ensures.frees k)) h)
    c.shorten.ensures.blames_none_told

pub returns-in_err-read_checked-clause-reads_at_most : goal.returns-in_err-read_checked-clause-reads_at_most
returns-in_err-read_checked-clause-reads_at_most g t c =
    frees_looked g.F.PageFile.scheme (g.F.PageFile.told c.args.pager.now.file) c.args.pager.now.free
    c.args.child.now (g.F.PageFile.reads c.args.pager.now.file) (g.F.PageFile.reads c.read_checked.new.file)
    (omega (arith, c.read_checked.ensures.reads))

pub returns-then-level-eq0-clause-reads_at_most : goal.returns-then-level-eq0-clause-reads_at_most
returns-then-level-eq0-clause-reads_at_most g t c =
    frees_looked g.F.PageFile.scheme (g.F.PageFile.told c.args.pager.now.file) c.args.pager.now.free
    c.args.child.now (g.F.PageFile.reads c.args.pager.now.file) (g.F.PageFile.reads c.read_checked.new.file)
    (omega (arith, c.read_checked.ensures.reads))

pub returns-then-children-ne1-clause-reads_at_most : goal.returns-then-children-ne1-clause-reads_at_most
returns-then-children-ne1-clause-reads_at_most g t c =
    frees_looked g.F.PageFile.scheme (g.F.PageFile.told c.args.pager.now.file) c.args.pager.now.free
    c.args.child.now (g.F.PageFile.reads c.args.pager.now.file) (g.F.PageFile.reads c.read_checked.new.file)
    (omega (arith, c.read_checked.ensures.reads))

pub returns-in_err-free_page-clause-reads_at_most : goal.returns-in_err-free_page-clause-reads_at_most
returns-in_err-free_page-clause-reads_at_most g t c =
    frees_looked g.F.PageFile.scheme (g.F.PageFile.told c.args.pager.now.file) c.args.pager.now.free
    c.args.child.now (g.F.PageFile.reads c.args.pager.now.file) (g.F.PageFile.reads c.free_page.new.pager.file)
    (omega (arith, c.read_checked.ensures.reads, c.free_page.ensures.reads))

pub returns-clause-reads_at_most : goal.returns-clause-reads_at_most
returns-clause-reads_at_most g t c =
    let cs = c.children-children.result.now in
    let high : 0 < c.level.result = omega (arith, c.if-level-eq0.false) in
    let is = c.children-children.ensures.inner (subst (λ n. 0 < n) c.level.ensures.value high)
    ∙ ap node.Inner (sym c.children-children.ensures.value) in
    frees_below g.F.PageFile.scheme (g.F.PageFile.told c.args.pager.now.file)
    (g.F.PageFile.told c.read_checked.new.file)
    (g.F.PageFile.told c.free_page.new.pager.file) c.args.pager.now.free c.free_page.new.pager.free c.args.child.now cs
    (g.F.PageFile.reads c.args.pager.now.file) (g.F.PageFile.reads c.free_page.new.pager.file)
    (g.F.PageFile.reads c.shorten.new.pager.file) c.in_ok-read_checked.ensures.same
    (subst (λ n. IfSome (g.F.PageFile.told c.args.pager.now.file) (λ b. HasNode b c.args.child.now.id (page_node n))) is
    c.in_ok-read_checked.ensures.node)
    c.in_ok-free_page.ensures.frees (omega (arith, c.read_checked.ensures.reads, c.free_page.ensures.reads))
    (frees_only g.F.PageFile.scheme (g.F.PageFile.told c.free_page.new.pager.file) c.free_page.new.pager.free cs
    c.index-children-0.result (g.F.PageFile.reads c.free_page.new.pager.file)
    (g.F.PageFile.reads c.shorten.new.pager.file) c.if-children-ne1.false c.index-children-0.is
    c.shorten.ensures.reads_at_most)
