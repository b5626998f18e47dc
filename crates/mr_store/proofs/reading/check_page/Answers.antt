use Rattle.std.proofs.Common.{sym, ◌∙◌, ◌≡◌, true, false}
use Rattle.std.proofs.lemmas.Slice.Eq.{bytes_eq-Decides}
use Rattle.mr_tree.specs.Digest.{by}
use Rattle.mr_pages.specs.PageBytes.{form_of}
use Rattle.mr_tree.specs.View as view
use Rattle.mr_tree.proofs.Told.{told_counts}
use Rattle.mr_pages.proofs.ViewPages.{node_tells}
use Rattle.mr_store.proofs.PageReads.{shown_is, digest_shown, read_of, none_judged, changed_judged, same_judged}
use Rattle.mr_store.proofs.reading.check_page.Goals as goal

pub digest_on-found-requires-clause-counts : goal.digest_on-found-requires-clause-counts
digest_on-found-requires-clause-counts g c =
    let n = c.node_on.new.into in
    let spelled = c.node_on.ensures.written c.if-not-node_on.false in
    told_counts c.args.layout.version (view.children_in n) (node_tells c.args.layout.version n spelled.fits).children

pub returns-then-not-are_same-clause-told : goal.returns-then-not-are_same-clause-told
returns-then-not-are_same-clause-told g c = λ m there said.
    let shown = shown_is c.node_on.result c.node_on.new.into c.args.child.now.level _ m c.node_on.ensures.exact
    c.if-not-node_on.false there in
    let same = digest_shown (by c.args.layout.version g.H.Hashes.of) c.args.pages c.args.child.now c.node_on.new.into m
    c.digest_on-found.result
    shown said c.digest_on-found.ensures in
    let yes : c.are_same.result ≡ true = c.are_same.ensures ∙ (bytes_eq-Decides _ _).1 same in
    let differ : c.are_same.result ≡ false = c.if-not-are_same.true in cc

pub returns-in-None-clause-read : goal.returns-in-None-clause-read
returns-in-None-clause-read g c =
    read_of (form_of c.args.layout) g.H.Hashes.of c.args.pages c.args.child.now c.node_on.new.into c.args.page.now
    c.digest_on-found.result
    c.is_view.ensures (c.node_on.ensures.written c.if-not-node_on.false) c.digest_on-found.ensures
    ((bytes_eq-Decides _ _).0 (sym c.are_same.ensures ∙ c.if-not-are_same.false)) c.in-None.ensures.far

pub returns-then-not-node_on-clause-exact : goal.returns-then-not-node_on-clause-exact
returns-then-not-node_on-clause-exact g c =
    none_judged (form_of c.args.layout) g.H.Hashes.of c.args.pages c.args.child.now c.args.page.now c.node_on.result
    c.node_on.new.into
    c.node_on.ensures.exact c.if-not-node_on.true

pub returns-then-not-are_same-clause-exact : goal.returns-then-not-are_same-clause-exact
returns-then-not-are_same-clause-exact g c =
    changed_judged (form_of c.args.layout) g.H.Hashes.of c.args.pages c.args.child.now c.args.page.now c.node_on.result
    c.node_on.new.into
    c.digest_on-found.result c.node_on.ensures.exact c.if-not-node_on.false c.digest_on-found.ensures
    (sym c.are_same.ensures ∙ c.if-not-are_same.true)

pub returns-in-Some-clause-exact : goal.returns-in-Some-clause-exact
returns-in-Some-clause-exact g c =
    same_judged (form_of c.args.layout) g.H.Hashes.of c.args.pages c.args.child.now c.args.page.now c.node_on.result
    c.node_on.new.into
    c.digest_on-found.result c.node_on.ensures.exact c.if-not-node_on.false c.digest_on-found.ensures _
    (sym c.are_same.ensures ∙ c.if-not-are_same.false) c.in-Some.ensures.first

pub returns-in-None-clause-exact : goal.returns-in-None-clause-exact
returns-in-None-clause-exact g c =
    same_judged (form_of c.args.layout) g.H.Hashes.of c.args.pages c.args.child.now c.args.page.now c.node_on.result
    c.node_on.new.into
    c.digest_on-found.result c.node_on.ensures.exact c.if-not-node_on.false c.digest_on-found.ensures _
    (sym c.are_same.ensures ∙ c.if-not-are_same.false) c.in-None.ensures.first
