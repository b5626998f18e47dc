use Rattle.std.proofs.Common.{ℕ, List, refl, sym, subst, ◌∙◌, inl, inr}
use Rattle.std.specs.Prelude.{IfSome, Err}
use Rattle.mr_tree.specs.Nodes.{MapModel}
use Rattle.mr_pages.specs.declared.head.MapHead.{MapHead}
use Rattle.mr_store.specs.Paged.{shelved, stands_for}
use Rattle.mr_command.specs.Counting.{opens_for}
use Rattle.mr_command.specs.private.Steps.{map_at, ComesBut, ReadsOpened}
use Rattle.mr_plan.specs.Plan.{comes}
use Rattle.mr_plan.specs.Say.{say_audit_of}
use Rattle.mr_plan.specs.Untold.{MaySayAudit}
use Rattle.mr_command.proofs.Audits.{read_told, read_untold, unread_told, unread_untold, read_beside, alone_beside, same_stands}
use Rattle.mr_command.proofs.audit_command.audit_file.Goals as goal

pub returns-in-Ok-clause-told : goal.returns-in-Ok-clause-told
returns-in-Ok-clause-told g c =
    let hash = g.H.Hashes.of in
    let q = c.args.query.now in
    let paged = c.args.paged.now in
    let mid = shelved c.needed_beside.new.paged in
    let new = shelved c.audit_bytes.new.paged in
    let s = stands_for paged in
    let told : MapModel → List ℕ → Type 0 = λ s bytes. IfSome s.tree (λ t. ComesBut (comes (say_audit_of hash q
    (map_at s t) bytes)) mid new c.audit_bytes.result) in
    read_told (say_audit_of hash q) (MaySayAudit hash c.args.map.now q c.args.proof.now) c.args.proof.now
    (shelved paged) mid new s c.in-Ok.bytes c.audit_bytes.result
    c.in-Ok.ensures.reads
    (subst (λ bytes. told s bytes) c.deref.ensures.value
    (subst (λ s. told s c.deref.result.now)
    (sym (same_stands paged c.needed_beside.new.paged c.in-Ok.ensures.same))
    c.audit_bytes.ensures.told))

pub returns-in-Ok-clause-untold : goal.returns-in-Ok-clause-untold
returns-in-Ok-clause-untold g c = λ none.
    let hash = g.H.Hashes.of in
    let q = c.args.query.now in
    let paged = c.args.paged.now in
    read_untold (say_audit_of hash q) (MaySayAudit hash c.args.map.now q c.args.proof.now) c.args.proof.now
    (shelved paged)
    (shelved c.needed_beside.new.paged) (shelved c.audit_bytes.new.paged) (stands_for paged) c.in-Ok.bytes
    c.audit_bytes.result c.in-Ok.ensures.reads
    (c.audit_bytes.ensures.untold (c.in-Ok.ensures.same.files ∙ none))

pub returns-in-Ok-clause-reads_at_most : goal.returns-in-Ok-clause-reads_at_most
returns-in-Ok-clause-reads_at_most g c = λ none.
    let hash = g.H.Hashes.of in
    let q = c.args.query.now in
    let paged = c.args.paged.now in
    let read = c.needed_beside.new.paged in
    let mid = shelved read in
    let new = shelved c.audit_bytes.new.paged in
    let same = c.in-Ok.ensures.same in
    let few : MapModel → ℕ → List ℕ → Type 0 = λ s pages bytes. ReadsOpened hash (opens_for q) s pages bytes mid new in
    read_beside hash (opens_for q) (stands_for paged) paged.head.pages c.args.proof.now (shelved paged) mid new
    c.in-Ok.bytes
    c.in-Ok.ensures.reads
    (subst (λ bytes. few (stands_for paged) paged.head.pages bytes) c.deref.ensures.value
    (subst (λ (h : MapHead). few (stands_for paged) h.pages c.deref.result.now) same.head
    (subst (λ s. few s read.head.pages c.deref.result.now) (sym (same_stands paged read same))
    (c.audit_bytes.ensures.reads_at_most (c.in-Ok.ensures.fetches ∙ none)))))

pub returns-in-Err-clause-reads_at_most : goal.returns-in-Err-clause-reads_at_most
returns-in-Err-clause-reads_at_most g c = λ none.
    let paged = c.args.paged.now in
    let old = shelved paged in
    alone_beside g.H.Hashes.of (opens_for c.args.query.now) (stands_for paged) paged.head.pages c.args.proof.now old old
    (shelved c.needed_beside.new.paged) (Err c.in-Err.came) c.in-Err.ensures.reads

pub returns-in-Err-clause-told : goal.returns-in-Err-clause-told
returns-in-Err-clause-told g c =
    let paged = c.args.paged.now in
    let new = shelved c.needed_beside.new.paged in
    let hash = g.H.Hashes.of in
    let q = c.args.query.now in
    unread_told (say_audit_of hash q) (MaySayAudit hash c.args.map.now q c.args.proof.now) c.args.proof.now
    (shelved paged) new new (stands_for paged) c.in-Err.came c.in-Err.ensures.reads

pub returns-in-Err-clause-untold : goal.returns-in-Err-clause-untold
returns-in-Err-clause-untold g c =
    let paged = c.args.paged.now in
    let new = shelved c.needed_beside.new.paged in
    let hash = g.H.Hashes.of in
    let q = c.args.query.now in
    unread_untold (say_audit_of hash q) (MaySayAudit hash c.args.map.now q c.args.proof.now) c.args.proof.now
    (shelved paged) new new (stands_for paged) (inr (inl refl)) c.in-Err.came c.in-Err.ensures.reads
