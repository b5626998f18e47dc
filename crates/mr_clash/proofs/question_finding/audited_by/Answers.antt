use Rattle.std.proofs.Common.{◌∙◌, sym, arith}
use Rattle.std.specs.Prelude.{option_map}
use Rattle.mr_record.proofs.Encodings.{IsBytes}
use Rattle.mr_tree.specs.Digest.{by}
use Rattle.mr_proof.proofs.Soundness.{shows_from}
use Rattle.mr_clash.specs.private.Steps.{pair_of}
use Rattle.mr_clash.specs.QuestionFindings.{opened_checked_by}
use Rattle.mr_clash.proofs.Fetches.{none_fetched}
use Rattle.mr_clash.proofs.QuestionFindings.{question_finding_collides, declined_told, declined_for, accepted_told, accepted_for, few_opened, few_for, none_for, declined_causes, declined_collides}
use Rattle.mr_clash.proofs.Roots.{is_said, root_said}
use Rattle.mr_clash.proofs.question_finding.audited_by.Goals as goal

pub returns-in-Err-clause-told : goal.returns-in-Err-clause-told
returns-in-Err-clause-told g c =
    declined_told g.N.Hash.Hashes.of (g.N.Nodes.stands c.args.nodes.now) c.top-top.result
    (g.A.AsQuestion.question c.args.q.now)
    c.args.proof.now c.root_of.result c.top-top.ensures.is c.root_of.ensures c.in-Err.error c.declined.result
    c.in-Err.ensures.exact c.declined.ensures

pub returns-in-Err-clause-judged : goal.returns-in-Err-clause-judged
returns-in-Err-clause-judged g c =
    let hash = g.N.Hash.Hashes.of in
    let s = g.N.Nodes.stands c.args.nodes.now in
    let says = c.top-top.ensures.says in
    declined_for hash s (g.N.Nodes.says c.args.nodes.now) (g.A.AsQuestion.question c.args.q.now) c.args.proof.now
    c.root_of.result (is_said hash s _ _ says c.top-top.ensures.is) (root_said hash _ _ _ says c.root_of.ensures)
    c.in-Err.error c.declined.result c.in-Err.ensures.exact c.declined.ensures

pub returns-in-Err-clause-causes : goal.returns-in-Err-clause-causes
returns-in-Err-clause-causes g c =
    declined_causes (g.N.Nodes.stands c.args.nodes.now) (g.N.Nodes.faults c.args.nodes.now) c.in-Err.error
    c.declined.result c.declined.ensures

pub returns-in-Err-clause-collides : goal.returns-in-Err-clause-collides
returns-in-Err-clause-collides g c =
    declined_collides g.N.Hash.Hashes.of c.in-Err.error c.declined.result c.declined.ensures

pub returns-in-Err-clause-fetched : goal.returns-in-Err-clause-fetched
returns-in-Err-clause-fetched g c =
    let s = g.N.Nodes.stands c.args.nodes.now in
    none_fetched s.tree (g.N.Nodes.fetches c.args.nodes.now)
    (λ t. opened_checked_by (by s.version g.N.Hash.Hashes.of) t s.batch (g.A.AsQuestion.question c.args.q.now)
    c.args.proof.now)

pub returns-in_ok-pair-in-Ok-clause-told : goal.returns-in_ok-pair-in-Ok-clause-told
returns-in_ok-pair-in-Ok-clause-told g c =
    let hash = g.N.Hash.Hashes.of in
    let s = g.N.Nodes.stands c.args.nodes.now in
    let a = g.A.AsQuestion.question c.args.q.now in
    let fits : IsBytes c.args.proof.now = λ i. omega (arith, c.type_inv.proof i) in
    let x = c.in-Ok.ensures.exact in
    let shows = shows_from hash c.root_of.result a c.args.proof.now x.0 c.requires fits x.1 in
    let pair = c.in_ok-pair-in-Ok.ensures.compared x.0.head x.0.part (shows.kind ∙ sym c.kind.ensures) shows.spelled
    (shows.held ∙ c.root_of.ensures) in
    accepted_told hash s c.top-top.result a c.args.proof.now c.root_of.result c.top-top.ensures.is c.root_of.ensures
    c.in-Ok.collected (option_map pair_of c.in_ok-pair-in-Ok.pair) c.question_finding_of.result x
    (rw (sym c.kind.ensures) pair.told)
    c.question_finding_of.ensures

pub returns-in_ok-pair-in-Ok-clause-judged : goal.returns-in_ok-pair-in-Ok-clause-judged
returns-in_ok-pair-in-Ok-clause-judged g c =
    let hash = g.N.Hash.Hashes.of in
    let s = g.N.Nodes.stands c.args.nodes.now in
    let says = c.top-top.ensures.says in
    accepted_for hash s (g.N.Nodes.says c.args.nodes.now) (g.A.AsQuestion.question c.args.q.now) c.args.proof.now
    c.root_of.result (is_said hash s _ _ says c.top-top.ensures.is) (root_said hash _ _ _ says c.root_of.ensures)
    c.in-Ok.collected (option_map pair_of c.in_ok-pair-in-Ok.pair) c.question_finding_of.result c.in-Ok.ensures.exact
    c.question_finding_of.ensures

pub returns-in_ok-pair-in-Ok-clause-collides : goal.returns-in_ok-pair-in-Ok-clause-collides
returns-in_ok-pair-in-Ok-clause-collides g c =
    let hash = g.N.Hash.Hashes.of in
    let a = g.A.AsQuestion.question c.args.q.now in
    let fits : IsBytes c.args.proof.now = λ i. omega (arith, c.type_inv.proof i) in
    let x = c.in-Ok.ensures.exact in
    let shows = shows_from hash c.root_of.result a c.args.proof.now x.0 c.requires fits x.1 in
    let pair = c.in_ok-pair-in-Ok.ensures.compared x.0.head x.0.part (shows.kind ∙ sym c.kind.ensures) shows.spelled
    (shows.held ∙ c.root_of.ensures) in
    question_finding_collides hash c.in-Ok.collected (option_map pair_of c.in_ok-pair-in-Ok.pair)
    c.question_finding_of.result pair.collides c.are_strings.ensures c.question_finding_of.ensures

pub returns-in_err-pair-in-Ok-clause-fetched : goal.returns-in_err-pair-in-Ok-clause-fetched
returns-in_err-pair-in-Ok-clause-fetched g c =
    let hash = g.N.Hash.Hashes.of in
    let a = g.A.AsQuestion.question c.args.q.now in
    let fits : IsBytes c.args.proof.now = λ i. omega (arith, c.type_inv.proof i) in
    let x = c.in-Ok.ensures.exact in
    let shows = shows_from hash c.root_of.result a c.args.proof.now x.0 c.requires fits x.1 in
    few_opened hash (g.N.Nodes.stands c.args.nodes.now) c.top-top.result a c.args.proof.now c.root_of.result
    c.top-top.ensures.is c.root_of.ensures x.0 (g.N.Nodes.fetches c.args.nodes.now)
    (g.N.Nodes.fetches c.compare_map.new.nodes) x.1
    (c.in_err-pair-in-Ok.ensures.fetched x.0.head x.0.part (shows.kind ∙ sym c.kind.ensures) shows.spelled)

pub returns-in_ok-pair-in-Ok-clause-fetched : goal.returns-in_ok-pair-in-Ok-clause-fetched
returns-in_ok-pair-in-Ok-clause-fetched g c =
    let hash = g.N.Hash.Hashes.of in
    let a = g.A.AsQuestion.question c.args.q.now in
    let fits : IsBytes c.args.proof.now = λ i. omega (arith, c.type_inv.proof i) in
    let x = c.in-Ok.ensures.exact in
    let shows = shows_from hash c.root_of.result a c.args.proof.now x.0 c.requires fits x.1 in
    few_opened hash (g.N.Nodes.stands c.args.nodes.now) c.top-top.result a c.args.proof.now c.root_of.result
    c.top-top.ensures.is c.root_of.ensures x.0 (g.N.Nodes.fetches c.args.nodes.now)
    (g.N.Nodes.fetches c.compare_map.new.nodes) x.1
    (c.in_ok-pair-in-Ok.ensures.fetched x.0.head x.0.part (shows.kind ∙ sym c.kind.ensures) shows.spelled)

pub returns-in-Err-clause-fetches : goal.returns-in-Err-clause-fetches
returns-in-Err-clause-fetches g c =
    let hash = g.N.Hash.Hashes.of in
    let s = g.N.Nodes.stands c.args.nodes.now in
    let says = c.top-top.ensures.says in
    none_for hash s (g.N.Nodes.says c.args.nodes.now) (g.A.AsQuestion.question c.args.q.now) c.args.proof.now
    c.root_of.result (is_said hash s _ _ says c.top-top.ensures.is) (root_said hash _ _ _ says c.root_of.ensures)
    (g.N.Nodes.fetches c.args.nodes.now)

pub returns-in_err-pair-in-Ok-clause-fetches : goal.returns-in_err-pair-in-Ok-clause-fetches
returns-in_err-pair-in-Ok-clause-fetches g c =
    let hash = g.N.Hash.Hashes.of in
    let a = g.A.AsQuestion.question c.args.q.now in
    let fits : IsBytes c.args.proof.now = λ i. omega (arith, c.type_inv.proof i) in
    let x = c.in-Ok.ensures.exact in
    let shows = shows_from hash c.root_of.result a c.args.proof.now x.0 c.requires fits x.1 in
    let s = g.N.Nodes.stands c.args.nodes.now in
    let says = c.top-top.ensures.says in
    few_for hash s (g.N.Nodes.says c.args.nodes.now) a c.args.proof.now c.root_of.result
    (is_said hash s _ _ says c.top-top.ensures.is) (root_said hash _ _ _ says c.root_of.ensures) x.0
    (g.N.Nodes.fetches c.args.nodes.now) (g.N.Nodes.fetches c.compare_map.new.nodes) x.1
    (c.in_err-pair-in-Ok.ensures.fetched x.0.head x.0.part (shows.kind ∙ sym c.kind.ensures) shows.spelled)

pub returns-in_ok-pair-in-Ok-clause-fetches : goal.returns-in_ok-pair-in-Ok-clause-fetches
returns-in_ok-pair-in-Ok-clause-fetches g c =
    let hash = g.N.Hash.Hashes.of in
    let a = g.A.AsQuestion.question c.args.q.now in
    let fits : IsBytes c.args.proof.now = λ i. omega (arith, c.type_inv.proof i) in
    let x = c.in-Ok.ensures.exact in
    let shows = shows_from hash c.root_of.result a c.args.proof.now x.0 c.requires fits x.1 in
    let s = g.N.Nodes.stands c.args.nodes.now in
    let says = c.top-top.ensures.says in
    few_for hash s (g.N.Nodes.says c.args.nodes.now) a c.args.proof.now c.root_of.result
    (is_said hash s _ _ says c.top-top.ensures.is) (root_said hash _ _ _ says c.root_of.ensures) x.0
    (g.N.Nodes.fetches c.args.nodes.now) (g.N.Nodes.fetches c.compare_map.new.nodes) x.1
    (c.in_ok-pair-in-Ok.ensures.fetched x.0.head x.0.part (shows.kind ∙ sym c.kind.ensures) shows.spelled)
