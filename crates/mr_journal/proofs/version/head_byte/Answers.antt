use Rattle.std.proofs.Common.{◌∙◌, sym}
use Rattle.mr_journal.proofs.Gating.{head_shut, head_same, head_first, head_there}
use Rattle.mr_journal.proofs.version.head_byte.Goals as goal

pub returns-in_err-body : goal.returns-in_err-body
returns-in_err-body c map is = rw c.from_residual.ensures
    (head_shut map c.args.journal.now c.args.map_length is c.in_err-body.ensures)

pub returns-then-number_at-ne0 : goal.returns-then-number_at-ne0
returns-then-number_at-ne0 c map is =
    let e = c.in_ok-e.e in
    head_same map c.args.journal.now c.in_ok-body.body.now c.args.map_length e.size e.count e.bytes.now is
    c.in_ok-body.ensures.0 c.in_ok-body.ensures.1 c.in_ok-e.ensures
    (λ none. c.if-number_at-ne0.true (c.number_at.ensures ∙ none))

pub bounds-bytes-8 : goal.bounds-bytes-8
bounds-bytes-8 c =
    let e = c.in_ok-e.e in
    head_there c.in_ok-body.body.now c.args.map_length e.size e.count e.bytes.now c.in_ok-body.ensures.1
    c.in_ok-e.ensures

pub returns : goal.returns
returns c map is =
    let e = c.in_ok-e.e in
    head_first map c.args.journal.now c.in_ok-body.body.now c.args.map_length e.size e.count e.bytes.now is
    c.in_ok-body.ensures.0 c.in_ok-body.ensures.1 c.in_ok-e.ensures
    (sym c.number_at.ensures ∙ c.if-number_at-ne0.false)
