use Rattle.std.proofs.Common.{◌≡◌, ◌-◌, ℕ, List, length, get_or, take, drop, false, sym, subst, arith}
use Rattle.mr_journal.specs.Format.{number_of, ready}
use Rattle.mr_journal.proofs.Paging.{cut_first, parsed_at, unknown, no_count, too_few, too_many, number_short, short_body}
use Rattle.mr_journal.proofs.body.parse.Goals as goal

pub returns-in_default : goal.returns-in_default
returns-in_default c n = short_body n c.args.body.now c.in_default.len_below

pub returns-in_err-size : goal.returns-in_err-size
returns-in_err-size c =
    let b = c.args.body.now in
    rw c.from_residual.ensures
    (λ n. subst (λ (l : List ℕ). ready n l ≡ false) (sym (cut_first b c.in-len1-up.len_at_least))
    (unknown (get_or b 0 0) (take (length b - 1) (drop 1 b)) c.in_err-size.ensures n))

pub returns-then-rest-lt4 : goal.returns-then-rest-lt4
returns-then-rest-lt4 c n =
    let b = c.args.body.now in
    let r = take (length b - 1) (drop 1 b) in
    subst (λ (l : List ℕ). ready n l ≡ false) (sym (cut_first b c.in-len1-up.len_at_least))
    (no_count (get_or b 0 0) r (too_few (number_of r) (omega (arith, number_short r c.if-rest-lt4.true))) n)

pub returns-then-count-lt1 : goal.returns-then-count-lt1
returns-then-count-lt1 c n =
    let b = c.args.body.now in
    let r = take (length b - 1) (drop 1 b) in
    subst (λ (l : List ℕ). ready n l ≡ false) (sym (cut_first b c.in-len1-up.len_at_least))
    (no_count (get_or b 0 0) r (too_few (number_of r)
    (omega (arith, c.number_at-count.ensures, c.if-count-lt1.true))) n)

pub returns-then-count-gt-LIMIT : goal.returns-then-count-gt-LIMIT
returns-then-count-gt-LIMIT c n =
    let b = c.args.body.now in
    let r = take (length b - 1) (drop 1 b) in
    subst (λ (l : List ℕ). ready n l ≡ false) (sym (cut_first b c.in-len1-up.len_at_least))
    (no_count (get_or b 0 0) r (too_many (number_of r)
    (omega (arith, c.number_at-count.ensures, c.if-count-gt-LIMIT.true))) n)

pub returns : goal.returns
returns c =
    let b = c.args.body.now in
    let k = c.in_ok-size.ensures in
    parsed_at b c.in_ok-size.size c.number_at-count.result c.split_at.result.1.now (get_or b 0 0)
    (take (length b - 1) (drop 1 b))
    (cut_first b c.in-len1-up.len_at_least) k.1 c.number_at-count.ensures c.split_at.ensures.back k.0
    (omega (arith, c.if-rest-lt4.false)) (omega (arith, c.if-count-lt1.false))
    (omega (arith, c.if-count-gt-LIMIT.false)) k.2 k.3
