use Rattle.std.proofs.Common.{◌≡◌, true, refl, sym, ap, subst, ◌∙◌}
use Rattle.std.proofs.lemmas.Result.{err_from_is_err_and}
use Rattle.mr_tree.specs.Digest.{by}
use Rattle.mr_pages.specs.Faults.{walk, reached, all_records, numbers_of}
use Rattle.mr_pages.specs.Gathering.{MakesTree}
use Rattle.mr_pages.specs.Stands.{whole_tree}
use Rattle.mr_pages.specs.private.Spelled.{placed_at}
use Rattle.mr_pages.specs.Walking.{head_of}
use Rattle.mr_pages.proofs.Giving.{err_settles, gives_all, gives_next}
use Rattle.mr_pages.proofs.Stops.{count_stops, lost_stops, lost_of, opens}
use Rattle.mr_pages.proofs.Outcomes.{visits_stop, same_pages, chain_refused, chained, saw_as}
use Rattle.mr_pages.proofs.checking.check_behind.Goals as goal

pub returns-in_err-made-clause-told : goal.returns-in_err-made-clause-told
returns-in_err-made-clause-told g c =
    let p = err_from_is_err_and c.from_residual-in_err-made.result c.from_residual-in_err-made.ensures.1 in
    let s = g.P.Source.state c.args.pages.now in
    rw (p.1, p.2) (err_settles (Unit {0}) (Unit {0}) c.in_err-made.field-0.0 c.in_err-made.ensures.told
    (gives_all s c.in_ok-seen.seen c.visit_all.new.seen _ _
    (c.visit_all.ensures.room ∙ c.in_ok-seen.ensures.told.count ∙ c.count.ensures) (λ file walked. record {
      checks = λ ver same sealed. visits_stop g.P.Hash.Hashes.of file (head_of c.args.head.now) sealed
          c.visit_all.result s.pages c.in_err-made.field-0.0 c.visit_all.new.seen _ (sym ver) (sym same)
          walked.visits_;
      made = tt;
    })))

pub returns-then-head-found-clause-told : goal.returns-then-head-found-clause-told
returns-then-head-found-clause-told g c =
    let s = g.P.Source.state c.args.pages.now in
    gives_all s c.in_ok-seen.seen c.visit_all.new.seen _ _
    (c.visit_all.ensures.room ∙ c.in_ok-seen.ensures.told.count ∙ c.count.ensures) (λ file walked. record {
      checks = λ ver same sealed.
          let p = same_pages _ (by file.version g.P.Hash.Hashes.of) s.pages file.pages _ c.visit_all.new.seen
          (ap (λ u. by u g.P.Hash.Hashes.of) (sym ver)) (sym same) walked.visits_ in
          count_stops g.P.Hash.Hashes.of file (head_of c.args.head.now) sealed c.count-found.result p.none
          (c.count-found.ensures ∙ p.saw.met.count) c.if-head-found.true;
      made = tt;
    }) c.in_ok-made.ensures.told

pub returns-in_err-chain-clause-told : goal.returns-in_err-chain-clause-told
returns-in_err-chain-clause-told g c =
    let q = err_from_is_err_and c.from_residual-in_err-chain.result c.from_residual-in_err-chain.ensures.1 in
    let s = g.P.Source.state c.args.pages.now in
    let t = g.P.Source.state c.visit_all.new.pages in
    let e = c.in_err-chain.field-0.0 in
    rw (q.1, q.2) (err_settles (Unit {0}) (Unit {0}) e c.in_err-chain.ensures.told (λ gave.
    gives_all s c.in_ok-seen.seen c.chain.new.seen _ _
    (c.chain.ensures.room ∙ c.visit_all.ensures.room ∙ c.in_ok-seen.ensures.told.count ∙ c.count.ensures)
    (λ file both. record {
      checks = λ ver same sealed.
          let vs = walk file.node (head_of c.args.head.now).root in
          let p = same_pages _ (by file.version g.P.Hash.Hashes.of) s.pages file.pages vs c.visit_all.new.seen
          (ap (λ u. by u g.P.Hash.Hashes.of) (sym ver)) (sym same) both.0.visits_ in
          let now : t.pages ≡ file.pages = c.visit_all.ensures.goes.count ∙ sym same in
          chain_refused g.P.Hash.Hashes.of file (head_of c.args.head.now) sealed (Unit {0}) c.visit_all.result
          t.pages c.count-found.result e c.visit_all.new.seen c.chain.new.seen now p
          (c.count-found.ensures ∙ p.saw.met.count) c.if-head-found.false (numbers_of (all_records vs))
          (both.1 (reached vs) (numbers_of (all_records vs))
          (saw_as file.pages t.pages c.visit_all.new.seen _ _ (sym now) p.saw));
      made = tt;
    }) (gives_next s t c.in_ok-seen.seen c.visit_all.new.seen c.chain.new.seen _ _ c.visit_all.ensures.goes.from_
    c.visit_all.ensures.goes.same c.in_ok-made.ensures.told gave)))

pub returns-in-Some-clause-told : goal.returns-in-Some-clause-told
returns-in-Some-clause-told g c =
    let s = g.P.Source.state c.args.pages.now in
    let t = g.P.Source.state c.visit_all.new.pages in
    gives_all s c.in_ok-seen.seen c.chain.new.seen _ _
    (c.chain.ensures.room ∙ c.visit_all.ensures.room ∙ c.in_ok-seen.ensures.told.count ∙ c.count.ensures)
    (λ file both. record {
      checks = λ ver same sealed.
          let vs = walk file.node (head_of c.args.head.now).root in
          let p = same_pages _ (by file.version g.P.Hash.Hashes.of) s.pages file.pages vs c.visit_all.new.seen
          (ap (λ u. by u g.P.Hash.Hashes.of) (sym ver)) (sym same) both.0.visits_ in
          let now : t.pages ≡ file.pages = c.visit_all.ensures.goes.count ∙ sym same in
          let q = chained (Unit {0}) tt file.free t.pages file.pages c.args.head.now.free (reached vs)
          (numbers_of (all_records vs)) c.chain.new.seen now (both.1 (reached vs) (numbers_of (all_records vs))
          (saw_as file.pages t.pages c.visit_all.new.seen _ _ (sym now) p.saw)) in
          lost_stops g.P.Hash.Hashes.of file (head_of c.args.head.now) sealed c.in-Some.fault c.count-found.result
          p.none (c.count-found.ensures ∙ p.saw.met.count) c.if-head-found.false q.0
          (lost_of file.pages c.count-2.result c.chain.new.seen _
          (c.count-2.ensures ∙ c.chain.ensures.goes.count ∙ now) c.in-Some.ensures.told _ _ q.1);
      made = tt;
    }) (gives_next s t c.in_ok-seen.seen c.visit_all.new.seen c.chain.new.seen _ _ c.visit_all.ensures.goes.from_
    c.visit_all.ensures.goes.same c.in_ok-made.ensures.told c.in_ok-chain.ensures.told)

pub returns-clause-told : goal.returns-clause-told
returns-clause-told g c =
    let s = g.P.Source.state c.args.pages.now in
    let t = g.P.Source.state c.visit_all.new.pages in
    gives_all s c.in_ok-seen.seen c.chain.new.seen _ _
    (c.chain.ensures.room ∙ c.visit_all.ensures.room ∙ c.in_ok-seen.ensures.told.count ∙ c.count.ensures)
    (λ file both. record {
      checks = λ ver same sealed.
          let vs = walk file.node (head_of c.args.head.now).root in
          let p = same_pages _ (by file.version g.P.Hash.Hashes.of) s.pages file.pages vs c.visit_all.new.seen
          (ap (λ u. by u g.P.Hash.Hashes.of) (sym ver)) (sym same) both.0.visits_ in
          let now : t.pages ≡ file.pages = c.visit_all.ensures.goes.count ∙ sym same in
          let q = chained (Unit {0}) tt file.free t.pages file.pages c.args.head.now.free (reached vs)
          (numbers_of (all_records vs)) c.chain.new.seen now (both.1 (reached vs) (numbers_of (all_records vs))
          (saw_as file.pages t.pages c.visit_all.new.seen _ _ (sym now) p.saw)) in
          (opens g.P.Hash.Hashes.of file (head_of c.args.head.now) sealed c.count-found.result
          (whole_tree (placed_at file.node (head_of c.args.head.now).root)) p.none
          (c.count-found.ensures ∙ p.saw.met.count) c.if-head-found.false q.0
          (lost_of file.pages c.count-2.result c.chain.new.seen _
          (c.count-2.ensures ∙ c.chain.ensures.goes.count ∙ now) c.in_default.ensures.told _ _ q.1) refl).0;
      made = subst (λ held. MakesTree
          (g.P.Source.makes (by (g.P.Source.state c.args.pages.now).origin.form.version g.P.Hash.Hashes.of) true)
          (g.P.Source.held c.args.pages.now) held c.args.head.now.root c.in_ok-made.made file)
          (sym c.chain.ensures.holds) both.0.made;
    }) (gives_next s t c.in_ok-seen.seen c.visit_all.new.seen c.chain.new.seen _ _ c.visit_all.ensures.goes.from_
    c.visit_all.ensures.goes.same c.in_ok-made.ensures.told c.in_ok-chain.ensures.told)
