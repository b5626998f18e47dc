use Rattle.std.proofs.Common.{◌++◌, sym, subst}
use Rattle.mr_query.specs.declared.query.Query.{Query}
use Rattle.mr_proof.specs.Tight.{question}
use Rattle.mr_check.specs.Answers.{FeedsPiece, taken_of}
use Rattle.mr_check.specs.Judged.{WasFed}
use Rattle.mr_check.proofs.judge.Judge.feed.Goals as goal

pub returns-clause-fed : goal.returns-clause-fed
returns-clause-fed g c = λ root q bytes s.
    subst (λ (z : Query). FeedsPiece g.H.Hashes.of root (question z) bytes c.args.piece.now c.feed.result) s.asked
    (c.feed.ensures.fed root bytes
    (subst (λ (z : Query). WasFed g.H.Hashes.of g.H.Hashes.holds root (question z) c.args.self.now.verifier bytes)
    (sym s.asked) s.fed))

pub returns-clause-stands : goal.returns-clause-stands
returns-clause-stands g c = λ root q bytes s. record {
  asked = s.asked;
  is = s.is;
  fed = subst (λ (z : Query). WasFed g.H.Hashes.of g.H.Hashes.holds root (question z) c.feed.new.self
      (bytes ++ taken_of c.feed.result c.args.piece.now)) s.asked (c.feed.ensures.stands root bytes
      (subst (λ (z : Query). WasFed g.H.Hashes.of g.H.Hashes.holds root (question z) c.args.self.now.verifier bytes)
      (sym s.asked) s.fed));
}
