use Rattle.std.proofs.Common.{◌≡◌, ◌≢◌, refl, ap, arith}
use Rattle.std.specs.Prelude.{None}
use Rattle.mr_query.specs.declared.query.Shape.TheVariants.{Window}
use Rattle.mr_query.specs.Word.{asks}
use Rattle.mr_proof.specs.declared.way.Way.{Way}
use Rattle.mr_proof.specs.declared.way.Way.TheVariants as ways
use Rattle.mr_proof.specs.Tight.{question}
use Rattle.mr_proof.proofs.Laws.{is_lawful}
use Rattle.mr_unit_tests.specs.Outside.{whole_for_skipped}
use Rattle.mr_unit_tests.proofs.questions.is_lawful.Goals as goal

still : (x y : Way) → (y ≢ ways.Open → x ≡ y) → whole_for_skipped y ≢ ways.Open
    → whole_for_skipped x ≡ whole_for_skipped y
still x ways.Skip same closed = ap whole_for_skipped (same (λ c. cc))
still x ways.Whole same closed = ap whole_for_skipped (same (λ c. cc))
still x ways.Open same closed = absurd (closed refl)

pub returns : goal.returns
returns c =
    let window = c.args.q.now.window in
    let asked = asks (Window window) None in
    let law = is_lawful asked
    (record { shape = (c.corners-corners.ensures.ordered, c.corners-corners.ensures.fits); mask = tt }) in
    let way = (question asked).way None in
    record {
      letter = omega (arith, c.is_letter.ensures);
      two_only = λ needs. refl;
      around = refl;
      circle = tt;
      narrow = λ radius a b o n f g inside among closed.
          still (way a) (way b) (law.narrow None a b o n f g inside among) closed;
    }
