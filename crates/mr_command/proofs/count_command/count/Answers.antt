use Rattle.std.proofs.Common.{◌≡◌, ℕ, List, length, refl, sym, ap, subst, ◌∙◌, inl}
use Rattle.mr_query.specs.declared.key.Key.{Key}
use Rattle.mr_proof.specs.declared.way.Way.{Way}
use Rattle.mr_store.specs.Paged.{stands_for}
use Rattle.mr_command.specs.Counting.{AllowsProof}
use Rattle.mr_command.specs.Ending.{ComesAsSaid, IsCarriedOut}
use Rattle.mr_command.specs.private.Steps.{KeepsProof}
use Rattle.mr_command.specs.private.Windows.{ways_inside}
use Rattle.mr_plan.specs.Counts.{count_question, count_ways}
use Rattle.mr_plan.specs.Plan.{comes}
use Rattle.mr_plan.specs.Say.{lacks_proof_for, say_count, say_proof_of}
use Rattle.mr_plan.specs.Untold.{MaySayProof}
use Rattle.mr_plan.specs.declared.words.Command.TheVariants as commands
use Rattle.mr_command.proofs.CountProofs.{count_proved, second_of}
use Rattle.mr_command.proofs.Pages.{unopened_map, proving_unopened, unproved}
use Rattle.mr_command.proofs.count_command.count.Given
use Rattle.mr_command.proofs.count_command.count.Goals as goal

sized : (g : Given.Over) → (xs : List ℕ) → length (g.H.Hashes.of xs) ≡ 32
sized g = (g.met.H.Hashes g.world.𝓛 g.world.𝓜 g.world.𝓡 ((λ s x. x), (λ x. x), (λ x. x), λ x. x)).sized

pub returns-in-Err : goal.returns-in-Err
returns-in-Err g c =
    let hash = g.H.Hashes.of in
    let map = c.args.map.now in
    let asked = count_question (count_ways c.args.query.now) in
    let proof = c.args.proof.now in
    let before = g.S.Shelf.state c.args.shelf in
    let after = g.S.Shelf.state c.in-Err.ended.1 in
    unopened_map hash (sized g) map before (MaySayProof hash map asked proof) (AllowsProof hash map 1 asked)
    (λ m. comes (say_proof_of hash asked proof m)) (λ m. tt) (λ said is. inl is) after c.in-Err.ended.0
    c.in-Err.ensures (proving_unopened hash map 1 asked before after)

-- the map has no proof
pub returns-then-needs_two : goal.returns-then-needs_two
returns-then-needs_two g c =
    let hash = g.H.Hashes.of in
    let q = c.args.query.now in
    let asked = count_question (count_ways q) in
    subst (λ w. IsCarriedOut hash (commands.Count c.args.map q c.args.proof) (g.S.Shelf.state c.args.shelf) w
    c.without_proof.result) (sym (ap g.S.Shelf.state c.close.ensures))
    (unproved hash (sized g) c.args.map.now 1 asked c.args.proof.now (g.S.Shelf.state c.args.shelf) c.in-Ok.paged
    c.in-Ok.ensures
    (ap (λ v. lacks_proof_for v asked) (sym c.version.ensures) ∙ sym (c.needs_two.ensures asked refl)
    ∙ c.if-needs_two.true)
    c.without_proof.result c.without_proof.ensures)

pub count_proof-made-requires : goal.count_proof-made-requires
count_proof-made-requires g c =
    let way = count_ways c.args.query.now in
    let asked = count_question way in
    second_of (stands_for c.in-Ok.paged).version way
    (ap (λ v. lacks_proof_for v asked) (sym c.version.ensures) ∙ sym (c.needs_two.ensures asked refl)
    ∙ c.if-needs_two.false)

pub returns-else-needs_two : goal.returns-else-needs_two
returns-else-needs_two g c =
    let hash = g.H.Hashes.of in
    let made = c.count_proof-made in
    let map = c.args.map.now in
    let proof = c.args.proof.now in
    let before = g.S.Shelf.state c.args.shelf in
    let after = g.S.Shelf.state c.keep_proof-came.new.shelf in
    let asked = count_question (count_ways c.args.query.now) in
    subst (λ (way : Key → Way). ComesAsSaid (say_count hash map way proof)
    (MaySayProof hash map (count_question way) proof) (AllowsProof hash map 1 (count_question way)) before after
    c.keep_proof-came.result) c.inside_of-inside.ensures
    (count_proved hash (sized g) map (ways_inside c.inside_of-inside.result) proof before after c.in-Ok.paged
    made.new.nodes c.in-Ok.ensures
    (second_of (stands_for c.in-Ok.paged).version (count_ways c.args.query.now)
    (ap (λ v. lacks_proof_for v asked) (sym c.version.ensures) ∙ sym (c.needs_two.ensures asked refl)
    ∙ c.if-needs_two.false))
    made.ensures.kept made.ensures.fetched made.result
    c.keep_proof-came.result made.ensures.written made.ensures.cause made.ensures.quiet
    (subst (λ w. KeepsProof map proof made.result w after c.keep_proof-came.result)
    (ap g.S.Shelf.state c.close-shelf.ensures) c.keep_proof-came.ensures))
