use Rattle.std.proofs.Common.{◌≡◌, ℕ, List, length, ap, sym, subst, ◌∙◌, inl}
use Rattle.mr_prove.specs.Causes.{rounds}
use Rattle.mr_proof.specs.Tight.{question}
use Rattle.mr_command.specs.Counting.{AllowsProof}
use Rattle.mr_command.specs.Ending.{IsCarriedOut}
use Rattle.mr_command.specs.private.Steps.{KeepsProof}
use Rattle.mr_plan.specs.Plan.{comes}
use Rattle.mr_plan.specs.Say.{lacks_proof, say_proof_of}
use Rattle.mr_plan.specs.Untold.{MaySayProof}
use Rattle.mr_plan.specs.declared.words.Command.TheVariants as commands
use Rattle.mr_command.proofs.Bundles.{has_by}
use Rattle.mr_command.proofs.Pages.{unopened_map, proving_unopened, proved, unproved}
use Rattle.mr_store.specs.Paged.{stands_for}
use Rattle.mr_command.proofs.prove_command.prove_query.Given
use Rattle.mr_command.proofs.prove_command.prove_query.Goals as goal

sized : (g : Given.Over) → (xs : List ℕ) → length (g.H.Hashes.of xs) ≡ 32
sized g = (g.met.H.Hashes g.world.𝓛 g.world.𝓜 g.world.𝓡 ((λ s x. x), (λ x. x), (λ x. x), λ x. x)).sized

pub returns-in-Err : goal.returns-in-Err
returns-in-Err g c =
    let hash = g.H.Hashes.of in
    let map = c.args.map.now in
    let q = c.args.query.now in
    let proof = c.args.proof.now in
    let before = g.S.Shelf.state c.args.shelf in
    let after = g.S.Shelf.state c.in-Err.ended.1 in
    unopened_map hash (sized g) map before (MaySayProof hash map (question q) proof)
    (AllowsProof hash map (rounds q) (question q)) (λ m. comes (say_proof_of hash (question q) proof m)) (λ m. tt)
    (λ said is. inl is) after c.in-Err.ended.0 c.in-Err.ensures
    (proving_unopened hash map (rounds q) (question q) before after)

-- the map has no proof
pub returns-then-lacks_proof : goal.returns-then-lacks_proof
returns-then-lacks_proof g c =
    let hash = g.H.Hashes.of in
    let q = c.args.query.now in
    subst (λ w. IsCarriedOut hash (commands.Prove c.args.map q c.args.proof) (g.S.Shelf.state c.args.shelf) w
    c.without_proof.result) (sym (ap g.S.Shelf.state c.close.ensures))
    (unproved hash (sized g) c.args.map.now (rounds q) (question q) c.args.proof.now (g.S.Shelf.state c.args.shelf)
    c.in-Ok.paged c.in-Ok.ensures
    (ap (λ v. lacks_proof v q) (sym c.version.ensures) ∙ sym c.lacks_proof.ensures ∙ c.if-lacks_proof.true)
    c.without_proof.result c.without_proof.ensures)

pub proof_of_nodes-made-requires-clause-may_come : goal.proof_of_nodes-made-requires-clause-may_come
proof_of_nodes-made-requires-clause-may_come g c =
    has_by (stands_for c.in-Ok.paged).version c.args.query.now
    (ap (λ v. lacks_proof v c.args.query.now) (sym c.version.ensures) ∙ sym c.lacks_proof.ensures
    ∙ c.if-lacks_proof.false)

pub returns-else-lacks_proof : goal.returns-else-lacks_proof
returns-else-lacks_proof g c =
    let made = c.proof_of_nodes-made in
    let q = c.args.query.now in
    let after = g.S.Shelf.state c.keep_proof-came.new.shelf in
    proved g.H.Hashes.of (sized g) c.args.map.now (rounds q) (question q) c.args.proof.now
    (g.S.Shelf.state c.args.shelf) after c.in-Ok.paged made.new.nodes c.in-Ok.ensures
    (ap (λ v. lacks_proof v q) (sym c.version.ensures) ∙ sym c.lacks_proof.ensures ∙ c.if-lacks_proof.false)
    made.ensures.kept made.ensures.fetched made.result
    c.keep_proof-came.result made.ensures.written made.ensures.cause made.ensures.quiet
    (subst (λ w. KeepsProof c.args.map.now c.args.proof.now made.result w after c.keep_proof-came.result)
    (ap g.S.Shelf.state c.close-shelf.ensures) c.keep_proof-came.ensures)
