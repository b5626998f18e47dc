use Rattle.std.proofs.Common.{◌++◌, ◌∷◌, List, ℕ, Some, ap, subst, ◌∙◌, length}
use Rattle.std.specs.Int.{w32, to_be_bytes}
use Rattle.mr_outside.specs.Told.{TakesBytes, TakesFront}
use Rattle.mr_record.specs.Record.{rectangle_bytes}
use Rattle.mr_tree.specs.Digest.{by}
use Rattle.mr_proof.specs.Honest.{proof_for}
use Rattle.mr_count.specs.Chosen.{chosen}
use Rattle.mr_join.specs.Meets.{meets_way, rects_of}
use Rattle.mr_join.specs.Frame.{magic, frame_bytes}
use Rattle.mr_join.specs.Verdict.{letter}
use Rattle.mr_join.specs.Accepted.{owned, frame_for}
use Rattle.mr_join.proofs.Written.{for_each, on_ok_then, on_err_then, frame_line, second_few}
use Rattle.mr_join.proofs.proving.write_both.Goals as goal

pub returns-clause-written : goal.returns-clause-written
returns-clause-written g c =
    let f = g.A.Hash.Hashes.of in
    let h = g.B.Hash.Hashes.of in
    let s = g.A.Nodes.stands c.args.first.now in
    let v = g.B.Nodes.stands c.args.second.now in
    let from = g.W.Sink.state c.args.out.now in
    let to = g.W.Sink.state c.write_behind.new.out in
    let w = c.args.rect.now in
    let ms = c.in_ok-meets.meets in
    let part = c.in_ok-part.part.bytes.items in
    let front = c.deref-3.result.now in
    for_each s.tree _ _ (λ t given well.
    for_each v.tree _ _ (λ u.
    on_ok_then c.write_behind.result
    (TakesBytes from to (front ++ proof_for (by v.version h) (chosen letter (meets_way ms)) u v.batch))
    (TakesBytes from to (frame_bytes (frame_for f h (owned s t) (owned v u) (Some w))))
    (subst (TakesBytes from to) (frame_line f h s v t u w ms c.in_ok-list.list.items part front
    c.in_ok-part.part.records c.requires.second (given well)
    (c.deref-3.ensures.value ∙ c.in_ok-front.ensures
    ∙ ap (λ (p : List ℕ). magic ++ (1 ∷ (rectangle_bytes w ++ (to_be_bytes w32
    (length p) ++ p)))) c.deref.ensures.value)
    (c.in_ok-list.ensures ∙ ap rects_of c.as_slice.ensures)
    (c.in_ok-meets.ensures ∙ ap meets_way c.deref-2.ensures.value))))
    c.write_behind.ensures.written) c.in_ok-part.ensures.given

pub returns-clause-front : goal.returns-clause-front
returns-clause-front g c =
    let f = g.A.Hash.Hashes.of in
    let h = g.B.Hash.Hashes.of in
    let s = g.A.Nodes.stands c.args.first.now in
    let v = g.B.Nodes.stands c.args.second.now in
    let from = g.W.Sink.state c.args.out.now in
    let to = g.W.Sink.state c.write_behind.new.out in
    let w = c.args.rect.now in
    let ms = c.in_ok-meets.meets in
    let part = c.in_ok-part.part.bytes.items in
    let front = c.deref-3.result.now in
    for_each s.tree _ _ (λ t given well.
    for_each v.tree _ _ (λ u.
    on_err_then c.write_behind.result
    (TakesFront from to (front ++ proof_for (by v.version h) (chosen letter (meets_way ms)) u v.batch))
    (TakesFront from to (frame_bytes (frame_for f h (owned s t) (owned v u) (Some w))))
    (subst (TakesFront from to) (frame_line f h s v t u w ms c.in_ok-list.list.items part front
    c.in_ok-part.part.records c.requires.second (given well)
    (c.deref-3.ensures.value ∙ c.in_ok-front.ensures
    ∙ ap (λ (p : List ℕ). magic ++ (1 ∷ (rectangle_bytes w ++ (to_be_bytes w32
    (length p) ++ p)))) c.deref.ensures.value)
    (c.in_ok-list.ensures ∙ ap rects_of c.as_slice.ensures)
    (c.in_ok-meets.ensures ∙ ap meets_way c.deref-2.ensures.value))))
    c.write_behind.ensures.front) c.in_ok-part.ensures.given

pub returns-clause-fetched_second : goal.returns-clause-fetched_second
returns-clause-fetched_second g c =
    second_few g.A.Hash.Hashes.of g.B.Hash.Hashes.of (g.A.Nodes.stands c.args.first.now)
    (g.B.Nodes.stands c.args.second.now) c.args.rect.now c.in_ok-meets.meets c.in_ok-list.list.items
    c.in_ok-part.part.records (g.B.Nodes.fetches c.args.second.now) (g.B.Nodes.fetches c.write_behind.new.nodes)
    c.in_ok-part.part.bytes.items c.requires.second (c.in_ok-list.ensures ∙ ap rects_of c.as_slice.ensures)
    (c.in_ok-meets.ensures ∙ ap meets_way c.deref-2.ensures.value) c.in_ok-part.ensures.given
    c.write_behind.ensures.fetched
