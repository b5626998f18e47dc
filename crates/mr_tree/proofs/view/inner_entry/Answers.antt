use Rattle.std.proofs.Common.{◌∷◌, [], length, map, subst, ap, sym, ◌∙◌, arith}
use Rattle.std.proofs.lemmas.List.{take_all}
use Rattle.std.proofs.lemmas.List.Elements.{All-get_or}
use Rattle.mr_tree.specs.Digest.{by, inner_tag}
use Rattle.mr_tree.specs.HasHashed.{HasHashed, of_entry}
use Rattle.mr_tree.specs.View.{HasCount, child_entry}
use Rattle.mr_tree.specs.declared.child.Child.{Child}
use Rattle.mr_tree.specs.declared.entry.Entry.{Entry}
use Rattle.mr_tree.proofs.Gathered.{pieces_more, inner_gathered}
use Rattle.mr_tree.proofs.Placements.{level_over_children}
use Rattle.mr_tree.proofs.view.inner_entry.Goals as goal

pub loop-child-preserved : goal.loop-child-preserved
loop-child-preserved g c =
    let low : HasCount c.child-item.result = subst HasCount (sym c.child-item.is)
    (All-get_or HasCount c.args.children.now c.loop-child.child-index c.child-item.result c.loop-child-test.true
    c.requires.counts) in
    record {
      all = subst (HasHashed (g.H.Hashes.holds c.add_entry.new.self.hasher) c.add_entry.new.self.rect
          c.add_entry.new.self.mask c.add_entry.new.self.count
          (inner_tag ∷ c.args.level ∷ length c.args.children.now ∷ []))
          (pieces_more (λ (d : Child). of_entry c.args.version (child_entry d)) c.args.children.now
          c.loop-child.child-index c.child-item.result _ (ap (of_entry c.args.version) c.entry.ensures)
          c.child-item.is c.loop-child-test.true)
          (c.add_entry.ensures.gathers _ _ c.loop-child.invariant.all);
      few = omega (
        arith,
        c.add_entry.ensures.counted,
        c.loop-child.invariant.few,
        low,
        ap (λ (e : Entry). e.count)
            c.entry.ensures,
      );
    }

pub returns : goal.returns
returns g c =
    let all = take_all c.loop-child.child-index c.args.children.now (omega arith) in
    inner_gathered (by c.args.version g.H.Hashes.of) (g.H.Hashes.holds c.loop-child.all.hasher) child_entry
    c.args.children.now c.args.level c.close.result
    (c.requires.level ∙ level_over_children c.args.children.now) c.close.ensures.level
    (subst (HasHashed (g.H.Hashes.holds c.loop-child.all.hasher) c.close.result.rect c.close.result.mask
    c.close.result.count (inner_tag ∷ c.args.level ∷ length c.args.children.now ∷ []))
    (ap (map (λ (d : Child). of_entry c.args.version (child_entry d))) all)
    (record {
      fed = c.loop-child.invariant.all.fed;
      round = c.close.ensures.rect ∙ c.loop-child.invariant.all.round;
      layers = c.close.ensures.mask ∙ c.loop-child.invariant.all.layers;
      tally = c.close.ensures.count ∙ c.loop-child.invariant.all.tally;
    }))
    c.close.ensures.digest
