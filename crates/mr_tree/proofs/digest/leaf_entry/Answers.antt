use Rattle.std.proofs.Common.{◌∷◌, [], length, map, subst, ap, ◌∙◌, arith, refl}
use Rattle.std.proofs.lemmas.List.{take_all}
use Rattle.mr_tree.specs.Digest.{by, leaf_tag}
use Rattle.mr_tree.specs.HasHashed.{HasHashed, of_record}
use Rattle.mr_tree.proofs.Told.{told_le}
use Rattle.mr_tree.proofs.Gathered.{pieces_more, leaf_gathered}
use Rattle.mr_tree.proofs.digest.leaf_entry.Goals as goal

pub loop-one-preserved : goal.loop-one-preserved
loop-one-preserved g c = record {
  all = subst (HasHashed (g.H.Hashes.holds c.add_record.new.self.hasher) c.add_record.new.self.rect
      c.add_record.new.self.mask c.add_record.new.self.count (leaf_tag ∷ length c.args.records.now ∷ []))
      (pieces_more (of_record c.args.version) c.args.records.now c.loop-one.one-index c.one-item.result _ refl
      c.one-item.is c.loop-one-test.true)
      (c.add_record.ensures.gathers _ _ c.loop-one.invariant.all);
  few = omega (arith, c.add_record.ensures.counted, c.loop-one.invariant.few, told_le c.args.version 1);
}

pub returns : goal.returns
returns g c =
    let all = take_all c.loop-one.one-index c.args.records.now (omega arith) in
    leaf_gathered (by c.args.version g.H.Hashes.of) (g.H.Hashes.holds c.loop-one.all.hasher) c.args.records.now
    c.close.result c.close.ensures.level
    (subst (HasHashed (g.H.Hashes.holds c.loop-one.all.hasher) c.close.result.rect c.close.result.mask
    c.close.result.count (leaf_tag ∷ length c.args.records.now ∷ []))
    (ap (map (of_record c.args.version)) all)
    (record {
      fed = c.loop-one.invariant.all.fed;
      round = c.close.ensures.rect ∙ c.loop-one.invariant.all.round;
      layers = c.close.ensures.mask ∙ c.loop-one.invariant.all.layers;
      tally = c.close.ensures.count ∙ c.loop-one.invariant.all.tally;
    }))
    c.close.ensures.digest
