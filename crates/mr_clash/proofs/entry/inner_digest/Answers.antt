use Rattle.std.proofs.Common.{◌∷◌, ◌++◌, [], length, take, subst, ap, ◌∙◌, sym, arith}
use Rattle.std.specs.List.{flat_map}
use Rattle.std.proofs.lemmas.List.{flat_map_more, take_more, take_all}
use Rattle.mr_tree.specs.Digest.{inner_tag, entry_bytes}
use Rattle.mr_tree.specs.declared.entry.Entry.{Entry}
use Rattle.mr_clash.proofs.entry.inner_digest.Goals as goal

pub loop-child-preserved : goal.loop-child-preserved
loop-child-preserved g c =
    let cs = c.args.children.now in
    let i = c.loop-child.child-index in
    let one = c.child-item.result in
    let head = inner_tag ∷ c.args.level ∷ length cs ∷ [] in
    subst (g.H.Hashes.holds c.feed_entry.new.hasher)
    (flat_map_more (entry_bytes c.args.version) head (take i cs) one
    ∙ ap (λ xs. head ++ flat_map (entry_bytes c.args.version) xs)
    (ap (λ (x : Entry). take i cs ++ x ∷ []) c.child-item.is ∙ sym (take_more cs i one c.loop-child-test.true)))
    (c.feed_entry.ensures (head ++ flat_map (entry_bytes c.args.version) (take i cs)) c.loop-child.invariant)

pub returns : goal.returns
returns g c =
    let xs = take c.loop-child.child-index c.args.children.now in
    let head = inner_tag ∷ c.args.level ∷ length c.args.children.now ∷ [] in
    c.finish.ensures (head ++ flat_map (entry_bytes c.args.version) xs) c.loop-child.invariant
    ∙ ap (λ ys. g.H.Hashes.of (head ++ flat_map (entry_bytes c.args.version) ys))
    (take_all c.loop-child.child-index c.args.children.now (omega arith))
