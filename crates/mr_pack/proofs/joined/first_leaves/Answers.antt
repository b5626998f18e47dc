use Rattle.std.proofs.Common.{◌≡◌, ◌≤◌, ◌++◌, List, [], map, length, ap, sym, subst, ◌∙◌}
use Rattle.std.specs.Borrow.{Bor}
use Rattle.std.specs.List.{AllByRecursion}
use Rattle.std.proofs.lemmas.List.Elements.{All-from_recursion, recursion_from_All}
use Rattle.std.proofs.lemmas.Simd.{map-map}
use Rattle.mr_record.specs.declared.record.Record.{Record}
use Rattle.std.specs.Prelude.{All}
use Rattle.mr_record.specs.Record.{HasLayer}
use Rattle.mr_tree.specs.Tree.{records}
use Rattle.mr_record.specs.declared.version.Version.TheVariants.{One, Two}
use Rattle.mr_tree.specs.Digest.{by}
use Rattle.mr_tree.proofs.Slim.{slim_tree}
use Rattle.mr_tree.specs.Leaves.{leaves, leaf_entry}
use Rattle.mr_pack.proofs.Leaves.{leaves_small, leaves_have, both_of, recursion_from_map}
use Rattle.mr_pack.proofs.Orders.{if_ok}
use Rattle.mr_pack.proofs.joined.first_leaves.Goals as goal

abbrev seen : Bor (List Record) → List Record
seen rs = rs.now

-- what a list without items has grown to
grown : (some list : List (Bor (List Record))) (all : List (List Record)) → some ≡ [] →
    map seen list ≡ map seen some ++ all → map seen list ≡ all
grown some list all none is = is ∙ ap (λ xs. map seen xs ++ all) none

pub hashed-requires-after_bounds : goal.hashed-requires-after_bounds
hashed-requires-after_bounds g c κs within =
    let small = both_of (λ (rs : List Record). length rs ≤ 16) (λ (rs : List Record). All (HasLayer Two) rs)
    (leaves c.args.tree.now) (leaves_small c.args.tree.now (slim_tree c.args.tree.now c.requires))
    (leaves_have (HasLayer Two) c.args.tree.now (recursion_from_All (HasLayer Two) (records c.args.tree.now)
    (λ k d within. (c.requires.each k d within).layer))) in
    let listed : map seen c.deref.result.now ≡ leaves c.args.tree.now =
    ap (map seen) c.deref.ensures.value
    ∙ grown c.new-list.result.items _ (leaves c.args.tree.now) c.new-list.ensures.items
    c.in_ok-gather_leaves.ensures in
    All-from_recursion (λ (rs : Bor (List Record)). (length rs.now ≤ 16) × All (HasLayer Two) rs.now) c.deref.result.now
    (recursion_from_map (λ (rs : List Record). (length rs ≤ 16) × All (HasLayer Two) rs) seen c.deref.result.now
    (subst (AllByRecursion (λ (rs : List Record). (length rs ≤ 16) × All (HasLayer Two) rs)) (sym listed) small))

pub returns : goal.returns
returns g c = if_ok c.hashed.result (λ v is. is
    ∙ sym (map-map (leaf_entry (by One g.H.Hashes.of)) seen c.deref.result.now)
    ∙ ap (map (leaf_entry (by One g.H.Hashes.of))) (ap (map seen) c.deref.ensures.value
    ∙ grown c.new-list.result.items _ (leaves c.args.tree.now) c.new-list.ensures.items c.in_ok-gather_leaves.ensures))
    c.hashed.ensures
