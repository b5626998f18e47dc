-- The layers of a map's records through the changes of a batch: they stay those of their version.
use Rattle.std.proofs.Common.{◌≡◌, ℕ, true, List, [], ◌∷◌, Option, Some, None, IsSome, refl}
use Rattle.std.specs.Prelude.{All}
use Rattle.std.specs.List.{AllByRecursion}
use Rattle.std.specs.List.Sorted.{IsPermutation}
use Rattle.std.proofs.lemmas.List.Elements.{All-cons, All-from_recursion, recursion_from_All}
use Rattle.std.proofs.lemmas.List.Sorted.{All-permutation}
use Rattle.mr_record.specs.Record.{HasLayer}
use Rattle.mr_record.specs.declared.record.Record.{Record}
use Rattle.mr_record.specs.declared.version.Version.{Version}
use Rattle.mr_tree.specs.Tree.{records}
use Rattle.mr_tree.specs.WellFormed.{WellFormed, HasLayers}
use Rattle.mr_tree.specs.declared.tree.Tree.{Tree}
use Rattle.mr_grow.specs.Grow.{ins}
use Rattle.mr_grow.specs.Shrink.{shrunk, shortened, del}
use Rattle.mr_grow.specs.Views.{IsRooted}
use Rattle.mr_record.specs.Sorting.{sorted_by_key}
use Rattle.mr_grow.proofs.Distinct.{apart_more}
use Rattle.mr_grow.proofs.Dropping.{all_in_rooted, del_mixes, shrunk_root}
use Rattle.mr_grow.proofs.Kept.{ins_mixes}
use Rattle.mr_grow.proofs.Sizes.{has_room, well_rooted}
use Rattle.mr_grow.proofs.Standing.{ins_root}
use Rattle.mr_batch.specs.declared.change.Change.{Change}
use Rattle.mr_batch.specs.declared.change.Change.TheVariants.{Add, Remove}
use Rattle.mr_batch.specs.Changes.{Changes}
use Rattle.mr_batch.specs.Applied.{may_make, made, applied, IsAdmissible}
use Rattle.mr_batch.specs.BatchText.{IsChange, IsBatch}
use Rattle.mr_batch.specs.Replay.{changed, replayed}
use Rattle.mr_batch.proofs.Numbered.{Apart, apart_tail}
use Rattle.mr_batch.proofs.Permuted.{made_then, addition_leaves, apart_permuted, applied_permuted}
use Rattle.mr_batch.proofs.Replaying.{removal_mixes}
use Rattle.mr_edit.specs.Replayed.{IsOfVersion}
use Rattle.mr_edit.proofs.Turns.{new_part}

-- a tree to which changes may be made, with layers of a version
record Ready (v : Version) (t : Tree) (cs : List Change) : Type 0 where
  rooted : IsRooted t
  apart : Apart (records t)
  layers : HasLayers v t
  left : List Record
  applies : applied (records t) cs ≡ Some left

-- so has the tree after a change
record Next (v : Version) (t : Tree) (c : Change) : Type 0 where
  rooted : IsRooted (changed t c)
  apart : Apart (records (changed t c))
  layers : HasLayers v (changed t c)
  mixes : IsPermutation (made (records t) c) (records (changed t c))

next : (v : Version) (t : Tree) (c : Change) → IsRooted t → Apart (records t) → HasLayers v t →
    may_make (records t) c ≡ true → IsOfVersion v c → Next v t c
next v t (Add r) rooted apart layers may one =
    let mixes = ins_mixes r t (has_room t rooted) in
    record {
      rooted = ins_root r t rooted;
      apart = apart_permuted (r ∷ records t) (records (ins r t)) mixes
          (apart_more r (records t) (new_part _ _ may) apart);
      layers = All-permutation (HasLayer v) (r ∷ records t) (records (ins r t)) mixes
          (All-cons (HasLayer v) r (records t) one layers);
      mixes = addition_leaves (records t) (records (ins r t)) r mixes;
    }
next v t (Remove n) rooted apart layers may one =
    let w = del_mixes n t rooted may in
    let rest = records (del n t) in
    record {
      rooted = all_in_rooted (sorted_by_key (λ (r : Record). r.number) (shrunk n t).aside)
          (shortened (shrunk n t).tree) (shrunk_root n t rooted may);
      apart = apart_tail w.one rest (apart_permuted (records t) (w.one ∷ rest) w.mixes apart);
      layers = All-from_recursion (HasLayer v) rest (recursion_from_All (HasLayer v) (w.one ∷ rest)
          (All-permutation (HasLayer v) (records t) (w.one ∷ rest) w.mixes layers)).1;
      mixes = removal_mixes n (records t) rest apart w;
    }

changes_kept : (v : Version) (t : Tree) (cs : List Change) → AllByRecursion (IsOfVersion v) cs → Ready v t cs →
    HasLayers v (replayed t cs)
unfolding applied replayed
changes_kept v t [] all r = r.layers
changes_kept v t (c ∷ cs) all r =
    let parts = made_then (may_make (records t) c) (applied (made (records t) c) cs) r.left r.applies in
    let n = next v t c r.rooted r.apart r.layers parts.0 all.0 in
    let both = applied_permuted (made (records t) c) (records (changed t c)) cs r.left n.mixes parts.1 in
    changes_kept v (changed t c) cs all.1 (record {
      rooted = n.rooted;
      apart = n.apart;
      layers = n.layers;
      left = both.other;
      applies = both.applies;
    })

the_list : (o : Option (List Record)) → IsSome o → (l : List Record) × (o ≡ Some l)
the_list (Some l) some = (l, refl)
the_list None some = absurd cc

-- a map keeps to its version where the records that come do
pub layers_after : (v : Version) (t : Tree) (held : ℕ) (b : Changes) → WellFormed t → IsAdmissible (records t) held b →
    All (IsOfVersion v) b.list → HasLayers v t → HasLayers v (replayed t b.list)
layers_after v t held b well is all layers =
    let found = the_list (applied (records t) b.list) is.made in
    changes_kept v t b.list (recursion_from_All (IsOfVersion v) b.list all) (record {
      rooted = well_rooted t well;
      apart = well.distinct;
      layers = layers;
      left = found.0;
      applies = found.1;
    })

-- the records of a batch that is spelled in a version
of_version : (v : Version) (c : Change) → IsChange v c → IsOfVersion v c
of_version v (Add r) is = is.1
of_version v (Remove n) is = tt

pub batch_of_version : (v : Version) (b : Changes) → IsBatch v b → All (IsOfVersion v) b.list
batch_of_version v b is = λ k d within. of_version v _ (is.changes.each k d within)
