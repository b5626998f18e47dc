-- What is known beforehand where a record is deleted, and of what goes in again.
use Rattle.std.proofs.Common.{◌≡◌, Bool, true, false, ℕ, List, [], ◌∷◌, ◌++◌, length, sym, ap, subst, ◌∙◌, arith}
use Rattle.std.specs.Prelude.{Option, Some, None, option_map, IfSome}
use Rattle.std.specs.Option.{option_to_list}
use Rattle.std.specs.List.{flat_map}
use Rattle.std.specs.Ordering.{is_lt, nat_cmp}
use Rattle.std.proofs.lemmas.List.{length-append, map-id}
use Rattle.std.proofs.lemmas.List.Concat.{flat_map_single}
use Rattle.std.proofs.lemmas.List.Sorted.{length_permutation}
use Rattle.mr_geom.specs.Rectangle.{Rectangle}
use Rattle.mr_record.specs.Sorting.{sorted_by, sorted_by_key}
use Rattle.mr_record.specs.declared.record.Record.{Record}
use Rattle.mr_record.proofs.Sorting.{sorted_mixes}
use Rattle.mr_tree.specs.Digest.{Scheme}
use Rattle.mr_tree.specs.Tree.{records}
use Rattle.mr_tree.specs.WellFormed.{HasOneLevel}
use Rattle.mr_tree.specs.declared.child.Child.{Child}
use Rattle.mr_tree.specs.declared.tree.Tree.{Tree}
use Rattle.mr_tree.specs.declared.tree.Tree.TheFolds.{every-Tree}
use Rattle.mr_tree.proofs.Equations.{records-Empty}
use Rattle.mr_pages.proofs.Building.{FilledAs}
use Rattle.mr_pages.specs.Page.{Link}
use Rattle.mr_pages.specs.Stands.{Placed, tree_of, pages_of, link_of, IsWritten, whole_tree, whole_pages}
use Rattle.mr_pages.specs.Walking.{child_link}
use Rattle.mr_grow.specs.Found.{has}
use Rattle.mr_grow.specs.Shrink.{shrunk, shortened}
use Rattle.mr_grow.proofs.Dropping.{shrunk_root}
use Rattle.mr_grow.proofs.Shortened.{shortened_records}
use Rattle.mr_grow.proofs.Shrunk.{shrunk_parted}
use Rattle.mr_edit.specs.PageMap.{PageMap, HasNode, OwnsEachOnce}
use Rattle.mr_edit.specs.Held.{NamesTree}
use Rattle.mr_edit.specs.Drafted.{Drafted}
use Rattle.mr_edit.specs.Growing.{CanInsert}
use Rattle.mr_edit.specs.private.Removal.{HaveRect, IsOnce, LacksRecord, RemovesRecord}
use Rattle.mr_edit.specs.private.Removable.{CanTakeOut, CanDelete}
use Rattle.mr_edit.proofs.Dropped.{taken_out}
use Rattle.mr_edit.proofs.Frame.{times_first}
use Rattle.mr_edit.proofs.Places.{same_owned}
use Rattle.mr_edit.proofs.Roots.{start_counts}

-- there is a root
pub no_root : (scheme : Scheme) (told : Option PageMap) (free n : ℕ) (r : Rectangle) →
    CanDelete scheme told free None n r → ⊥
no_root scheme told free n r k = at k.draft.placed k.draft.tree k.draft.root_is
  where
    at : (o : Option Placed) → whole_tree o ≡ k.tree → ◌≡◌ {A = Option Link} None
        (option_map (link_of scheme) o) → ⊥
    at None is root =
        let no : false ≡ true = sym (ap (has n) records-Empty) ∙ ap (λ t. has n (records t)) is ∙ k.there in cc
    at (Some P) is root = cc

-- the tree of the root's entry
pub record Root (scheme : Scheme) (b : PageMap) (chain : List ℕ) (c : Child) (t : Tree) : Type 0 where
  pub placed : Placed
  pub is : tree_of placed ≡ t
  pub names : NamesTree scheme b c placed
  pub owned : OwnsEachOnce b.size (pages_of placed ++ (chain ++ 0 ∷ []))

root_of : (scheme : Scheme) (told : Option PageMap) (free : ℕ) (c : Child) (t : Tree)
    (d : Drafted scheme told free (Some c) t) → Root scheme d.page_map d.chain c t
root_of scheme told free c t d = at d.placed d.tree d.root_is d.written d.owned
  where
    at : (o : Option Placed) → whole_tree o ≡ t → ◌≡◌ {A = Option Link} (Some (child_link c))
        (option_map (link_of scheme) o) → IfSome o (IsWritten scheme (HasNode d.page_map)) →
        OwnsEachOnce d.page_map.size (0 ∷ (whole_pages o ++ d.chain)) → Root scheme d.page_map d.chain c t
    at None is root written owned = cc
    at (Some P) is root written owned =
        let said : child_link c ≡ link_of scheme P = cc in
        record {
          placed = P;
          is = is;
          names = record { said = said; written = written };
          owned = same_owned d.page_map.size (0 ∷ (pages_of P ++ d.chain)) _ (λ q. start_counts q (pages_of P) d.chain)
              owned;
        }

-- below which the record can be searched
pub root_sought : (scheme : Scheme) (told : Option PageMap) (free : ℕ) (c : Child) (n : ℕ) (r : Rectangle) →
    CanDelete scheme told free (Some c) n r → CanTakeOut scheme true told free c n r
root_sought scheme told free c n r k =
    let d = k.draft in
    let o = root_of scheme told free c k.tree d in
    record {
      below = record {
        page_map = d.page_map;
        is = d.is;
        chain = d.chain;
        linked = d.linked;
        placed = o.placed;
        names = o.names;
        filled = subst (FilledAs true) (sym o.is) k.rooted.filled;
        others = 0 ∷ [];
        owned = o.owned;
        head = times_first 0 [];
      };
      one_level = subst (every-Tree HasOneLevel) (sym o.is) k.rooted.one_level;
      rects = subst (λ t. HaveRect n r (records t)) (sym o.is) k.rects;
      once = subst (λ t. IsOnce n (records t)) (sym o.is) k.once;
      few = omega (arith, k.few, ap (λ t. length (records t)) o.is);
    }

-- and is found
pub none_lacks : (scheme : Scheme) (told : Option PageMap) (free : ℕ) (c : Child) (n : ℕ) (r : Rectangle) →
    LacksRecord scheme told c n r → CanDelete scheme told free (Some c) n r → ⊥
none_lacks scheme told free c n r lacks k =
    let d = k.draft in
    let o = root_of scheme told free c k.tree d in
    let none : has n (records (tree_of o.placed)) ≡ false = lacks d.page_map o.placed d.is o.names
    (subst (λ t. HaveRect n r (records t)) (sym o.is) k.rects) in
    let no : true ≡ false = sym k.there ∙ ap (λ t. has n (records t)) (sym o.is) ∙ none in cc

alone : Record → List Record
alone r = r ∷ []

singles : (rs : List Record) → flat_map alone rs ≡ rs
unfolding alone
singles rs = flat_map_single (λ (r : Record). r) rs ∙ map-id rs

pub sorted_length : (rs : List Record) → length (sorted_by_key (λ (r : Record). r.number) rs) ≡ length rs
sorted_length rs =
    let before : Record → Record → Bool = λ a b. is_lt (nat_cmp a.number b.number) in
    ap length (sym (singles (sorted_by before rs)))
    ∙ length_permutation (flat_map alone rs) (flat_map alone (sorted_by before rs)) (sorted_mixes before alone rs)
    ∙ ap length (singles rs)

-- what was set aside can go in again
pub left_inserts : (scheme : Scheme) (told told1 : Option PageMap) (free free1 : ℕ) (c : Child) (n : ℕ)
    (r : Rectangle) (entry : Option Child) (aside sorted : List Record) →
    RemovesRecord scheme true told free told1 free1 c n r (option_to_list entry) aside →
    sorted ≡ sorted_by_key (λ (x : Record). x.number) aside → CanDelete scheme told free (Some c) n r →
    CanInsert scheme told1 free1 entry (length sorted)
left_inserts scheme told told1 free free1 c n r entry aside sorted removes sorts k =
    let t = k.tree in
    let rest = shrunk n t in
    let x = taken_out scheme told told1 free free1 c n r entry aside removes t k.draft k.rects k.once in
    let p = shrunk_parted n t k.there in
    let all = length_permutation (records t) (p.one ∷ (records rest.tree ++ rest.aside)) p.mixes in
    record {
      tree = shortened rest.tree;
      draft = x.draft;
      rooted = shrunk_root n t k.rooted k.there;
      few = omega (
        arith,
        k.few,
        all,
        length-append (records rest.tree) rest.aside,
        ap length (shortened_records rest.tree),
        ap length sorts,
        sorted_length aside,
        ap length x.aside_is,
      );
    }
