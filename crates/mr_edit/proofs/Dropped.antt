-- The root after a deletion, and records that go in again.
use Rattle.std.proofs.Common.{◌≡◌, inl, inr, true, ℕ, ◌+◌, ◌<◌, List, [], ◌∷◌, ◌++◌, length, take, get_or, refl, sym, ap, subst, ◌∙◌, arith}
use Rattle.std.specs.Prelude.{max, Option, Some, None, option_map, IfSome}
use Rattle.std.specs.Option.{option_to_list}
use Rattle.std.proofs.lemmas.List.{take_more}
use Rattle.mr_geom.specs.Rectangle.{Rectangle}
use Rattle.mr_record.specs.Sorting.{sorted_by_key}
use Rattle.mr_record.specs.declared.record.Record.{Record}
use Rattle.mr_tree.specs.Digest.{Scheme}
use Rattle.mr_tree.specs.Tree.{records, nodes}
use Rattle.mr_tree.specs.declared.child.Child.{Child}
use Rattle.mr_tree.specs.declared.tree.Tree.{Tree}
use Rattle.mr_grow.specs.Grow.{ins}
use Rattle.mr_grow.specs.Shrink.{shrunk, shortened, all_in}
use Rattle.mr_batch.specs.Peak.{peak_in}
use Rattle.mr_pages.specs.Page.{Link}
use Rattle.mr_pages.specs.Stands.{Placed, tree_of, pages_of, link_of, IsWritten, whole_tree, whole_pages}
use Rattle.mr_pages.specs.Walking.{child_link}
use Rattle.mr_edit.specs.PageMap.{PageMap, HasNode, OwnsEachOnce}
use Rattle.mr_edit.specs.Held.{NameTrees, trees, pages}
use Rattle.mr_edit.specs.Outcome.{Outcome}
use Rattle.mr_edit.specs.Drafted.{Drafted, InsertsRecord}
use Rattle.mr_edit.specs.private.Removal.{HaveRect, IsOnce, RemovesRecord, topped}
use Rattle.mr_edit.specs.Deleted.{ReachesTree, InsertsAll, DeletesRecord}
use Rattle.mr_edit.proofs.Places.{same_owned}
use Rattle.mr_edit.proofs.Roots.{rooted, start_counts, last_counts}
use Rattle.mr_edit.proofs.Leaving.{topped_none, topped_one}
use Rattle.mr_edit.proofs.Counts.{pages_counted}

-- what stands in the root's place is a draft
pub topped_rooted : (scheme : Scheme) (a : PageMap) (told : Option PageMap) (free : ℕ) (s : Tree)
    (entry : Option Child) →
    Outcome scheme a (λ size chain. size ≡ a.size) told free (0 ∷ []) (topped s) (option_to_list entry) →
    (e : Drafted scheme told free entry s) × (e.page_map.size ≡ a.size)
topped_rooted scheme a told free s None o = at o.parts o.named o.stand o.owned
  where
    at : (Ps : List Placed) → NameTrees scheme o.page_map [] Ps → trees Ps ≡ topped s →
        OwnsEachOnce o.page_map.size (pages Ps ++ (o.chain ++ (0 ∷ []))) → (e : Drafted scheme told free None s) ×
        (e.page_map.size ≡ a.size)
    at (P ∷ Ps) named stand owned = absurd named
    at [] named stand owned = (
      record {
        page_map = o.page_map;
        is = o.is;
        placed = None;
        tree = sym (topped_none s (sym stand));
        root_is = refl;
        written = tt;
        chain = o.chain;
        linked = o.linked;
        owned = same_owned o.page_map.size ([] ++ (o.chain ++ (0 ∷ []))) _ (λ q. sym (last_counts q o.chain)) owned;
      },
      o.use_,
    )
topped_rooted scheme a told free s (Some c) o = at o.parts o.named o.stand
  where
    at : (Ps : List Placed) → NameTrees scheme o.page_map (c ∷ []) Ps → trees Ps ≡ topped s →
        (e : Drafted scheme told free (Some c) s) × (e.page_map.size ≡ a.size)
    at [] named stand = absurd named
    at (P ∷ Q ∷ Ps) named stand = absurd named.1
    at (P ∷ []) named stand =
        let one : topped s ≡ s ∷ [] = sym stand ∙ ap (λ t. t ∷ []) (sym (topped_one s (tree_of P) (sym stand))) in
        rooted scheme a (λ size chain. size ≡ a.size) told free s c
        (subst (λ ts. Outcome scheme a (λ size chain. size ≡ a.size) told free (0 ∷ []) ts (c ∷ [])) one o)

-- the record is taken out below the root
pub record TakenOut (scheme : Scheme) (told : Option PageMap) (free : ℕ) (entry : Option Child) (n : ℕ)
    (aside : List Record) (size : ℕ) (t : Tree) : Type 0 where
  pub draft : Drafted scheme told free entry (shortened (shrunk n t).tree)
  pub same : draft.page_map.size ≡ size
  pub aside_is : aside ≡ (shrunk n t).aside

pub taken_out : (scheme : Scheme) (told told' : Option PageMap) (free free' : ℕ) (c : Child) (n : ℕ) (r : Rectangle)
    (entry : Option Child) (aside : List Record) →
    RemovesRecord scheme true told free told' free' c n r (option_to_list entry) aside →
    (t : Tree) (d : Drafted scheme told free (Some c) t) → HaveRect n r (records t) →
    IsOnce n (records t) → TakenOut scheme told' free' entry n aside d.page_map.size t
taken_out scheme told told' free free' c n r entry aside removes t d all once =
    at d.placed d.tree d.root_is d.written d.owned
  where
    at : (o : Option Placed) → whole_tree o ≡ t → ◌≡◌ {A = Option Link} (Some (child_link c))
        (option_map (link_of scheme) o) → IfSome o (IsWritten scheme (HasNode d.page_map)) →
        OwnsEachOnce d.page_map.size (0 ∷ (whole_pages o ++ d.chain)) → TakenOut scheme told' free' entry n aside
        d.page_map.size t
    at None is root written owned = cc
    at (Some P) is root written owned =
        let said : child_link c ≡ link_of scheme P = cc in
        let g = removes d.page_map d.chain P (0 ∷ []) d.is (record { said = said; written = written }) d.linked
        (same_owned d.page_map.size (0 ∷ (pages_of P ++ d.chain)) _ (λ q. start_counts q (pages_of P) d.chain) owned)
        (subst (λ u. HaveRect n r (records u)) (sym is) all) (subst (λ u. IsOnce n (records u)) (sym is) once) in
        let e = topped_rooted scheme d.page_map told' free' (shortened (shrunk n (tree_of P)).tree) entry g.1.outcome in
        subst (λ u. TakenOut scheme told' free' entry n aside d.page_map.size u) is
        (record { draft = e.0; same = e.1; aside_is = g.1.aside_is })

-- ---- insertions one after another

all_in_more : (xs : List Record) (x : Record) (t : Tree) → all_in (xs ++ x ∷ []) t ≡ ins x (all_in xs t)
all_in_more [] x t = refl
all_in_more (y ∷ ys) x t = all_in_more ys x (ins y t)

peak_more : (xs : List Record) (x : Record) (so_far : ℕ) (t : Tree) →
    peak_in so_far t (xs ++ x ∷ []) ≡ max (peak_in so_far t xs) (nodes (ins x (all_in xs t)))
peak_more [] x so_far t = refl
peak_more (y ∷ ys) x so_far t = peak_more ys x (max so_far (nodes (ins y t))) (ins y t)

-- one insertion
pub reaches_one : (scheme : Scheme) (told told' : Option PageMap) (free free' : ℕ) (root : Option Child) (c : Child)
    (one : Record) (t : Tree) (least size so_far : ℕ) → InsertsRecord scheme told free root told' free' c one →
    ReachesTree scheme told free root t least size so_far → ReachesTree scheme told' free' (Some c) (ins one t)
    least size
    (max so_far (nodes (ins one t)))
reaches_one scheme told told' free free' root c one t least size so_far inserts r =
    let e = inserts t r.draft in
    record {
      draft = e.0;
      no_fewer = omega (arith, r.no_fewer, e.1.more);
      no_more = elim e.1.grew [
        | inl same ↦ omega (arith, same, r.no_more)
        | inr none ↦ omega (arith, pages_counted scheme told' free' (Some c) (ins one t) e.0, ap length none)
      ];
    }

pub inserts_none : (scheme : Scheme) (told : Option PageMap) (free : ℕ) (root : Option Child) →
    InsertsAll scheme told free root told free root []
inserts_none scheme told free root t least size so_far r = r

pub inserts_more : (scheme : Scheme) (told told1 told2 : Option PageMap) (free free1 free2 : ℕ)
    (root root1 : Option Child)
    (c : Child) (rs : List Record) (i : ℕ) (one : Record) → i < length rs → one ≡ get_or rs i one →
    InsertsAll scheme told free root told1 free1 root1 (take i rs) →
    InsertsRecord scheme told1 free1 root1 told2 free2 c one → InsertsAll scheme told free root told2 free2 (Some c)
    (take (i + 1) rs)
inserts_more scheme told told1 told2 free free1 free2 root root1 c rs i one within
    is before inserts t least size so_far r =
    let xs = take i rs in
    let b = reaches_one scheme told1 told2 free1 free2 root1 c one (all_in xs t) least size (peak_in so_far t xs)
    inserts (before t least size so_far r) in
    let whole : take (i + 1) rs ≡ xs ++ one ∷ [] = take_more rs i one within ∙ ap (λ x. xs ++ x ∷ []) (sym is) in
    subst (λ us. ReachesTree scheme told2 free2 (Some c) (all_in us t) least size (peak_in so_far t us)) (sym whole)
    (subst (λ u. ReachesTree scheme told2 free2 (Some c) u least size (peak_in so_far t (xs ++ one ∷ [])))
    (sym (all_in_more xs one t))
    (subst (ReachesTree scheme told2 free2 (Some c) (ins one (all_in xs t)) least size)
    (sym (peak_more xs one so_far t))
    b))

-- ---- a deletion

pub deleted : (scheme : Scheme) (told told1 told' : Option PageMap) (free free1 free' : ℕ) (c : Child) (n : ℕ)
    (r : Rectangle) (entry root' : Option Child) (aside sorted : List Record) →
    RemovesRecord scheme true told free told1 free1 c n r (option_to_list entry) aside →
    sorted ≡ sorted_by_key (λ (x : Record). x.number) aside →
    InsertsAll scheme told1 free1 entry told' free' root' sorted →
    DeletesRecord scheme told free (Some c) told' free' root' n r
deleted scheme told told1 told' free free1 free' c n r entry root' aside sorted removes sorts inserts t least size
    so_far reach all once =
    let d = reach.draft in
    let x = taken_out scheme told told1 free free1 c n r entry aside removes t d all once in
    let what : sorted ≡ sorted_by_key (λ (y : Record). y.number) (shrunk n t).aside = sorts
    ∙ ap (sorted_by_key (λ (y : Record). y.number)) x.aside_is in
    let s = shortened (shrunk n t).tree in
    subst (λ us. ReachesTree scheme told' free' root' (all_in us s) least size (peak_in so_far s us)) what
    (inserts s least size so_far (record {
      draft = x.draft;
      no_fewer = omega (arith, x.same, reach.no_fewer);
      no_more =
          omega (arith, x.same, reach.no_more);
    }))

-- the same, where nothing was changed before
pub deletes_then : (scheme : Scheme) (told told1 told' : Option PageMap) (free free1 free' : ℕ)
    (root root' : Option Child)
    (n : ℕ) (r : Rectangle) → told1 ≡ told → free1 ≡ free → DeletesRecord scheme told1 free1 root told' free'
    root' n r →
    DeletesRecord scheme told free root told' free' root' n r
deletes_then scheme told told1 told' free free1 free' root root' n r same same_free deletes =
    subst (λ o. DeletesRecord scheme o free root told' free' root' n r) same
    (subst (λ f. DeletesRecord scheme told1 f root told' free' root' n r) same_free deletes)
