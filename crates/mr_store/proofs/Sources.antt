-- The pages of a file on a shelf as a walk sees them, and what is kept of them.
use Rattle.std.proofs.Common.{◌≡◌, ◌≢◌, ℕ, ◌+◌, ◌<◌, ◌≤◌, Bool, true, false, List, [], ◌∷◌, length, inl, inr, refl, sym, ap, subst, ◌∙◌, arith}
use Rattle.std.specs.Prelude.{◌==◌, ◌⊎◌, nat_eq, Contains, Option, Some, None, option_map, Result, Ok, Err, IfSome, IsSome, OnOk, OnErr}
use Rattle.std.specs.List.{AllByRecursion, IsDistinct}
use Rattle.std.specs.Map.{lookup, keys_of}
use Rattle.std.proofs.lemmas.Bool.{ltb-false, ne_eqb}
use Rattle.std.proofs.lemmas.List.{length-map}
use Rattle.std.proofs.lemmas.Map.Steps.{length-le_from_distinct_below}
use Rattle.lru.specs.LruCache.{LruCache, IsValid}
use Rattle.lru.proofs.Splits.{all_from, all_map}
use Rattle.mr_outside.specs.Files.{Files}
use Rattle.mr_tree.specs.Digest.{by}
use Rattle.mr_tree.specs.View as view
use Rattle.mr_tree.specs.declared.child.Child.{Child}
use Rattle.mr_pages.specs.declared.node.Node as owned_type
use Rattle.mr_pages.specs.declared.node.Node.TheVariants as owned_node
use Rattle.mr_pages.specs.Page.{Form}
use Rattle.mr_pages.specs.File.{file_of}
use Rattle.mr_pages.specs.Walking.{page_node}
use Rattle.mr_pages.specs.Source.{told_bytes, MayKeep}
use Rattle.mr_pages.specs.private.Walks.{HasWholePages, IsPaged}
use Rattle.mr_pages.proofs.Lists.{all_has}
use Rattle.mr_store.specs.declared.cached_node.CachedNode.{CachedNode}
use Rattle.mr_store.specs.Kept.{CacheEntries, room, node_of, keeps_opened, AreInside, IsKeptOf, GainsNode}
use Rattle.mr_store.specs.private.Paging.{HoldsPage, IsGoodEntry, IsFileOf, IsPaging, IsUnchecked}
use Rattle.mr_store.specs.declared.cached_file.CachedFile.{CachedFile}
use Rattle.mr_store.specs.CachedFile.{state_of, name_of, page_form, entries_of, OnlyKeeps}
use Rattle.mr_outside.specs.declared.shelf.Shelf.{Ghosts}
use Rattle.mr_pages.specs.PageBytes.{form_of}
use Rattle.mr_pages.specs.declared.layout.Layout.{Layout}
use Rattle.std.specs.String.{string_bytes}

-- ---- the file

-- where the files are told, it has so many pages
pub paged : (form : Form) (hash : List ℕ → List ℕ) (told : Option Files) (name : List ℕ) (pages : ℕ) (first : List ℕ)
    (es : CacheEntries) (size : ℕ) → IsPaging form hash told name pages first es size → IsPaged form pages told name
paged form hash told name pages first es size s =
    record { there = s.there; file_ = of_bytes (told_bytes told name) s.file_ }
  where
    of_bytes : (o : Option (List ℕ)) → IfSome o (IsFileOf form pages es) → IfSome o (HasWholePages form pages)
    of_bytes None f = tt
    of_bytes (Some bytes) f = record { are = f.are; even = f.even; count = f.count }

-- ---- what is kept

-- a node that is not kept, since there is no room
no_room : (count : ℕ) (n : owned_type.Node) → keeps_opened count n ≡ false → room ≤ count
no_room count (owned_node.Inner children) e = let none : true ≡ false = e in cc
no_room count (owned_node.Leaf records) e = ltb-false count room e

module _ (form : Form) (hash : List ℕ → List ℕ) (told : Option Files) (name : List ℕ) (pages : ℕ) (first : List ℕ)
    (c d : LruCache ℕ CachedNode) (s : IsPaging form hash told name pages first c.entries c.cap) (child : Child) (n :
    owned_type.Node)
    (faults reads : ℕ)
    (may : MayKeep hash (record {
      origin = record { name = name; files = told; form = form; lent = (0, 0) };
      pages = pages;
      file = option_map (file_of form) (told_bytes told name);
      faults = faults;
      reads = reads;
    }) child n) where
  good_entry : (e : ℕ × CachedNode) → IsKeptOf child (node_of n) e → IsGoodEntry (by form.version hash) pages e
  good_entry e k = record {
    low = subst (λ p. 1 ≤ p) (sym k.page) may.low;
    within = subst (λ p. p < pages) (sym k.page) may.place;
    good = record {
      shape = subst Rattle.mr_tree.specs.Snapshot.HasShape (sym k.node) may.known.shape;
      level = ap view.level_of k.node ∙ may.known.level ∙ sym k.that.level;
      told = subst (view.AreTold form.version) (sym k.node) may.known.told;
      digest = ap (λ m. hash (view.preimage_of form.version m)) k.node ∙ may.known.digest ∙ sym k.that.digest;
      inside = subst (AreInside pages) (sym k.node) may.inside;
    };
  }

  grown_file : GainsNode c.cap c.entries d.entries child (node_of n) → (o : Option (List ℕ)) →
      IfSome (option_map (file_of form) o) (λ f. f.node child.id ≡ Some (page_node (node_of n))) →
      IfSome o (IsFileOf form pages c.entries) → IfSome o (IsFileOf form pages d.entries)
  grown_file g None t f = tt
  grown_file g (Some bytes) t f = record {
    are = f.are;
    even = f.even;
    count = f.count;
    same = λ e within. elim (g.each e within) [
      | inl old ↦ f.same e old
      | inr new' ↦ ap (file_of form bytes).node new'.page ∙ t ∙ ap (λ m. Some (page_node m)) (sym new'.node)
    ];
  }

  grown : GainsNode c.cap c.entries d.entries child (node_of n) → d.cap ≡ c.cap →
      IsPaging form hash told name pages first d.entries d.cap
  grown g same = record {
    some = s.some;
    few = s.few;
    cap = same ∙ s.cap;
    each = λ e within. elim (g.each e within) [ inl old ↦ s.each e old | inr new' ↦ good_entry e new' ];
    there = s.there;
    headed = s.headed;
    file_ = grown_file g (told_bytes told name) may.told s.file_;
  }

  pub still_paging : {A E : Type 0} (r : Result A E) →
      OnOk r (GainsNode c.cap c.entries d.entries child (node_of n)) → OnErr r (d ≡ c) → d.cap ≡ c.cap →
      IsPaging form hash told name pages first d.entries d.cap
  still_paging (Ok a) g e same = grown g same
  still_paging (Err x) g e same =
      subst (λ (m : LruCache ℕ CachedNode). IsPaging form hash told name pages first m.entries m.cap) (sym e) s

  -- ---- there is room for all pages of a small file

  none_keys : (es : CacheEntries) → lookup (nat_eq child.id) es ≡ None →
      AllByRecursion (λ k. (child.id == k) ≡ false) (keys_of es)
  none_keys [] e = tt
  none_keys (x ∷ es) e = here (child.id == x.0) refl (none_keys es)
    where
      here : (b : Bool) → (child.id == x.0) ≡ b →
          (lookup (nat_eq child.id) es ≡ None → AllByRecursion (λ k. (child.id == k) ≡ false) (keys_of es)) →
          AllByRecursion (λ k. (child.id == k) ≡ false) (keys_of (x ∷ es))
      here true t on = let h : ◌≡◌ {A = Option CachedNode} (Some x.1) None = rw t at e in cc
      here false t on = (t, on (rw t at e))

  keys_are : (P : ℕ → Type 0) → ((e : ℕ × CachedNode) → Contains c.entries e → P e.0) →
      AllByRecursion P (keys_of c.entries)
  keys_are P f = all_map (λ (e : ℕ × CachedNode). e.0) P c.entries
      (all_from (λ (e : ℕ × CachedNode). P e.0) c.entries f)

  many : IsDistinct ◌==◌ (keys_of c.entries) → lookup (nat_eq child.id) c.entries ≡ None →
      length c.entries + 2 ≤ pages
  unfolding IsDistinct
  many distinct none =
      let ks = keys_of c.entries in
      let low : AllByRecursion (λ k. (0 == k) ≡ false) ks = keys_are (λ k. (0 == k) ≡ false)
      (λ e within. ne_eqb 0 e.0 (zero_less e.0 (s.each e within).low)) in
      let high : AllByRecursion (λ k. k < pages) ks =
      keys_are (λ k. k < pages) (λ e within. (s.each e within).within) in
      let all : length (0 ∷ child.id ∷ ks) ≤ pages = length-le_from_distinct_below (0 ∷ child.id ∷ ks) pages
      ((ne_eqb 0 child.id (zero_less child.id may.low), low), (none_keys c.entries none, distinct))
      (all_has (λ k. k < pages) (0 ∷ child.id ∷ ks) (omega (arith, s.some), (may.place, high))) in
      omega (arith, all, length-map c.entries (λ (e : ℕ × CachedNode). e.0))
    where
      zero_less : (k : ℕ) → 1 ≤ k → 0 ≢ k
      zero_less k h e = omega (arith, h, e)

  roomy : IsValid nat_eq c → pages ≤ room + 1 → (o : Option CachedNode) → lookup (nat_eq child.id) c.entries ≡ o →
      IsSome (lookup (nat_eq child.id) c.entries) ⊎ (length c.entries < c.cap)
  roomy valid small None e = inr (omega (arith, many valid.0 e, small, s.cap))
  roomy valid small (Some k) e = inl (subst (IsSome {T = CachedNode}) (sym e) refl)

  -- a node that is not kept for want of room is kept already, where there is room for all pages
  pub held_full : IsValid nat_eq c → keeps_opened (length c.entries) n ≡ false → HoldsPage pages c.entries child.id
  held_full valid full small = elim (roomy valid small (lookup (nat_eq child.id) c.entries) refl) [
    | inl there ↦ there
    | inr less ↦ absurd (omega (arith, less, s.cap, no_room (length c.entries) n full))
  ]

  pub keeps_more : {A E : Type 0} (r : Result A E) → IsValid nat_eq c →
      OnOk r (GainsNode c.cap c.entries d.entries child (node_of n)) → OnErr r (d ≡ c) →
      (page : ℕ) → HoldsPage pages c.entries page → HoldsPage pages d.entries page
  keeps_more (Ok a) valid g e page h = λ small.
      g.none_lost (roomy valid small (lookup (nat_eq child.id) c.entries) refl) page (h small)
  keeps_more (Err x) valid g e page h =
      subst (λ (m : LruCache ℕ CachedNode). HoldsPage pages m.entries page) (sym e) h

-- ---- a file with its cache in which a node was kept

pub unchecked_at : {S : Type 0} {G : Ghosts S} (hash : List ℕ → List ℕ) (f f' : CachedFile S G) (first : List ℕ) →
    OnlyKeeps f f' →
    IsPaging (page_form f) hash (state_of f).files (name_of f) f.pages first (entries_of f') f'.cache.cap →
    IsUnchecked hash f' first
unchecked_at {S} {G} hash f f' first k s =
    subst (λ l. Q f'.shelf (name_of f') l f'.pages) (sym k.file.layout)
    (subst (λ x. Q x (name_of f') f.layout f'.pages) (sym k.shelf)
    (subst (λ n. Q f.shelf (string_bytes n) f.layout f'.pages) (sym k.file.name)
    (subst (λ p. Q f.shelf (name_of f) f.layout p) (sym k.file.pages) s)))
  where
    Q : S → List ℕ → Layout → ℕ → Type 0
    Q x n l p = IsPaging (form_of l) hash (G.state x).files n p first (entries_of f') f'.cache.cap
