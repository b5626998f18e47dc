-- What a fetch shows, why it may refuse, and what stands afterwards.
use Rattle.std.proofs.Common.{◌≡◌, ℕ, ◌+◌, ◌<◌, ◌≤◌, Bool, true, false, List, [], ◌∷◌, inl, inr, refl, sym, ap, subst, ◌∙◌, arith}
use Rattle.std.specs.Prelude.{⊤, ltb, nat_eq, Contains, Option, Some, None, option_map, Result, Ok, Err, IfSome, is_some, IsSome, IsNone, IsSomeAnd, MatchOption}
use Rattle.std.specs.Map.{lookup}
use Rattle.std.proofs.lemmas.Bool.{eqb-true, ltb-true, ltb-false}
use Rattle.std.proofs.lemmas.Map.Made.{is_some-lookup}
use Rattle.std.proofs.lemmas.List.Elements.{All-from_recursion, recursion_from_All}
use Rattle.std.specs.List.{AllByRecursion}
use Rattle.lru.proofs.CallerLemmas.{Contains-lookup}
use Rattle.mr_outside.specs.Files.{Files, file}
use Rattle.mr_outside.specs.Faults.{Rose}
use Rattle.mr_outside.specs.State.{Shelved}
use Rattle.mr_outside.specs.Told.{OfFile, MayMiss}
use Rattle.mr_tree.specs.Limits.{level_limit}
use Rattle.mr_tree.specs.declared.entry.Entry.{Entry}
use Rattle.mr_tree.specs.Digest.{Scheme, by, entry}
use Rattle.mr_tree.specs.View as view
use Rattle.mr_tree.specs.Nodes.{MapModel, IsEntry, MayFetch, ShowsNode, HasFetchCause}
use Rattle.mr_tree.specs.Snapshot.{HasShape}
use Rattle.mr_tree.specs.declared.child.Child.{Child}
use Rattle.mr_tree.specs.declared.nodes.NodesErr.{NodesErr}
use Rattle.mr_tree.specs.declared.tree.Tree.{Tree}
use Rattle.mr_tree.specs.declared.nodes.NodesErr.TheVariants as errors
use Rattle.mr_pages.specs.declared.head.MapHead.{MapHead}
use Rattle.mr_pages.specs.Page.{Node, Form, IsForm, node_entry}
use Rattle.mr_pages.specs.File.{file_of}
use Rattle.mr_pages.specs.Stands.{Placed, tree_of, whole_pages}
use Rattle.mr_pages.specs.Walking.{page_node}
use Rattle.mr_pages.proofs.Lists.{has_contains}
use Rattle.mr_pages.proofs.Building.{level_is}
use Rattle.mr_store.specs.declared.cached_node.CachedNode.{CachedNode}
use Rattle.mr_store.specs.Parts.{whole_parts, untold}
use Rattle.mr_store.specs.Kept.{CacheEntries, node_of, IsThat, IsHeld, IsShown, AreInside, IsGood, IsFound, KeepsEntries, IsKeptOf, GainsNode}
use Rattle.mr_store.specs.Again.{IsChildInFile, IsSaid, TellsNode, TellsAgain, IsFetchRefused}
use Rattle.mr_store.specs.Stored.{told_bytes, nodes_on_pages, read_map, room, IsOpen, IsStored}
use Rattle.mr_store.specs.private.PartLaws.{whole_has}
use Rattle.mr_store.specs.private.Told.{IsOn, is_on, level_known, digest_known}
use Rattle.mr_store.specs.private.Laws.{opened}

-- ---- what may be fetched of a map that is told

on_page : (form : Form) → IsForm form → (hash : List ℕ → List ℕ) (h : MapHead) (es : CacheEntries) (bytes : List ℕ) →
    IsOpen form hash h es bytes → (c : Child) → MayFetch hash (read_map form h (Some bytes)) c →
    IsOn (by form.version hash) (file_of form bytes).node (read_map form h (Some bytes)) c
on_page form is hash h es bytes o c may =
    let p = opened form is hash h es bytes o in
    is_on (by form.version hash) (file_of form bytes).node h.batch h.pages (nodes_on_pages form h bytes) p.pages
    p.reads.lies.written c (may.known refl)

some_same : {A : Type 0} (x y : A) → Some x ≡ Some y → x ≡ y
some_same x y e = cc

-- ---- from the cache

-- a view of a map that is not told
untold_shows : (hash : Scheme) (batch pages : ℕ) (c : Child) (n : view.Node) → c.level ≤ level_limit →
    HasShape n → view.AreTold hash.version n → view.level_of n ≡ c.level → hash.of (view.preimage_of hash.version n) ≡
    c.digest →
    AreInside pages n → ShowsNode hash.of (untold hash.version batch pages) c n
untold_shows hash batch pages c n low shape told level digest inside = record {
  some = shape.some;
  level = level;
  digest = digest;
  told = told;
  children = All-from_recursion (MayFetch hash.of (untold hash.version batch pages)) (view.children_in n)
      (all (view.children_in n) (recursion_from_All _ (view.children_in n) inside)
      (recursion_from_All (λ (d : Child). d.level + 1 ≡ view.level_of n) (view.children_in n) shape.alike));
  node = tt;
}
  where
    all : (cs : List Child) → AllByRecursion (λ (d : Child). (1 ≤ d.id) × (d.id < pages)) cs →
        AllByRecursion (λ (d : Child). d.level + 1 ≡ view.level_of n) cs →
        AllByRecursion (MayFetch hash.of (untold hash.version batch pages)) cs
    all [] each alike = tt
    all (d ∷ ds) each alike = (
      record {
        positive = each.0.0;
        within = each.0.1;
        low = omega (arith, alike.0, level, low);
        known = λ told. let none : IsSome {T = Tree} None = told in cc;
      },
      all ds each.1 alike.1,
    )

module _ (form : Form) (is : IsForm form) (hash : List ℕ → List ℕ) (told : Option Files) (name : List ℕ) (h : MapHead)
    (es : CacheEntries) (cap : ℕ)
    (s : IsStored form hash told name h es cap) where
  -- what is kept of a page
  kept_of : (page : ℕ) (k : CachedNode) → lookup (nat_eq page) es ≡ Some k → Contains es (page, k)
  kept_of page k e =
      let q = Contains-lookup (nat_eq page) es k e in
      subst (λ p. Contains es (p, k)) (sym (eqb-true page q.0 q.2)) q.1

  pub shown_of : (e : ℕ × CachedNode) → Contains es e → IsShown e.1
  shown_of e c = record { shape = (s.good e c).shape; level = (s.good e c).level }

  pub found_shows : (c : Child) (n : view.Node) → MayFetch hash (read_map form h (told_bytes told name)) c →
      IsFound es c n → ShowsNode hash (read_map form h (told_bytes told name)) c n
  found_shows c n may f =
      let within = kept_of c.id f.kept f.there in
      at_bytes c n f within (s.good (c.id, f.kept) within) (told_bytes told name) s.open_ may
    where
      at_bytes : (c : Child) (n : view.Node) (f : IsFound es c n) → Contains es (c.id, f.kept) →
          IsGood (by form.version hash) h.pages f.kept → (o : Option (List ℕ)) → IfSome o (IsOpen form hash h es) →
          MayFetch hash (read_map form h o) c → ShowsNode hash (read_map form h o) c n
      at_bytes c n f within good None op may = subst (ShowsNode hash (untold form.version h.batch h.pages) c)
          (sym f.node)
          (untold_shows (by form.version hash) h.batch h.pages c (node_of f.kept.node) may.low good.shape good.told
          (good.level ∙
          f.that.level)
          (good.digest ∙ f.that.digest) good.inside)
      at_bytes c n f within good (Some bytes) op may =
          let on = on_page form is hash h es bytes op c may in
          subst (ShowsNode hash (read_map form h (Some bytes)) c) (sym f.node)
          (on.shows (node_of f.kept.node)
          (some_same (page_node (node_of f.kept.node)) on.node (sym (op.same (c.id, f.kept) within) ∙ on.there))
          good.shape good.told may.low)

  -- ---- where all nodes are kept, nothing is missed

  -- the page of a child that may be fetched is one of the map's
  on_map : (bytes : List ℕ) (c : Child) → IsEntry hash (read_map form h (Some bytes)) c →
      Contains (whole_pages (nodes_on_pages form h bytes)) c.id
  on_map bytes c known = at_place (lookup (nat_eq c.id) (whole_parts (nodes_on_pages form h bytes))) refl known
    where
      at_place : (o : Option Placed) → lookup (nat_eq c.id) (whole_parts (nodes_on_pages form h bytes)) ≡ o →
          IsSomeAnd (option_map tree_of o) (λ t. view.child_entry c ≡ entry (by form.version hash) t) →
          Contains (whole_pages (nodes_on_pages form h bytes)) c.id
      at_place None e k = absurd k
      at_place (Some P) e k =
          has_contains c.id (whole_pages (nodes_on_pages form h bytes))
          (sym (whole_has c.id (nodes_on_pages form h bytes))
          ∙ sym (is_some-lookup (nat_eq c.id) (whole_parts (nodes_on_pages form h bytes))) ∙ ap is_some e)

  held : (bytes : List ℕ) → IsOpen form hash h es bytes → (c : Child) → MayFetch hash (read_map form h (Some bytes)) c →
      (k : CachedNode) → lookup (nat_eq c.id) es ≡ Some k → IsThat c k
  held bytes op c may k e =
      let on = on_page form is hash h es bytes op c may in
      let within = kept_of c.id k e in
      let good = s.good (c.id, k) within in
      let same : page_node (node_of k.node) ≡ on.node =
      some_same (page_node (node_of k.node)) on.node (sym (op.same (c.id, k) within) ∙ on.there) in
      record {
        level = sym good.level ∙ level_known (by form.version hash) (node_of k.node) ∙ ap (λ m. (node_entry (by
            form.version hash) m).level) same
            ∙ ap (λ (x : Entry). x.level) on.known;
        digest = sym good.digest ∙ digest_known (by form.version hash) (node_of k.node) ∙ ap (λ m. (node_entry (by
            form.version hash) m).digest) same
            ∙ ap (λ (x : Entry). x.digest) on.known;
      }

  held_at : (bytes : List ℕ) → IsOpen form hash h es bytes → (c : Child) → MayFetch hash (read_map form h (Some bytes))
      c →
      (o : Option CachedNode) → lookup (nat_eq c.id) es ≡ o → IsSome o → IsSomeAnd o (IsThat c)
  held_at bytes op c may None e some = let none : IsSome {T = CachedNode} None = some in cc
  held_at bytes op c may (Some k) e some = held bytes op c may k e

  pub none_missed : IsSome told → h.pages ≤ room + 1 → (c : Child) →
      MayFetch hash (read_map form h (told_bytes told name)) c → IsHeld es c
  none_missed told_so small c may = by_files told told_so s.there s.open_ may
    where
      by_bytes : (o : Option (List ℕ)) → IsSome o → IfSome o (IsOpen form hash h es) →
          MayFetch hash (read_map form h o) c →
          IsHeld es c
      by_bytes None some op may = let none : IsSome {T = List ℕ} None = some in cc
      by_bytes (Some bytes) some op may =
          held_at bytes op c may (lookup (nat_eq c.id) es) refl
          (op.all small c.id (on_map bytes c (may.known refl)))

      by_files : (o : Option Files) → IsSome o → MatchOption o ⊤ (λ files. IsSome (file files name)) →
          IfSome (told_bytes o name) (IsOpen form hash h es) → MayFetch hash (read_map form h (told_bytes o name)) c →
          IsHeld es c
      by_files None some there op may = let none : IsSome {T = Files} None = some in cc
      by_files (Some files) some there op may = by_bytes (file files name) there op may

-- ---- by a read

of_told : (told : Option Files) (name : List ℕ) (P : List ℕ → Type 0) → OfFile told name ⊤ P →
    IfSome (told_bytes told name) P
of_told None name P h = tt
of_told (Some files) name P h = at_file (file files name) h
  where
    at_file : (o : Option (List ℕ)) → MatchOption o ⊤ P → IfSome o P
    at_file None h = tt
    at_file (Some bytes) h = h

said_of : (hash : Scheme) (at : ℕ → Option Node) (s : MapModel) (c : Child) (on : IsOn hash at s c) →
    IsSaid hash s.span c on.node
said_of hash at s c on = record {
  level = sym (level_is hash on.node) ∙ ap (λ (x : Entry). x.level) on.known;
  digest = ap (λ (x : Entry). x.digest) on.known;
  inside = on.inside;
}

module _ (form : Form) (is : IsForm form) (hash : List ℕ → List ℕ) (told : Option Files) (name : List ℕ) (h : MapHead)
    (es : CacheEntries) (cap : ℕ)
    (s : IsStored form hash told name h es cap) (c : Child) (may : MayFetch hash (read_map form h (told_bytes told
    name)) c)
  where
    -- what a read tells of the node on a page
    told_node : {A : Type 0} (r : Result A NodesErr) (n : view.Node) (bytes : List ℕ) → IsOpen form hash h es bytes →
        (on : IsOn (by form.version hash) (file_of form bytes).node (read_map form h (Some bytes)) c) → c.id < h.pages →
        TellsAgain form hash h.pages c r n bytes → TellsNode on.node r n
    told_node r n bytes op on within t =
        t (opened form is hash h es bytes op).whole within on.node on.there
        (said_of (by form.version hash) (file_of form bytes).node (read_map form h (Some bytes)) c on)

    pub read_shows : {A : Type 0} (a : A) (n : view.Node) → IsChildInFile (by form.version hash) h.pages c n →
        OfFile told name ⊤ (TellsAgain {A = A} form hash h.pages c (Ok a) n) →
        ShowsNode hash (read_map form h (told_bytes told name)) c n
    read_shows {A} a n r t =
        by_bytes (told_bytes told name) s.open_ may (of_told told name (TellsAgain form hash h.pages c (Ok a) n) t)
      where
        by_bytes : (o : Option (List ℕ)) → IfSome o (IsOpen form hash h es) → MayFetch hash (read_map form h o) c →
            IfSome o (TellsAgain {A = A} form hash h.pages c (Ok a) n) → ShowsNode hash (read_map form h o) c n
        by_bytes None op may t =
            untold_shows (by form.version hash) h.batch h.pages c n may.low r.shape r.told r.level r.digest r.inside
        by_bytes (Some bytes) op may t =
            let on = on_page form is hash h es bytes op c may in
            on.shows n (told_node (Ok a) n bytes op on may.within t) r.shape r.told may.low

    -- a file that is told is not missing
    missing : (before after : ℕ) → MayMiss told name before after →
        IsNone (read_map form h (told_bytes told name)).tree × Rose before after
    missing before after m = by_files told s.there m
      where
        by_files : (o : Option Files) → MatchOption o ⊤ (λ files. IsSome (file files name)) →
            MayMiss o name before after →
            IsNone (read_map form h (told_bytes o name)).tree × Rose before after
        by_files None there m = (refl, m)
        by_files (Some files) there m =
            let none : IsSome {T = List ℕ} None = subst (IsSome {T = List ℕ}) m there in cc

    -- what is blamed on the file is not told
    blamed : (A : Type 0) (e : NodesErr) (n : view.Node) →
        OfFile told name ⊤ (TellsAgain {A = A} form hash h.pages c (Err e) n) →
        ((m : Node) → TellsNode {A = A} m (Err e) n → ⊥) → IsNone (read_map form h (told_bytes told name)).tree
    blamed A e n t other =
        by_bytes (told_bytes told name) s.open_ may (of_told told name (TellsAgain {A = A} form hash h.pages c (Err e)
        n) t)
      where
        by_bytes : (o : Option (List ℕ)) → IfSome o (IsOpen form hash h es) → MayFetch hash (read_map form h o) c →
            IfSome o (TellsAgain {A = A} form hash h.pages c (Err e) n) → IsNone (read_map form h o).tree
        by_bytes None op may t = refl
        by_bytes (Some bytes) op may t =
            let on = on_page form is hash h es bytes op c may in
            absurd (other on.node (told_node {A = A} (Err e) n bytes op on may.within t))

    span : (read_map form h (told_bytes told name)).span ≡ h.pages
    span = by_bytes (told_bytes told name)
      where
        by_bytes : (o : Option (List ℕ)) → (read_map form h o).span ≡ h.pages
        by_bytes None = refl
        by_bytes (Some bytes) = refl

    pub read_cause : (A : Type 0) (before after : Shelved) (e : NodesErr) (n : view.Node) → before.files ≡ told →
        OfFile told name ⊤ (TellsAgain {A = A} form hash h.pages c (Err e) n) →
        IsFetchRefused h.pages name c before after e →
        HasFetchCause (read_map form h (told_bytes told name)) c before.faults after.faults e
    read_cause A before after (errors.Changed page held found) n same t r =
        (blamed A (errors.Changed page held found) n t (λ m other. other), r.0.0, r.0.1, r.0.2, r.2)
    read_cause A before after (errors.Page page) n same t r =
        (blamed A (errors.Page page) n t (λ m other. other), r.0, r.2)
    read_cause A before after (errors.Outside page) n same t r = (
      blamed A (errors.Outside page) n t (λ m other. other),
      λ some. omega (arith, r.0 some, span),
      r.2,
    )
    read_cause A before after errors.Missing n same t r =
        missing before.faults after.faults (subst (λ o. MayMiss o name before.faults after.faults) same r)
    read_cause A before after errors.Fault n same t r = r
    read_cause A before after errors.NoMemory n same t r = tt

    -- ---- what stands afterwards

    pub larger : (IsHeld es c → ⊥) → IsSome told → room + 1 < h.pages
    larger missed told_so = at_test (ltb (room + 1) h.pages) refl
      where
        at_test : (b : Bool) → ltb (room + 1) h.pages ≡ b → room + 1 < h.pages
        at_test true e = ltb-true (room + 1) h.pages e
        at_test false e = absurd (missed (none_missed form is hash told name h es cap s told_so (ltb-false (room + 1)
            h.pages e) c
            may))

    pub still_store : (es' : CacheEntries) (cap' : ℕ) → KeepsEntries es es' → cap' ≡ cap → IsStored form hash told name
        h es' cap'
    still_store es' cap' stays same = record {
      few = s.few;
      paged = s.paged;
      none = s.none;
      root = s.root;
      cap = same ∙ s.cap;
      good = λ e within. s.good e (stays.none_new e within);
      there = s.there;
      open_ = by_bytes (told_bytes told name) s.open_;
    }
      where
        by_bytes : (o : Option (List ℕ)) → IfSome o (IsOpen form hash h es) → IfSome o (IsOpen form hash h es')
        by_bytes None op = tt
        by_bytes (Some bytes) op = record {
          are = op.are;
          fault = op.fault;
          head = op.head;
          same = λ e within. op.same e (stays.none_new e within);
          all = λ small page on. stays.none_lost page (op.all small page on);
        }

    pub grown_store : {A : Type 0} (a : A) (n : view.Node) (es' : CacheEntries) (cap' : ℕ) →
        IsChildInFile (by form.version hash) h.pages c n →
        OfFile told name ⊤ (TellsAgain {A = A} form hash h.pages c (Ok a) n) → GainsNode cap es es' c n → cap' ≡ cap →
        (IsHeld es c → ⊥) → IsStored form hash told name h es' cap'
    grown_store {A} a n es' cap' r t g same missed = record {
      few = s.few;
      paged = s.paged;
      none = s.none;
      root = s.root;
      cap = same ∙ s.cap;
      good = λ e within. elim (g.each e within) [ inl old ↦ s.good e old | inr new' ↦ good_of e new' ];
      there = s.there;
      open_ = by_files told s.there s.open_ may t (λ told_so small. missed (none_missed form is hash told name h es cap
          s told_so small c
          may));
    }
      where
        good_of : (e : ℕ × CachedNode) → IsKeptOf c n e → IsGood (by form.version hash) h.pages e.1
        good_of e k = record {
          shape = subst HasShape (sym k.node) r.shape;
          level = ap view.level_of k.node ∙ r.level ∙ sym k.that.level;
          told = subst (view.AreTold form.version) (sym k.node) r.told;
          digest = ap (λ m. hash (view.preimage_of form.version m)) k.node ∙ r.digest ∙ sym k.that.digest;
          inside = subst (AreInside h.pages) (sym k.node) r.inside;
        }

        by_bytes : (bytes : List ℕ) → IsOpen form hash h es bytes → MayFetch hash (read_map form h (Some bytes)) c →
            TellsAgain {A = A} form hash h.pages c (Ok a) n bytes → (h.pages ≤ room + 1 → ⊥) →
            IsOpen form hash h es' bytes
        by_bytes bytes op may t large =
            let on = on_page form is hash h es bytes op c may in
            let shown : page_node n ≡ on.node = told_node (Ok a) n bytes op on may.within t in
            record {
              are = op.are;
              fault = op.fault;
              head = op.head;
              same = λ e within. elim (g.each e within) [
                | inl old ↦ op.same e old
                | inr new' ↦ ap (file_of form bytes).node new'.page ∙ on.there ∙ ap Some (sym shown)
                    ∙ ap (λ m. Some (page_node m)) (sym new'.node)
              ];
              all = λ small page within. absurd (large small);
            }

        at_bytes : (o : Option (List ℕ)) → IsSome o → IfSome o (IsOpen form hash h es) →
            MayFetch hash (read_map form h o) c →
            MatchOption o ⊤ (TellsAgain {A = A} form hash h.pages c (Ok a) n) → (h.pages ≤ room + 1 → ⊥) →
            IfSome o (IsOpen form hash h es')
        at_bytes None some op may t large = tt
        at_bytes (Some bytes) some op may t large = by_bytes bytes op may t large

        by_files : (o : Option Files) → MatchOption o ⊤ (λ files. IsSome (file files name)) →
            IfSome (told_bytes o name) (IsOpen form hash h es) → MayFetch hash (read_map form h (told_bytes o name)) c →
            OfFile o name ⊤ (TellsAgain {A = A} form hash h.pages c (Ok a) n) →
            (IsSome o → h.pages ≤ room + 1 → ⊥) → IfSome (told_bytes o name) (IsOpen form hash h es')
        by_files None there op may t large = tt
        by_files (Some files) there op may t large =
            at_bytes (file files name) there op may t (large refl)
