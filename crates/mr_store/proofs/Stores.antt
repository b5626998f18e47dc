-- What a fetch shows of a file with its cache, why it may refuse, and what stands afterwards.
use Rattle.std.proofs.Common.{◌≡◌, ℕ, ◌+◌, ◌<◌, List, refl, sym, ap, subst, ◌∙◌}
use Rattle.std.specs.Prelude.{⊤, Result, Ok, Err, IsSome, OnErr}
use Rattle.std.specs.String.{string_bytes}
use Rattle.lru.specs.LruCache.{LruCache}
use Rattle.mr_outside.specs.Told.{OfFile}
use Rattle.mr_outside.specs.declared.shelf.Shelf.{Ghosts}
use Rattle.mr_tree.specs.View as view
use Rattle.mr_tree.specs.Nodes.{MayFetch, ShowsNode, HasFetchCause}
use Rattle.mr_tree.specs.declared.child.Child.{Child}
use Rattle.mr_tree.specs.declared.nodes.NodesErr.{NodesErr}
use Rattle.mr_pages.specs.Page.{IsForm}
use Rattle.mr_pages.specs.PageBytes.{form_of}
use Rattle.mr_pages.specs.declared.head.MapHead.{MapHead}
use Rattle.mr_pages.proofs.HeadLaws.{form_is}
use Rattle.mr_store.specs.declared.cached_node.CachedNode.{CachedNode}
use Rattle.mr_store.specs.declared.cached_file.CachedFile.{CachedFile}
use Rattle.mr_store.specs.CachedFile.{state_of, name_of, page_form, entries_of, scheme_of, AreShown, IsHeld, IsSameFile, OnlyReads, OnlyKeeps, IsRead, IsRefused, TellsNode}
use Rattle.mr_store.specs.Again as again
use Rattle.mr_store.specs.Kept.{CacheEntries, room, IsFound, KeepsEntries, GainsNode}
use Rattle.mr_store.specs.Stored.{map_on, IsStored, IsStore}
use Rattle.mr_store.proofs.Fetched.{shown_of, found_shows, larger, read_cause, read_shows, still_store, grown_store}

-- what a failure leaves
pub on_err : {A E : Type 0} (r : Result A E) (P : Type 0) → P → OnErr r P
on_err (Ok a) P p = tt
on_err (Err e) P p = p

module _ {S : Type 0} {G : Ghosts S} where
  -- what is known of an opened map is so under the same name, in the same layout and files
  stored_at : (hash : List ℕ → List ℕ) (f f' : CachedFile S G) (h : MapHead) (es : CacheEntries) (cap : ℕ) →
      IsSameFile f f' → (state_of f').files ≡ (state_of f).files →
      IsStored (page_form f) hash (state_of f).files (name_of f) h es cap →
      IsStored (page_form f') hash (state_of f').files (name_of f') h es cap
  stored_at hash f f' h es cap same files s =
      subst (λ l. IsStored (form_of l) hash (state_of f').files (name_of f') h es cap) (sym same.layout)
      (subst (λ o. IsStored (page_form f) hash o (name_of f') h es cap) (sym files)
      (subst (λ n. IsStored (page_form f) hash (state_of f).files (string_bytes n) h es cap) (sym same.name) s))

  pub store_at : (hash : List ℕ → List ℕ) (f f' : CachedFile S G) (h : MapHead) → IsSameFile f f' →
      (state_of f').files ≡ (state_of f).files → IsStore hash f h →
      IsStored (page_form f) hash (state_of f).files (name_of f) h (entries_of f') f'.cache.cap → IsStore hash f' h
  store_at hash f f' h same files s is = record {
    pages = same.pages ∙ s.pages;
    is = stored_at hash f f' h (entries_of f') f'.cache.cap same files is;
  }

  -- it was read
  pub store_read : (hash : List ℕ → List ℕ) (f f' : CachedFile S G) (h : MapHead) → OnlyReads f f' → IsStore hash f h →
      IsStore hash f' h
  store_read hash f f' h o s =
      store_at hash f f' h o.file o.files s
      (subst (λ (m : LruCache ℕ CachedNode). IsStored (page_form f) hash (state_of f).files (name_of f) h m.entries
      m.cap)
      (sym o.cache) s.is)

  -- and what was to be kept was not
  pub store_left : (hash : List ℕ → List ℕ) (f f' f'' : CachedFile S G) (h : MapHead) → OnlyReads f f' →
      OnlyKeeps f' f'' → f''.cache ≡ f'.cache → IsStore hash f h → IsStore hash f'' h
  store_left hash f f' f'' h o k same s =
      store_at hash f f'' h (record {
        name = k.file.name ∙ o.file.name;
        layout = k.file.layout ∙ o.file.layout;
        pages = k.file.pages ∙ o.file.pages;
      }) (ap (λ (x : S). (G.state x).files) k.shelf ∙ o.files) s
      (subst (λ (m : LruCache ℕ CachedNode). IsStored (page_form f) hash (state_of f).files (name_of f) h m.entries
      m.cap)
      (sym (same ∙ o.cache)) s.is)

module _ {S : Type 0} {G : Ghosts S} (hash : List ℕ → List ℕ) (f : CachedFile S G) (h : MapHead) (s : IsStore hash f h)
  where
    good : IsForm (page_form f)
    good = form_is f.layout f.fits

    pub are_shown : AreShown f
    are_shown = shown_of (page_form f) good hash (state_of f).files (name_of f) h (entries_of f) f.cache.cap s.is

    module _ (c : Child) (may : MayFetch hash (map_on f h) c) where
      pub shows_found : (n : view.Node) → IsFound (entries_of f) c n → ShowsNode hash (map_on f h) c n
      shows_found n found =
          found_shows (page_form f) good hash (state_of f).files (name_of f) h (entries_of f) f.cache.cap s.is c n may
          found

      pub store_touched : (f' : CachedFile S G) → OnlyKeeps f f' → KeepsEntries (entries_of f) (entries_of f') →
          IsStore hash f' h
      store_touched f' o stays =
          store_at hash f f' h o.file (ap (λ (x : S). (G.state x).files) o.shelf) s
          (still_store (page_form f) good hash (state_of f).files (name_of f) h (entries_of f) f.cache.cap s.is c may
          (entries_of f') f'.cache.cap stays o.cap)

      pub is_large : (IsHeld f c → ⊥) → IsSome (state_of f).files → room + 1 < h.pages
      is_large = larger (page_form f) good hash (state_of f).files (name_of f) h (entries_of f) f.cache.cap s.is c may

      told_pages : {A : Type 0} (r : Result A NodesErr) (n : view.Node) →
          TellsNode {A = A} hash f c r n →
          OfFile (state_of f).files (name_of f) ⊤ (again.TellsAgain {A = A} (page_form f) hash h.pages c r n)
      told_pages {A} r n t =
          subst (λ k. OfFile (state_of f).files (name_of f) ⊤ (again.TellsAgain {A = A} (page_form f) hash k c r n))
          s.pages t

      pub shows_read : {A : Type 0} (a : A) (n : view.Node) → IsRead hash f c n → TellsNode {A = A} hash f c (Ok a) n →
          ShowsNode hash (map_on f h) c n
      shows_read {A} a n r t =
          read_shows (page_form f) good hash (state_of f).files (name_of f) h (entries_of f) f.cache.cap s.is c may a n
          (subst (λ k. again.IsChildInFile (scheme_of hash f) k c n) s.pages r) (told_pages (Ok a) n t)

      pub cause_read : (A : Type 0) (f' : CachedFile S G) (e : NodesErr) (n : view.Node) →
          TellsNode {A = A} hash f c (Err e) n → IsRefused c f f' e →
          HasFetchCause (map_on f h) c (state_of f).faults (state_of f').faults e
      cause_read A f' e n t r =
          read_cause (page_form f) good hash (state_of f).files (name_of f) h (entries_of f) f.cache.cap s.is c may A
          (state_of f) (state_of f') e n refl (told_pages {A = A} (Err e) n t)
          (subst (λ k. again.IsFetchRefused k (name_of f) c (state_of f) (state_of f') e) s.pages r)

      pub store_grown : {A : Type 0} (a : A) (n : view.Node) (f' f'' : CachedFile S G) → OnlyReads f f' →
          OnlyKeeps f' f'' → IsRead hash f c n → TellsNode {A = A} hash f c (Ok a) n →
          GainsNode f'.cache.cap (entries_of f') (entries_of f'') c n → (IsHeld f c → ⊥) → IsStore hash f'' h
      store_grown {A} a n f' f'' o k r t g missed =
          store_at hash f f'' h (record {
            name = k.file.name ∙ o.file.name;
            layout = k.file.layout ∙ o.file.layout;
            pages = k.file.pages ∙ o.file.pages;
          }) (ap (λ (x : S). (G.state x).files) k.shelf ∙ o.files) s
          (grown_store (page_form f) good hash (state_of f).files (name_of f) h (entries_of f) f.cache.cap s.is c may a
          n
          (entries_of f'') f''.cache.cap (subst (λ m. again.IsChildInFile (scheme_of hash f) m c n) s.pages r)
          (told_pages (Ok a) n t)
          (subst (λ (m : LruCache ℕ CachedNode). GainsNode m.cap m.entries (entries_of f'') c n) o.cache g)
          (k.cap ∙ ap (λ (m : LruCache ℕ CachedNode). m.cap) o.cache) missed)
