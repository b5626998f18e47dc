-- The draft over the copy of a map's file that was made.
use Rattle.std.proofs.Common.{◌≡◌, ℕ, List, [], ◌++◌, refl, sym, ap, subst, ◌∙◌, arith}
use Rattle.std.specs.Prelude.{max}
use Rattle.std.specs.String.{string_bytes}
use Rattle.lru.specs.LruCache.{LruCache}
use Rattle.mr_outside.specs.State.{Shelved}
use Rattle.mr_outside.specs.declared.shelf.Shelf.{Ghosts}
use Rattle.mr_tree.specs.Digest.{by}
use Rattle.mr_pages.specs.declared.head.MapHead.{MapHead}
use Rattle.mr_pages.specs.declared.layout.Layout.{Layout}
use Rattle.mr_pages.specs.PageBytes.{form_of, layout_by}
use Rattle.mr_store.specs.CachedFile.{state_of, name_of, page_form, entries_of}
use Rattle.mr_store.specs.Kept.{room}
use Rattle.mr_store.specs.Stored.{IsStore}
use Rattle.mr_store.specs.declared.cached_file.CachedFile.{CachedFile}
use Rattle.mr_store.specs.declared.cached_node.CachedNode.{CachedNode}
use Rattle.mr_edit.specs.declared.error.EditErr.{EditErr}
use Rattle.mr_draft.specs.Draft.{CopiesMap, CopyFails, DraftState, draft_state}
use Rattle.mr_draft.specs.Sheets.{CopyStops, HasCopied, IsFiled, IsSheets, OnlyWrites, page_map_on, zeros}
use Rattle.mr_draft.proofs.Copies.{copy_draft, copy_pages, copy_same, none_kept}
use Rattle.mr_draft.proofs.Ends.{copy_fails, copy_low, copy_unsealed}
use Rattle.mr_draft.proofs.Objects.{moved_sheets}
use Rattle.mr_draft.proofs.Sizes.{layout_fits}

module _ {S : Type 0} {G : Ghosts S} (hash : List ℕ → List ℕ) (old : CachedFile S G) (h : MapHead) (new : List ℕ)
    (store : IsStore hash old h) where
  sized : old.layout.size ≡ (layout_by old.layout.version).size
  sized = old.sized

  -- a file that was made for the copy, and what was said of it and the old one's name
  module _ (made : CachedFile S G) (shelf : made.shelf ≡ old.shelf) (name : name_of made ≡ new)
      (layout : made.layout ≡ old.layout) (pages : made.pages ≡ old.pages) where
    told_again : (Q : Layout → Shelved → List ℕ → List ℕ → ℕ → Type 0) (was : List ℕ) → was ≡ name_of old →
        Q made.layout (state_of made) was (name_of made) made.pages →
        Q old.layout (state_of old) (name_of old) new h.pages
    told_again Q was is x =
        subst (λ l. Q l (state_of old) (name_of old) new h.pages) layout
        (subst (λ s. Q made.layout s (name_of old) new h.pages) (ap G.state shelf)
        (subst (λ n. Q made.layout (state_of made) n new h.pages) is
        (subst (λ n. Q made.layout (state_of made) was n h.pages) name
        (subst (Q made.layout (state_of made) was (name_of made)) (pages ∙ store.pages) x))))

    pub stops : (after : Shelved) (e : EditErr) (was : List ℕ) → was ≡ name_of old →
        (IsFiled (state_of made).files was →
        CopyStops (page_form made) (name_of made) made.pages (state_of made) after e) →
        CopyFails hash h (state_of old) new after e
    stops after e was is c =
        copy_fails old.layout sized hash h (name_of old) new (state_of old) after e
        (told_again (λ l s m n k. IsFiled s.files m → CopyStops (form_of l) n k s after e) was is c store.is.there)

    module _ (after : CachedFile S G) (only : OnlyWrites made after) (was : List ℕ) (is : was ≡ name_of old)
        (c : IsFiled (state_of made).files was → HasCopied (page_form made) was (name_of made) made.pages
        (max 1 made.pages) (state_of made) (state_of after)) where
      copied : HasCopied (form_of old.layout) (name_of old) new h.pages (max 1 h.pages) (state_of old) (state_of after)
      copied =
          told_again (λ l s m n k. IsFiled s.files m → HasCopied (form_of l) m n k (max 1 k) s (state_of after)) was
          is c store.is.there

      after_name : name_of after ≡ new
      after_name = ap string_bytes only.file.name ∙ name

      after_layout : after.layout ≡ old.layout
      after_layout = only.file.layout ∙ layout

      after_pages : after.pages ≡ h.pages
      after_pages = only.file.pages ∙ pages ∙ store.pages

      pub sheets : entries_of made ≡ [] → made.cache.cap ≡ room → IsSheets hash after
      sheets none cap =
          let none_after : entries_of after ≡ [] = ap (λ (m : LruCache ℕ CachedNode). m.entries) only.cache ∙ none in
          let cap_after : after.cache.cap ≡ room = ap (λ (m : LruCache ℕ CachedNode). m.cap) only.cache ∙ cap in
          moved_sheets hash old.layout after.layout (state_of after).files (state_of after).files new (name_of after)
          h.pages after.pages (entries_of after) (entries_of after) after.cache.cap after.cache.cap after_layout refl
          after_name after_pages refl refl
          (record {
            sized = sized;
            few = store.is.paged;
            file_ = copy_pages old.layout (layout_fits old.layout sized) hash h (entries_of old) old.cache.cap
                (name_of old) new (state_of old) (state_of after) store.is copied;
            kept = none_kept (by old.layout.version hash)
                (page_map_on (form_of old.layout) (state_of after).files new h.pages) (entries_of after) after.cache.cap
                none_after cap_after;
          })

      abbrev of_parts : DraftState
      of_parts = record {
        shelf = state_of after;
        name = new;
        layout = old.layout;
        pages = h.pages;
        free = h.free;
        root = h.root;
        count = h.count;
        batch = h.batch;
      }

      copies_at : CopiesMap hash old h new of_parts
      copies_at = record {
        of_tree = copy_draft old.layout (layout_fits old.layout sized) hash h (entries_of old) old.cache.cap
            (name_of old) new (state_of old) (state_of after) store.is copied;
        named = refl;
        layout = refl;
        at_batch = refl;
        paged = refl;
        root = refl;
        free = refl;
        count = refl;
        low = copy_low old.layout sized hash h (name_of old) new (state_of old) (state_of after) (entries_of old)
            old.cache.cap store.is;
        bytes = zeros old.layout.size ++ copied.nodes;
        others = copied.nodes;
        blank = refl;
        same = copy_same old.layout (layout_fits old.layout sized) hash h (entries_of old) old.cache.cap (name_of old)
            new (state_of old) (state_of after) store.is copied;
        unsealed = copy_unsealed old.layout sized hash h (name_of old) new (state_of old) (state_of after)
            copied.nodes;
        files = copied.files;
        quiet = copied.quiet;
        more = copied.more;
        few = omega (arith, copied.few);
      }

      pub copies : (k : MapHead) → k ≡ h → (d : DraftState) → d ≡ draft_state after k.free k.root k.count k.batch →
          CopiesMap hash old h new d
      copies k same d is_drawn =
          subst (CopiesMap hash old h new)
          (sym (is_drawn ∙ ap (λ (m : MapHead). draft_state after m.free m.root m.count m.batch) same
          ∙ (λ i. record {
            shelf = state_of after;
            name = after_name i;
            layout = after_layout i;
            pages = after_pages i;
            free = h.free;
            root = h.root;
            count = h.count;
            batch = h.batch;
          })))
          copies_at
