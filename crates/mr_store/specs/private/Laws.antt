-- Proof of what holds of every opened map: its tree is well formed and has the layers of its
-- version, each of its nodes has an id, and what a call leaves, the next one leaves too.
use Rattle.std.proofs.Common.{◌≡◌, ℕ, ◌+◌, ◌*◌, ◌/◌, ◌≤◌, List, ◌++◌, length, inl, inr, refl, sym, ap, subst, ◌∙◌, arith}
use Rattle.std.specs.Prelude.{Option, Some, None, IfSome, IsSome}
use Rattle.std.specs.String.{string_bytes}
use Rattle.mr_outside.specs.Files.{Files}
use Rattle.mr_outside.specs.declared.shelf.Shelf as shelf
use Rattle.mr_tree.specs.declared.hash.Hashes as hashes
use Rattle.mr_tree.specs.WellFormed.{WellFormed, HasLayers}
use Rattle.mr_tree.specs.Nodes.{HasIds}
use Rattle.mr_pages.specs.declared.head.MapHead.{MapHead}
use Rattle.mr_pages.specs.Page.{Form, IsForm}
use Rattle.mr_pages.specs.PageBytes.{form_of}
use Rattle.mr_pages.specs.File.{file_of}
use Rattle.mr_pages.specs.Stands.{AreAllPages, whole_pages}
use Rattle.mr_pages.specs.Walking.{head_of}
use Rattle.mr_pages.proofs.HeadLaws.{form_is}
use Rattle.mr_pages.proofs.Agreement.{is_file, head_read}
use Rattle.mr_pages.proofs.AsRead.{ReadsAt, reads_there}
use Rattle.mr_store.specs.declared.cached_file.CachedFile.{CachedFile}
use Rattle.mr_store.specs.declared.paged.Paged.{Paged}
use Rattle.mr_store.specs.CachedFile.{page_form, bytes_of, IsSameFile}
use Rattle.mr_store.specs.Parts.{whole_parts}
use Rattle.mr_store.specs.Kept.{CacheEntries, room}
use Rattle.mr_store.specs.Stored.{told_bytes, nodes_on_pages, read_map, map_on, top_in, IsOpen, IsStore}
use Rattle.mr_store.specs.Paged.{shelved, stands_for, ReadsFew, Keeps}
use Rattle.mr_store.specs.private.Ids.{ArePages, are_pages, ids}

-- ---- a map that is told

pub record Opened (form : Form) (hash : List ℕ → List ℕ) (h : MapHead) (bytes : List ℕ) : Type 0
  where
    pub whole : length bytes ≡ h.pages * form.size
    pub reads : ReadsAt hash (file_of form bytes) (head_of h) (nodes_on_pages form h bytes)
    pub pages : ArePages h.pages (whole_parts (nodes_on_pages form h bytes))

module _ (form : Form) (is : IsForm form) (hash : List ℕ → List ℕ) (h : MapHead) (es : CacheEntries)
  where
    pub opened : (bytes : List ℕ) → IsOpen form hash h es bytes → Opened form hash h bytes
    opened bytes o =
        let good = is_file form is bytes o.are in
        let head = head_read form is bytes o.are (head_of h) o.head in
        let r = reads_there hash (file_of form bytes) good o.fault (head_of h) o.head in
        let same : h.pages ≡ length bytes / form.size = head.same in
        record {
          whole = head.whole.whole ∙ ap (λ n. n * form.size) (sym same);
          reads = r;
          pages = are_pages h.pages (nodes_on_pages form h bytes) r.lies.chain
              (subst (λ n. AreAllPages n (whole_pages (nodes_on_pages form h bytes) ++
              r.lies.chain))
              (sym same) r.lies.all);
        }

    well_at : (o : Option (List ℕ)) → IfSome o (IsOpen form hash h es) →
        IfSome (read_map form h o).tree (λ t. ∥ WellFormed t ∥₁)
    well_at None op = tt
    well_at (Some bytes) op = ∣ (opened bytes op).reads.well ∣₁

    layers_at : (o : Option (List ℕ)) → IfSome o (IsOpen form hash h es) →
        IfSome (read_map form h o).tree (HasLayers (read_map form h o).version)
    layers_at None op = tt
    layers_at (Some bytes) op = (opened bytes op).reads.layers

    ids_at : (o : Option (List ℕ)) → IfSome o (IsOpen form hash h es) →
        IfSome (read_map form h o).tree (HasIds (read_map form h o))
    ids_at None op = tt
    ids_at (Some bytes) op =
        ids form.version h.batch h.pages (nodes_on_pages form h bytes) (opened bytes op).pages

module _ {S : Type 0} {G : shelf.Ghosts S} (hash : List ℕ → List ℕ) (f : CachedFile S G)
    (h : MapHead) where
  pub is_well_formed : IsStore hash f h → IfSome (map_on f h).tree (λ t. ∥ WellFormed t ∥₁)
  is_well_formed s =
      well_at (page_form f) (form_is f.layout f.fits) hash h f.cache.entries (bytes_of f) s.is.open_

  pub is_layered : IsStore hash f h →
      IfSome (map_on f h).tree (HasLayers (map_on f h).version)
  is_layered s =
      layers_at (page_form f) (form_is f.layout f.fits) hash h f.cache.entries (bytes_of f)
      s.is.open_

  pub has_ids : IsStore hash f h → IfSome (map_on f h).tree (HasIds (map_on f h))
  has_ids s =
      ids_at (page_form f) (form_is f.layout f.fits) hash h f.cache.entries (bytes_of f) s.is.open_

-- ---- what calls leave

few_on : (r f r' f' r'' f'' : ℕ) → ReadsFew r f r' f' → ReadsFew r' f' r'' f'' → f' ≤ f'' →
    ReadsFew r f r'' f''
few_on r f r' f' r'' f'' (inl a) (inl b) up = inl (omega (arith, a, b))
few_on r f r' f' r'' f'' (inr a) q up = inr (omega (arith, a, up))
few_on r f r' f' r'' f'' (inl a) (inr b) up = inr b

module _ {S : Type 0} {G : shelf.Ghosts S} where
  pub same_self : (f : CachedFile S G) → IsSameFile f f
  same_self f = record { name = refl; layout = refl; pages = refl }

  pub same_on : (f f' f'' : CachedFile S G) → IsSameFile f f' → IsSameFile f' f'' →
      IsSameFile f f''
  same_on f f' f'' a b = record {
    name = b.name ∙ a.name;
    layout = b.layout ∙ a.layout;
    pages = b.pages ∙ a.pages;
  }

module _ {S H : Type 0} {G : shelf.Ghosts S} {K : hashes.Ghosts H} where
  pub keeps_self : (p : Paged S H G K) → Keeps p p
  keeps_self p = record {
    file = same_self p.file;
    head = refl;
    files = refl;
    fetches = omega arith;
    faults = omega arith;
    reads = omega arith;
    few = inl (omega arith);
    most = omega arith;
    still = λ told small. refl;
  }

  pub keeps_on : (p p' p'' : Paged S H G K) → Keeps p p' → Keeps p' p'' → Keeps p p''
  keeps_on p p' p'' a b = record {
    file = same_on p.file p'.file p''.file a.file b.file;
    head = b.head ∙ a.head;
    files = b.files ∙ a.files;
    fetches = omega (arith, a.fetches, b.fetches);
    faults = omega (arith, a.faults, b.faults);
    reads = omega (arith, a.reads, b.reads);
    few = few_on (shelved p).reads p.fetches (shelved p').reads p'.fetches (shelved p'').reads
        p''.fetches a.few b.few b.fetches;
    most = omega (arith, a.most, b.most);
    still = λ told small. b.still (subst (IsSome {T = Files}) (sym a.files) told)
        (subst (λ (k : MapHead). k.pages ≤ room + 1) (sym a.head) small) ∙ a.still told small;
  }

  pub keeps_says : (p p' : Paged S H G K) → Keeps p p' →
      top_in p'.file.layout.version p'.head ≡ top_in p.file.layout.version p.head
  keeps_says p p' k = λ i. top_in (k.file.layout i).version (k.head i)

  pub keeps_stands : (p p' : Paged S H G K) → Keeps p p' → stands_for p' ≡ stands_for p
  keeps_stands p p' k = λ i. read_map (form_of (k.file.layout i)) (k.head i)
      (told_bytes (k.files i) (string_bytes (k.file.name i)))
