-- What an opened map says of itself, and what its file stands for.
use Rattle.std.proofs.Common.{◌≡◌, ℕ, List, length, refl}
use Rattle.std.specs.Prelude.{⊤, Option, Some, None, Ok, IfSome, IsSome, MatchOption}
use Rattle.mr_outside.specs.Files.{Files, file}
use Rattle.mr_outside.specs.Told.{OfFile}
use Rattle.mr_record.specs.Version as version
use Rattle.mr_record.specs.declared.version.Version.{Version}
use Rattle.mr_tree.specs.Nodes.{MayFetch, IsTop}
use Rattle.mr_tree.specs.Digest.{by}
use Rattle.mr_tree.specs.View.{MayTell}
use Rattle.mr_tree.specs.declared.child.Child.{Child}
use Rattle.mr_tree.specs.declared.tree.Tree.{Tree}
use Rattle.mr_pages.specs.declared.head.MapHead.{MapHead}
use Rattle.mr_pages.specs.Page.{Form, IsForm}
use Rattle.mr_pages.specs.File.{file_of}
use Rattle.mr_pages.specs.Stands.{whole_tree}
use Rattle.mr_pages.specs.Walking.{head_of}
use Rattle.mr_pages.proofs.Agreement.{spelled_as_read}
use Rattle.mr_store.specs.Parts.{untold}
use Rattle.mr_store.specs.Kept.{CacheEntries}
use Rattle.mr_store.specs.Stored.{told_bytes, nodes_on_pages, read_map, top_in, IsOpen, IsRootOf, IsStored, IsMapOf}
use Rattle.mr_pages.proofs.Answered.{tells_read}
use Rattle.mr_store.specs.Opening.{TellsMap}
use Rattle.mr_store.specs.private.Told.{root_on}
use Rattle.mr_store.specs.private.Laws.{opened}

-- ---- the top

-- what its version tells of a root
root_told : (v : Version) (count pages : ℕ) (root : Option Child) → IfSome root (IsRootOf v count pages) →
    IfSome root (λ c. MayTell v c.mask c.count × (c.count ≡ version.told v count))
root_told v count pages None r = tt
root_told v count pages (Some c) r = (r.told, r.counted)

module _ (form : Form) (is : IsForm form) (hash : List ℕ → List ℕ) (told : Option Files) (name : List ℕ) (h : MapHead)
    (es : CacheEntries) (cap : ℕ) where
  pub top_is : IsStored form hash told name h es cap →
      IsTop hash (read_map form h (told_bytes told name)) (top_in form.version h)
  top_is s = by_bytes (told_bytes told name) s.open_
    where
      untold_root : (root : Option Child) → IfSome root (IsRootOf form.version h.count h.pages) →
          IfSome root (MayFetch hash (untold form.version h.batch h.pages))
      untold_root None r = tt
      untold_root (Some c) r = record {
        positive = r.positive;
        within = r.within;
        low = r.low;
        known = λ some. let none : IsSome {T = Tree} None = some in cc;
      }

      by_bytes : (o : Option (List ℕ)) → IfSome o (IsOpen form hash h es) →
          IsTop hash (read_map form h o) (top_in form.version h)
      by_bytes None op = record {
        version = refl;
        batch = refl;
        few = s.few;
        none = s.none;
        root = untold_root h.root s.root;
        count = tt;
        told = root_told form.version h.count h.pages h.root s.root;
        tree = tt;
      }
      by_bytes (Some bytes) op =
          let p = opened form is hash h es bytes op in
          let r = root_on (by form.version hash) (file_of form bytes).node h.batch h.pages h.root p.reads.root p.pages
          h.count s.root in
          record {
            version = refl;
            batch = refl;
            few = s.few;
            none = s.none;
            root = r.may;
            count = p.reads.count;
            told = root_told form.version h.count h.pages h.root s.root;
            tree = r.tree;
          }

-- its version
pub version_is : (form : Form) (h : MapHead) (o : Option (List ℕ)) → (read_map form h o).version ≡ form.version
version_is form h None = refl
version_is form h (Some bytes) = refl

-- ---- the map

module _ (form : Form) (is : IsForm form) (hash : List ℕ → List ℕ) (h : MapHead) (es : CacheEntries) where
  map_of : (bytes : List ℕ) → IsOpen form hash h es bytes → IsMapOf form hash (read_map form h (Some bytes)) bytes
  map_of bytes op =
      let r = (opened form is hash h es bytes op).reads in (
        whole_tree (nodes_on_pages form h bytes),
        refl,
        record {
          well = r.well;
          layers = r.layers;
          stands = spelled_as_read form is hash bytes op.are (whole_tree (nodes_on_pages form h bytes)) h.batch
              (record {
                head = head_of h;
                sealed = op.head;
                at_batch = refl;
                count = r.count;
                placed = nodes_on_pages form h bytes;
                tree = refl;
                root = r.root;
                lies = r.lies;
              });
        },
      )

  -- what is told of its file's bytes
  pub tells_map_of : ((xs : List ℕ) → length (hash xs) ≡ 32) → (told : Option Files) (name : List ℕ) (cap : ℕ) →
      IsStored form hash told name h es cap →
      OfFile told name ⊥ (TellsMap form hash (read_map form h (told_bytes told name)))
  tells_map_of sized told name cap s = by_files told s.there s.open_
    where
      by_bytes : (o : Option (List ℕ)) → IsSome o → IfSome o (IsOpen form hash h es) →
          MatchOption o ⊥ (TellsMap form hash (read_map form h o))
      by_bytes None some op = let none : IsSome {T = List ℕ} None = some in cc
      by_bytes (Some bytes) some op =
          let m = map_of bytes op in (
            m.0,
            m.1,
            tells_read form is hash sized bytes op.are
                (Ok (record { tree = m.0; version = form.version; batch = h.batch })) (refl, m.2),
          )

      by_files : (o : Option Files) → MatchOption o ⊤ (λ files. IsSome (file files name)) →
          IfSome (told_bytes o name) (IsOpen form hash h es) →
          OfFile o name ⊥ (TellsMap form hash (read_map form h (told_bytes o name)))
      by_files None there op = tt
      by_files (Some files) there op = by_bytes (file files name) there op

  pub is_map_of : (told : Option Files) (name : List ℕ) (cap : ℕ) → IsStored form hash told name h es cap →
      OfFile told name ⊥ (IsMapOf form hash (read_map form h (told_bytes told name)))
  is_map_of told name cap s = by_files told s.there s.open_
    where
      by_bytes : (o : Option (List ℕ)) → IsSome o → IfSome o (IsOpen form hash h es) →
          MatchOption o ⊥ (IsMapOf form hash (read_map form h o))
      by_bytes None some op = let none : IsSome {T = List ℕ} None = some in cc
      by_bytes (Some bytes) some op = map_of bytes op

      by_files : (o : Option Files) → MatchOption o ⊤ (λ files. IsSome (file files name)) →
          IfSome (told_bytes o name) (IsOpen form hash h es) →
          OfFile o name ⊥ (IsMapOf form hash (read_map form h (told_bytes o name)))
      by_files None there op = tt
      by_files (Some files) there op = by_bytes (file files name) there op
