-- What the calls of a draft come to.
use Rattle.std.proofs.Common.{◌≡◌, ℕ, ◌+◌, ◌≤◌, List, [], ◌∷◌, ◌++◌, length, inl, inr, sym, ap, subst, ◌∙◌, append-nil, arith}
use Rattle.std.specs.Prelude.{⊤, Option, Some, None, option_map, IfSome, IfErr, OnOk, Result, Ok, Err}
use Rattle.mr_record.specs.declared.version.Version.{Version}
use Rattle.mr_outside.specs.Files.{Files, with_file}
use Rattle.mr_outside.specs.State.{Shelved}
use Rattle.mr_outside.specs.Writing.{IsChanged}
use Rattle.mr_outside.proofs.Changes.{file-with_file}
use Rattle.mr_pages.specs.declared.layout.Layout.{Layout}
use Rattle.mr_pages.specs.PageBytes.{form_of, layout_by}
use Rattle.mr_pages.specs.Saved.{IsUnsealed, LeavesFile}
use Rattle.mr_pages.specs.Source.{told_bytes}
use Rattle.mr_pages.specs.declared.head.MapHead.{MapHead}
use Rattle.mr_tree.specs.Digest.{Scheme, by}
use Rattle.mr_tree.specs.Tree.{nodes, nodes_step, records}
use Rattle.mr_tree.specs.declared.child.Child.{Child}
use Rattle.mr_tree.specs.declared.tree.Tree.{Tree}
use Rattle.mr_tree.proofs.Equations.{records-Empty}
use Rattle.mr_tree.proofs.Folds.{fold-Leaf, fold-Inner}
use Rattle.mr_pages.specs.Page.{Link}
use Rattle.mr_pages.specs.Stands as stands
use Rattle.mr_pages.specs.Stands.{Placed, tree_of, trees_of, link_of, whole_tree}
use Rattle.mr_pages.specs.Walking.{child_link}
use Rattle.mr_batch.specs.Changes.{Changes}
use Rattle.mr_batch.specs.Directory.{DirectoryEntries as Directed}
use Rattle.mr_store.specs.Kept.{CacheEntries}
use Rattle.mr_store.specs.Stored.{IsRootOf, IsStored}
use Rattle.mr_edit.specs.Causes.{HasEditCause}
use Rattle.mr_edit.specs.Changing.{CanReplay}
use Rattle.mr_draft.specs.Draft.{DraftState, DraftOf, IsTop, IsOff, CopyFails, CanApply, AppliesBatch, StopsAtChange, KeepsDraft}
use Rattle.mr_edit.specs.Outcome.{NeverMap, IsLow, IsOfRoot, root_page}
use Rattle.mr_edit.specs.Replayed.{OnPages, ReplaysBatch, StopsReplay, first_changes}
use Rattle.mr_edit.specs.Shelves.{HasShelfCause}
use Rattle.mr_draft.specs.Sheets.{zeros, page_map_on, HasUnsealedPages, ArePages, CopyStops}
use Rattle.mr_edit.specs.PageMap.{PageMap}
use Rattle.mr_edit.specs.Drafted.{Drafted}
use Rattle.mr_batch.specs.Replay.{replay}
use Rattle.mr_edit.specs.declared.error.EditErr.{EditErr}
use Rattle.mr_edit.specs.Counted.{ReplaysWithin}
use Rattle.mr_edit.specs.Reads.{reads_along}
use Rattle.mr_edit.specs.declared.error.EditErr.TheVariants as errors
use Rattle.mr_draft.proofs.ReadPages.{page_map_size}
use Rattle.mr_edit.proofs.Room.{few_nodes}
use Rattle.mr_draft.proofs.Seals.{unsealed_front, unsealed_none, unsealed_pages}

-- ---- a copy

pub moved : (Q : Shelved → List ℕ → MapHead → Type 0) (a b : Shelved) (m n : List ℕ) (g h : MapHead) → a ≡ b → m ≡ n →
    g ≡ h → Q a m g → Q b n h
moved Q a b m n g h p q r x = subst (λ s. Q s n h) p (subst (λ k. Q a k h) q (subst (λ k. Q a m k) r x))

low_at : (v : Version) (count pages : ℕ) (root : Option Child) → IfSome root (IsRootOf v count pages) → IsLow root
low_at v count pages None r = tt
low_at v count pages (Some c) r = r.low

module _ (layout : Layout) (sized : layout.size ≡ (layout_by layout.version).size) (hash : List ℕ → List ℕ)
    (h : MapHead) (old name : List ℕ) (before after : Shelved) where
  pub copy_low : (es : CacheEntries) (cap : ℕ) → IsStored (form_of layout) hash before.files old h es cap → IsLow h.root
  copy_low es cap store = low_at layout.version h.count h.pages h.root store.root

  pub copy_unsealed : (nodes : List ℕ) → IsUnsealed hash (zeros layout.size ++ nodes)
  copy_unsealed nodes = unsealed_front layout sized hash (zeros layout.size ++ nodes)
      (nodes, [], sym (append-nil (zeros layout.size ++ nodes)))

  pub copy_fails : (e : EditErr) → CopyStops (form_of layout) name h.pages before after e →
      CopyFails hash h before name after e
  copy_fails e c = record {
    left = elim c.left [
      | inl same ↦ inl same
      | inr set ↦ inr (set.0, unsealed_front layout sized hash set.0 set.1, set.2)
    ];
    cause = c.cause;
    untold = c.untold;
    later = c.later;
    more = c.more;
    few = c.few;
  }

-- ---- what stays of a file under edit

unsealed_at : (layout : Layout) → layout.size ≡ (layout_by layout.version).size → (hash : List ℕ → List ℕ)
    (name bytes : List ℕ) (pages : ℕ) (before after : Option Files) → IsChanged (with_file name) bytes before after →
    ArePages (form_of layout) after name pages → LeavesFile (IsUnsealed hash) name before after
unsealed_at layout sized hash name bytes pages None after put are = inr ([], unsealed_none layout sized hash, put)
unsealed_at layout sized hash name bytes pages (Some files) after put are =
    let there : told_bytes after name ≡ Some bytes = ap (λ o. told_bytes o name) put
    ∙ file-with_file name bytes files in
    inr (
      bytes,
      unsealed_pages layout sized hash pages bytes
          (subst (λ o. IfSome o (HasUnsealedPages (form_of layout) pages)) there are.have),
      put,
    )

pub keeps_draft : (hash : List ℕ → List ℕ) (d e : DraftState) → e.layout.size ≡ (layout_by e.layout.version).size →
    e.name ≡ d.name → d.pages ≤ e.pages → LeavesFile (λ bytes. ⊤) d.name d.shelf.files e.shelf.files →
    d.shelf.faults ≤ e.shelf.faults → d.shelf.reads ≤ e.shelf.reads → e.layout ≡ d.layout →
    ArePages (form_of e.layout) e.shelf.files e.name e.pages → KeepsDraft hash d e
keeps_draft hash d e sized name pages files faults reads layout are = record {
  name = name;
  layout = layout;
  pages = pages;
  left = elim files [
    | inl same ↦ inl same
    | inr set ↦ unsealed_at e.layout sized hash d.name set.0 e.pages d.shelf.files e.shelf.files set.2
        (subst (λ n. ArePages (form_of e.layout) e.shelf.files n e.pages) name are)
  ];
  faults = faults;
  reads = reads;
}

-- ---- a batch

pub blames_none : (P : Type 0) (before after : ℕ) (e : EditErr) → P → HasEditCause before after e → NeverMap e P →
    HasShelfCause before after e
blames_none P before after (errors.Map fault) p cause never = never p
blames_none P before after errors.Missing p cause never = cause
blames_none P before after errors.Fault p cause never = cause
blames_none P before after errors.NoMemory p cause never = tt

-- what the changes of a batch know of the draft
pub on_pages : (hash : List ℕ → List ℕ) (d : DraftState) (dir : Directed) (b : Changes) (t : Tree) →
    CanApply hash d dir b t →
    OnPages (by d.layout.version hash) (page_map_on (form_of d.layout) d.shelf.files d.name d.pages) d.free d.root dir t
    d.pages d.pages (nodes t)
on_pages hash d dir b t can =
    let size = page_map_size d.layout d.shelf.files d.name d.pages can.draft.drafted.page_map can.draft.drafted.is in
    record {
      reaches = record {
        draft = can.draft.drafted;
        no_fewer = omega (arith, size);
        no_more = omega (arith, size);
      };
      well = can.draft.well;
      directory = can.directory;
    }

module _ (hash : List ℕ → List ℕ) (d : DraftState) (dir : Directed) (b : Changes) where
  abbrev scheme : Scheme
  scheme = by d.layout.version hash

  abbrev told : Option PageMap
  told = page_map_on (form_of d.layout) d.shelf.files d.name d.pages

  pub can_replay : (t : Tree) → CanApply hash d dir b t →
      CanReplay scheme told d.free d.root dir b
  can_replay t can = record {
    map = record { tree = t; draft = can.draft.drafted; well = can.draft.well; directory = can.directory };
    held = d.batch;
    admissible = can.admissible;
  }

  pub applied : (e : DraftState) (dir' : Directed) → e.layout ≡ d.layout →
      ReplaysBatch scheme told d.free d.root dir (page_map_on (form_of e.layout) e.shelf.files e.name e.pages) e.free
      e.root
      dir' b → e.count ≡ length dir' → AppliesBatch hash d dir b e dir'
  applied e dir' same replays counted t can =
      let n = replays t d.batch d.pages d.pages (nodes t) (on_pages hash d dir b t can) can.admissible in
      let after = page_map_size e.layout e.shelf.files e.name e.pages n.reaches.draft.page_map n.reaches.draft.is in
      record {
        draft = record {
          drafted = subst (λ (l : Layout). Drafted (by l.version hash)
              (page_map_on (form_of e.layout) e.shelf.files e.name e.pages) e.free e.root (replay t (b ∷ [])))
              (sym same)
              n.reaches.draft;
          well = n.well;
          counted = counted ∙ n.directory.count;
        };
        directory = n.directory;
        no_fewer = omega (arith, n.reaches.no_fewer, after);
        no_more = omega (arith, n.reaches.no_more, after);
      }

  -- and what it reads
  pub applied_within : (r r' : ℕ) → ReplaysWithin scheme told d.free d.root dir b r r' → (t : Tree) →
      CanApply hash d dir b t → r' ≤ r + reads_along t b.list
  applied_within r r' within t can =
      within t d.batch d.pages d.pages (nodes t) (on_pages hash d dir b t can) can.admissible

-- a change is refused
pub stops_at : (hash : List ℕ → List ℕ) (d : DraftState) (dir : Directed) (b : Changes) (e : DraftState)
    (dir' : Directed) (err : EditErr) →
    StopsReplay (by d.layout.version hash) (page_map_on (form_of d.layout) d.shelf.files d.name d.pages) d.free d.root
    dir b e.root dir' err → HasEditCause d.shelf.faults e.shelf.faults err → IsOfRoot (root_page e.root) err →
    e.count ≡ d.count → e.batch ≡ d.batch → StopsAtChange hash d dir b e dir' err
stops_at hash d dir b e dir' err s cause page count batch = record {
  made = s.made;
  fewer = s.fewer;
  told_then = s.told_then;
  free_then = s.free_then;
  stands = λ t can. s.replays t d.batch d.pages d.pages (nodes t) (on_pages hash d dir (first_changes s.made b) t can)
      can.admissible;
  unmoved = s.unmoved;
  count = count;
  batch = batch;
  blames_none_told = λ t can. blames_none
      (CanReplay (by d.layout.version hash) (page_map_on (form_of d.layout) d.shelf.files d.name d.pages) d.free d.root
      dir (first_changes (s.made + 1) b)) d.shelf.faults e.shelf.faults err
      (can_replay hash d dir (first_changes (s.made + 1) b) t can) cause s.blames_none_told;
  page = page;
}

some_node : (P : Placed) → 1 ≤ nodes (tree_of P)
some_node (stands.Leaf p rs) = omega (arith, fold-Leaf ℕ nodes_step rs)
some_node (stands.Inner p Ps) = omega (arith, fold-Inner ℕ nodes_step (trees_of Ps))

-- a draft's count fits its root
pub is_top : (hash : List ℕ → List ℕ) (d : DraftState) (t : Tree) → DraftOf hash d t → IsTop d.count d.root
is_top hash d t of = at d.root of.drafted.placed of.drafted.root_is of.drafted.tree
  where
    at : (r : Option Child) (po : Option Placed) →
        option_map child_link r ≡ option_map (link_of (by d.layout.version hash)) po →
        whole_tree po ≡ t → IsTop d.count r
    at None None said same = of.counted ∙ ap (λ u. length (records u)) (sym same) ∙ ap length records-Empty
    at None (Some P) said same =
        let no : ◌≡◌ {A = Option Link} None (Some (link_of (by d.layout.version hash) P)) = said in absurd cc
    at (Some c) None said same = let no : ◌≡◌ {A = Option Link} (Some (child_link c)) None = said in absurd cc
    at (Some c) (Some P) said same =
        let few = few_nodes t (record { one_level = of.well.one_level; filled = of.well.filled }) in
        let one = subst (λ u. 1 ≤ nodes u) same (some_node P) in
        (omega (arith, few, one, of.counted), omega (arith, of.counted, of.well.few))

pub off_none : {A : Type 0} (Q : EditErr → Type 0) (r : Result A EditErr) (count : ℕ) (top : Option Child) →
    IfErr r (IsOff count top) → IsTop count top → IfErr r Q
off_none Q (Ok a) count top off fits = tt
off_none Q (Err (errors.Map fault)) count top off fits = absurd (off.2 fits)
off_none Q (Err errors.Missing) count top off fits = absurd off
off_none Q (Err errors.Fault) count top off fits = absurd off
off_none Q (Err errors.NoMemory) count top off fits = absurd off

pub on_any : {A E P : Type 0} (r : Result A E) → P → OnOk r P
on_any (Ok a) p = p
on_any (Err e) p = tt
