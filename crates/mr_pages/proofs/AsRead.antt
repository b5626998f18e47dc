-- A file that is read page by page has no fault just where it stands for a well-formed tree at a batch, and these
-- are then the only ones.
use Rattle.std.proofs.Common.{◌≡◌, ◌≢◌, ℕ, suc, ◌<◌, ◌≤◌, true, List, [], ◌∷◌, ◌++◌, length, refl, sym, ap, subst, ◌∙◌, arith}
use Rattle.mr_tree.specs.declared.entry.Entry.{Entry}
use Rattle.std.specs.Prelude.{◌==◌, not, Option, Some, None, option_map, IfSome, Result, Ok, Err, All, AllPairs}
use Rattle.std.specs.List.{AllByRecursion}
use Rattle.std.proofs.lemmas.Bool.{eqb-true, eq-eqb, not-false, not_from_true}
use Rattle.std.proofs.lemmas.List.Elements.{All-from_recursion, recursion_from_All, All-nil}
use Rattle.std.proofs.lemmas.List.Kept.{AllPairs-cons}
use Rattle.mr_record.specs.declared.record.Record.{Record}
use Rattle.mr_record.specs.declared.version.Version.{Version}
use Rattle.mr_record.specs.Version.{told}
use Rattle.mr_tree.proofs.Told.{count_told}
use Rattle.mr_tree.specs.Tree.{level, records}
use Rattle.mr_tree.specs.Digest.{entry, Scheme, by}
use Rattle.mr_tree.specs.WellFormed.{HasOneLevel, IsFilledRoot, WellFormed, HasLayers}
use Rattle.mr_tree.specs.declared.tree.Tree.{Tree}
use Rattle.mr_tree.specs.declared.tree.Tree.TheVariants as tree
use Rattle.mr_tree.specs.declared.tree.Tree.TheViews.{out-Tree}
use Rattle.mr_tree.specs.declared.tree.Tree.TheFolds.{every-Tree}
use Rattle.mr_tree.proofs.Equations.{level-Empty, records-Empty, entry_level, entry_count}
use Rattle.mr_tree.proofs.Induction.{every-Empty}
use Rattle.mr_pages.specs.declared.rule.MapRule.{MapRule}
use Rattle.mr_pages.specs.declared.rule.MapFault.{MapFault}
use Rattle.mr_pages.specs.Page.{Link, Head, IsRoot, IsHead}
use Rattle.mr_pages.specs.File.{File, IsFile}
use Rattle.mr_pages.specs.declared.rule.MapRule.TheVariants as rule
use Rattle.mr_pages.specs.Stands.{Placed, tree_of, pages_of, link_of, AreAllPages, whole_tree, whole_pages}
use Rattle.mr_pages.specs.Faults.{fault_if, Visit, walk, reached, all_records, numbers_of, walk_faults, chain, chain_faults, lost_faults, free_faults, head_faults, file_faults, faults, first_of, mapfault}
use Rattle.mr_pages.specs.private.Spelled.{place, placed_at}
use Rattle.mr_pages.proofs.Lists.{nil_left, nil_right, nil_both, not_broken, no_fault, all_map, all_left, fresh_left, fresh_apart, apart_fresh}
use Rattle.mr_pages.proofs.Rules.{IsSound, walk_sound, sound_walk}
use Rattle.mr_pages.proofs.Chains.{ReadsChain, free_sound, sound_free, all_within}
use Rattle.mr_pages.proofs.Building.{IsRead, built, place_page, unfolds}
use Rattle.mr_pages.proofs.PageLaws.{FitsRecord}

-- the pages but page 0, as they are read
pub record LiesRead (hash : List ℕ → List ℕ) (file : File) (placed : Option Placed) (first_free : ℕ) : Type 0 where
  pub written : IfSome placed (IsRead (by file.version hash) file.node)
  pub chain : List ℕ
  pub linked : ReadsChain file.free first_free chain
  pub all : AreAllPages file.pages (whole_pages placed ++ chain)

-- the file, as it is read, stands for this tree at this batch
pub record StandsRead (hash : List ℕ → List ℕ) (file : File) (t : Tree) (batch : ℕ) : Type 0 where
  pub head : Head
  pub sealed : file.head ≡ Ok head
  pub at_batch : head.batch ≡ batch
  pub count : head.count ≡ length (records t)
  pub placed : Option Placed
  pub tree : whole_tree placed ≡ t
  pub root : head.root ≡ option_map (link_of (by file.version hash)) placed
  pub lies : LiesRead hash file placed head.free

-- ---- numbers of records

unmap : (P : ℕ → Type 0) (rs : List Record) → AllByRecursion P (numbers_of rs) →
    AllByRecursion (λ (r : Record). P r.number) rs
unmap P [] all = tt
unmap P (r ∷ rs) all = (all.0, unmap P rs all.1)

head_apart : (n : ℕ) (ns : List ℕ) → AllPairs (λ (p q : ℕ). p ≢ q) (n ∷ ns) → AllByRecursion (λ m. n ≢ m) ns
head_apart n ns far = recursion_from_All (λ m. n ≢ m) ns (λ k d within. far 0 (suc k) d (omega arith) (omega arith))

tail_apart : {A : Type 0} (R : A → A → Type 0) (n : A) (ns : List A) → AllPairs R (n ∷ ns) → AllPairs R ns
tail_apart R n ns far = λ i j d low high. far (suc i) (suc j) d (omega arith) (omega arith)

pub records_apart : (rs : List Record) → AllPairs (λ (p q : ℕ). p ≢ q) (numbers_of rs) →
    AllPairs (λ (a b : Record). a.number ≢ b.number) rs
records_apart [] far = λ i j d low high. absurd (omega (arith, low, high))
records_apart (r ∷ rs) far =
    AllPairs-cons (λ (a b : Record). a.number ≢ b.number) r rs
    (All-from_recursion (λ (s : Record). r.number ≢ s.number) rs
    (unmap (λ m. r.number ≢ m) rs (head_apart r.number (numbers_of rs) far)))
    (records_apart rs (tail_apart (λ (p q : ℕ). p ≢ q) r.number (numbers_of rs) far))

pub numbers_apart : (rs : List Record) → AllPairs (λ (a b : Record). a.number ≢ b.number) rs →
    AllPairs (λ (p q : ℕ). p ≢ q) (numbers_of rs)
numbers_apart [] far = λ i j d low high. absurd (omega (arith, low, high))
numbers_apart (r ∷ rs) far =
    AllPairs-cons (λ (p q : ℕ). p ≢ q) r.number (numbers_of rs)
    (All-from_recursion (λ m. r.number ≢ m) (numbers_of rs)
    (all_map (λ m. r.number ≢ m) (λ (s : Record). s.number) rs
    (recursion_from_All (λ (s : Record). r.number ≢ s.number) rs
    (λ k d within. far 0 (suc k) d (omega arith) (omega arith)))))
    (numbers_apart rs (tail_apart (λ (a b : Record). a.number ≢ b.number) r rs far))

-- ---- the whole tree

record WholeBuilt (hash : List ℕ → List ℕ) (file : File) (h : Head) (po : Option Placed)
    (vs : List Visit) : Type 0 where
  root : h.root ≡ option_map (link_of (by file.version hash)) po
  written : IfSome po (IsRead (by file.version hash) file.node)
  on : whole_pages po ≡ reached vs
  lists : records (whole_tree po) ≡ all_records vs
  one_level : every-Tree HasOneLevel (whole_tree po)
  shallow : level (whole_tree po) ≤ 7
  filled : IsFilledRoot (out-Tree (whole_tree po))
  each : All (FitsRecord file.version) (records (whole_tree po))

whole_built : (hash : List ℕ → List ℕ) (file : File) → IsFile file → (h : Head) → IsHead file.version h →
    (root : Option Link) → h.root ≡ root → h.count ≡ length (all_records (walk file.node root)) →
    AllByRecursion (IsSound (by file.version hash) file.pages) (walk file.node root) →
    WholeBuilt hash file h (placed_at file.node root) (walk file.node root)
whole_built hash file is h ok None e counted sound = record {
  root = e;
  written = tt;
  on = refl;
  lists = records-Empty;
  one_level = every-Empty HasOneLevel tt;
  shallow = omega (arith, level-Empty);
  filled = subst IsFilledRoot (sym tree.outs-Empty) tt;
  each = subst (All (FitsRecord file.version)) (sym records-Empty) (All-nil (FitsRecord file.version));
}
whole_built hash file is h ok (Some link) e counted sound =
    let b = built (by file.version hash) file.node file.pages is.nodes_fit link.entry.level true link refl sound in
    let v : Version = file.version in
    let tree : Tree = tree_of (place file.node link.entry.level link) in
    let root = subst (IsRoot v h.count) e ok.root in
    let low : link.entry.level ≤ 7 = root.3.level in
    let many : (entry (by v hash) tree).count ≡ link.entry.count =
    entry_count (by v hash) tree ∙ count_told v tree ∙ ap (told v) (ap length b.lists ∙ sym counted) ∙ sym root.2 in
    let known : entry (by v hash) tree ≡ link.entry = b.known (λ _. many) in
    let same : level (tree_of (place file.node link.entry.level link)) ≡ link.entry.level =
    sym (entry_level (by file.version hash) (tree_of (place file.node link.entry.level link)))
    ∙ ap (λ (k : Entry). k.level) known in
    record {
      root = e ∙ (λ i. Some (record {
        page = sym (place_page file.node link.entry.level link) i;
        entry =
            sym known i;
      }));
      written = b.written;
      on = b.on;
      lists = b.lists;
      one_level = b.one_level;
      shallow = omega (arith, low, same);
      filled = b.filled;
      each = b.each;
    }

-- ---- no fault: the file stands for a tree

pub record ReadsWell (hash : List ℕ → List ℕ) (file : File) : Type 0 where
  pub t : Tree
  pub b : ℕ
  pub well : WellFormed t
  pub layers : HasLayers file.version t
  pub stands : StandsRead hash file t b

pub within_pages : (hash : Scheme) (pages : ℕ) (vs : List Visit) → AllByRecursion (IsSound hash pages) vs →
    AllByRecursion (λ p. (0 < p) × (p < pages)) (reached vs)
within_pages hash pages [] all = tt
within_pages hash pages (v ∷ vs) all = ((all.0.low, all.0.inside), within_pages hash pages vs all.1)

-- the tree that its pages spell
pub record ReadsWellAt (hash : List ℕ → List ℕ) (file : File) (t : Tree) (b : ℕ) : Type 0 where
  pub well : WellFormed t
  pub layers : HasLayers file.version t
  pub stands : StandsRead hash file t b

-- the tree that its pages spell, node by node
pub record ReadsAt (hash : List ℕ → List ℕ) (file : File) (h : Head) (po : Option Placed) : Type 0 where
  pub well : WellFormed (whole_tree po)
  pub layers : HasLayers file.version (whole_tree po)
  pub count : h.count ≡ length (records (whole_tree po))
  pub root : h.root ≡ option_map (link_of (by file.version hash)) po
  pub lies : LiesRead hash file po h.free
  pub on : whole_pages po ≡ reached (walk file.node h.root)
  pub each : AllByRecursion (IsSound (by file.version hash) file.pages) (walk file.node h.root)

pub reads_at : (hash : List ℕ → List ℕ) (file : File) → IsFile file →
    (h : Head) → file.head ≡ Ok h → head_faults hash file h (walk file.node h.root) ≡ [] →
    ReadsAt hash file h (placed_at file.node h.root)
reads_at hash file is h sealed e =
    let vs = walk file.node h.root in
    let ps = chain file.free file.pages h.free in
    let ok = is.head_fits h sealed in
    let more = fault_if (not (h.count == length (all_records vs))) 0 (rule.Count h.count (length (all_records vs))) in
    let w = walk_sound (by file.version hash) file.pages [] vs (nil_left _ _ e) in
    let e1 = nil_right (walk_faults (by file.version hash) file.pages [] vs)
    (more ++ free_faults file (reached vs) ps) e in
    let count : h.count ≡ length (all_records vs) = eqb-true _ _
    (not-false _ (not_broken _ _ _ (nil_left more (free_faults file (reached vs) ps) e1))) in
    let e2 = nil_right more (free_faults file (reached vs) ps) e1 in
    let f = free_sound file.free file.pages h.free (reached vs) (is.some h sealed)
    (within_pages (by file.version hash) file.pages vs w.each) w.apart
    (nil_left (chain_faults file.free file.pages (reached vs) ps) (lost_faults file.pages (reached vs ++ ps)) e2)
    (nil_right (chain_faults file.free file.pages (reached vs) ps) (lost_faults file.pages (reached vs ++ ps)) e2) in
    let b = whole_built hash file is h ok h.root refl count w.each in
    record {
      well = record {
        one_level = b.one_level;
        shallow = b.shallow;
        filled = b.filled;
        distinct = subst (AllPairs (λ (x y : Record). x.number ≢ y.number)) (sym b.lists)
            (records_apart (all_records vs) (fresh_apart [] (numbers_of (all_records vs)) w.numbers));
        each = λ k d within. (b.each k d within).0;
        few = omega (arith, ok.count, count, ap length b.lists);
      };
      layers = λ k d within. (b.each k d within).1;
      count = count ∙ ap length (sym b.lists);
      root = b.root;
      lies = record {
        written = b.written;
        chain = ps;
        linked = f.chain;
        all = subst (λ qs. AreAllPages file.pages (qs ++ ps)) (sym b.on) f.all;
      };
      on = b.on;
      each = w.each;
    }

pub stands_at : (hash : List ℕ → List ℕ) (file : File) → IsFile file →
    (h : Head) → file.head ≡ Ok h → head_faults hash file h (walk file.node h.root) ≡ [] →
    ReadsWellAt hash file (whole_tree (placed_at file.node h.root)) h.batch
stands_at hash file is h sealed e =
    let r = reads_at hash file is h sealed e in
    record {
      well = r.well;
      layers = r.layers;
      stands = record {
        head = h;
        sealed = sealed;
        at_batch = refl;
        count = r.count;
        placed = placed_at file.node h.root;
        tree = refl;
        root = r.root;
        lies = r.lies;
      };
    }

none_left : (fs : List MapFault) → first_of fs ≡ None → fs ≡ []
none_left [] e = refl
none_left (f ∷ fs) e = cc

left_none : (fs : List MapFault) → fs ≡ [] → first_of fs ≡ None
left_none fs e = ap first_of e

-- the same of a file without a fault whose head is known
pub stands_there : (hash : List ℕ → List ℕ) (file : File) → IsFile file → mapfault hash file ≡ None →
    (h : Head) → file.head ≡ Ok h → ReadsWellAt hash file (whole_tree (placed_at file.node h.root)) h.batch
stands_there hash file is none h sealed =
    stands_at hash file is h sealed (subst (λ o. file_faults hash file o ≡ []) sealed
    (none_left (faults hash file) none))

-- the same of its nodes
pub reads_there : (hash : List ℕ → List ℕ) (file : File) → IsFile file → mapfault hash file ≡ None →
    (h : Head) → file.head ≡ Ok h → ReadsAt hash file h (placed_at file.node h.root)
reads_there hash file is none h sealed =
    reads_at hash file is h sealed (subst (λ o. file_faults hash file o ≡ []) sealed
    (none_left (faults hash file) none))

pub stands_without_fault : (hash : List ℕ → List ℕ) (file : File) → IsFile file → mapfault hash file ≡ None →
    ReadsWell hash file
stands_without_fault hash file is e = at file.head refl (none_left (faults hash file) e)
  where
    at : (o : Result Head MapRule) → file.head ≡ o → file_faults hash file file.head ≡ [] → ReadsWell hash file
    at (Err r) same none = absurd (no (subst (λ o. file_faults hash file o ≡ []) same none))
      where
        no : fault_if true 0 r ≡ [] → ⊥
        no h = cc
    at (Ok h) same none =
        let s = stands_at hash file is h same (subst (λ o. file_faults hash file o ≡ []) same none) in
        record {
          t = whole_tree (placed_at file.node h.root);
          b = h.batch;
          well = s.well;
          layers =
              s.layers;
          stands = s.stands;
        }

-- ---- the file stands for a tree: no fault, and no other tree

record WholeUnfolds (hash : List ℕ → List ℕ) (file : File) (po : Option Placed) (root : Option Link) : Type 0 where
  same : placed_at file.node root ≡ po
  sound : AllByRecursion (IsSound (by file.version hash) file.pages) (walk file.node root)
  on : whole_pages po ≡ reached (walk file.node root)
  lists : records (whole_tree po) ≡ all_records (walk file.node root)

whole_unfolds : (hash : List ℕ → List ℕ) (file : File) → IsFile file →
    (po : Option Placed) → IfSome po (IsRead (by file.version hash) file.node) →
    every-Tree HasOneLevel (whole_tree po) →
    IsFilledRoot (out-Tree (whole_tree po)) → AllByRecursion (λ p. (0 < p) × (p < file.pages)) (whole_pages po) →
    WholeUnfolds hash file po (option_map (link_of (by file.version hash)) po)
whole_unfolds hash file is None written levels filled inside =
    record { same = refl; sound = tt; on = refl; lists = records-Empty }
whole_unfolds hash file is (Some P) written levels filled inside =
    let n = (entry (by file.version hash) (tree_of P)).level in
    let u = unfolds (by file.version hash) file.node file.pages P n true written levels
    (sym (entry_level (by file.version hash) (tree_of P))) filled inside in
    let b = built (by file.version hash) file.node file.pages is.nodes_fit n true
    (link_of (by file.version hash) P) refl u.sound in
    record {
      same = ap Some u.same;
      sound = u.sound;
      on = ap pages_of (sym u.same) ∙ b.on;
      lists = ap (λ Q. records (tree_of Q)) (sym u.same) ∙ b.lists;
    }

unfolded : (hash : List ℕ → List ℕ) (file : File) → IsFile file → (t : Tree) (batch : ℕ) → WellFormed t →
    (s : StandsRead hash file t batch) → WholeUnfolds hash file s.placed s.head.root
unfolded hash file is t batch well s =
    subst (WholeUnfolds hash file s.placed) (sym s.root)
    (whole_unfolds hash file is s.placed s.lies.written (subst (every-Tree HasOneLevel) (sym s.tree) well.one_level)
    (subst (λ u. IsFilledRoot (out-Tree u)) (sym s.tree) well.filled)
    (all_left (λ p. (0 < p) × (p < file.pages)) (whole_pages s.placed) s.lies.chain
    (all_within file.pages (whole_pages s.placed ++ s.lies.chain) s.lies.all)))

pub no_fault_where_it_stands : (hash : List ℕ → List ℕ) (file : File) → IsFile file →
    (t : Tree) (batch : ℕ) → WellFormed t → StandsRead hash file t batch → mapfault hash file ≡ None
no_fault_where_it_stands hash file is t batch well s =
    let u = unfolded hash file is t batch well s in
    let h = s.head in
    let vs = walk file.node h.root in
    let all : AreAllPages file.pages (reached vs ++ s.lies.chain) =
    subst (λ ps. AreAllPages file.pages (ps ++ s.lies.chain)) u.on s.lies.all in
    let recs : records t ≡ all_records vs = ap records (sym s.tree) ∙ u.lists in
    let f = sound_free file.free file.pages h.free (reached vs) s.lies.chain (is.some h s.sealed) s.lies.linked all in
    left_none (faults hash file)
    (subst (λ o. file_faults hash file o ≡ []) (sym s.sealed)
    (nil_both _ _
    (sound_walk (by file.version hash) file.pages [] vs (record {
      each = u.sound;
      apart = fresh_left [] (reached vs) s.lies.chain (apart_fresh (reached vs ++ s.lies.chain) all.once);
      numbers = apart_fresh (numbers_of (all_records vs))
          (numbers_apart (all_records vs) (subst (AllPairs (λ (x y : Record). x.number ≢ y.number)) recs
          well.distinct));
    }))
    (nil_both _ _
    (no_fault _ _ _ (not_from_true _ (eq-eqb _ _ (s.count ∙ ap length recs))))
    (nil_both _ _ f.on_chain f.lost))))

pub record SameMap (t u : Tree) (b c : ℕ) : Type 0 where
  pub trees : t ≡ u
  pub batches : b ≡ c

pub one_map : (hash : List ℕ → List ℕ) (file : File) → IsFile file →
    (t u : Tree) (b c : ℕ) → WellFormed t → WellFormed u → StandsRead hash file t b → StandsRead hash file u c →
    SameMap t u b c
one_map hash file is t u b c wt wu st su =
    let same : st.head ≡ su.head = ok_same st.head su.head (sym st.sealed ∙ su.sealed) in
    let x = unfolded hash file is t b wt st in
    let y = unfolded hash file is u c wu su in
    record {
      trees = sym st.tree ∙ ap whole_tree (sym x.same ∙ ap (λ (h : Head). placed_at file.node h.root) same ∙ y.same)
          ∙ su.tree;
      batches = sym st.at_batch ∙ ap (λ (h : Head). h.batch) same ∙ su.at_batch;
    }
  where
    ok_same : (g h : Head) → ◌≡◌ {A = Result Head MapRule} (Ok g) (Ok h) → g ≡ h
    ok_same g h e = cc

-- the law
pub record TheLaw (hash : List ℕ → List ℕ) (file : File) : Type 0 where
  pub none_to_stands : mapfault hash file ≡ None → ReadsWell hash file
  pub stands_to_none : (t : Tree) (b : ℕ) → WellFormed t → StandsRead hash file t b → mapfault hash file ≡ None
  pub one : (t u : Tree) (b c : ℕ) → WellFormed t → WellFormed u → StandsRead hash file t b → StandsRead hash file u c →
      SameMap t u b c

pub the_law : (hash : List ℕ → List ℕ) (file : File) → IsFile file → TheLaw hash file
the_law hash file is = record {
  none_to_stands = stands_without_fault hash file is;
  stands_to_none = no_fault_where_it_stands hash file is;
  one = one_map hash file is;
}
