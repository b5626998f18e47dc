-- What a walk over the nodes of a map is stopped by, whether or not its tree is told.
use Rattle.std.specs.Prelude.{◌≡◌, ◌≢◌, ⊤, ◌⊎◌, ℕ, ◌<◌, Bool, true, false, List, [], ◌∷◌, ◌++◌, map, length, take, get_or, All, Option, Some, IsSomeAnd}
use Rattle.std.specs.List.{flat_map, AllByRecursion}
use Rattle.mr_record.specs.Record.{IsRecord}
use Rattle.mr_record.specs.declared.version.Version.{Version}
use Rattle.mr_tree.specs.Tree.{records}
use Rattle.mr_tree.specs.WellFormed.{HasOneLevel, FilledAs, HasLayers}
use Rattle.mr_tree.specs.Digest.{by, entry}
use Rattle.mr_tree.specs.View as view
use Rattle.mr_tree.specs.Nodes.{MapModel, ShowsNode}
use Rattle.mr_tree.specs.declared.child.Child.{Child}
use Rattle.mr_tree.specs.declared.nodes.NodesErr.{NodesErr}
use Rattle.mr_tree.specs.declared.nodes.NodesErr.TheVariants as errors
use Rattle.mr_tree.specs.declared.tree.Tree.{Tree}
use Rattle.mr_tree.specs.declared.tree.Tree.TheOpen.{Empty, Leaf, Inner}
use Rattle.mr_tree.specs.declared.tree.Tree.TheVariants as variants
use Rattle.mr_tree.specs.declared.tree.Tree.TheFolds.{every-Tree}
use Rattle.mr_pages.specs.Faults.{numbers_of, repeats}
use Rattle.mr_pages.specs.private.Judging.{fits_entry}

-- the numbers of a leaf's records
abbrev pub numbers_in : view.Node → List ℕ
numbers_in Empty = []
numbers_in (Leaf rs) = numbers_of rs
numbers_in (Inner children) = []

-- A tree of this version that is not empty, as that of a map or as one below its root: with levels,
-- numbers of entries of nodes, and records that a map may have. How high it is, how many records it
-- has, and that no number is there twice, is not said here.
pub record IsFine (v : Version) (root : Bool) (t : Tree) : Type 0 where
  pub one_level : every-Tree HasOneLevel t
  pub there : t ≢ variants.Empty
  pub filled : FilledAs root t
  pub each : All IsRecord (records t)
  pub layers : HasLayers v t

-- A fetch of this child may show a node with these children that breaks no rule, and a walk goes
-- down to the one at this place. Left of it stand trees that have the entries that are told of them
-- and break no rule: none of their numbers is there twice, or was met before.
pub record GoesDown (hash : List ℕ → List ℕ) (s : MapModel) (root : Bool) (met : List ℕ)
    (c d : Child) (left : List Tree) : Type 0 where
  pub children : List Child
  pub place : ℕ
  pub shows : ShowsNode hash s c (Inner children)
  pub views : view.IsView (Inner children)
  pub fits : fits_entry s.version root c (Inner children) ≡ true
  pub within : place < length children
  pub is : d ≡ get_or children place d
  pub known : map view.child_entry (take place children) ≡ map (entry (by s.version hash)) left
  pub fine : AllByRecursion (IsFine s.version false) left
  pub fresh : repeats met (numbers_of (flat_map records left)) ≡ false

-- The page is that of this child, which was asked for last, and a fetch of it may show a node that
-- is refused. Such a node does not have what is told of it, or has too few entries, or has a number
-- that was met before.
pub record IsRefused (hash : List ℕ → List ℕ) (s : MapModel) (asked : Child → Type 0)
    (root : Bool) (met : List ℕ) (c : Child) (page : ℕ) : Type 0 where
  pub page_is : page ≡ c.id
  pub last : asked c
  pub node : view.Node
  pub shows : ShowsNode hash s c node
  pub views : view.IsView node
  pub breaks : (fits_entry s.version root c node ≡ false) ⊎ (repeats met (numbers_in node) ≡ true)

-- going down from this child, these numbers having been met, a walk comes to one that is refused
abbrev pub LeadsTo : (List ℕ → List ℕ) → MapModel → (asked : Child → Type 0) → (root : Bool) →
    (met : List ℕ) → Child → List (Child × List Tree) → (page : ℕ) → Type 0
LeadsTo hash s asked root met c [] page = IsRefused hash s asked root met c page
LeadsTo hash s asked root met c (d ∷ ds) page = GoesDown hash s root met c d.0 d.1
    × LeadsTo hash s asked false (met ++ numbers_of (flat_map records d.1)) d.0 ds page

-- the page is blamed by a walk from this child
pub record IsBlamed (hash : List ℕ → List ℕ) (s : MapModel) (asked : Child → Type 0)
    (root : Bool) (met : List ℕ) (c : Child) (page : ℕ) : Type 0 where
  pub down : List (Child × List Tree)
  pub leads : LeadsTo hash s asked root met c down page

-- What was answered stands as the last refusal of a fetch, or it is a page that is blamed; or there
-- was no memory.
abbrev pub StopsAs : (Blamed : ℕ → Type 0) → (refusal : Option NodesErr) → NodesErr → Type 0
StopsAs Blamed refusal (errors.Page page) = (refusal ≡ Some (errors.Page page)) ⊎ Blamed page
StopsAs Blamed refusal errors.NoMemory = ⊤
StopsAs Blamed refusal e = refusal ≡ Some e

-- The page is that of the root, and a tree with the digest that is told of it has another number of
-- records than is told. It breaks no rule, and no number is there twice.
pub record IsMiscounted (hash : List ℕ → List ℕ) (s : MapModel) (root : Child) (count page : ℕ)
    : Type 0 where
  pub page_is : page ≡ root.id
  pub tree : Tree
  pub digest : (entry (by s.version hash) tree).digest ≡ root.digest
  pub fine : IsFine s.version true tree
  pub fresh : repeats [] (numbers_of (records tree)) ≡ false
  pub other : length (records tree) ≢ count

-- The same of a walk over a map with this root, of which so many records are told. Before it no
-- number was met.
abbrev pub StopsAt : (List ℕ → List ℕ) → MapModel → (root : Option Child) → (count : ℕ) →
    (asked : Child → Type 0) → (refusal : Option NodesErr) → NodesErr → Type 0
StopsAt hash s root count asked refusal e = StopsAs (λ page. IsSomeAnd root
    (λ c. IsMiscounted hash s c count page ⊎ IsBlamed hash s asked true [] c page)) refusal e
