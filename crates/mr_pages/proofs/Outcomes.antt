-- What checking a file comes to, rule by rule.
use Rattle.std.proofs.Common.{◌≡◌, ℕ, ◌<◌, Bool, true, false, List, [], length, inl, sym, subst, ◌∙◌, ⊎_elim}
use Rattle.std.specs.Prelude.{Option, Some, Result, Ok, Err, OnOk}
use Rattle.mr_record.specs.declared.version.Version.{Version}
use Rattle.mr_tree.specs.Digest.{Scheme, by}
use Rattle.mr_pages.specs.declared.error.MapErr.{MapErr}
use Rattle.mr_pages.specs.declared.error.MapErr.TheVariants as errors
use Rattle.mr_pages.specs.declared.visited.Visited.{Visited}
use Rattle.mr_pages.specs.Page.{Link, Node, Head}
use Rattle.mr_pages.specs.File.{File}
use Rattle.mr_pages.specs.Faults.{Visit, walk, walk_faults, reached, all_records, numbers_of, chain, first_of}
use Rattle.mr_pages.specs.Walking.{Saw}
use Rattle.mr_pages.specs.private.Walks.{Passed}
use Rattle.mr_pages.specs.Source.{Sourced, IfNotFailed, AllKept}
use Rattle.mr_pages.specs.private.Walks.{WalksBelowLink, WalksFromRoot, WalkedAll, GivesPages, FollowsChain, ChecksBehind, AreKept}
use Rattle.mr_pages.proofs.Lists.{all_has}
use Rattle.mr_pages.proofs.Rules.{walk_sound}
use Rattle.mr_pages.proofs.AsRead.{within_pages}
use Rattle.mr_pages.proofs.Stops.{walk_stops, chain_stops}

pub root_visits : (A : Type 0) (hash : Scheme) (pages : ℕ) (at : ℕ → Option Node)
    (link : Link) (r : Result A MapErr) (s : Visited) → WalksBelowLink {A = A} hash pages at [] true link r s →
    WalksFromRoot {A = A} hash pages at (Some link) r s
root_visits A hash pages at link (Ok t) s w = w
root_visits A hash pages at link (Err (errors.Map f)) s w = w
root_visits A hash pages at link (Err errors.NoMemory) s w = tt
root_visits A hash pages at link (Err errors.Missing) s w = tt
root_visits A hash pages at link (Err errors.Fault) s w = tt

-- a refusal is one whatever was to be made
pub refused_as : (A B : Type 0) (hash : Scheme) (pages : ℕ) (at : ℕ → Option Node) (before : List Visit) (root : Bool)
    (link : Link) (e : MapErr) (s : Visited) → WalksBelowLink {A = A} hash pages at before root link (Err e) s →
    WalksBelowLink {A = B} hash pages at before root link (Err e) s
refused_as A B hash pages at before root link (errors.Map f) s w = w
refused_as A B hash pages at before root link errors.NoMemory s w = tt
refused_as A B hash pages at before root link errors.Missing s w = tt
refused_as A B hash pages at before root link errors.Fault s w = tt

-- what was reached is kept
pub kept_all : (A : Type 0) (hash : Scheme) (n : ℕ) (file : File) (root : Option Link) (r : Result A MapErr)
    (old new' : Visited) (keeps : ℕ → Type 0) → Saw n old [] [] → WalksFromRoot {A = A} hash n file.node root r new' →
    OnOk r (AreKept old new' keeps) → OnOk r (AllKept file root keeps)
kept_all A hash n file root (Err e) old new' keeps none v k = tt
kept_all A hash n file root (Ok a) old new' keeps none v k = λ page on.
    let w = walk_sound hash n [] (walk file.node root) v.none in
    let inside = all_has (λ p. (0 < p) × (p < n)) (reached (walk file.node root))
    (within_pages hash n (walk file.node root) w.each) page on in
    ⊎_elim
    (λ before. absurd (no (sym before ∙ none.reached page inside.1)))
    (λ kept. kept)
    (k page (v.saw.reached page inside.1 ∙ on))
  where
    no : ◌≡◌ true false → ⊥
    no h = cc

-- what is told of the file that is told
pub visits_of : {M : Type 0} (hash : Scheme) (makes : M → File → Type 0) (s : Sourced) (root : Option Link)
    (r : Result M MapErr) (a b : Visited) → IfNotFailed r (GivesPages s a b (WalkedAll hash makes s.pages root r b)) →
    (f : File) → s.file ≡ Some f → WalksFromRoot hash s.pages f.node root r b
visits_of hash makes s root (Ok m) a b g f is = (g.so f (inl is)).visits_
visits_of hash makes s root (Err (errors.Map x)) a b g f is = (g.so f (inl is)).visits_
visits_of hash makes s root (Err errors.Missing) a b g f is = tt
visits_of hash makes s root (Err errors.Fault) a b g f is = tt
visits_of hash makes s root (Err errors.NoMemory) a b g f is = tt

pub same_pages : (was hash : Scheme) (m n : ℕ) (vs : List Visit) (s : Visited) → was ≡ hash → m ≡ n →
    Passed was m [] vs s → Passed hash n [] vs s
same_pages was hash m n vs s h e p = subst (λ k. Passed hash k [] vs s) e (subst (λ k. Passed k m [] vs s) h p)

module _ (hash : List ℕ → List ℕ) (file : File) (h : Head) (sealed : file.head ≡ Ok h) where
  pub visits_stop : {A : Type 0} (r : Result A MapErr) (n : ℕ) (e : MapErr) (s : Visited) (u : Version) →
      u ≡ file.version → n ≡ file.pages →
      WalksFromRoot {A = A} (by u hash) n file.node h.root (Err e) s → ChecksBehind {A = A} hash file (Err e)
  visits_stop r n (errors.Map f) s u now same v = walk_stops hash file h sealed f
      (subst (λ k. first_of (walk_faults (by file.version hash) k [] (walk file.node h.root)) ≡ Some f) same
      (subst (λ w. first_of (walk_faults (by w hash) n [] (walk file.node h.root)) ≡ Some f) now v))
  visits_stop r n errors.NoMemory s u now same v = tt
  visits_stop r n errors.Missing s u now same v = tt
  visits_stop r n errors.Fault s u now same v = tt

  pub chain_refused : (A : Type 0) {B : Type 0} (b : Result B MapErr) (n found : ℕ) (e : MapErr) (s r : Visited) →
      n ≡ file.pages →
      Passed (by file.version hash) file.pages [] (walk file.node h.root) s →
      found ≡ length (numbers_of (all_records (walk file.node h.root))) →
      h.count ≡ found → (ns : List ℕ) →
      FollowsChain {A = A} file.free n h.free (reached (walk file.node h.root)) ns (Err e) r →
      ChecksBehind {A = B} hash file (Err e)
  chain_refused A b n found (errors.Map f) s r same p is held ns c =
      chain_stops hash file h sealed f found p.none is held
      (subst (λ k. first_of (Rattle.mr_pages.specs.Faults.chain_faults file.free k (reached (walk file.node h.root))
      (chain file.free k h.free)) ≡ Some f) same c)
  chain_refused A b n found errors.NoMemory s r same p is held ns c = tt
  chain_refused A b n found errors.Missing s r same p is held ns c = tt
  chain_refused A b n found errors.Fault s r same p is held ns c = tt

pub chained : (A : Type 0) (a : A) (free : ℕ → Option ℕ) (m n f : ℕ) (ps ns : List ℕ) (s : Visited) → m ≡ n →
    FollowsChain {A = A} free m f ps ns (Ok a) s → FollowsChain {A = A} free n f ps ns (Ok a) s
chained A a free m n f ps ns s e c = subst (λ k. FollowsChain {A = A} free k f ps ns (Ok a) s) e c

pub saw_as : (m n : ℕ) (s : Visited) (ps ns : List ℕ) → m ≡ n → Saw m s ps ns → Saw n s ps ns
saw_as m n s ps ns e saw = subst (λ k. Saw k s ps ns) e saw
