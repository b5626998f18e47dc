-- A map whose pages were checked is a store.
use Rattle.std.proofs.Common.{◌≡◌, ℕ, ◌+◌, ◌*◌, ◌/◌, ◌<◌, ◌^◌, ◌≤◌, List, [], length, inl, inr, refl, sym, ap, subst, ◌∙◌, arith}
use Rattle.std.specs.Prelude.{◌↔◌, ◌⊎◌, ⊤, min, max, Contains, Option, Some, None, option_map, Result, Ok, Err, IfSome, IsSome, IsNone, MatchOption, MatchResult}
use Rattle.std.specs.String.{string_bytes}
use Rattle.std.proofs.Math.Nat.{mul-div_cancel}
use Rattle.std.proofs.lemmas.List.Elements.{All-nil}
use Rattle.lru.proofs.Splits.{Contains-nil}
use Rattle.mr_outside.specs.Files.{Files, file}
use Rattle.mr_outside.specs.State.{Shelved}
use Rattle.mr_tree.specs.declared.child.Child.{Child}
use Rattle.mr_pages.specs.declared.head.MapHead.{MapHead}
use Rattle.mr_pages.specs.declared.checking.Checked.{Checked}
use Rattle.mr_pages.specs.Page.{Form, IsForm, IsRoot, page_limit}
use Rattle.mr_pages.specs.PageBytes.{page_size, layout_by, form_of, form_by}
use Rattle.mr_pages.specs.declared.layout.Layout.{Layout}
use Rattle.mr_pages.specs.File.{File, file_of, form_at, pages_of, version_of}
use Rattle.mr_pages.specs.Faults.{has, mapfault}
use Rattle.mr_pages.specs.Stands.{whole_pages}
use Rattle.mr_pages.specs.Walking.{child_link, head_of}
use Rattle.mr_pages.specs.Source.{AllKept, IsRootIn, CheckedWhole, ChecksFile, GivesFile, IsFrontOfFile, SaysHead, IfNotFailed}
use Rattle.mr_pages.specs.private.Walks.{HasFirst, HasWholePages, IsPaged, on_shelf}
use Rattle.mr_pages.proofs.Agreement.{are_whole_pages, is_file}
use Rattle.mr_pages.proofs.AsRead.{reads_there}
use Rattle.mr_pages.proofs.Lists.{contains_has}
use Rattle.mr_store.specs.Kept.{CacheEntries, IsGood}
use Rattle.mr_store.specs.Stored.{told_bytes, nodes_on_pages, room, IsOpen, IsRootOf, IsStored}
use Rattle.mr_store.specs.Paged.{shelved, stands_for}
use Rattle.mr_store.specs.private.Paging.{HoldsPage, IsFileOf, IsPaging, IsUnchecked}
use Rattle.mr_store.specs.declared.cached_file.CachedFile.{CachedFile}
use Rattle.mr_store.specs.CachedFile.{page_form, bytes_of, entries_of}
use Rattle.mr_store.specs.declared.paged.Paged.{Paged}
use Rattle.mr_outside.specs.declared.shelf.Shelf as shelves
use Rattle.mr_tree.specs.declared.hash.Hashes as hashes
use Rattle.mr_outside.specs.Bytes.{AreBytes}
use Rattle.mr_record.specs.declared.version.Version.{Version}
use Rattle.mr_record.specs.declared.version.Version.TheVariants.{One, Two}
use Rattle.mr_tree.specs.Digest.{by}
use Rattle.mr_outside.specs.Causes.{ShelfCauses}
use Rattle.mr_outside.specs.declared.shelf.ShelfErr.{ShelfErr}
use Rattle.mr_outside.specs.declared.shelf.ShelfErr.TheVariants as shelf
use Rattle.mr_pages.specs.declared.rule.MapFault.{MapFault}
use Rattle.mr_pages.specs.declared.rule.MapRule.TheVariants as rule
use Rattle.mr_pages.specs.Opening.{of_shelf, pages_in, FailsWithoutFault, SomeBytes, TellsBytes}
use Rattle.mr_pages.proofs.Answered.{form_by_is, same_file, told_by, told_failed, tells_read}
use Rattle.mr_store.specs.Opening.{WasChecked, IsFaultOf, HasWhy, IsOfSome, Refused, TellsMap, IsOpened, IsOpeningRefused, OpensMap, RefusesMap}
use Rattle.mr_outside.specs.Told.{OfFile, MayMiss}
use Rattle.mr_outside.specs.Faults.{Rose}
use Rattle.mr_pages.specs.declared.error.MapErr.{MapErr}
use Rattle.mr_pages.specs.declared.error.MapErr.TheVariants as errors

none_at : (v : Version) (count : ℕ) (root : Option Child) → IsRoot v count (option_map child_link root) →
    (count ≡ 0) ↔ IsNone root
none_at v count None r = (λ z. refl, λ n. r)
none_at v count (Some c) r = (λ z. absurd (omega (arith, z, r.0)), λ n. let some : IsNone (Some c) = n in cc)

root_at : (v : Version) (count pages n : ℕ) (root : Option Child) → n ≡ pages →
    IsRoot v count (option_map child_link root) → IfSome root (IsRootIn pages) → IfSome root (IsRootOf v count n)
root_at v count pages n None e r i = tt
root_at v count pages n (Some c) e r i = record {
  positive = i.positive;
  within = omega (arith, i.within, e);
  low = r.3.level;
  told = r.3.told;
  counted = r.2;
}

-- what was checked of a file, by its values
pub record HasChecked (version : Version) (hash : List ℕ → List ℕ) (pages : ℕ) (file : Option File) (h : MapHead)
    (es : CacheEntries) : Type 0 where
  pub says : SaysHead version pages h
  pub inside : IfSome h.root (IsRootIn pages)
  pub fault : (f : File) → file ≡ Some f → mapfault hash f ≡ None
  pub head : (f : File) → file ≡ Some f → f.head ≡ Ok (head_of h)
  pub kept : (f : File) → file ≡ Some f → AllKept f (option_map child_link h.root) (HoldsPage pages es)

pub checked_of : {S : Type 0} {G : shelves.Ghosts S} (hash : List ℕ → List ℕ) (f : CachedFile S G) (h : MapHead) →
    WasChecked hash f h →
    HasChecked f.layout.version hash f.pages (option_map (file_of (page_form f)) (bytes_of f)) h (entries_of f)
checked_of hash f h w =
    record { says = w.says; inside = w.inside; fault = w.fault; head = w.head; kept = w.kept }

module _ (form : Form) (is : IsForm form) (hash : List ℕ → List ℕ) (told : Option Files) (name : List ℕ) (pages : ℕ)
    (first : List ℕ) (es : CacheEntries) (cap : ℕ) (s : IsPaging form hash told name pages first es cap) (h : MapHead)
    (w : HasChecked form.version hash pages (option_map (file_of form) (told_bytes told name)) h es) where
  told_open : (bytes : List ℕ) → IsFileOf form pages es bytes →
      HasChecked form.version hash pages (Some (file_of form bytes)) h es → IsOpen form hash h es bytes
  told_open bytes f v =
      let file = file_of form bytes in
      let fault = v.fault file refl in
      let head = v.head file refl in
      let r = reads_there hash file (is_file form is bytes f.are) fault (head_of h) head in
      record {
        are = f.are;
        fault = fault;
        head = head;
        same = f.same;
        all = λ small page on. v.kept file refl page
            (ap (has page) (sym r.on) ∙ contains_has page (whole_pages (nodes_on_pages form h bytes)) on)
            (subst (λ n. n ≤ room + 1) v.says.count small);
      }

  at_told : (o : Option (List ℕ)) → IfSome o (IsFileOf form pages es) →
      HasChecked form.version hash pages (option_map (file_of form) o) h es → IfSome o (IsOpen form hash h es)
  at_told None f v = tt
  at_told (Some bytes) f v = told_open bytes f v

  pub store_of : IsStored form hash told name h es cap
  store_of = record {
    few = w.says.fits.count;
    paged = subst (λ n. n ≤ page_limit) (sym w.says.count) s.few;
    none = none_at form.version h.count h.root w.says.fits.root;
    root = root_at form.version h.count pages h.pages h.root w.says.count w.says.fits.root w.inside;
    cap = s.cap;
    good = λ e within. subst (λ n. IsGood (by form.version hash) n e.1) (sym w.says.count) (s.each e within).good;
    there = s.there;
    open_ = at_told (told_bytes told name) s.file_ w;
  }

-- where the file is told, it has so many pages
pub pages_known : (form : Form) (o : Option (List ℕ)) (pages : ℕ) (es : CacheEntries) → IfSome o
    (IsFileOf form pages es) →
    (f : File) → option_map (file_of form) o ≡ Some f → f.pages ≡ pages
pages_known form None pages es has f is = cc
pages_known form (Some bytes) pages es has f is =
    let same : file_of form bytes ≡ f = cc in ap (λ (g : File). g.pages) (sym same) ∙ sym has.count

-- and it is read in its version
pub version_known : (form : Form) (o : Option (List ℕ)) (f : File) → option_map (file_of form) o ≡ Some f →
    f.version ≡ form.version
version_known form None f is = cc
version_known form (Some bytes) f is =
    let same : file_of form bytes ≡ f = cc in ap (λ (g : File). g.version) (sym same)

-- ---- what opening answers

pub answers_of : (form : Form) → IsForm form → (hash : List ℕ → List ℕ) → ((xs : List ℕ) → length (hash xs) ≡ 32) →
    (s : Shelved) (name : List ℕ)
    (e : MapErr) → OfFile s.files name ⊤ AreBytes → IsFaultOf form hash s name e →
    OfFile s.files name (FailsWithoutFault (Err e)) (λ bytes. TellsBytes form hash bytes (Err e))
answers_of form is hash sized s name errors.Missing are f =
    told_failed form is hash sized s.files name (Err errors.Missing) are tt
answers_of form is hash sized s name errors.Fault are f =
    told_failed form is hash sized s.files name (Err errors.Fault) are tt
answers_of form is hash sized s name errors.NoMemory are f =
    told_failed form is hash sized s.files name (Err errors.NoMemory) are tt
answers_of form is hash sized s name (errors.Map x) are f = by_files s.files are f
  where
    by_bytes : (o : Option (List ℕ)) → MatchOption o ⊤ AreBytes →
        MatchOption o ⊥ (λ bytes. mapfault hash (file_of form bytes) ≡ Some x) →
        MatchOption o ⊥ (λ bytes. TellsBytes form hash bytes (Err (errors.Map x)))
    by_bytes None are f = f
    by_bytes (Some bytes) are f = tells_read form is hash sized bytes are (Err (errors.Map x)) f

    by_files : (o : Option Files) → OfFile o name ⊤ AreBytes →
        OfFile o name ⊥ (λ bytes. mapfault hash (file_of form bytes) ≡ Some x) →
        OfFile o name ⊥ (λ bytes. TellsBytes form hash bytes (Err (errors.Map x)))
    by_files None are f = tt
    by_files (Some files) are f = by_bytes (file files name) are f

-- what fails says nothing of any bytes
pub fails_some : (form : Form) (hash : List ℕ → List ℕ) (e : MapErr) → FailsWithoutFault (Err e) → SomeBytes form hash
    (Err e)
fails_some form hash (errors.Map f) fails = absurd fails
fails_some form hash errors.Missing fails = ([], All-nil (λ b. b < 2 ^ 8), tt)
fails_some form hash errors.Fault fails = ([], All-nil (λ b. b < 2 ^ 8), tt)
fails_some form hash errors.NoMemory fails = ([], All-nil (λ b. b < 2 ^ 8), tt)

-- of the bytes that were read, told or not
module _ (form : Form) (is : IsForm form) (hash : List ℕ → List ℕ) (pages : ℕ) (s : Shelved) (name : List ℕ)
    (some : 1 ≤ pages) (few : pages ≤ page_limit) where
  pub as_file : (bytes : List ℕ) → length bytes ≡ pages * form.size → pages_of form pages bytes ≡ file_of form bytes
  as_file bytes size =
      let even = are_whole_pages form.size (length bytes) pages is.some size some few in
      same_file form pages bytes
      (sym (ap (λ n. n / form.size) size ∙ mul-div_cancel pages is.some)) even

  pub some_fault : (makes : Option Child → Option (Unit {0}) → File → Type 0) (e : MapErr)
      → IfNotFailed {A = Checked (Unit {0})} (Err e) (GivesFile (on_shelf form (0, 0) pages s name)
      (CheckedWhole form.version hash makes pages (Err e))) → SomeBytes form hash (Err e)
  some_fault makes (errors.Map f) g = (
    g.bytes,
    g.are,
    subst (λ h. mapfault hash h ≡ Some f) (as_file g.bytes g.size) (g.so.checks refl refl),
  )
  some_fault makes errors.Missing g = fails_some form hash errors.Missing tt
  some_fault makes errors.Fault g = fails_some form hash errors.Fault tt
  some_fault makes errors.NoMemory g = fails_some form hash errors.NoMemory tt

  pub of_some : {makes : Option Child → Option (Unit {0}) → File → Type 0} (c : Checked (Unit {0}))
      → GivesFile (on_shelf form (0, 0) pages s name)
      (CheckedWhole form.version hash makes pages (Ok c)) → IsOfSome form hash c.head
  of_some c g =
      let checks = subst (λ h. ChecksFile {M = Unit {0}} hash h (Ok c)) (as_file g.bytes g.size)
      (g.so.checks refl refl) in
      record { bytes = g.bytes; are = g.are; fault = checks.0; head = checks.1 }

-- the shelf refused
pub why_of : {A : Type 0} (name : List ℕ) (before after : Shelved) (e : ShelfErr) →
    ShelfCauses {A = A} name before after (Err e) → HasWhy name before after (of_shelf e)
why_of name before after shelf.Missing c =
    record { missing = λ is. c.missing refl; failed = λ is. absurd (cc); quiet = inr tt; once = tt }
why_of name before after shelf.Fault c =
    record { missing = λ is. absurd (cc); failed = λ is. c.fault refl; quiet = inr tt; once = tt }
why_of name before after shelf.NoMemory c =
    record { missing = λ is. absurd (cc); failed = λ is. absurd (cc); quiet = inr tt; once = tt }

abbrev pub size_fault : MapFault
size_fault = record { page = 0; rule = rule.Size }

-- the file has no whole pages
pub why_size : (name : List ℕ) (before after : Shelved) → after.faults ≡ before.faults →
    HasWhy name before after (errors.Map size_fault)
why_size name before after quiet =
    record { missing = λ is. absurd (cc); failed = λ is. absurd (cc); quiet = inl quiet; once = tt }

-- there was no memory
pub no_room : (form : Form) (hash : List ℕ → List ℕ) (name : List ℕ) (before after : Shelved) →
    Refused form hash name before after errors.NoMemory
no_room form hash name before after = record {
  fault = tt;
  some = fails_some form hash errors.NoMemory tt;
  why = record { missing = λ is. absurd (cc); failed = λ is. absurd (cc); quiet = inr tt; once = tt };
}

-- what settles something counts no fault
pub quiet_or : (A : Type 0) (e : MapErr) (P : Type 0) → IfNotFailed {A = A} (Err e) P → P ⊎ FailsWithoutFault (Err e)
quiet_or A (errors.Map f) P s = inl s
quiet_or A errors.Missing P s = inr tt
quiet_or A errors.Fault P s = inr tt
quiet_or A errors.NoMemory P s = inr tt

pub fault_of : (form : Form) (hash : List ℕ → List ℕ) (s : Shelved) (name : List ℕ) (pages : ℕ) (es : CacheEntries) (e :
    MapErr) →
    MatchOption s.files ⊤ (λ files. IsSome (file files name)) → IfSome (told_bytes s.files name) (IsFileOf form pages
    es) →
    ((f : File) → option_map (file_of form) (told_bytes s.files name) ≡ Some f → f.pages ≡ pages →
    ChecksFile {M = Unit {0}} hash f (Err e)) → IsFaultOf form hash s name e
fault_of form hash s name pages es errors.Missing there f c = tt
fault_of form hash s name pages es errors.Fault there f c = tt
fault_of form hash s name pages es errors.NoMemory there f c = tt
fault_of form hash s name pages es (errors.Map x) there f c = by_files s.files there f c
  where
    by_bytes : (o : Option (List ℕ)) → IsSome o → IfSome o (IsFileOf form pages es) →
        ((g : File) → option_map (file_of form) o ≡ Some g → g.pages ≡ pages → mapfault hash g ≡ Some x) →
        MatchOption o ⊥ (λ bytes. mapfault hash (file_of form bytes) ≡ Some x)
    by_bytes None some f c = let none : IsSome {T = List ℕ} None = some in cc
    by_bytes (Some bytes) some f c = c (file_of form bytes) refl (sym f.count)

    by_files : (o : Option Files) → MatchOption o ⊤ (λ files. IsSome (file files name)) →
        IfSome (told_bytes o name) (IsFileOf form pages es) →
        ((g : File) → option_map (file_of form) (told_bytes o name) ≡ Some g → g.pages ≡ pages →
        mapfault hash g ≡ Some x) →
        OfFile o name ⊥ (λ bytes. mapfault hash (file_of form bytes) ≡ Some x)
    by_files None there f c = tt
    by_files (Some files) there f c = by_bytes (file files name) there f c

pub matched : {T E : Type 0} (r : Result T E) (A A' : T → Type 0) (B B' : E → Type 0) →
    ((t : T) → A t → A' t) → ((e : E) → B e → B' e) → MatchResult r A B → MatchResult r A' B'
matched (Ok t) A A' B B' f g m = f t m
matched (Err e) A A' B B' f g m = g e m

of_paged : (form : Form) (told : Option Files) (name : List ℕ) (pages : ℕ) (P : List ℕ → Type 0) (Q : Type 0) →
    IsPaged form pages told name → ((bytes : List ℕ) → HasWholePages form pages bytes → P bytes) → OfFile told name Q P
of_paged form None name pages P Q h f = tt
of_paged form (Some files) name pages P Q h f = here (file files name) h.there h.file_
  where
    here : (o : Option (List ℕ)) → IsSome o → IfSome o (HasWholePages form pages) → MatchOption o Q P
    here None there h = let none : IsSome {T = List ℕ} None = there in cc
    here (Some bytes) there h = f bytes h

-- how many reads there were before says nothing of why it was refused
pub why_at : (name : List ℕ) (before middle after : Shelved) (e : MapErr) → middle.files ≡ before.files →
    middle.faults ≡ before.faults → HasWhy name middle after e → HasWhy name before after e
why_at name before middle after e files faults w =
    record { missing = why.missing; failed = why.failed; quiet = why.quiet; once = why.once }
  where
    same : middle ≡ record { files = before.files; faults = before.faults; reads = middle.reads }
    same i = record { files = files i; faults = faults i; reads = middle.reads }

    why : HasWhy name (record { files = before.files; faults = before.faults; reads = middle.reads }) after e
    why = subst (λ s. HasWhy name s after e) same w

-- nor of which fault
fault_at : (form : Form) (hash : List ℕ → List ℕ) (name : List ℕ) (before middle : Shelved) (e : MapErr) →
    middle.files ≡ before.files → IsFaultOf form hash middle name e → IsFaultOf form hash before name e
fault_at form hash name before middle (errors.Map f) files h =
    subst (λ o. OfFile o name ⊥ (λ bytes. mapfault hash (file_of form bytes) ≡ Some f)) files h
fault_at form hash name before middle errors.Missing files h = tt
fault_at form hash name before middle errors.Fault files h = tt
fault_at form hash name before middle errors.NoMemory files h = tt

pub err_is : (a b : MapErr) → a ≡ b → ◌≡◌ {A = Result (Checked (Unit {0})) MapErr} (Err a) (Err b)
err_is a b e = λ i. Err (e i)

-- what is not told may be missing where a fault was counted
pub misses : (told : Option Files) (name : List ℕ) (before after : ℕ) → told ≡ None → Rose before after →
    MayMiss told name before after
misses told name before after none rose = subst (λ o. MayMiss o name before after) (sym none) rose

-- ---- before the nodes are read

-- pages that were counted, and of which page 0 was read, while none is kept
pub paging_of : (form : Form) (hash : List ℕ → List ℕ) (told : Option Files) (name : List ℕ) (pages : ℕ)
    (first : List ℕ) (es : CacheEntries) (cap : ℕ) → es ≡ [] → cap ≡ room → 1 ≤ pages → pages ≤ page_limit →
    IsPaged form pages told name → HasFirst form told name first → IsPaging form hash told name pages first es cap
paging_of form hash told name pages first es cap none size some few paged headed = record {
  some = some;
  few = few;
  cap = size;
  each = λ e within. absurd (Contains-nil e (subst (λ xs. Contains xs e) none within));
  there = paged.there;
  headed = headed;
  file_ = of_bytes (told_bytes told name) paged.file_;
}
  where
    of_bytes : (o : Option (List ℕ)) → IfSome o (HasWholePages form pages) → IfSome o (IsFileOf form pages es)
    of_bytes None h = tt
    of_bytes (Some bytes) h = record {
      are = h.are;
      even = h.even;
      count = h.count;
      same = λ e within. absurd (Contains-nil e (subst (λ xs. Contains xs e) none within));
    }

-- ---- by the name, the layout and the pages of a file with its cache

pub laid_of : (l m : Layout) → form_of l ≡ form_of m → l ≡ m
laid_of l m e = λ i. record { size = (e i).size; version = (e i).version }

-- a file with its cache that was made of these
pub unchecked : {S : Type 0} {G : shelves.Ghosts S} (hash : List ℕ → List ℕ) (f : CachedFile S G) (s : S)
    (name : List ℕ) (l : Layout) (k : ℕ) (first : List ℕ) → f.shelf ≡ s → string_bytes f.name ≡ name → f.layout ≡ l →
    f.pages ≡ k → f.cache.entries ≡ [] → f.cache.cap ≡ room → 1 ≤ k → k ≤ page_limit →
    IsPaged (form_of l) k (G.state s).files name → HasFirst (form_of l) (G.state s).files name first →
    IsUnchecked hash f first
unchecked {S} {G} hash f s name l k first shelf named laid counted none size some few paged headed =
    subst (λ x. Q x (string_bytes f.name) f.layout f.pages) (sym shelf)
    (subst (λ x. Q s x f.layout f.pages) (sym named) (subst (λ x. Q s name x f.pages) (sym laid)
    (subst (λ x. Q s name l x) (sym counted)
    (paging_of (form_of l) hash (G.state s).files name k first f.cache.entries f.cache.cap none size some few paged
    headed))))
  where
    Q : S → List ℕ → Layout → ℕ → Type 0
    Q x n m p = IsPaging (form_of m) hash (G.state x).files n p first f.cache.entries f.cache.cap

-- ---- the version that stands in front is the file's

-- a file of a page's size has as many pages as are read of it
few_pages : (v : Version) (n a b : ℕ) → page_size ≤ n → a ≤ b + max 1 (n / (form_by v).size) →
    a ≤ b + min (n / page_size) (max 1 (n / (form_by v).size))
few_pages One n a b some few = omega (arith, some, few)
few_pages Two n a b some few = omega (arith, some, few)

module _ (told : Option Files) (name room : List ℕ) (l : Layout) (is : l ≡ layout_by (version_of room))
    (front : OfFile told name ⊥ (λ bytes. IsFrontOfFile bytes room)) where
  -- so is what is told in its form
  pub in_its_form : (Q : Form → List ℕ → Type 0) → OfFile told name ⊥ (Q (form_of l)) →
      OfFile told name ⊥ (λ bytes. Q (form_at bytes) bytes)
  in_its_form Q q = by_files told front q
    where
      here : (o : Option (List ℕ)) → MatchOption o ⊥ (λ bytes. IsFrontOfFile bytes room) → MatchOption o ⊥
          (Q (form_of l)) →
          MatchOption o ⊥ (λ bytes. Q (form_at bytes) bytes)
      here None f h = h
      here (Some bytes) f h = subst (λ form. Q form bytes) (ap form_of is ∙ ap form_by f.version) h

      by_files : (o : Option Files) → OfFile o name ⊥ (λ bytes. IsFrontOfFile bytes room) → OfFile o name ⊥
          (Q (form_of l)) →
          OfFile o name ⊥ (λ bytes. Q (form_at bytes) bytes)
      by_files None f h = tt
      by_files (Some files) f h = here (file files name) f h

  -- and the reads are those of its pages
  pub reads_of : (before after pages : ℕ) (absent : Type 0) → OfFile told name ⊥ (λ bytes. page_size ≤ length bytes) →
      IsPaged (form_of l) pages told name → after ≤ before + pages →
      OfFile told name absent (λ bytes. after ≤ before + pages_in bytes)
  reads_of before after pages absent large paged few =
      by_files told large front (subst (λ m. IsPaged (form_of m) pages told name) is paged)
    where
      v : Version
      v = version_of room

      here : (o : Option (List ℕ)) → IsSome o → MatchOption o ⊥ (λ bytes. page_size ≤ length bytes) →
          MatchOption o ⊥ (λ bytes. IsFrontOfFile bytes room) → IfSome o (HasWholePages (form_by v) pages) →
          MatchOption o absent (λ bytes. after ≤ before + pages_in bytes)
      here None there large f has = let none : IsSome {T = List ℕ} None = there in cc
      here (Some bytes) there large f has =
          subst (λ u. after ≤ before + min (length bytes / page_size) (max 1 (length bytes / (form_by u).size)))
          f.version (few_pages v (length bytes) after before large (omega (arith, few, has.count)))

      by_files : (o : Option Files) → OfFile o name ⊥ (λ bytes. page_size ≤ length bytes) →
          OfFile o name ⊥ (λ bytes. IsFrontOfFile bytes room) → IsPaged (form_by v) pages o name →
          OfFile o name absent (λ bytes. after ≤ before + pages_in bytes)
      by_files None large f paged = tt
      by_files (Some files) large f paged = here (file files name) paged.there large f paged.file_

-- what is known of a file whose front was read
module _ (hash : List ℕ → List ℕ) (name room : List ℕ) (l : Layout) (pages : ℕ) (before middle : Shelved)
    (is : l ≡ layout_by (version_of room)) (files : middle.files ≡ before.files)
    (faults : middle.faults ≡ before.faults) (more : before.reads ≤ middle.reads)
    (reads : middle.reads ≤ before.reads + 1)
    (large : OfFile before.files name ⊥ (λ bytes. page_size ≤ length bytes))
    (front : OfFile before.files name ⊥ (λ bytes. IsFrontOfFile bytes room))
    (paged : IsPaged (form_of l) pages before.files name) (limit : pages ≤ page_limit) where
  pub refuses_from : ((xs : List ℕ) → length (hash xs) ≡ 32) → OfFile before.files name ⊤ AreBytes →
      (after : Shelved) (e : MapErr) → IsOpeningRefused hash name l pages middle after e →
      RefusesMap hash name before after e
  refuses_from sized are after e r =
      let v = version_of room in
      let fault = subst (λ m. IsFaultOf (form_of m) hash before name e) is
      (fault_at (form_of l) hash name before middle e files r.refused.fault) in
      record {
        answers = told_by hash before.files name room v (Err e) refl front
            (answers_of (form_by v) (form_by_is v) hash sized before name e are fault);
        some = (v, subst (λ m. SomeBytes (form_of m) hash (Err e)) is r.refused.some);
        why = why_at name before middle after e files faults r.refused.why;
        files = r.files ∙ files;
        later = omega (arith, r.later, faults);
        more = omega (arith, r.more, more);
        few = omega (arith, r.few, reads, limit);
        reads = reads_of before.files name room l is front before.reads after.reads pages (after.reads ≡ before.reads)
            large paged (omega (arith, r.few, reads));
      }

module _ {S H : Type 0} {G : shelves.Ghosts S} {K : hashes.Ghosts H} (hash : List ℕ → List ℕ) where
  abbrev pub Answered : {A : Type 0} (n : List ℕ) (l : Layout) (k : ℕ) (s : S) →
      Result (Paged S H G K × A) (S × MapErr) → Type 0
  Answered n l k s r = MatchResult r (λ x. IsOpened hash n l k (G.state s) x.0)
      (λ x. IsOpeningRefused hash n l k (G.state s) (G.state x.0) x.1)

  pub answered_at : {A : Type 0} (n n' : List ℕ) (l l' : Layout) (k k' : ℕ) (s s' : S)
      (r : Result (Paged S H G K × A) (S × MapErr)) →
      n ≡ n' → l ≡ l' → k ≡ k' → s ≡ s' → Answered n l k s r → Answered n' l' k' s' r
  answered_at n n' l l' k k' s s' r named laid counted shelved a =
      subst (λ m. Answered m l' k' s' r) named (subst (λ m. Answered n m k' s' r) laid
      (subst (λ m. Answered n l m s' r) counted (subst (λ m. Answered n l k m r) shelved a)))

  module _ (name room : List ℕ) (l : Layout) (pages : ℕ) (before middle : Shelved)
      (is : l ≡ layout_by (version_of room)) (files : middle.files ≡ before.files)
      (faults : middle.faults ≡ before.faults) (more : before.reads ≤ middle.reads)
      (reads : middle.reads ≤ before.reads + 1)
      (large : OfFile before.files name ⊥ (λ bytes. page_size ≤ length bytes))
      (front : OfFile before.files name ⊥ (λ bytes. IsFrontOfFile bytes room))
      (paged : IsPaged (form_of l) pages before.files name) where
    pub opens_from : (p : Paged S H G K) → IsOpened hash name l pages middle p → OpensMap hash name before p
    opens_from p o = record {
      answers = in_its_form before.files name room l is front (λ form. TellsMap form hash (stands_for p))
          (subst (λ told. OfFile told name ⊥ (TellsMap (form_of l) hash (stands_for p))) files o.answers);
      some = subst (λ m. IsOfSome (form_of m) hash p.head) (sym o.laid) o.some;
      same = o.named;
      pages = in_its_form before.files name room l is front (λ form bytes. p.head.pages ≡ length bytes / form.size)
          (of_paged (form_of l) before.files name pages _ ⊥ paged (λ bytes h. o.count ∙ h.count));
      files = o.files ∙ files;
      quiet = o.quiet ∙ faults;
      more = omega (arith, o.more, more);
      few = omega (arith, o.few, reads, o.count);
      reads = reads_of before.files name room l is front before.reads (shelved p).reads pages ⊥ large paged
          (omega (arith, o.few, reads));
      none = o.none;
    }
