-- What opening a file answers, and that it is the only answer.
use Rattle.std.proofs.Common.{Fits, w8, ◌≡◌, ℕ, zero, suc, ◌+◌, ◌*◌, ◌/◌, ◌<◌, ◌≤◌, ◌^◌, true, false, List, [], ◌++◌, length, take, drop, get_or, sym, refl, ap, subst, ◌∙◌, arith, inl, inr}
use Rattle.std.specs.Prelude.{⊤, Bool, max, min, Option, Some, None, option_map, Result, Ok, Err, replicate, if◌then◌else◌, MatchOption, IfOk, IfSome, IsSome}
use Rattle.std.proofs.lemmas.List.{get_or_default}
use Rattle.mr_outside.specs.Bytes.{AreBytes}
use Rattle.mr_tree.specs.WellFormed.{WellFormed, HasLayers}
use Rattle.mr_tree.specs.declared.tree.Tree.{Tree}
use Rattle.std.proofs.lemmas.Bool.{both_ways}
use Rattle.std.proofs.lemmas.List.{length-replicate, length-take-le, take-append-drop}
use Rattle.std.proofs.lemmas.List.Elements.{All-nil, All-cons, All-take}
use Rattle.mr_outside.specs.Files.{Files, file}
use Rattle.mr_outside.specs.declared.shelf.ShelfErr.{ShelfErr}
use Rattle.mr_outside.specs.declared.shelf.ShelfErr.TheVariants as shelf
use Rattle.mr_outside.proofs.Pieces.{OfFile-map}
use Rattle.mr_outside.specs.Faults.{Rose}
use Rattle.mr_outside.specs.Told.{OfFile, MayMiss}
use Rattle.mr_outside.specs.State.{Shelved}
use Rattle.mr_outside.specs.Causes.{ShelfCauses}
use Rattle.mr_pages.specs.declared.rule.MapRule.TheVariants as rule
use Rattle.mr_pages.specs.declared.rule.MapFault.{MapFault}
use Rattle.mr_pages.specs.declared.opening.Opened.{Opened}
use Rattle.mr_pages.specs.declared.error.MapErr.{MapErr}
use Rattle.mr_pages.specs.declared.error.MapErr.TheVariants as errors
use Rattle.mr_pages.specs.Page.{Form, IsForm, page_limit}
use Rattle.mr_pages.specs.File.{File, page_at, is_odd_size, pages_of, file_of, version_of, form_at}
use Rattle.mr_tree.specs.declared.child.Child.{Child}
use Rattle.mr_pages.specs.Gathering.{MakesTree, tree_in}
use Rattle.mr_pages.specs.Stands.{StandsForTree, whole_tree}
use Rattle.mr_pages.specs.private.Spelled.{placed_at}
use Rattle.mr_pages.specs.Faults.{file_faults, first_of, mapfault}
use Rattle.mr_pages.specs.Law.{IsOnlyMap, AgreesWithFault}
use Rattle.mr_pages.specs.Walking.{child_link, head_of}
use Rattle.mr_pages.specs.private.Walks.{OpensFile}
use Rattle.mr_pages.specs.declared.checking.Checked.{Checked}
use Rattle.mr_record.specs.declared.version.Version.{Version}
use Rattle.mr_record.specs.declared.version.Version.TheVariants.{One, Two}
use Rattle.std.proofs.Math.Nat.{mul-div_cancel}
use Rattle.mr_pages.specs.PageBytes.{page_size, head_bytes, form_by}
use Rattle.mr_pages.specs.Opening.{opened_as, of_shelf, pages_in, FailsWithoutFault, OrFails, AnswersMap, SomeBytes, SomeFile, TellsBytes, MapCauses}
use Rattle.mr_pages.specs.Source.{IfNotFailed, GivesFile, CheckedWhole, ChecksFile, IsFrontOfFile, TellsPage, told_bytes}
use Rattle.mr_pages.specs.private.Walks.{HasWholePages, IsPaged, HasFirst, on_shelf}
use Rattle.mr_pages.proofs.HeadLaws.{first_form_is, second_form_is}
use Rattle.mr_pages.proofs.PageReads.{if_there}
use Rattle.mr_pages.proofs.Short.{at_least}
use Rattle.mr_pages.proofs.AsRead.{stands_there}
use Rattle.mr_pages.proofs.Agreement.{is_file, spelled_as_read, agrees, whole_pages_are, are_whole_pages}

-- whole pages are read as the file is
pub same_file : (form : Form) (pages : ℕ) (bytes : List ℕ) → pages ≡ length bytes / form.size →
    is_odd_size form.size (length bytes) ≡ false → pages_of form pages bytes ≡ file_of form bytes
same_file form pages bytes same even = λ i. record {
  version = form.version;
  pages = same i;
  head = (ap (λ n. form.head_in n (page_at form bytes 0)) same
      ∙ ap (λ b. if b then Err rule.Size else form.head_in (length bytes / form.size) (page_at form bytes 0))
      (sym even)) i;
  node = λ page. form.node_in (page_at form bytes page);
  free = λ page. form.free_in (page_at form bytes page);
}

abbrev size_fault : MapFault
size_fault = record { page = 0; rule = rule.Size }

-- what is odd breaks the first rule
pub odd_fault : (form : Form) (hash : List ℕ → List ℕ) (bytes : List ℕ) → is_odd_size form.size (length bytes) ≡ true →
    mapfault hash (file_of form bytes) ≡ Some size_fault
odd_fault form hash bytes odd =
    ap (λ b. first_of (file_faults hash (file_of form bytes)
    (if b then Err rule.Size else form.head_in (length bytes / form.size) (page_at form bytes 0)))) odd

module _ (form : Form) (is : IsForm form) (hash : List ℕ → List ℕ) (bytes : List ℕ) where
  pub answered : AreBytes bytes → (r : Result Opened MapErr) → OpensFile hash (file_of form bytes) r →
      AnswersMap form hash bytes r
  answered all (Ok r) o =
      let s = stands_there hash (file_of form bytes) (is_file form is bytes all) o.0 o.2 o.3 in (
        o.1,
        record {
          well = subst WellFormed (sym o.4) s.well;
          layers = subst (HasLayers form.version) (sym o.4) s.layers;
          stands = subst (λ t. StandsForTree form hash bytes t r.batch) (sym o.4)
              (subst (StandsForTree form hash bytes _) (sym o.5) (spelled_as_read form is hash bytes all _ _ s.stands));
        },
      )
  answered all (Err (errors.Map f)) o = o
  answered all (Err errors.Missing) o = tt
  answered all (Err errors.Fault) o = tt
  answered all (Err errors.NoMemory) o = tt

-- what a slice of bytes has
pub cells_are_bytes : (xs : List ℕ) → ((i : ℕ) → Fits w8 (get_or xs i 0)) → AreBytes xs
cells_are_bytes xs fits = λ k d within.
    let low : get_or xs k 0 < 256 = omega (arith, fits k) in
    subst (λ b. b < 256) (get_or_default xs k 0 d within) low

pub low_are_bytes : (xs : List ℕ) → ((i : ℕ) → get_or xs i 0 < 256) → AreBytes xs
low_are_bytes xs low = λ k d within. subst (λ b. b < 256) (get_or_default xs k 0 d within) (low k)

-- ---- what is told of the file's bytes

ok_fault : {A : Type 0} (o : Option MapFault) (f : MapFault) → o ≡ None → o ≡ Some f → A
ok_fault o f e h = absurd (no (sym e ∙ h))
  where
    no : ◌≡◌ {A = Option MapFault} None (Some f) → ⊥
    no q = cc

same_fault : (o : Option MapFault) (f g : MapFault) → o ≡ Some g → o ≡ Some f → g ≡ f
same_fault o f g e h = of_some (sym e ∙ h)
  where
    of_some : ◌≡◌ {A = Option MapFault} (Some g) (Some f) → g ≡ f
    of_some q = cc

OfFile-or : (told : Option Files) (name : List ℕ) (A B : Type 0) (P Q : List ℕ → Type 0) → (A → B) →
    ((bytes : List ℕ) → P bytes → Q bytes) → OfFile told name A P → OfFile told name B Q
OfFile-or None name A B P Q f g h = tt
OfFile-or (Some files) name A B P Q f g h = at (file files name) h
  where
    at : (found : Option (List ℕ)) → MatchOption found A P → MatchOption found B Q
    at None h = f h
    at (Some bytes) h = g bytes h

OfFile-and : (told : Option Files) (name : List ℕ) (A B : Type 0) (P Q : List ℕ → Type 0) → OfFile told name A P →
    OfFile told name B Q → OfFile told name (A × B) (λ bytes. P bytes × Q bytes)
OfFile-and None name A B P Q h k = tt
OfFile-and (Some files) name A B P Q h k = at (file files name) h k
  where
    at : (found : Option (List ℕ)) → MatchOption found A P → MatchOption found B Q →
        MatchOption found (A × B) (λ bytes. P bytes × Q bytes)
    at None h k = (h, k)
    at (Some bytes) h k = (h, k)

module _ (form : Form) (is : IsForm form) (hash : List ℕ → List ℕ) (sized : (xs : List ℕ) → length (hash xs) ≡ 32) where
  -- the call failed
  pub tells_failed : (bytes : List ℕ) → AreBytes bytes → (r : Result Opened MapErr) → FailsWithoutFault r → TellsBytes
      form hash bytes r
  tells_failed bytes all (Ok m) f = absurd f
  tells_failed bytes all (Err (errors.Map g)) f = absurd f
  tells_failed bytes all (Err errors.Missing) f =
      record { are = all; answers = tt; fault = λ g e. inr tt; map = λ t b k. inr tt }
  tells_failed bytes all (Err errors.Fault) f =
      record { are = all; answers = tt; fault = λ g e. inr tt; map = λ t b k. inr tt }
  tells_failed bytes all (Err errors.NoMemory) f =
      record { are = all; answers = tt; fault = λ g e. inr tt; map = λ t b k. inr tt }

  -- the bytes were read
  pub tells_read : (bytes : List ℕ) → AreBytes bytes → (r : Result Opened MapErr) → AnswersMap form hash bytes r →
      TellsBytes form hash bytes r
  tells_read bytes all (Ok m) a =
      let law = agrees form is hash sized bytes all in
      record {
        are = all;
        answers = a;
        fault = λ f e. ok_fault (mapfault hash (file_of form bytes)) f (law.none m.tree m.batch a.1) e;
        map = λ t b k. let one = law.only m.tree m.batch a.1 t b k in
            inl (λ i. Ok (record { tree = one.0 i; version = a.0 i; batch = one.1 i }));
      }
  tells_read bytes all (Err (errors.Map g)) a =
      let law = agrees form is hash sized bytes all in
      record {
        are = all;
        answers = a;
        fault = λ f e. inl (ap (λ h. Err (errors.Map h)) (same_fault (mapfault hash (file_of form bytes)) f g a e));
        map = λ t b k. ok_fault (mapfault hash (file_of form bytes)) g (law.none t b k) a;
      }
  tells_read bytes all (Err errors.Missing) a = tells_failed bytes all (Err errors.Missing) tt
  tells_read bytes all (Err errors.Fault) a = tells_failed bytes all (Err errors.Fault) tt
  tells_read bytes all (Err errors.NoMemory) a = tells_failed bytes all (Err errors.NoMemory) tt

  -- they are no whole pages
  pub tells_odd : (bytes : List ℕ) → AreBytes bytes → is_odd_size form.size (length bytes) ≡ true →
      TellsBytes form hash bytes (Err (errors.Map size_fault))
  tells_odd bytes all odd = record {
    are = all;
    answers = odd_fault form hash bytes odd;
    fault = λ f e. inl (ap (λ h. Err (errors.Map h))
        (same_fault (mapfault hash (file_of form bytes)) f size_fault (odd_fault form hash bytes odd) e));
    map = λ t b k.
        let s = k.stands in
        absurd (both_ways (is_odd_size form.size (length bytes))
        (are_whole_pages form.size (length bytes) s.head.pages is.some s.size s.some s.few) odd);
  }

  pub some_failed : (r : Result Opened MapErr) → FailsWithoutFault r → SomeBytes form hash r
  some_failed r f =
      let none = All-nil (λ b. b < 2 ^ 8) in
      ([], none, (tells_failed [] none r f).answers)

  pub some_odd : (n : ℕ) → is_odd_size form.size n ≡ true → SomeBytes form hash (Err (errors.Map size_fault))
  some_odd n odd = (
    replicate n 0,
    zeros n,
    odd_fault form hash (replicate n 0)
        (subst (λ m. is_odd_size form.size m ≡ true) (sym (length-replicate n 0)) odd),
  )
    where
      zeros : (m : ℕ) → AreBytes (replicate m 0)
      zeros zero = All-nil (λ b. b < 2 ^ 8)
      zeros (suc m) = All-cons (λ b. b < 2 ^ 8) 0 (replicate m 0) (omega arith) (zeros m)

  -- ---- the same of a named file

  pub told_failed : (told : Option Files) (name : List ℕ) (r : Result Opened MapErr) → OfFile told name ⊤ AreBytes →
      FailsWithoutFault r → OfFile told name (FailsWithoutFault r) (λ bytes. TellsBytes form hash bytes r)
  told_failed told name r all f =
      OfFile-or told name _ _ _ _ (λ absent. f) (λ bytes are. tells_failed bytes are r f) all

  pub told_odd : (told : Option Files) (name : List ℕ) (n : ℕ) → OfFile told name ⊥ AreBytes →
      OfFile told name ⊥ (λ bytes. length bytes ≡ n) → is_odd_size form.size n ≡ true →
      OfFile told name (FailsWithoutFault (Err (errors.Map size_fault)))
      (λ bytes. TellsBytes form hash bytes (Err (errors.Map size_fault)))
  told_odd told name n all long odd =
      OfFile-or told name _ _ _ _ (λ absent. absurd absent.1)
      (λ bytes both. tells_odd bytes both.0 (subst (λ m. is_odd_size form.size m ≡ true) (sym both.1) odd))
      (OfFile-and told name _ _ _ _ all long)

  pub told_answers : (told : Option Files) (name : List ℕ) (r : Result Opened MapErr) → OfFile told name ⊥ AreBytes →
      OfFile told name ⊥ (λ bytes. AnswersMap form hash bytes r) →
      OfFile told name (FailsWithoutFault r) (λ bytes. TellsBytes form hash bytes r)
  told_answers told name r all a =
      OfFile-or told name _ _ _ _ (λ absent. absurd absent.1) (λ bytes both. tells_read bytes both.0 r both.1)
      (OfFile-and told name _ _ _ _ all a)

pub fails_of : (e : ShelfErr) → FailsWithoutFault (Err (of_shelf e))
fails_of shelf.Missing = tt
fails_of shelf.Fault = tt
fails_of shelf.NoMemory = tt

-- ---- the causes of a refusal

-- a call of the shelf was refused
pub causes_failed : {A : Type 0} (name : List ℕ) (before after : Shelved) (e : ShelfErr) →
    ShelfCauses {A = A} name before after (Err e) → MapCauses name before after (Err (of_shelf e))
causes_failed name before after shelf.Missing c =
    record { missing = λ is. c.missing refl; fault = λ is. absurd (cc); faults = c.faults; quiet = inr tt }
causes_failed name before after shelf.Fault c =
    record { missing = λ is. absurd (cc); fault = λ is. c.fault refl; faults = c.faults; quiet = inr tt }
causes_failed name before after shelf.NoMemory c =
    record { missing = λ is. absurd (cc); fault = λ is. absurd (cc); faults = c.faults; quiet = inr tt }

-- it answered, and nothing else was called
pub causes_quiet : (name : List ℕ) (before after : Shelved) (f : MapFault) → after.faults ≡ before.faults →
    MapCauses name before after (Err (errors.Map f))
causes_quiet name before after f same =
    record { missing = λ is. absurd (cc); fault = λ is. absurd (cc); faults = omega (arith, same); quiet = inl same }

-- ---- what was checked of the file's pages

-- this is made of it: the tree that the pages of a file of these bytes spell, if it has no fault
pub record IsMadeOf (form : Form) (hash : List ℕ → List ℕ) {M : Type 0}
    (makes : Option Child → Option M → File → Type 0) (c : Checked M) (o : Opened) : Type 0 where
  pub version : o.version ≡ form.version
  pub batch : o.batch ≡ c.head.batch
  pub tree : (bytes : List ℕ) → AreBytes bytes → ChecksFile hash (file_of form bytes) (Ok c) →
      makes c.head.root c.made (file_of form bytes) →
      o.tree ≡ whole_tree (placed_at (file_of form bytes).node (option_map child_link c.head.root))

-- what was found of some bytes
pub record IsChecked (form : Form) (hash : List ℕ → List ℕ) {M : Type 0}
    (makes : Option Child → Option M → File → Type 0) (c : Checked M) (bytes : List ℕ) : Type 0 where
  pub are : AreBytes bytes
  pub fault : mapfault hash (file_of form bytes) ≡ None
  pub head : (file_of form bytes).head ≡ Ok (head_of c.head)
  pub made : makes c.head.root c.made (file_of form bytes)

pub tree_made : {S : Type 0} (s u : S) (root : Option Child) (o : Option Tree) (f : File) →
    MakesTree (λ (a b : S) (c : Child) (m t : Tree). m ≡ t) s u root o f →
    tree_in o ≡ whole_tree (placed_at f.node (option_map child_link root))
tree_made s u None None f made = refl
tree_made s u (Some c) (Some m) f made = made
tree_made s u None (Some m) f made = absurd made
tree_made s u (Some c) None f made = absurd made

module _ (form : Form) (fits : IsForm form) (hash : List ℕ → List ℕ) (name : List ℕ) (lent : ℕ × ℕ) (pages : ℕ)
    (s : Shelved) (paged : IsPaged form pages s.files name) where
  answered_err : (M : Type 0) (bytes : List ℕ) (e : MapErr) → AreBytes bytes →
      ChecksFile {M = M} hash (file_of form bytes) (Err e) → AnswersMap form hash bytes (Err e)
  answered_err M bytes (errors.Map f) all c = c
  answered_err M bytes errors.Missing all c = tt
  answered_err M bytes errors.Fault all c = tt
  answered_err M bytes errors.NoMemory all c = tt

  answered_ok : (M : Type 0) (makes : Option Child → Option M → File → Type 0) (bytes : List ℕ) (c : Checked M)
      (o : Opened) → IsMadeOf form hash makes c o → AreBytes bytes → ChecksFile hash (file_of form bytes) (Ok c) →
      makes c.head.root c.made (file_of form bytes) → AnswersMap form hash bytes (Ok o)
  answered_ok M makes bytes c o of_it all checks made =
      answered form fits hash bytes all (Ok o)
      (checks.0, of_it.version, head_of c.head, checks.1, of_it.tree bytes all checks made, of_it.batch)

  -- of the file that is told
  told_of : (P : List ℕ → Type 0) → ((bytes : List ℕ) → told_bytes s.files name ≡ Some bytes →
      HasWholePages form pages bytes → P bytes) → OfFile s.files name ⊥ P
  told_of P go = by_files s.files paged go
    where
      by_files : (told : Option Files) → IsPaged form pages told name →
          ((bytes : List ℕ) → told_bytes told name ≡ Some bytes → HasWholePages form pages bytes → P bytes) →
          OfFile told name ⊥ P
      by_files None has on = tt
      by_files (Some files) has on = at (file files name) has.there has.file_ on
        where
          at : (o : Option (List ℕ)) → IsSome o → IfSome o (HasWholePages form pages) →
              ((bytes : List ℕ) → o ≡ Some bytes → HasWholePages form pages bytes → P bytes) → MatchOption o ⊥ P
          at None there has on = absurd (cc)
          at (Some bytes) there has on = on bytes refl has

  pub told_err : (M : Type 0) (e : MapErr) → ((f : File) → (on_shelf form lent pages s name).file ≡ Some f →
      f.version ≡ form.version → f.pages ≡ pages → ChecksFile {M = M} hash f (Err e)) →
      OfFile s.files name ⊥ (λ bytes. AnswersMap form hash bytes (Err e))
  told_err M e checks = told_of (λ bytes. AnswersMap form hash bytes (Err e)) (λ bytes is has.
      answered_err M bytes e has.are
      (checks (file_of form bytes) (ap (option_map (file_of form)) is) refl (sym has.count)))

  pub told_ok : (M : Type 0) (makes : Option Child → Option M → File → Type 0) (c : Checked M) (o : Opened) →
      IsMadeOf form hash makes c o → ((f : File) → (on_shelf form lent pages s name).file ≡ Some f →
      f.version ≡ form.version → f.pages ≡ pages → ChecksFile hash f (Ok c)) →
      ((f : File) → (on_shelf form lent pages s name).file ≡ Some f → makes c.head.root c.made f) →
      OfFile s.files name ⊥ (λ bytes. AnswersMap form hash bytes (Ok o))
  told_ok M makes c o of_it checks made = told_of (λ bytes. AnswersMap form hash bytes (Ok o)) (λ bytes is has.
      let there = ap (option_map (file_of form)) is in
      answered_ok M makes bytes c o of_it has.are (checks (file_of form bytes) there refl (sym has.count))
      (made (file_of form bytes) there))

  -- of the bytes that were read, told or not
  module _ (some : 1 ≤ pages) (few : pages ≤ page_limit) where
    count_of : (bytes : List ℕ) → length bytes ≡ pages * form.size → pages ≡ length bytes / form.size
    count_of bytes size = sym (ap (λ n. n / form.size) size ∙ mul-div_cancel pages fits.some)

    as_file : (bytes : List ℕ) → length bytes ≡ pages * form.size →
        pages_of form pages bytes ≡ file_of form bytes
    as_file bytes size = same_file form pages bytes (count_of bytes size)
        (are_whole_pages form.size (length bytes) pages fits.some size some few)

    pub some_err : (M : Type 0) (makes : Option Child → Option M → File → Type 0) (e : MapErr) →
        ((xs : List ℕ) → length (hash xs) ≡ 32) →
        IfNotFailed {A = Checked M} (Err e) (GivesFile (on_shelf form lent pages s name)
        (CheckedWhole form.version hash makes pages (Err e))) → SomeBytes form hash (Err e)
    some_err M makes (errors.Map f) sized g = (
      g.bytes,
      g.are,
      subst (λ h. mapfault hash h ≡ Some f) (as_file g.bytes g.size) (g.so.checks refl refl),
    )
    some_err M makes errors.Missing sized g = some_failed form fits hash sized (Err errors.Missing) tt
    some_err M makes errors.Fault sized g = some_failed form fits hash sized (Err errors.Fault) tt
    some_err M makes errors.NoMemory sized g = some_failed form fits hash sized (Err errors.NoMemory) tt

    pub checked_some : (M : Type 0) (makes : Option Child → Option M → File → Type 0) (c : Checked M) →
        GivesFile (on_shelf form lent pages s name) (CheckedWhole form.version hash makes pages (Ok c)) →
        (bytes : List ℕ) × IsChecked form hash makes c bytes
    checked_some M makes c g =
        let w = subst (λ h. CheckedWhole form.version hash makes h.pages (Ok c) h) (as_file g.bytes g.size) g.so in
        let checks = w.checks refl refl in
        (g.bytes, record { are = g.are; fault = checks.0; head = checks.1; made = w.made })

    pub some_ok : (M : Type 0) (makes : Option Child → Option M → File → Type 0) (c : Checked M) (o : Opened) →
        IsMadeOf form hash makes c o → GivesFile (on_shelf form lent pages s name)
        (CheckedWhole form.version hash makes pages (Ok c)) → SomeBytes form hash (Ok o)
    some_ok M makes c o of_it g =
        let some = checked_some M makes c g in
        let is = some.1 in
        (some.0, is.are, answered_ok M makes some.0 c o of_it is.are (is.fault, is.head) is.made)

-- ---- behind the file's size

pub paged_of : (form : Form) (told : Option Files) (name : List ℕ) (size pages : ℕ) → OfFile told name ⊥ AreBytes →
    OfFile told name ⊥ (λ bytes. length bytes ≡ size) → is_odd_size form.size size ≡ false → pages ≡ size / form.size →
    IsPaged form pages told name
paged_of form None name size pages all long even count = record { there = tt; file_ = tt }
paged_of form (Some files) name size pages all long even count = at (file files name) refl all long
  where
    at : (o : Option (List ℕ)) → file files name ≡ o → MatchOption o ⊥ AreBytes →
        MatchOption o ⊥ (λ bytes. length bytes ≡ size) → IsPaged form pages (Some files) name
    at None e all long = absurd long
    at (Some bytes) e all long = record {
      there = subst (IsSome {T = List ℕ}) (sym e) refl;
      file_ = subst (λ o. IfSome o (HasWholePages form pages)) (sym e) (record {
        are = all;
        even = subst (λ n. is_odd_size form.size n ≡ false) (sym long) even;
        count = count ∙ ap (λ n. n / form.size) (sym long);
      });
    }

-- page 0 is the front of the file
pub first_told : (form : Form) → 0 < form.size → (pages : ℕ) (told : Option Files) (name room first : List ℕ) →
    1 ≤ pages → form.size ≤ length room → first ≡ take form.size room → AreBytes room →
    OfFile told name ⊥ (λ bytes. IsFrontOfFile bytes room) → HasFirst form told name first
first_told form some pages told name room first there long is are front = record {
  is = record {
    size = ap length is ∙ length-take-le form.size room long;
    are = subst AreBytes (sym is) (All-take (λ b. b < 2 ^ 8) form.size room are);
  };
  tells = if_there told name (TellsPage form 0 first) (OfFile-map told name _ _ (λ bytes f count whole low.
      let all : form.size ≤ length bytes = omega (arith, whole, at_least count form.size low) in
      is ∙ f.starts form.size long all
      ∙ ap (λ n. take form.size (drop n bytes)) (let none : 0 ≡ 0 * form.size = omega arith in none)) front);
}

pub once_of : (form : Form) (told : Option Files) (name : List ℕ) (before after pages : ℕ) →
    IsPaged form pages told name → 1 ≤ pages → after + 1 ≤ before + pages →
    OfFile told name (after ≤ before) (λ bytes. after + 1 ≤ before + max 1 (length bytes / form.size))
once_of form None name before after pages paged some few = tt
once_of form (Some files) name before after pages paged some few =
    at (file files name) paged.there paged.file_
  where
    at : (o : Option (List ℕ)) → IsSome o → IfSome o (HasWholePages form pages) →
        MatchOption o (after ≤ before) (λ bytes. after + 1 ≤ before + max 1 (length bytes / form.size))
    at None there has = absurd (cc)
    at (Some bytes) there has =
        let more : pages ≤ max 1 (length bytes / form.size) =
        omega (arith, has.count) in
        omega (arith, few, more)

pub unread : (form : Form) (told : Option Files) (name : List ℕ) (before after : ℕ) → after ≤ before →
    OfFile told name (after ≤ before) (λ bytes. after + 1 ≤ before + max 1 (length bytes / form.size))
unread form None name before after same = tt
unread form (Some files) name before after same = at (file files name)
  where
    at : (o : Option (List ℕ)) →
        MatchOption o (after ≤ before) (λ bytes. after + 1 ≤ before + max 1 (length bytes / form.size))
    at None = same
    at (Some bytes) = omega (arith, same)

pub causes_later : (name : List ℕ) (a b c : Shelved) (r : Result Opened MapErr) → b.files ≡ a.files →
    b.faults ≡ a.faults → MapCauses name b c r → MapCauses name a c r
causes_later name a b c r files quiet m = record {
  missing = λ is. subst (λ o. MayMiss o name a.faults c.faults) files
      (subst (λ n. MayMiss b.files name n c.faults) quiet (m.missing is));
  fault = λ is. subst (λ n. Rose n c.faults) quiet (m.fault is);
  faults = omega (arith, m.faults, quiet);
  quiet = elim m.quiet [ inl same ↦ inl (same ∙ quiet) | inr fails ↦ inr fails ];
}

-- ---- the clauses of the call that opens a file

ok_same : (m : Opened) (t : Tree) (v : Version) (b : ℕ) →
    OrFails (Ok m) (Ok (record { tree = t; version = v; batch = b })) → (m.tree ≡ t) × (m.batch ≡ b)
ok_same m t v b (inl e) = let same : m ≡ record { tree = t; version = v; batch = b } = of_ok e
    in (ap (λ (x : Opened). x.tree) same, ap (λ (x : Opened). x.batch) same)
  where
    of_ok : ◌≡◌ {A = Result Opened MapErr} (Ok m) (Ok (record { tree = t; version = v; batch = b })) →
        m ≡ record { tree = t; version = v; batch = b }
    of_ok q = cc
ok_same m t v b (inr f) = absurd f

pub only_of : (form : List ℕ → Form) (hash : List ℕ → List ℕ) (told : Option Files) (name : List ℕ)
    (r : Result Opened MapErr) →
    OfFile told name (FailsWithoutFault r) (λ bytes. TellsBytes (form bytes) hash bytes r) →
    IfOk r (λ m. OfFile told name ⊥ (λ bytes. IsOnlyMap (form bytes) hash bytes m.tree m.batch))
only_of form hash told name (Ok m) tells =
    OfFile-map told name _ _ (λ bytes t u c k. ok_same m u (form bytes).version c (t.map u c k)) tells
only_of form hash told name (Err e) tells = tt

pub fault_of : (form : List ℕ → Form) (hash : List ℕ → List ℕ) (told : Option Files) (name : List ℕ)
    (r : Result Opened MapErr) →
    OfFile told name (FailsWithoutFault r) (λ bytes. TellsBytes (form bytes) hash bytes r) → (f : MapFault) → r ≡ Err
    (errors.Map f) →
    OfFile told name ⊥ (λ bytes. mapfault hash (file_of (form bytes) bytes) ≡ Some f)
fault_of form hash told name (Ok m) tells f e = absurd (cc)
fault_of form hash told name (Err (errors.Map g)) tells f e =
    let same : g ≡ f = cc in OfFile-map told name _ _ (λ bytes t. t.answers ∙ ap Some same) tells
fault_of form hash told name (Err errors.Missing) tells f e = absurd (cc)
fault_of form hash told name (Err errors.Fault) tells f e = absurd (cc)
fault_of form hash told name (Err errors.NoMemory) tells f e = absurd (cc)

-- ---- which version a file is read in

pub version_by : (v : Version) → (form_by v).version ≡ v
version_by One = refl
version_by Two = refl

pub form_by_is : (v : Version) → IsForm (form_by v)
form_by_is One = first_form_is
form_by_is Two = second_form_is

-- the version that stands in front is the file's
pub told_by : (hash : List ℕ → List ℕ) (told : Option Files) (name room : List ℕ) (v : Version)
    (r : Result Opened MapErr) → v ≡ version_of room → OfFile told name ⊥ (λ bytes. IsFrontOfFile bytes room) →
    OfFile told name (FailsWithoutFault r) (λ bytes. TellsBytes (form_by v) hash bytes r) →
    OfFile told name (FailsWithoutFault r) (λ bytes. TellsBytes (form_at bytes) hash bytes r)
told_by hash told name room v r is front tells =
    OfFile-or told name _ _ _ _ (λ absent. absurd absent.0)
    (λ bytes both. subst (λ u. TellsBytes (form_by u) hash bytes r) (is ∙ both.0.version) both.1)
    (OfFile-and told name _ _ _ _ front tells)

-- how often was read, behind the read of the front
-- a file of a page's size has as many pages as are read of it
page_is_there : (v : Version) (n a b : ℕ) → page_size ≤ n → a ≤ b + max 1 (n / (form_by v).size) →
    a ≤ b + min (n / page_size) (max 1 (n / (form_by v).size))
page_is_there One n a b some few = omega (arith, some, few)
page_is_there Two n a b some few = omega (arith, some, few)

pub once_by : (told : Option Files) (name room : List ℕ) (size : ℕ) (v : Version) (before mid after : ℕ) →
    v ≡ version_of room → page_size ≤ size → mid ≤ before + 1 → OfFile told name ⊥ (λ bytes. length bytes ≡ size) →
    OfFile told name ⊥ (λ bytes. IsFrontOfFile bytes room) →
    OfFile told name (after ≤ mid) (λ bytes. after + 1 ≤ mid + max 1 (length bytes / (form_by v).size)) →
    OfFile told name (after ≡ before) (λ bytes. after ≤ before + pages_in bytes)
once_by told name room size v before mid after is some one long front few =
    OfFile-or told name _ _ _ _ (λ absent. absurd absent.0)
    (λ bytes both. subst (λ u. after ≤ before + min (length bytes / page_size)
    (max 1 (length bytes / (form_by u).size))) (is ∙ both.1.0.version)
    (let all : after + 1 ≤ mid + max 1 (length bytes / (form_by v).size) = both.1.1 in
    page_is_there v (length bytes) after before (subst (λ n. page_size ≤ n) (sym both.0) some)
    (omega (arith, one, all))))
    (OfFile-and told name _ _ _ _ long (OfFile-and told name _ _ _ _ front few))

-- a file that is smaller than a page
pub small_is_odd : (v : Version) (n : ℕ) → n < page_size → is_odd_size (form_by v).size n ≡ true
small_is_odd v n small = at v (is_odd_size (form_by v).size n) refl
  where
    at : (u : Version) (b : Bool) → is_odd_size (form_by u).size n ≡ b → is_odd_size (form_by u).size n ≡ true
    at u true e = e
    at One false e =
        let some : 1 ≤ n / 4096 = (whole_pages_are 4096 n (omega arith) e).some in absurd (omega (arith, small, some))
    at Two false e =
        let some : 1 ≤ n / 8192 = (whole_pages_are 8192 n (omega arith) e).some in absurd (omega (arith, small, some))

pub told_small : (hash : List ℕ → List ℕ) → ((xs : List ℕ) → length (hash xs) ≡ 32) → (told : Option Files)
    (name : List ℕ) (size : ℕ) → OfFile told name ⊤ AreBytes → OfFile told name ⊥ (λ bytes. length bytes ≡ size) →
    size < page_size → OfFile told name (FailsWithoutFault (Err (errors.Map size_fault)))
    (λ bytes. TellsBytes (form_at bytes) hash bytes (Err (errors.Map size_fault)))
told_small hash sized told name size all long small =
    OfFile-or told name _ _ _ _ (λ absent. absurd absent.1)
    (λ bytes both. tells_odd (form_at bytes) (form_by_is (version_of bytes)) hash sized bytes both.0
    (subst (λ m. is_odd_size (form_at bytes).size m ≡ true) (sym both.1) (small_is_odd (version_of bytes) size small)))
    (OfFile-and told name _ _ _ _ all long)

-- where nothing more was read
pub once_failed : (told : Option Files) (name : List ℕ) (before after : ℕ) → after ≡ before →
    OfFile told name (after ≡ before) (λ bytes. after ≤ before + pages_in bytes)
once_failed None name before after same = tt
once_failed (Some files) name before after same = at (file files name)
  where
    at : (o : Option (List ℕ)) → MatchOption o (after ≡ before) (λ bytes. after ≤ before + pages_in bytes)
    at None = same
    at (Some bytes) = omega (arith, same)

pub agrees_at : (hash : List ℕ → List ℕ) → ((xs : List ℕ) → length (hash xs) ≡ 32) →
    (told : Option Files) (name : List ℕ) → OfFile told name ⊤ AreBytes →
    OfFile told name ⊤ (λ bytes. AgreesWithFault (form_at bytes) hash bytes)
agrees_at hash sized told name all =
    OfFile-or told name _ _ _ _ (λ absent. tt)
    (λ bytes are. agrees (form_at bytes) (form_by_is (version_of bytes)) hash sized bytes are) all

pub stands_of : (hash : List ℕ → List ℕ) (told : Option Files) (name : List ℕ) (r : Result Opened MapErr) →
    OfFile told name (FailsWithoutFault r) (λ bytes. TellsBytes (form_at bytes) hash bytes r) →
    IfOk r (λ m. OfFile told name ⊥
    (λ bytes. (m.version ≡ version_of bytes) × StandsForTree (form_at bytes) hash bytes m.tree m.batch))
stands_of hash told name (Ok m) tells =
    OfFile-map told name _ _ (λ bytes t. (t.answers.0 ∙ version_by (version_of bytes), t.answers.1.stands)) tells
stands_of hash told name (Err e) tells = tt

pub well_of : (hash : List ℕ → List ℕ) (r : Result Opened MapErr) → SomeFile hash r →
    IfOk r (λ m. WellFormed m.tree × HasLayers m.version m.tree)
well_of hash (Ok m) s =
    (s.1.2.1.well, subst (λ (v : Version). HasLayers v m.tree) (sym s.1.2.0) s.1.2.1.layers)
well_of hash (Err e) s = tt

pub shown_well : {A : Type 0} (shows : A → Opened) (hash : List ℕ → List ℕ) (r : Result A MapErr) →
    SomeFile hash (opened_as shows r) →
    IfOk r (λ m. WellFormed (shows m).tree × HasLayers (shows m).version (shows m).tree)
shown_well shows hash (Ok m) s = well_of hash (Ok (shows m)) s
shown_well shows hash (Err e) s = tt

-- what is opened shows itself
pub shown_itself : (r : Result Opened MapErr) → opened_as (λ (m : Opened). m) r ≡ r
shown_itself (Ok m) = refl
shown_itself (Err e) = refl

-- a file that stands for a map in a version is read in that one
pub stands_version : (v : Version) (hash : List ℕ → List ℕ) (bytes : List ℕ) (t : Tree) (b : ℕ) →
    StandsForTree (form_by v) hash bytes t b → version_of bytes ≡ v
unfolding head_bytes
stands_version One hash bytes t b s =
    ap (λ (xs : List ℕ). version_of xs) (sym (take-append-drop 4096 bytes)
    ∙ ap (λ (p : List ℕ). p ++ drop 4096 bytes) s.sealed)
stands_version Two hash bytes t b s =
    ap (λ (xs : List ℕ). version_of xs) (sym (take-append-drop 8192 bytes)
    ∙ ap (λ (p : List ℕ). p ++ drop 8192 bytes) s.sealed)

-- the front of a file of this size
pub front_of : (told : Option Files) (name : List ℕ) (size : ℕ) (room : List ℕ) →
    OfFile told name ⊥ (λ bytes. size ≡ length bytes) →
    OfFile told name ⊥ (λ bytes. length bytes ≡ size → IsFrontOfFile bytes room) →
    OfFile told name ⊥ (λ bytes. IsFrontOfFile bytes room)
front_of told name size room long front =
    OfFile-or told name _ _ _ _ (λ absent. absent.0) (λ bytes both. both.1 (sym both.0))
    (OfFile-and told name _ _ _ _ long front)

pub bytes_there : (told : Option Files) (name : List ℕ) (size : ℕ) → OfFile told name ⊤ AreBytes →
    OfFile told name ⊥ (λ bytes. size ≡ length bytes) → OfFile told name ⊥ AreBytes
bytes_there told name size all long =
    OfFile-or told name _ _ _ _ (λ absent. absent.1) (λ bytes both. both.0) (OfFile-and told name _ _ _ _ all long)

pub size_there : (told : Option Files) (name : List ℕ) (size : ℕ) → OfFile told name ⊥ (λ bytes. size ≡ length bytes) →
    OfFile told name ⊥ (λ bytes. length bytes ≡ size)
size_there told name size = OfFile-map told name _ _ (λ bytes e. sym e)

-- the failure of a call, whatever the version
pub tells_at : (hash : List ℕ → List ℕ) → ((xs : List ℕ) → length (hash xs) ≡ 32) → (told : Option Files)
    (name : List ℕ) (r : Result Opened MapErr) → OfFile told name ⊤ AreBytes → FailsWithoutFault r →
    OfFile told name (FailsWithoutFault r) (λ bytes. TellsBytes (form_at bytes) hash bytes r)
tells_at hash sized told name r all f =
    OfFile-or told name _ _ _ _ (λ absent. f)
    (λ bytes are. tells_failed (form_at bytes) (form_by_is (version_of bytes)) hash sized bytes are r f) all
