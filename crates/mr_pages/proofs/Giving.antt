-- What was read along a walk, put together: some file has it all.
use Rattle.std.proofs.Common.{◌≡◌, ℕ, zero, suc, ◌+◌, ◌*◌, ◌<◌, ◌≤◌, ◌^◌, Bool, true, false, List, [], ◌∷◌, ◌++◌, length, replicate, take, drop, inl, inr, refl, sym, ap, subst, ◌∙◌, arith}
use Rattle.std.specs.Prelude.{⊤, slice_index_or, Some, Result, Ok, Err, if◌then◌else◌}
use Rattle.std.proofs.lemmas.List.{length-replicate, length-append, take_at}
use Rattle.std.proofs.lemmas.List.Elements.{All-nil, All-cons, All-append}
use Rattle.mr_outside.specs.declared.shelf.ShelfErr.{ShelfErr}
use Rattle.mr_outside.specs.declared.shelf.ShelfErr.TheVariants as shelf
use Rattle.mr_outside.specs.Bytes.{AreBytes}
use Rattle.mr_pages.specs.declared.error.MapErr.{MapErr}
use Rattle.mr_pages.specs.declared.error.MapErr.TheVariants as errors
use Rattle.mr_pages.specs.declared.visited.Visited.{Visited}
use Rattle.mr_pages.specs.Page.{Form}
use Rattle.mr_pages.specs.File.{File, page_at, pages_of}
use Rattle.mr_pages.specs.declared.rule.MapRule.{MapRule}
use Rattle.mr_pages.specs.Faults.{file_faults, first_of, mapfault}
use Rattle.mr_pages.specs.Opening.{of_shelf}
use Rattle.mr_pages.specs.Source.{Sourced, Origin, IsPage, HasPage, GivesPage, GivesHead, GivesFile, ReachesNewPage, IfNotFailed, ChecksFile}
use Rattle.mr_pages.specs.private.Walks.{GivesPages, GivesAll, IsAsRead, ChecksBehind}

-- ---- what settles nothing

pub shelf_failed : (A : Type 0) (e : ShelfErr) (P : Type 0) → IfNotFailed {A = A} (Err (of_shelf e)) P
shelf_failed A shelf.Missing P = tt
shelf_failed A shelf.Fault P = tt
shelf_failed A shelf.NoMemory P = tt

pub err_settles : (A B : Type 0) (e : MapErr) {P Q : Type 0} → IfNotFailed {A = A} (Err e) P → (P → Q) →
    IfNotFailed {A = B} (Err e) Q
err_settles A B (errors.Map x) p f = f p
err_settles A B errors.Missing p f = tt
err_settles A B errors.Fault p f = tt
err_settles A B errors.NoMemory p f = tt

pub so_settles : {A : Type 0} (r : Result A MapErr) {P Q : Type 0} → IfNotFailed r P → (P → Q) → IfNotFailed r Q
so_settles (Ok a) p f = f p
so_settles {A} (Err e) p f = err_settles A A e p f

-- ---- one page

zero_bytes : (n : ℕ) → AreBytes (replicate n 0)
zero_bytes zero = All-nil (λ b. b < 2 ^ 8)
zero_bytes (suc n) = All-cons (λ b. b < 2 ^ 8) 0 (replicate n 0) (omega arith) (zero_bytes n)

blank : (form : Form) → IsPage form (replicate form.size 0)
blank form = record { size = length-replicate form.size 0; are = zero_bytes form.size }

pub page_gives : (s : Sourced) (page : ℕ) (Q R : File → Type 0) → ((f : File) → Q f → R f) →
    GivesPage s page Q → GivesPage s page R
page_gives s page Q R g p = record { bytes = p.bytes; is = p.is; so = λ f is. g f (p.so f is) }

-- ---- pages that were reached

module _ (s : Sourced) (a b : Visited) where
  -- nothing was read
  pub gives_none : (Q : File → Type 0) → b.reached ≡ a.reached → ((f : File) → Q f) → GivesPages s a b Q
  gives_none Q same q = record {
    more = λ p on. ap (λ v. slice_index_or v.items p false) same ∙ on;
    given = λ p. replicate s.origin.form.size 0;
    pages = λ p. blank s.origin.form;
    so = λ f is. q f;
  }

  -- one page was reached and read
  pub gives_one : (page : ℕ) (Q : File → Type 0) → ReachesNewPage a page b → GivesPage s page Q → GivesPages s a b Q
  gives_one page Q comes g = record {
    more = comes.more;
    given = λ p. g.bytes;
    pages = λ p. g.is;
    so = λ f is. g.so f (elim is [
      | inl told ↦ inl told
      | inr read ↦ inr (read page comes.low comes.here comes.fresh)
    ]);
  }

  pub gives_so : (Q R : File → Type 0) → ((f : File) → Q f → R f) → GivesPages s a b Q → GivesPages s a b R
  gives_so Q R h g = record { more = g.more; given = g.given; pages = g.pages; so = λ f is. h f (g.so f is) }

  -- no more pages were reached since
  pub gives_still : (c : Visited) (Q : File → Type 0) → c.reached ≡ b.reached → GivesPages s a b Q → GivesPages s a c Q
  gives_still c Q same g = record {
    more = λ p on. ap (λ v. slice_index_or v.items p false) same ∙ g.more p on;
    given = g.given;
    pages = g.pages;
    so = λ f is. g.so f (elim is [
      | inl told ↦ inl told
      | inr read ↦ inr (λ p low on new'. read p low (ap (λ v. slice_index_or v.items p false) same ∙ on) new')
    ]);
  }

  -- from a later moment of the same source
  pub gives_from : (t : Sourced) (Q : File → Type 0) → t.origin ≡ s.origin → t.file ≡ s.file → GivesPages t a b Q →
      GivesPages s a b Q
  gives_from t Q here same g = record {
    more = g.more;
    given = g.given;
    pages = λ p. subst (λ (o : Origin). IsPage o.form (g.given p)) here (g.pages p);
    so = λ f is. g.so f (elim is [
      | inl told ↦ inl (same ∙ told)
      | inr read ↦ inr (λ p low on new'. subst (λ (o : Origin). HasPage o.form f p (g.given p)) (sym here)
          (read p low on new'))
    ]);
  }

-- ---- one after the other

is_false : (b : Bool) → (b ≡ true → ⊥) → b ≡ false
is_false true no' = absurd (no' refl)
is_false false no' = refl

module _ (s : Sourced) (a b c : Visited) (Q R : File → Type 0) (g : GivesPages s a b Q) (h : GivesPages s b c R) where
  -- what was read where: first, or then
  abbrev choice : Bool → ℕ → List ℕ
  choice first p = if first then g.given p else h.given p

  abbrev both_given : ℕ → List ℕ
  both_given p = choice (slice_index_or b.reached.items p false) p

  chosen : (first : Bool) (p : ℕ) → IsPage s.origin.form (choice first p)
  chosen true p = g.pages p
  chosen false p = h.pages p

  as_first : (f : File) → IsAsRead s a c both_given f → IsAsRead s a b g.given f
  as_first f (inl told) = inl told
  as_first f (inr read) = inr (λ p low on new'.
      subst (HasPage s.origin.form f p) (ap (λ first. choice first p) on) (read p low (h.more p on) new'))

  as_then : (f : File) → IsAsRead s a c both_given f → IsAsRead s b c h.given f
  as_then f (inl told) = inl told
  as_then f (inr read) = inr (λ p low on new'.
      subst (HasPage s.origin.form f p)
      (ap (λ first. choice first p) (is_false (slice_index_or b.reached.items p false) new'))
      (read p low on (λ before. new' (g.more p before))))

  pub gives_both : GivesPages s a c (λ f. Q f × R f)
  gives_both = record {
    more = λ p on. h.more p (g.more p on);
    given = both_given;
    pages = λ p. chosen (slice_index_or b.reached.items p false) p;
    so = λ f is. (g.so f (as_first f is), h.so f (as_then f is));
  }

-- the same where the second is of a later moment
pub gives_next : (s t : Sourced) (a b c : Visited) (Q R : File → Type 0) → t.origin ≡ s.origin → t.file ≡ s.file →
    GivesPages s a b Q → GivesPages t b c R → GivesPages s a c (λ f. Q f × R f)
gives_next s t a b c Q R here same g h = gives_both s a b c Q R g (gives_from s b c t R here same h)

-- ---- all pages

reached_inside : (xs : List Bool) (p : ℕ) → slice_index_or xs p false ≡ true → p < length xs
reached_inside [] zero e = absurd (cc)
reached_inside [] (suc p) e = absurd (cc)
reached_inside (x ∷ xs) zero e = omega arith
reached_inside (x ∷ xs) (suc p) e = let rest : p < length xs = reached_inside xs p e in omega (arith, rest)

pub gives_all : (s : Sourced) (a b : Visited) (Q R : File → Type 0) → length b.reached.items ≡ s.pages →
    ((f : File) → Q f → R f) → GivesPages s a b Q → GivesAll s R
gives_all s a b Q R size h g = record {
  given = g.given;
  pages = g.pages;
  so = λ f is. h f (g.so f (elim is [
    | inl told ↦ inl told
    | inr read ↦ inr (λ p low on new'.
        let inside : p < length b.reached.items = reached_inside b.reached.items p on in
        read p low (omega (arith, inside, size)))
  ]));
}

-- these pages one behind the other, so many from this one on
abbrev pages_from : (ℕ → List ℕ) → (from count : ℕ) → List ℕ
pages_from given from zero = []
pages_from given from (suc n) = given from ++ pages_from given (suc from) n

drop_far : (xs ys : List ℕ) (n m : ℕ) → length xs ≡ n → drop (n + m) (xs ++ ys) ≡ drop m ys
drop_far [] ys n m e = let none : n + m ≡ m = omega (arith, e) in ap (λ k. drop k ys) none
drop_far (x ∷ xs) ys zero m e = absurd (omega (arith, e))
drop_far (x ∷ xs) ys (suc n) m e =
    let rest : length xs ≡ n = omega (arith, e) in
    let next : suc n + m ≡ suc (n + m) = omega arith in
    ap (λ k. drop k (x ∷ xs ++ ys)) next ∙ drop_far xs ys n m rest

no_pages : (size : ℕ) → 0 * size ≡ 0
no_pages size = grind arith

one_page : (n size : ℕ) → suc n * size ≡ size + n * size
one_page n size = grind arith

module _ (form : Form) (given : ℕ → List ℕ) (each : (p : ℕ) → IsPage form (given p)) where
  length-pages : (n from : ℕ) → length (pages_from given from n) ≡ n * form.size
  length-pages zero from = sym (no_pages form.size)
  length-pages (suc n) from = length-append (given from) (pages_from given (suc from) n)
      ∙ (λ i. (each from).size i + length-pages n (suc from) i) ∙ sym (one_page n form.size)

  are_bytes : (n from : ℕ) → AreBytes (pages_from given from n)
  are_bytes zero from = All-nil (λ b. b < 2 ^ 8)
  are_bytes (suc n) from = All-append (λ b. b < 2 ^ 8) (given from) (pages_from given (suc from) n) (each from).are
      (are_bytes n (suc from))

  page_from : (n from p : ℕ) → p < n → page_at form (pages_from given from n) p ≡ given (from + p)
  page_from zero from p low = absurd (omega (arith, low))
  page_from (suc n) from zero low =
      ap (λ k. take form.size (drop k (pages_from given from (suc n)))) (no_pages form.size)
      ∙ take_at (given from) (pages_from given (suc from) n) form.size (each from).size ∙ ap given (omega arith)
  page_from (suc n) from (suc p) low =
      ap (λ k. take form.size (drop k (pages_from given from (suc n)))) (one_page p form.size)
      ∙ ap (take form.size) (drop_far (given from) (pages_from given (suc from) n) form.size (p * form.size)
      (each from).size) ∙ page_from n (suc from) p (omega (arith, low)) ∙ ap given (omega arith)

-- what is on no page but page 0, and what is on that
abbrev with_head : List ℕ → (ℕ → List ℕ) → ℕ → List ℕ
with_head head given zero = head
with_head head given (suc p) = given (suc p)

module _ (s : Sourced) (Q R : File → Type 0) (first : GivesHead s Q) (all : GivesAll s R) where
  abbrev given_of : ℕ → List ℕ
  given_of p = with_head first.bytes all.given p

  each_page : (p : ℕ) → IsPage s.origin.form (given_of p)
  each_page zero = first.is
  each_page (suc p) = all.pages (suc p)

  abbrev bytes_of : List ℕ
  bytes_of = pages_from given_of 0 s.pages

  read_as : (p : ℕ) → p < s.pages → page_at s.origin.form bytes_of p ≡ given_of p
  read_as p low = page_from s.origin.form given_of each_page s.pages 0 p low ∙ ap given_of (omega arith)

  abbrev file_given : File
  file_given = pages_of s.origin.form s.pages bytes_of

  on_page : (p : ℕ) → 1 ≤ p → p < s.pages → HasPage s.origin.form file_given p (all.given p)
  on_page zero low inside = absurd (omega (arith, low))
  on_page (suc p) low inside = record {
    node = ap s.origin.form.node_in (read_as (suc p) inside);
    free = ap s.origin.form.free_in (read_as (suc p) inside);
  }

  pub gives_file : (S : File → Type 0) → ((f : File) → Q f → R f → S f) → 1 ≤ s.pages → GivesFile s S
  gives_file S h some = record {
    bytes = bytes_of;
    are = are_bytes s.origin.form given_of each_page s.pages 0;
    size = length-pages s.origin.form given_of each_page s.pages 0;
    so = h file_given
        (first.so file_given (inr (ap (s.origin.form.head_in s.pages) (read_as 0 some))))
        (all.so file_given (inr on_page));
  }

-- nothing but page 0 was read
pub no_more : (s : Sourced) → GivesAll s (λ f. ⊤)
no_more s = record {
  given = λ p. replicate s.origin.form.size 0;
  pages = λ p. blank s.origin.form;
  so = λ f is. tt;
}

pub all_from : (s t : Sourced) (Q : File → Type 0) → t.origin ≡ s.origin → t.file ≡ s.file → t.pages ≡ s.pages →
    GivesAll t Q → GivesAll s Q
all_from s t Q here same count g = record {
  given = g.given;
  pages = λ p. subst (λ (o : Origin). IsPage o.form (g.given p)) here (g.pages p);
  so = λ f is. g.so f (elim is [
    | inl told ↦ inl (same ∙ told)
    | inr read ↦ inr (λ p low inside. subst (λ (o : Origin). HasPage o.form f p (g.given p)) (sym here)
        (read p low (omega (arith, inside, count))))
  ]);
}

-- ---- what is behind page 0, and that

pub behind_err : (M : Type 0) (hash : List ℕ → List ℕ) (f : File) (e : MapErr) →
    ChecksBehind {A = M} hash f (Err e) → ChecksFile {M = M} hash f (Err e)
behind_err M hash f (errors.Map x) c = c
behind_err M hash f errors.Missing c = tt
behind_err M hash f errors.Fault c = tt
behind_err M hash f errors.NoMemory c = tt

pub checks_stopped : (M : Type 0) (hash : List ℕ → List ℕ) (f : File) (e : MapErr) {P : Type 0} →
    IfNotFailed {A = M} (Err e) P → (P → ChecksBehind {A = M} hash f (Err e)) → ChecksFile {M = M} hash f (Err e)
checks_stopped M hash f (errors.Map x) p c = c p
checks_stopped M hash f errors.Missing p c = tt
checks_stopped M hash f errors.Fault p c = tt
checks_stopped M hash f errors.NoMemory p c = tt

pub head_breaks : (hash : List ℕ → List ℕ) (f : File) (r : MapRule) → f.head ≡ Err r →
    mapfault hash f ≡ Some (record { page = 0; rule = r })
head_breaks hash f r e = ap (λ q. first_of (file_faults hash f q)) e
