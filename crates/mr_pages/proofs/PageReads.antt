-- What a read of a page gives.
use Rattle.std.proofs.Common.{◌≡◌, ℕ, suc, ◌+◌, ◌*◌, ◌/◌, ◌<◌, ◌≤◌, List, length, take, drop, inl, inr, sym, ap, subst, ◌∙◌, arith}
use Rattle.std.specs.Prelude.{Option, Some, None, option_map, Err, IfSome, MatchOption, if◌then◌else◌}
use Rattle.std.proofs.lemmas.Nat.{mul-le}
use Rattle.mr_outside.specs.Files.{Files, file}
use Rattle.mr_outside.specs.State.{Shelved}
use Rattle.mr_outside.specs.Told.{OfFile}
use Rattle.mr_pages.specs.declared.rule.MapRule.TheVariants as rule
use Rattle.mr_pages.specs.Page.{Form}
use Rattle.mr_pages.specs.File.{File, page_at, file_of}
use Rattle.mr_pages.specs.Source.{told_bytes, IsPage, HasPage, GivesPage, GivesHead, TellsPage}
use Rattle.mr_pages.specs.private.Walks.{on_shelf, HasWholePages, IsPaged, HasFirst}
use Rattle.mr_pages.proofs.Agreement.{whole_pages_are}
use Rattle.mr_pages.proofs.Filled.{IsPiece}

-- ---- a page is there where the file goes so far

told_page : (form : Form) (page : ℕ) (before after bytes : List ℕ) → length before ≡ form.size →
    IsPiece (page * form.size) before after bytes → TellsPage form page after bytes
told_page form page before after bytes long piece = λ k whole within.
    let room : suc page * form.size ≤ k * form.size =
    mul-le (suc page) form.size k form.size (omega (arith, within)) (omega arith) in
    let next : suc page * form.size ≡ form.size + page * form.size = grind arith in
    piece (omega (arith, long, whole, room, next)) ∙ ap (λ n. take n (drop (page * form.size) bytes)) long

pub page_told : (form : Form) (told : Option Files) (name : List ℕ) (page : ℕ) (before after : List ℕ) →
    length before ≡ form.size →
    OfFile told name ⊥ (IsPiece (page * form.size) before after) → OfFile told name ⊥ (TellsPage form page after)
page_told form None name page before after long g = tt
page_told form (Some files) name page before after long g = here (file files name) g
  where
    here : (o : Option (List ℕ)) → MatchOption o ⊥ (IsPiece (page * form.size) before after) →
        MatchOption o ⊥ (TellsPage form page after)
    here None g = g
    here (Some bytes) g = told_page form page before after bytes long g

-- ---- what is told of the file, or of what was read

-- what is told of a file's bytes, where they are
pub if_there : (told : Option Files) (name : List ℕ) (Q : List ℕ → Type 0) → OfFile told name ⊥ Q →
    IfSome (told_bytes told name) Q
if_there None name Q g = tt
if_there (Some files) name Q g = here (file files name) g
  where
    here : (o : Option (List ℕ)) → MatchOption o ⊥ Q → IfSome o Q
    here None g = tt
    here (Some bytes) g = g

module _ (form : Form) (some : 0 < form.size) (name : List ℕ) (lent : ℕ × ℕ) (pages page : ℕ) (p : List ℕ) where
  whole_of : (bytes : List ℕ) → HasWholePages form pages bytes → length bytes ≡ pages * form.size
  whole_of bytes h =
      (whole_pages_are form.size (length bytes) some h.even).whole ∙ ap (λ n. n * form.size) (sym h.count)

  -- the file that is told has what is read, whatever that is
  file_told : (P : File → Type 0) → ((bytes : List ℕ) → HasWholePages form pages bytes →
      p ≡ page_at form bytes page → P (file_of form bytes)) → page < pages →
      (o : Option (List ℕ)) → IfSome o (HasWholePages form pages) → IfSome o (TellsPage form page p) → (f : File) →
      option_map (file_of form) o ≡ Some f → P f
  file_told P h within None paged tells f is = cc
  file_told P h within (Some bytes) paged tells f is =
      let same : file_of form bytes ≡ f = cc in
      subst P same (h bytes paged (tells pages (whole_of bytes paged) within))

  pub shelf_gives : (s : Shelved) (Q : File → Type 0) → IsPaged form pages s.files name → page < pages →
      OfFile s.files name ⊥ (TellsPage form page p) → IsPage form p →
      ((f : File) → HasPage form f page p → Q f) → GivesPage (on_shelf form lent pages s name) page Q
  shelf_gives s Q paged within tells is q = record {
    bytes = p;
    is = is;
    so = λ f given. q f (elim given [
      | inl told ↦ file_told (λ g. HasPage form g page p) (λ bytes h e. record {
        node = ap form.node_in (sym e);
        free = ap form.free_in (sym e);
      }) within (told_bytes s.files name) paged.file_ (if_there s.files name (TellsPage form page p) tells) f told
      | inr read ↦ read
    ]);
  }

pub shelf_gives_head : (form : Form) → 0 < form.size → (name : List ℕ) (lent : ℕ × ℕ) (pages : ℕ) (p : List ℕ)
    (s : Shelved) (Q : File → Type 0) → IsPaged form pages s.files name → 1 ≤ pages → HasFirst form s.files name p →
    ((f : File) → f.head ≡ form.head_in pages p → Q f) → GivesHead (on_shelf form lent pages s name) Q
shelf_gives_head form room name lent pages p s Q paged some first q = record {
  bytes = p;
  is = first.is;
  so = λ f given. q f (elim given [
    | inl told ↦ file_told form room name lent pages 0 p (λ g. g.head ≡ form.head_in pages p) (λ bytes h e.
        ap (λ b. if b then Err rule.Size else
        form.head_in (length bytes / form.size) (page_at form bytes 0))
        h.even ∙ (λ i. form.head_in (sym h.count i) (sym e i))) some (told_bytes s.files name) paged.file_ first.tells f
        told
    | inr read ↦ read
  ]);
}
