-- What a directory says of a number is the rectangle of its record.
use Rattle.std.proofs.Common.{◌≡◌, ◌≢◌, Bool, true, false, ℕ, suc, List, [], ◌∷◌, refl, sym, ◌∙◌, arith, AllPairs}
use Rattle.std.specs.Prelude.{◌==◌, if◌then◌else◌, Some}
use Rattle.std.specs.List.{AllByRecursion}
use Rattle.std.proofs.lemmas.Bool.{eqb-true, eqb-false}
use Rattle.std.proofs.lemmas.List.Elements.{recursion_from_All}
use Rattle.mr_geom.specs.Rectangle.{Rectangle}
use Rattle.mr_record.specs.declared.record.Record.{Record}
use Rattle.mr_batch.specs.Directory.{DirectoryEntries, rect_at, rect_in, IsDirectoryOf}
use Rattle.mr_edit.specs.private.Removal.{HaveRect}

weaker_all : (P Q : Record → Type 0) → ((r : Record) → P r → Q r) → (rs : List Record) → AllByRecursion P rs →
    AllByRecursion Q rs
weaker_all P Q f [] all = tt
weaker_all P Q f (r ∷ rs) all = (f r all.0, weaker_all P Q f rs all.1)

pub have_rect : (n : ℕ) (rect : Rectangle) (rs : List Record) → AllPairs (λ (a b : Record). a.number ≢ b.number) rs →
    rect_in rs n ≡ Some rect → HaveRect n rect rs
have_rect n rect [] far e = tt
have_rect n rect (r ∷ rs) far e = at (r.number == n) refl e (have_rect n rect rs
    (λ i j d low high. far (suc i) (suc j) d (omega (arith, low)) (omega (arith, high))))
  where
    others : AllByRecursion (λ (s : Record). r.number ≢ s.number) rs
    others = recursion_from_All (λ (s : Record). r.number ≢ s.number) rs
        (λ k d within. far 0 (suc k) d (omega arith) (omega (arith, within)))

    at : (b : Bool) → (r.number == n) ≡ b → (if b then Some r.rect else rect_in rs n) ≡ Some rect →
        (rect_in rs n ≡ Some rect → HaveRect n rect rs) → HaveRect n rect (r ∷ rs)
    at true is here rest =
        let same : r.rect ≡ rect = cc in
        let mine : r.number ≡ n = eqb-true r.number n is in (
          λ e. same,
          weaker_all (λ (s : Record). r.number ≢ s.number) (λ (s : Record). s.number ≡ n → s.rect ≡ rect)
              (λ s other e. absurd (other (mine ∙ sym e))) rs others,
        )
    at false is here rest = (λ e. absurd (eqb-false r.number n is e), rest here)

-- by a directory of the records
pub directed : (entries : DirectoryEntries) (n : ℕ) (rect : Rectangle) (rs : List Record) →
    AllPairs (λ (a b : Record). a.number ≢ b.number) rs → IsDirectoryOf entries rs → rect_at entries n ≡ Some rect →
    HaveRect n rect rs
directed entries n rect rs far is e = have_rect n rect rs far (sym (is.rects n) ∙ e)
