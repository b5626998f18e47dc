-- What is left of a child: its records are set aside, or it stands where it was.
use Rattle.std.proofs.Common.{◌≡◌, ℕ, Bool, true, false, List, [], ◌∷◌, ◌++◌, take, drop, sym, ap, ◌∙◌}
use Rattle.std.specs.Prelude.{if◌then◌else◌}
use Rattle.std.proofs.lemmas.List.{take-append-drop}
use Rattle.mr_record.specs.declared.record.Record.{Record}
use Rattle.mr_tree.specs.Tree.{records}
use Rattle.mr_tree.specs.declared.tree.Tree.{Tree}
use Rattle.mr_tree.specs.declared.tree.Tree.TheVariants as tree
use Rattle.mr_grow.specs.Shrink.{Rest, is_low}
use Rattle.mr_grow.specs.private.Kept.{kept}

module _ (ts : List Tree) (at : ℕ) (r : Rest) where
  abbrev over : Bool → Rest
  over low = record {
    tree = tree.Inner (take at ts ++ ((if low then [] else r.tree ∷ []) ++ drop at ts));
    aside = if low then records r.tree ++ r.aside else r.aside;
  }

  pub set_aside_is : (left : List Tree) (aside : List Record) → is_low r.tree ≡ true → left ≡ ts →
      aside ≡ records r.tree ++ r.aside → record { tree = tree.Inner left; aside = aside } ≡ kept ts at r
  set_aside_is left aside low same all =
      (λ i. record { tree = tree.Inner ((same ∙ sym (take-append-drop at ts)) i); aside = all i })
      ∙ ap over (sym low)

  pub stays_is : (left : List Tree) → is_low r.tree ≡ false → left ≡ take at ts ++ r.tree ∷ drop at ts →
      record { tree = tree.Inner left; aside = r.aside } ≡ kept ts at r
  stays_is left high is =
      ap (λ us. record { tree = tree.Inner us; aside = r.aside }) is ∙ ap over (sym high)
