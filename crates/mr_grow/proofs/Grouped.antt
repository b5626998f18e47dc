-- The nodes over the groups of a list, which is split where it is too long.
use Rattle.std.proofs.Common.{◌≡◌, ℕ, ◌<◌, ◌≤◌, Bool, List, [], ◌∷◌, length, map, sym, ap, ◌∙◌, arith}
use Rattle.std.specs.Prelude.{if◌then◌else◌}
use Rattle.std.proofs.lemmas.Bool.{lt-ltb, le-ltb}
use Rattle.mr_geom.specs.Rectangle.{Rectangle}
use Rattle.mr_tree.specs.declared.tree.Tree.{Tree}
use Rattle.mr_split.specs.Split.{sides}
use Rattle.mr_grow.specs.Parts.{first_part, second_part}
use Rattle.mr_grow.specs.Grow.{parted}

module _ {X : Type 0} (wrap : List X → Tree) (least most : ℕ) (rects : List Rectangle) (xs : List X) where
  abbrev over : Bool → List Tree
  over long =
      map wrap
      (if long then first_part (sides rects least) xs ∷ second_part (sides rects least) xs ∷ [] else xs ∷ [])

  -- the list is not too long
  pub one_node : (n : ℕ) (ys : List X) → n ≡ length xs → n ≤ most → ys ≡ xs →
      wrap ys ∷ [] ≡ map wrap (parted least most rects xs)
  one_node n ys long few same =
      ap (λ zs. wrap zs ∷ []) same ∙ ap over (sym (le-ltb most (length xs) (omega (arith, long, few))))

  -- it is too long
  pub two_nodes : (n : ℕ) (bs : List Bool) (us vs : List X) → n ≡ length xs → most < n → bs ≡ sides rects least →
      us ≡ first_part bs xs → vs ≡ second_part bs xs →
      wrap us ∷ wrap vs ∷ [] ≡ map wrap (parted least most rects xs)
  two_nodes n bs us vs long many is first second =
      (λ i. wrap (first i) ∷ wrap (second i) ∷ [])
      ∙ ap (λ cs. wrap (first_part cs xs) ∷ wrap (second_part cs xs) ∷ []) is
      ∙ ap over (sym (lt-ltb most (length xs) (omega (arith, long, many))))
