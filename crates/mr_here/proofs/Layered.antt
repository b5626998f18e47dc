-- The layers that a batch asks for.
use Rattle.std.proofs.Common.{◌≡◌, ℕ, zero, suc, ◌≤◌, ◌<◌, ◌+◌, Bool, true, false, ◌||◌, List, [], ◌∷◌, length, get_or, drop, refl, sym, ap, ◌∙◌, arith}
use Rattle.std.specs.Prelude.{All}
use Rattle.std.specs.List.{list_any}
use Rattle.std.proofs.lemmas.Bool.{ltb-false}
use Rattle.std.proofs.lemmas.List.{drop_all}
use Rattle.mr_record.specs.declared.version.Version.{Version}
use Rattle.mr_record.specs.declared.version.Version.TheVariants.{One, Two}
use Rattle.mr_batch.specs.Changes.{IsLayered}
use Rattle.mr_batch.specs.declared.change.Change.{Change}
use Rattle.mr_batch.specs.declared.change.Change.TheVariants.{Add, Remove}
use Rattle.mr_edit.specs.Replayed.{IsOfVersion}
use Rattle.mr_here.specs.Layers.{has_layer, lacks_layers}

flat : (c : Change) → has_layer c ≡ false → IsOfVersion One c
flat (Add r) none = omega (arith, ltb-false 0 r.layer none)
flat (Remove n) none = tt

none_in : (a b : Bool) → (a || b) ≡ false → (a ≡ false) × (b ≡ false)
none_in true b is = absurd (cc)
none_in false b is = (refl, is)

each_flat : (xs : List Change) → list_any has_layer xs ≡ false → (k : ℕ) (d : Change) → k < length xs
    → IsOfVersion One (get_or xs k d)
each_flat [] none k d within = absurd (omega (arith, within))
each_flat (c ∷ xs) none zero d within = flat c (none_in (has_layer c) (list_any has_layer xs) none).0
each_flat (c ∷ xs) none (suc k) d within =
    each_flat xs (none_in (has_layer c) (list_any has_layer xs) none).1 k d (omega (arith, within))

deep : (c : Change) → IsLayered c → IsOfVersion Two c
deep (Add r) is = is
deep (Remove n) is = tt

-- where the version has what the batch asks for
pub of_version : (v : Version) (xs : List Change) → All IsLayered xs → lacks_layers v xs ≡ false
    → All (IsOfVersion v) xs
of_version One xs layered none k d within = each_flat xs none k d within
of_version Two xs layered none k d within = deep (get_or xs k d) (layered k d within)

-- the same, as it is tested
pub of_tested : (v w : Version) (xs : List Change) (b : Bool) → All IsLayered xs → w ≡ v → b ≡ lacks_layers w xs
    → b ≡ false → All (IsOfVersion v) xs
of_tested v w xs b layered is tested not =
    of_version v xs layered (ap (λ v. lacks_layers v xs) (sym is) ∙ sym tested ∙ not)

-- ---- the changes, one after the other

-- those from this one on
any_from : (xs : List Change) (i : ℕ) (d : Change) → i < length xs
    → list_any has_layer (drop i xs) ≡ (has_layer (get_or xs i d) || list_any has_layer (drop (i + 1) xs))
any_from [] i d within = absurd (omega (arith, within))
any_from (c ∷ xs) zero d within = refl
any_from (c ∷ xs) (suc i) d within =
    let next : suc (i + 1) ≡ suc i + 1 = omega arith in
    any_from xs i d (omega (arith, within))
    ∙ ap (λ k. has_layer (get_or xs i d) || list_any has_layer (drop k (c ∷ xs))) next

module _ (xs : List Change) (i : ℕ) (d : Change) (within : i < length xs) (is : d ≡ get_or xs i d)
    {b : Bool} (tested : b ≡ has_layer d)
    (so_far : list_any has_layer (drop i xs) ≡ list_any has_layer xs) where
  here : (b || list_any has_layer (drop (i + 1) xs)) ≡ list_any has_layer xs
  here = ap (λ x. x || list_any has_layer (drop (i + 1) xs)) (tested ∙ ap has_layer is) ∙ sym (any_from xs i d within)
      ∙ so_far

  -- this one does
  pub any_here : b ≡ true → true ≡ list_any has_layer xs
  any_here does = ap (λ x. x || list_any has_layer (drop (i + 1) xs)) (sym does) ∙ here

  -- it does not
  pub any_on : b ≡ false → list_any has_layer (drop (i + 1) xs) ≡ list_any has_layer xs
  any_on not = ap (λ x. x || list_any has_layer (drop (i + 1) xs)) (sym not) ∙ here

-- none does
pub any_none : (xs : List Change) (i : ℕ) → length xs ≤ i
    → list_any has_layer (drop i xs) ≡ list_any has_layer xs → false ≡ list_any has_layer xs
any_none xs i all so_far = ap (list_any has_layer) (sym (drop_all i xs all)) ∙ so_far
