-- The last item of a list, which is the first one of its reverse.
use Rattle.std.proofs.Common.{◌≡◌, ℕ, zero, suc, ◌-◌, ◌+◌, ◌<◌, List, [], ◌∷◌, ◌++◌, length, reverse, take, slice_index_or, slice_set, refl, sym, ap, subst, ◌∙◌, arith}
use Rattle.std.proofs.lemmas.List.{reverse-append}
use Rattle.mr_record.specs.declared.version.Version.{Version}
use Rattle.mr_tree.specs.declared.entry.Entry.{Entry}
use Rattle.mr_check.specs.declared.frame.Frame.{Frame}
use Rattle.mr_check.specs.declared.frame.Stack.{Stack}
use Rattle.mr_check.specs.private.OpenNodes.{Adds, AddsOnTop, IsLastOnTop}

ends : {A : Type 0} (xs : List A) (n : ℕ) (d : A) → suc n ≡ length xs → d ≡ slice_index_or xs n d →
    xs ≡ take n xs ++ d ∷ []
ends [] n d e is = absurd (omega (arith, e))
ends (x ∷ []) zero d e is = ap (λ v. v ∷ []) (sym is)
ends (x ∷ y ∷ xs) zero d e is = absurd (omega (arith, e))
ends (x ∷ xs) (suc n) d e is = ap (λ ys. x ∷ ys) (ends xs n d (omega (arith, e)) is)

ends_set : {A : Type 0} (xs : List A) (n : ℕ) (y : A) → suc n ≡ length xs →
    slice_set xs n y ≡ take n xs ++ y ∷ []
ends_set [] n y e = absurd (omega (arith, e))
ends_set (x ∷ []) zero y e = refl
ends_set (x ∷ z ∷ xs) zero y e = absurd (omega (arith, e))
ends_set (x ∷ xs) (suc n) y e = ap (λ ys. x ∷ ys) (ends_set xs n y (omega (arith, e)))

pub last_first : {A : Type 0} (xs : List A) (n : ℕ) (d : A) → suc n ≡ length xs → d ≡ slice_index_or xs n d →
    reverse xs ≡ d ∷ reverse (take n xs)
last_first xs n d e is = ap reverse (ends xs n d e is) ∙ reverse-append (take n xs) (d ∷ [])

pub last_set_first : {A : Type 0} (xs : List A) (n : ℕ) (y : A) → suc n ≡ length xs →
    reverse (slice_set xs n y) ≡ y ∷ reverse (take n xs)
last_set_first xs n y e = ap reverse (ends_set xs n y e) ∙ reverse-append (take n xs) (y ∷ [])

-- the open node on top, in whose place is the same with one entry more
pub added_on_top : {H : Type 0} (v : Version) (holds : H → List ℕ → Type 0) (x : Entry) (fs : List (Frame H)) (n : ℕ)
    (f g : Frame H) → suc n ≡ length fs → f ≡ slice_index_or fs n f → 0 < f.left → g.left ≡ f.left - 1 →
    Adds v holds f.node g.node x → g.node.count ≡ f.node.count + x.count →
    AddsOnTop v holds x (reverse fs) (reverse (slice_set fs n g))
added_on_top v holds x fs n f g e is some left adds counted = record {
  top = f;
  node = g.node;
  others = reverse (take n fs);
  was = last_first fs n f e is;
  now = last_set_first fs n g e ∙ ap (λ l. record { node = g.node; left = l } ∷ reverse (take n fs)) left;
  some = some;
  adds = adds;
  counted = counted;
}

-- the one that is taken off
pub last_taken : {H : Type 0} (before after : List (Frame H)) (f : Frame H) → IsLastOnTop before →
    before ≡ f ∷ after → f.left ≡ 0
last_taken before after f last is = subst IsLastOnTop is last

-- a stack as it was, where nothing was added to it
pub as_before : {F : Type 0} (before now : Stack F) (fs : List F) → now ≡ before → reverse now.list.items ≡ fs →
    reverse before.list.items ≡ fs
as_before before now fs same is = ap (λ (s : Stack _). reverse s.list.items) (sym same) ∙ is
