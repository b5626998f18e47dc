-- Lists that stand item by item in a relation.
use Rattle.std.proofs.Common.{◌≡◌, Bool, true, false, ℕ, zero, suc, ◌<◌, List, [], ◌∷◌, ◌++◌, length, map, take, drop, get_or, refl, ap, arith}
use Rattle.std.specs.List.{AllZip}
use Rattle.mr_grow.specs.Parts.{first_part, second_part}

pub same_length : {A B : Type 0} (R : A → B → Type 0) (xs : List A) (ys : List B) → AllZip R xs ys →
    length xs ≡ length ys
same_length R [] [] all = refl
same_length R [] (y ∷ ys) all = absurd all
same_length R (x ∷ xs) [] all = absurd all
same_length R (x ∷ xs) (y ∷ ys) all = ap suc (same_length R xs ys all.1)

pub zip_at : {A B : Type 0} (R : A → B → Type 0) (xs : List A) (ys : List B) (n : ℕ) (d : A) (e : B) → AllZip R xs ys →
    n < length xs → R (get_or xs n d) (get_or ys n e)
zip_at R [] [] n d e all within = absurd (omega (arith, within))
zip_at R [] (y ∷ ys) n d e all within = absurd all
zip_at R (x ∷ xs) [] n d e all within = absurd all
zip_at R (x ∷ xs) (y ∷ ys) zero d e all within = all.0
zip_at R (x ∷ xs) (y ∷ ys) (suc n) d e all within = zip_at R xs ys n d e all.1 (omega (arith, within))

pub zip_take : {A B : Type 0} (R : A → B → Type 0) (n : ℕ) (xs : List A) (ys : List B) → AllZip R xs ys →
    AllZip R (take n xs) (take n ys)
zip_take R zero xs ys all = tt
zip_take R (suc n) [] [] all = tt
zip_take R (suc n) [] (y ∷ ys) all = absurd all
zip_take R (suc n) (x ∷ xs) [] all = absurd all
zip_take R (suc n) (x ∷ xs) (y ∷ ys) all = (all.0, zip_take R n xs ys all.1)

pub zip_drop : {A B : Type 0} (R : A → B → Type 0) (n : ℕ) (xs : List A) (ys : List B) → AllZip R xs ys →
    AllZip R (drop n xs) (drop n ys)
zip_drop R zero xs ys all = all
zip_drop R (suc n) [] [] all = tt
zip_drop R (suc n) [] (y ∷ ys) all = absurd all
zip_drop R (suc n) (x ∷ xs) [] all = absurd all
zip_drop R (suc n) (x ∷ xs) (y ∷ ys) all = zip_drop R n xs ys all.1

pub zip_both : {A B : Type 0} (R : A → B → Type 0) (xs us : List A) (ys vs : List B) → AllZip R xs ys → AllZip R us vs →
    AllZip R (xs ++ us) (ys ++ vs)
zip_both R [] us [] vs all more = more
zip_both R [] us (y ∷ ys) vs all more = absurd all
zip_both R (x ∷ xs) us [] vs all more = absurd all
zip_both R (x ∷ xs) us (y ∷ ys) vs all more = (all.0, zip_both R xs us ys vs all.1 more)

pub zip_weaker : {A B : Type 0} (R S : A → B → Type 0) → ((x : A) (y : B) → R x y → S x y) →
    (xs : List A) (ys : List B) → AllZip R xs ys → AllZip S xs ys
zip_weaker R S f [] [] all = tt
zip_weaker R S f [] (y ∷ ys) all = absurd all
zip_weaker R S f (x ∷ xs) [] all = absurd all
zip_weaker R S f (x ∷ xs) (y ∷ ys) all = (f x y all.0, zip_weaker R S f xs ys all.1)

-- lists end to end
pub record Split {A B : Type 0} (R : A → B → Type 0) (xs us : List A) (ys : List B) : Type 0 where
  pub left : List B
  pub right : List B
  pub is : ys ≡ left ++ right
  pub front : AllZip R xs left
  pub back : AllZip R us right

pub zip_split : {A B : Type 0} (R : A → B → Type 0) (xs us : List A) (ys : List B) → AllZip R (xs ++ us) ys →
    Split R xs us ys
zip_split R [] us ys all = record { left = []; right = ys; is = refl; front = tt; back = all }
zip_split R (x ∷ xs) us [] all = absurd all
zip_split R (x ∷ xs) us (y ∷ ys) all =
    let s = zip_split R xs us ys all.1 in
    record { left = y ∷ s.left; right = s.right; is = ap (λ zs. y ∷ zs) s.is; front = (all.0, s.front); back = s.back }

-- what is equal item by item
pub zip_maps : {A B C : Type 0} (f : A → C) (g : B → C) (xs : List A) (ys : List B) → AllZip (λ x y. f x ≡ g y) xs ys →
    map f xs ≡ map g ys
zip_maps f g [] [] all = refl
zip_maps f g [] (y ∷ ys) all = absurd all
zip_maps f g (x ∷ xs) [] all = absurd all
zip_maps f g (x ∷ xs) (y ∷ ys) all = λ i. all.0 i ∷ zip_maps f g xs ys all.1 i

-- ---- the parts of lists that are cut in two

pub zip_first : {A B : Type 0} (R : A → B → Type 0) (bs : List Bool) (xs : List A) (ys : List B) → AllZip R xs ys →
    AllZip R (first_part bs xs) (first_part bs ys)
zip_first R [] xs ys all = all
zip_first R (b ∷ bs) [] [] all = tt
zip_first R (b ∷ bs) [] (y ∷ ys) all = absurd all
zip_first R (b ∷ bs) (x ∷ xs) [] all = absurd all
zip_first R (true ∷ bs) (x ∷ xs) (y ∷ ys) all = zip_first R bs xs ys all.1
zip_first R (false ∷ bs) (x ∷ xs) (y ∷ ys) all = (all.0, zip_first R bs xs ys all.1)

pub zip_second : {A B : Type 0} (R : A → B → Type 0) (bs : List Bool) (xs : List A) (ys : List B) → AllZip R xs ys →
    AllZip R (second_part bs xs) (second_part bs ys)
zip_second R [] xs ys all = tt
zip_second R (b ∷ bs) [] [] all = tt
zip_second R (b ∷ bs) [] (y ∷ ys) all = absurd all
zip_second R (b ∷ bs) (x ∷ xs) [] all = absurd all
zip_second R (true ∷ bs) (x ∷ xs) (y ∷ ys) all = (all.0, zip_second R bs xs ys all.1)
zip_second R (false ∷ bs) (x ∷ xs) (y ∷ ys) all = zip_second R bs xs ys all.1

pub map_first : {A B : Type 0} (f : A → B) (bs : List Bool) (xs : List A) →
    map f (first_part bs xs) ≡ first_part bs (map f xs)
map_first f [] xs = refl
map_first f (b ∷ bs) [] = refl
map_first f (true ∷ bs) (x ∷ xs) = map_first f bs xs
map_first f (false ∷ bs) (x ∷ xs) = ap (λ us. f x ∷ us) (map_first f bs xs)

pub map_second : {A B : Type 0} (f : A → B) (bs : List Bool) (xs : List A) →
    map f (second_part bs xs) ≡ second_part bs (map f xs)
map_second f [] xs = refl
map_second f (b ∷ bs) [] = refl
map_second f (true ∷ bs) (x ∷ xs) = ap (λ us. f x ∷ us) (map_second f bs xs)
map_second f (false ∷ bs) (x ∷ xs) = map_second f bs xs
