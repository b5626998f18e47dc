-- A list that is filled from its front, part by part.
use Rattle.std.proofs.Common.{◌≡◌, ℕ, ◌+◌, ◌≤◌, List, ◌++◌, length, take, drop, sym, ap, ◌∙◌, arith, length-take-le, refl}
use Rattle.std.proofs.Math.Seq.{take-append-add}
use Rattle.std.proofs.lemmas.Slice.{take-put_mid}
use lib.Seq.{take-take}
use borrow.Rule.Slice.PartMut.{put_mid, mid_of, post_of, put_same}
use Rattle.std.proofs.lemmas.List.{drop-drop, drop_at, drop-append-le}

after_front : (front ys : List ℕ) (a n : ℕ) → length front ≡ a → take (a + n) (front ++ ys) ≡ front ++ take n ys
after_front front ys a n e = ap (λ k. take (k + n) (front ++ ys)) (sym e) ∙ take-append-add front ys n

-- what stands in front after the part from a on was written
pub take-put_mid_within : (a k n : ℕ) (xs ys : List ℕ) → a ≤ length xs → n ≤ length ys
    → take (a + n) (put_mid a k xs ys) ≡ take a xs ++ take n ys
take-put_mid_within a k n xs ys within fits =
    sym (take-take (a + n) (a + length ys) (put_mid a k xs ys) (omega (arith, fits)))
    ∙ ap (take (a + n)) (take-put_mid a k xs ys (a + length ys) refl within)
    ∙ after_front (take a xs) ys a n (length-take-le a xs within)

pub after_part : (a k n : ℕ) (xs ys : List ℕ) → a ≤ length xs → n ≤ length ys
    → drop (a + n) (put_mid a k xs ys) ≡ drop n ys ++ post_of a k xs
after_part a k n xs ys within fits =
    sym (drop-drop n a (put_mid a k xs ys))
    ∙ ap (drop n) (drop_at (take a xs) (ys ++ post_of a k xs) a (length-take-le a xs within))
    ∙ drop-append-le n ys (post_of a k xs) fits

-- what stands behind it
pub drop-put_mid_within : (a k n : ℕ) (xs ys : List ℕ) → a ≤ length xs → n ≤ length ys
    → length ys ≡ length (mid_of a k xs) → drop n ys ≡ drop n (mid_of a k xs)
    → drop (a + n) (put_mid a k xs ys) ≡ drop (a + n) xs
drop-put_mid_within a k n xs ys within fits long same =
    after_part a k n xs ys within fits
    ∙ ap (λ zs. zs ++ post_of a k xs) same
    ∙ sym (after_part a k n xs (mid_of a k xs) within (omega (arith, fits, long)))
    ∙ ap (drop (a + n)) (put_same a k xs)

-- the same places of two lists, further on
pub drop-further : (a n : ℕ) (xs ys : List ℕ) → drop a xs ≡ drop a ys → drop (a + n) xs ≡ drop (a + n) ys
drop-further a n xs ys same = sym (drop-drop n a xs) ∙ ap (drop n) same ∙ drop-drop n a ys
