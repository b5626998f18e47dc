-- A query's word is read as that query, and what is read is written so.
use Rattle.std.proofs.Common.{◌≡◌, ℕ, suc, ◌+◌, ◌^◌, ◌<◌, ◌≤◌, ℤ, Bool, true, false, cond, eqb, leb, ltb, ◌&&◌, List, [], ◌∷◌, ◌++◌, length, get_or, take, drop, Option, Some, None, Result, Ok, Err, refl, sym, ap, subst, ◌∙◌, ◌⊎◌, inl, inr, arith}
use Rattle.std.specs.Prelude.{pos, negsuc, not, IfOk, IfSome, ok_or, option_and_then, FitsSigned, decimal, bytes_eq, position}
use Rattle.std.specs.Char.{is_ascii_digit}
use Rattle.std.specs.List.{join_with_byte, list_all, position_or_len}
use Rattle.std.specs.Int.{w32, w64, to_be_bytes}
use Rattle.std.specs.Fmt.{signed_decimal}
use Rattle.std.proofs.Math.Seq.{take-append_seam, drop-append-add}
use Rattle.std.proofs.lemmas.Bool.{and_parts, leb-true, le-leb, lt-ltb, eqb-true, ne_eqb}
use Rattle.std.proofs.lemmas.List.{append-nil, take-append-drop, drop_more, length-append, get_or_at, get_or_append_left}
use Rattle.std.proofs.lemmas.List.Elements.{All-append, All-cons, All-weaker}
use Rattle.std.proofs.lemmas.List.Quantifiers.{position-Some}
use Rattle.std.proofs.lemmas.List.Sums.{AllPass-from_list_all, position_or_len_is}
use Rattle.std.proofs.lemmas.List.Splits.{slice_split_at, slice_split_none, join_with_byte-slice_split}
use Rattle.std.proofs.lemmas.Slice.Eq.{bytes_eq-Decides}
use Rattle.hex.specs.Hex.{encode_lower}
use Rattle.mr_geom.specs.declared.point.Point.{Point}
use Rattle.mr_geom.specs.Rectangle.{Rectangle, FitsMap, rectangle_of}
use Rattle.mr_geom.proofs.Rectangles.{rectangle_of_some, true_from_T}
use Rattle.mr_record.specs.Decimal.{i32_of, u64_of}
use Rattle.mr_record.specs.Lines.{LacksByte, IsCutAt}
use Rattle.mr_record.specs.Results.{◌>>=◌}
use Rattle.mr_record.proofs.Results.{bind_ok}
use Rattle.mr_query.specs.declared.query.Query.{Query}
use Rattle.mr_query.specs.declared.query.Shape.{Shape}
use Rattle.mr_query.specs.declared.query.Shape.TheVariants.{Window, Nearest}
use Rattle.mr_query.specs.declared.query.QueryFault.{QueryFault}
use Rattle.mr_query.specs.declared.query.QueryFault.TheVariants as faults
use Rattle.mr_query.specs.Word.{comma_parts, number_of, window_of, window_of_parts, neighbour_limit, if_askable, count_in_word, point_at, nearest_of, nearest_of_parts, window_word, nearest_word, nearest_shape_of, shape_of, mask_of_text, asks, unmasked_query, masked_query, query_cut, query_of, FitsPoint, IsShape, IsQuery, shape_word, mask_word, word_of}
use Rattle.mr_record.proofs.RecordLines.{IsInk, decimal_ink, signed_ink}
use Rattle.mr_record.proofs.Decimals.{is_canonical-decimal, are_digits-canonical, u64_of-written, u64_of-decimal, i32_of-written, i32_of-signed}
use Rattle.mr_query.proofs.MaskWords.{mask_written, mask_read}

abbrev Read : Type 0
Read = Result Shape QueryFault

-- ---- what is read is written so

number_from : (o : Option ℤ) (f : QueryFault) (z : ℤ) → ok_or o f ≡ Ok z → o ≡ Some z
number_from (Some y) f z e = cc
number_from None f z e = absurd cc

number_written : (part : ℕ) (text : List ℕ) (z : ℤ) → number_of part text ≡ Ok z →
    (text ≡ signed_decimal z) × FitsSigned w32 z
number_written part text z e =
    let w = i32_of-written text in let is = number_from (i32_of text) (faults.Number part) z e in rw is at w

abbrev read_as : Shape → Read
read_as q = Ok q

same_shape : (p q : Shape) → read_as p ≡ read_as q → p ≡ q
same_shape p q e = cc

rectangle_from : (o : Option Rectangle) (r : Rectangle) → ok_or o faults.Order ≡ Ok r → o ≡ Some r
rectangle_from (Some s) r e = cc
rectangle_from None r e = absurd cc

-- the parts of a shape's word
abbrev spelled : Shape → List (List ℕ)
spelled (Window w) = signed_decimal w.x0 ∷ signed_decimal w.y0 ∷ signed_decimal w.x1 ∷ signed_decimal w.y1 ∷ []
spelled (Nearest p k) = signed_decimal p.x ∷ signed_decimal p.y ∷ decimal k ∷ []

-- the shape is a window whose parts are these
abbrev IsWindowOf : List (List ℕ) → Shape → Type 0
IsWindowOf parts q = (w : Rectangle) × (q ≡ Window w) × IsShape (Window w) × (parts ≡ spelled (Window w))

window_made : (a b c d : List ℕ) (x0 y0 x1 y1 : ℤ) (w : Rectangle) (q : Shape) →
    number_of 1 a ≡ Ok x0 → number_of 2 b ≡ Ok y0 → number_of 3 c ≡ Ok x1 → number_of 4 d ≡ Ok y1 →
    rectangle_of x0 y0 x1 y1 ≡ Some w → read_as (Window w) ≡ read_as q → IsWindowOf (a ∷ b ∷ c ∷ d ∷ []) q
window_made a b c d x0 y0 x1 y1 w q ea eb ec ed ew e =
    let whole = rectangle_of_some x0 y0 x1 y1 w ew in
    let left = number_written 1 a x0 ea in
    let low = number_written 2 b y0 eb in
    let right = number_written 3 c x1 ec in
    let high = number_written 4 d y1 ed in
    let made : Rectangle = record { x0 = x0; y0 = y0; x1 = x1; y1 = y1 } in
    let fits : FitsMap made = record { x0 = left.1; y0 = low.1; x1 = right.1; y1 = high.1 } in
    let same : Window made ≡ q = ap Window whole.1 ∙ same_shape (Window w) q e in
    (made, sym same, (whole.0, fits), λ i. left.0 i ∷ low.0 i ∷ right.0 i ∷ high.0 i ∷ [])

window_written : (a b c d : List ℕ) (q : Shape) → window_of a b c d ≡ Ok q → IsWindowOf (a ∷ b ∷ c ∷ d ∷ []) q
unfolding window_of
window_written a b c d q e =
    let made = λ (x0 y0 x1 y1 : ℤ). ok_or (rectangle_of x0 y0 x1 y1) faults.Order >>= λ w. read_as (Window w) in
    let x0 = bind_ok (number_of 1 a)
    (λ x0. number_of 2 b >>= λ y0. number_of 3 c >>= λ x1. number_of 4 d >>= λ y1. made x0 y0 x1 y1) q e in
    let y0 = bind_ok (number_of 2 b) (λ y0. number_of 3 c >>= λ x1. number_of 4 d >>= λ y1. made x0.0 y0 x1 y1) q x0.2
    in
    let x1 = bind_ok (number_of 3 c) (λ x1. number_of 4 d >>= λ y1. made x0.0 y0.0 x1 y1) q y0.2 in
    let y1 = bind_ok (number_of 4 d) (λ y1. made x0.0 y0.0 x1.0 y1) q x1.2 in
    let found = bind_ok (ok_or (rectangle_of x0.0 y0.0 x1.0 y1.0) faults.Order) (λ w. read_as (Window w)) q y1.2 in
    window_made a b c d x0.0 y0.0 x1.0 y1.0 found.0 q x0.1 y0.1 x1.1 y1.1
    (rectangle_from (rectangle_of x0.0 y0.0 x1.0 y1.0) found.0 found.1) found.2

window_parts_written : (parts : List (List ℕ)) (q : Shape) → window_of_parts parts ≡ Ok q → IsWindowOf parts q
unfolding window_of_parts
window_parts_written (a ∷ b ∷ c ∷ d ∷ []) q e = window_written a b c d q e
window_parts_written _ q e = absurd cc

-- ---- of nearest records

counted : (k : ℕ) (b : Bool) (n : ℕ) → cond b (Some k) None ≡ Some n → (b ≡ true) × (k ≡ n)
counted k true n e = (refl, cc)
counted k false n e = absurd cc

count_in_range : (k n : ℕ) → if_askable k ≡ Some n → (k ≡ n) × (1 ≤ n) × (n ≤ neighbour_limit)
count_in_range k n e =
    let c = counted k (leb 1 k && leb k neighbour_limit) n e in
    let both = and_parts (leb 1 k) (leb k neighbour_limit) c.0 in
    let low : 1 ≤ k = leb-true 1 k both.0 in
    let high : k ≤ neighbour_limit = leb-true k neighbour_limit both.1 in
    let same : k ≡ n = c.1 in
    (same, subst (λ m. 1 ≤ m) same low, subst (λ m. m ≤ neighbour_limit) same high)

count_from : (o : Option ℕ) (f : QueryFault) (n : ℕ) → ok_or o f ≡ Ok n → o ≡ Some n
count_from (Some y) f n e = cc
count_from None f n e = absurd cc

asked_of : (text : List ℕ) (o : Option ℕ) (n : ℕ) → IfSome o (λ m. (text ≡ decimal m) × (m < 2 ^ 64))
    → option_and_then if_askable o ≡ Some n → (text ≡ decimal n) × (1 ≤ n) × (n ≤ neighbour_limit)
asked_of text None n w e = absurd cc
asked_of text (Some m) n w e =
    let r = count_in_range m n e in
    (w.0 ∙ ap decimal r.0, r.1, r.2)

count_written : (part : ℕ) (text : List ℕ) (n : ℕ) → count_in_word part text ≡ Ok n
    → (text ≡ decimal n) × (1 ≤ n) × (n ≤ neighbour_limit)
count_written part text n e =
    asked_of text (u64_of text) n (u64_of-written text)
    (count_from (option_and_then if_askable (u64_of text)) (faults.Number part) n e)

-- the shape is of nearest records and its parts are these
abbrev IsNearestOf : List (List ℕ) → Shape → Type 0
IsNearestOf parts q =
    (p : Point) × (n : ℕ) × (q ≡ Nearest p n) × IsShape (Nearest p n) × (parts ≡ spelled (Nearest p n))

nearest_made : (a b c : List ℕ) (x y : ℤ) (k : ℕ) (q : Shape) → number_of 1 a ≡ Ok x → number_of 2 b ≡ Ok y
    → count_in_word 3 c ≡ Ok k → read_as (Nearest (point_at x y) k) ≡ read_as q
    → IsNearestOf (a ∷ b ∷ c ∷ []) q
nearest_made a b c x y k q ea eb ec e =
    let left = number_written 1 a x ea in
    let low = number_written 2 b y eb in
    let few = count_written 3 c k ec in
    let fits : FitsPoint (point_at x y) = record { x = left.1; y = low.1 } in (
      point_at x y,
      k,
      sym (same_shape (Nearest (point_at x y) k) q e),
      (fits, (few.1, few.2)),
      λ i. left.0 i ∷ low.0 i ∷ few.0 i ∷ [],
    )

nearest_written : (a b c : List ℕ) (q : Shape) → nearest_of a b c ≡ Ok q
    → IsNearestOf (a ∷ b ∷ c ∷ []) q
unfolding nearest_of
nearest_written a b c q e =
    let made = λ (x y : ℤ) (k : ℕ). read_as (Nearest (point_at x y) k) in
    let x = bind_ok (number_of 1 a) (λ x. number_of 2 b >>= λ y. count_in_word 3 c >>= λ k. made x y k) q e in
    let y = bind_ok (number_of 2 b) (λ y. count_in_word 3 c >>= λ k. made x.0 y k) q x.2 in
    let k = bind_ok (count_in_word 3 c) (λ k. made x.0 y.0 k) q y.2 in
    nearest_made a b c x.0 y.0 k.0 q x.1 y.1 k.1 k.2

nearest_parts_written : (parts : List (List ℕ)) (q : Shape) → nearest_of_parts parts ≡ Ok q → IsNearestOf parts q
unfolding nearest_of_parts
nearest_parts_written (a ∷ b ∷ c ∷ []) q e = nearest_written a b c q e
nearest_parts_written _ q e = absurd cc

-- ---- of both

refused : (b : Bool) (r : Read) (q : Shape) → cond b r (Err faults.Kind) ≡ read_as q → (b ≡ true) × (r ≡ Ok q)
refused true r q e = (refl, e)
refused false r q e = absurd cc

chosen : (b : Bool) (r s : Read) (q : Shape) → cond b r s ≡ read_as q
    → ((b ≡ true) × (r ≡ Ok q)) ⊎ ((b ≡ false) × (s ≡ Ok q))
chosen true r s q e = inl (refl, e)
chosen false r s q e = inr (refl, e)

-- a word that begins so, and goes on with these parts
word_with : (n : ℕ) (word name : List ℕ) (parts : List (List ℕ)) → bytes_eq (take n word) name ≡ true
    → comma_parts (drop n word) ≡ parts → word ≡ name ++ join_with_byte 44 parts
word_with n word name parts t e =
    let front : take n word ≡ name = (bytes_eq-Decides (take n word) name).0 t in
    let back : drop n word ≡ join_with_byte 44 parts = sym (join_with_byte-slice_split 44 (drop n word))
    ∙ ap (join_with_byte 44) e in
    sym (take-append-drop n word) ∙ (λ i. front i ++ back i)

window_joined : (w : Rectangle) → window_word ++ join_with_byte 44 (spelled (Window w)) ≡ shape_word (Window w)
unfolding shape_word
window_joined w = refl

nearest_joined : (p : Point) (k : ℕ)
    → nearest_word ++ join_with_byte 44 (spelled (Nearest p k)) ≡ shape_word (Nearest p k)
unfolding shape_word
nearest_joined p k = refl

abbrev IsWrittenShape : List ℕ → Shape → Type 0
IsWrittenShape word s = IsShape s × (word ≡ shape_word s)

shape_written : (word : List ℕ) (q : Shape) → shape_of word ≡ Ok q → IsWrittenShape word q
unfolding shape_of nearest_shape_of
shape_written word q e =
    elim (chosen (bytes_eq (take 7 word) window_word) (window_of_parts (comma_parts (drop 7 word)))
    (cond (bytes_eq (take 8 word) nearest_word) (nearest_of_parts (comma_parts (drop 8 word))) (Err faults.Kind)) q e) [
      | inl c ↦
          let w = window_parts_written (comma_parts (drop 7 word)) q c.1 in
          subst (IsWrittenShape word) (sym w.1)
          (w.2, word_with 7 word window_word (spelled (Window w.0)) c.0 w.3 ∙ window_joined w.0)
      | inr c ↦
          let d = refused (bytes_eq (take 8 word) nearest_word) (nearest_of_parts (comma_parts (drop 8 word))) q c.1 in
          let w = nearest_parts_written (comma_parts (drop 8 word)) q d.1 in
          subst (IsWrittenShape word) (sym w.2)
          (w.3, word_with 8 word nearest_word (spelled (Nearest w.0 w.1)) d.0 w.4 ∙ nearest_joined w.0 w.1)
    ]

-- ---- of a query

abbrev ask_as : Query → Result Query QueryFault
ask_as q = Ok q

same_query : (p q : Query) → ask_as p ≡ ask_as q → p ≡ q
same_query p q e = cc

mask_from : (o : Option ℕ) (m : ℕ) → ok_or o faults.Mask ≡ Ok m → o ≡ Some m
mask_from (Some n) m e = cc
mask_from None m e = absurd cc

abbrev IsWritten : List ℕ → Query → Type 0
IsWritten word q = IsQuery q × (word ≡ word_of q)

unmasked_written : (word : List ℕ) (q : Query) → unmasked_query word ≡ Ok q → IsWritten word q
unfolding unmasked_query
unmasked_written word q e =
    let s = bind_ok (shape_of word) (λ shape. ask_as (asks shape None)) q e in
    let w = shape_written word s.0 s.1 in
    subst (IsWritten word) (same_query (asks s.0 None) q s.2)
    (record { shape = w.0; mask = tt }, w.1 ∙ sym (append-nil (shape_word s.0)))

masked_written : (word text named : List ℕ) (q : Query) → word ≡ text ++ 47 ∷ named → masked_query text named ≡ Ok q
    → IsWritten word q
unfolding masked_query
masked_written word text named q is e =
    let s = bind_ok (shape_of text)
    (λ shape. ok_or (mask_of_text named) faults.Mask >>= λ mask. ask_as (asks shape (Some mask))) q e in
    let m = bind_ok (ok_or (mask_of_text named) faults.Mask) (λ mask. ask_as (asks s.0 (Some mask))) q s.2 in
    let w = shape_written text s.0 s.1 in
    let n = mask_written named m.0 (mask_from (mask_of_text named) m.0 m.1) in
    subst (IsWritten word) (same_query (asks s.0 (Some m.0)) q m.2)
    (record { shape = w.0; mask = n.1 }, is ∙ (λ i. w.1 i ++ 47 ∷ n.0 i))

-- the place of the first `/`
abbrev slash_place : List ℕ → Option ℕ
slash_place word = position (λ b. eqb b 47) word

cut_there : (word : List ℕ) (at : ℕ) → slash_place word ≡ Some at → word ≡ take at word ++ 47 ∷ drop (at + 1) word
cut_there word at e =
    let found = position-Some (λ b. eqb b 47) word at 0 e in
    let here : get_or word at 0 ≡ 47 = eqb-true _ _ found.1 in
    let more : drop at word ≡ get_or word at 0 ∷ drop (at + 1) word = drop_more word at 0 found.0 in
    let rest : drop at word ≡ 47 ∷ drop (at + 1) word = more ∙ ap (λ (b : ℕ). b ∷ drop (at + 1) word) here in
    sym (take-append-drop at word) ∙ ap (λ (r : List ℕ). take at word ++ r) rest

cut_written : (word : List ℕ) (q : Query) (place : Option ℕ) → slash_place word ≡ place → query_cut word place ≡ Ok q
    → IsWritten word q
cut_written word q None there e = unmasked_written word q e
cut_written word q (Some at) there e =
    masked_written word (take at word) (drop (at + 1) word) q (cut_there word at there) e

pub query_written : (word : List ℕ) (q : Query) → query_of word ≡ Ok q → IsQuery q × (word ≡ word_of q)
unfolding query_of
query_written word q e = cut_written word q (slash_place word) refl e

pub result_written : (word : List ℕ) (answer : Result Query QueryFault) → answer ≡ query_of word →
    IfOk answer (λ q. IsQuery q × (word ≡ word_of q))
result_written word (Ok q) e = query_written word q (sym e)
result_written word (Err f) e = tt

-- ---- what is written is read again

lacks_comma : (text : List ℕ) → IsInk text → LacksByte 44 text
lacks_comma text ink k d at = let low = ink k d at in ne_eqb (get_or text k d) 44 (λ e. omega arith)

part_split : (front rest : List ℕ) → IsInk front → comma_parts (front ++ 44 ∷ rest) ≡ front ∷ comma_parts rest
part_split front rest ink = slice_split_at (λ b. eqb b 44) front 44 rest (lacks_comma front ink) refl

spelled_parts : (w : Rectangle) → FitsMap w →
    comma_parts (signed_decimal w.x0 ++ 44 ∷
    (signed_decimal w.y0 ++ 44 ∷ (signed_decimal w.x1 ++ 44 ∷ signed_decimal w.y1))) ≡ spelled (Window w)
spelled_parts w fits =
    let x0 = signed_decimal w.x0 in
    let y0 = signed_decimal w.y0 in
    let x1 = signed_decimal w.x1 in
    let y1 = signed_decimal w.y1 in
    part_split x0 (y0 ++ 44 ∷ (x1 ++ 44 ∷ y1)) (signed_ink w.x0 fits.x0)
    ∙ ap (λ (t : List (List ℕ)). x0 ∷ t) (part_split y0 (x1 ++ 44 ∷ y1) (signed_ink w.y0 fits.y0))
    ∙ ap (λ (t : List (List ℕ)). x0 ∷ y0 ∷ t) (part_split x1 y1 (signed_ink w.x1 fits.x1))
    ∙ ap (λ (t : List (List ℕ)). x0 ∷ y0 ∷ x1 ∷ t)
    (slice_split_none (λ b. eqb b 44) y1 (lacks_comma y1 (signed_ink w.y1 fits.y1)))

spelled_read : (w : Rectangle) → IsShape (Window w) → window_of_parts (spelled (Window w)) ≡ Ok (Window w)
unfolding window_of_parts window_of
spelled_read w is =
    rw (
      i32_of-signed w.x0 is.1.x0,
      i32_of-signed w.y0 is.1.y0,
      i32_of-signed w.x1 is.1.x1,
      i32_of-signed w.y1 is.1.y1,
      true_from_T _ is.0.x.le,
      true_from_T _ is.0.y.le,
    ) refl

-- ---- nearest records

spelled_three : (p : Point) (k : ℕ) → IsShape (Nearest p k) →
    comma_parts (signed_decimal p.x ++ 44 ∷ (signed_decimal p.y ++ 44 ∷ decimal k)) ≡ spelled (Nearest p k)
spelled_three p k is =
    let x = signed_decimal p.x in
    let y = signed_decimal p.y in
    let n = decimal k in
    let high : k ≤ neighbour_limit = is.1.1 in
    let low : k < 2 ^ 64 = omega arith in
    part_split x (y ++ 44 ∷ n) (signed_ink p.x is.0.x)
    ∙ ap (λ (t : List (List ℕ)). x ∷ t) (part_split y n (signed_ink p.y is.0.y))
    ∙ ap (λ (t : List (List ℕ)). x ∷ y ∷ t)
    (slice_split_none (λ b. eqb b 44) n (lacks_comma n (decimal_ink k low)))

count_read : (part k : ℕ) → 1 ≤ k → k ≤ neighbour_limit → count_in_word part (decimal k) ≡ Ok k
count_read part k some few =
    let low : k < 2 ^ 64 = omega arith in
    rw (u64_of-decimal k low, le-leb 1 k some, le-leb k neighbour_limit few) refl

nearest_spelled_read : (p : Point) (k : ℕ) → IsShape (Nearest p k)
    → nearest_of_parts (spelled (Nearest p k)) ≡ Ok (Nearest p k)
unfolding nearest_of_parts nearest_of
nearest_spelled_read p k is =
    rw (i32_of-signed p.x is.0.x, i32_of-signed p.y is.0.y, count_read 3 k is.1.0 is.1.1) refl

shape_read : (s : Shape) → IsShape s → shape_of (shape_word s) ≡ Ok s
unfolding shape_of nearest_shape_of shape_word
shape_read (Window w) is = ap window_of_parts (spelled_parts w is.1) ∙ spelled_read w is
shape_read (Nearest p k) is = ap nearest_of_parts (spelled_three p k is) ∙ nearest_spelled_read p k is

-- ---- a shape's word has no `/`

digit_no_slash : (b : ℕ) → is_ascii_digit b ≡ true → eqb b 47 ≡ false
digit_no_slash b e =
    let low : 48 ≤ b = leb-true 48 b (and_parts (leb 48 b) (leb b 57) e).0 in ne_eqb b 47 (λ is. omega arith)

lacks_slash : (text : List ℕ) → list_all (λ b. not (eqb b 47)) text ≡ true → LacksByte 47 text
lacks_slash text e =
    All-weaker (λ b. not (eqb b 47) ≡ true) (λ b. eqb b 47 ≡ false) (λ b h. is_false (eqb b 47) h) text
    (AllPass-from_list_all (λ b. not (eqb b 47)) text e)
  where
    is_false : (b : Bool) → not b ≡ true → b ≡ false
    is_false true h = absurd cc
    is_false false h = refl

decimal_lacks : (n : ℕ) → n < 2 ^ 64 → LacksByte 47 (decimal n)
decimal_lacks n low =
    λ k d at. digit_no_slash (get_or (decimal n) k d) (AllPass-from_list_all is_ascii_digit (decimal n)
    (are_digits-canonical (decimal n) (is_canonical-decimal n low)) k d at)

signed_lacks : (z : ℤ) → FitsSigned w32 z → LacksByte 47 (signed_decimal z)
signed_lacks (pos n) fits = decimal_lacks n (omega arith)
signed_lacks (negsuc n) fits =
    All-cons (λ b. eqb b 47 ≡ false) 45 (decimal (suc n)) refl (decimal_lacks (suc n) (omega arith))

part_lacks : (front rest : List ℕ) → LacksByte 47 front → LacksByte 47 rest → LacksByte 47 (front ++ 44 ∷ rest)
part_lacks front rest one other =
    All-append (λ b. eqb b 47 ≡ false) front (44 ∷ rest) one (All-cons (λ b. eqb b 47 ≡ false) 44 rest refl other)

shape_lacks : (s : Shape) → IsShape s → LacksByte 47 (shape_word s)
unfolding shape_word
shape_lacks (Window w) is =
    All-append (λ b. eqb b 47 ≡ false) window_word _ (lacks_slash window_word refl)
    (part_lacks (signed_decimal w.x0) _ (signed_lacks w.x0 is.1.x0)
    (part_lacks (signed_decimal w.y0) _ (signed_lacks w.y0 is.1.y0)
    (part_lacks (signed_decimal w.x1) _ (signed_lacks w.x1 is.1.x1) (signed_lacks w.y1 is.1.y1))))
shape_lacks (Nearest p k) is =
    All-append (λ b. eqb b 47 ≡ false) nearest_word _ (lacks_slash nearest_word refl)
    (part_lacks (signed_decimal p.x) _ (signed_lacks p.x is.0.x)
    (part_lacks (signed_decimal p.y) _ (signed_lacks p.y is.0.y) (decimal_lacks k (omega (arith, is.1.1)))))

-- ---- a word cut at its first `/`

no_slash_place : (word : List ℕ) → LacksByte 47 word → (place : Option ℕ) → slash_place word ≡ place
    → slash_place word ≡ None
no_slash_place word lacks None e = e
no_slash_place word lacks (Some at) e =
    let found = position-Some (λ b. eqb b 47) word at 0 e in
    let yes : eqb (get_or word at 0) 47 ≡ true = found.1 in
    let no : eqb (get_or word at 0) 47 ≡ false = lacks at 0 found.0 in
    absurd cc

pub whole_word : (word : List ℕ) → LacksByte 47 word → query_of word ≡ unmasked_query word
unfolding query_of
whole_word word lacks = ap (query_cut word) (no_slash_place word lacks (slash_place word) refl)

first_place : (front back : List ℕ) → LacksByte 47 front
    → position_or_len (λ b. eqb b 47) (front ++ 47 ∷ back) ≡ length front
first_place front back lacks =
    position_or_len_is (λ b. eqb b 47) (front ++ 47 ∷ back) (length front) 0
    (omega (arith, length-append front (47 ∷ back)))
    (λ k lt. rw (get_or_append_left front (47 ∷ back) 0 k lt) (lacks k 0 lt))
    (λ lt. rw (get_or_at front 47 back 0 (length front) refl) refl)

slash_there : (front back : List ℕ) → LacksByte 47 front → slash_place (front ++ 47 ∷ back) ≡ Some (length front)
slash_there front back lacks =
    let place = first_place front back lacks in
    let within : ltb (length front) (length (front ++ 47 ∷ back)) ≡ true =
    lt-ltb (length front) (length (front ++ 47 ∷ back)) (omega (arith, length-append front (47 ∷ back))) in
    rw (place, within) refl

pub cut_word : (word front back : List ℕ) → IsCutAt 47 word front back → query_of word ≡ masked_query front back
unfolding query_of
cut_word word front back cut =
    rw cut.parts (
    ap (query_cut (front ++ 47 ∷ back)) (slash_there front back cut.first)
    ∙ (λ i. masked_query (take-append_seam front (47 ∷ back) i) (drop-append-add front (47 ∷ back) 1 i))
    )

-- ---- the whole word

unmasked_read : (s : Shape) → IsShape s → query_of (shape_word s ++ []) ≡ Ok (asks s None)
unfolding unmasked_query
unmasked_read s is =
    ap query_of (append-nil (shape_word s)) ∙ whole_word (shape_word s) (shape_lacks s is)
    ∙ (λ i. shape_read s is i >>= λ shape. ask_as (asks shape None))

masked_read : (s : Shape) (m : ℕ) → IsShape s → m < 2 ^ 64
    → query_of (shape_word s ++ mask_word (Some m)) ≡ Ok (asks s (Some m))
unfolding masked_query
masked_read s m is low =
    cut_word (shape_word s ++ mask_word (Some m)) (shape_word s) (encode_lower (to_be_bytes w64 m))
    (record { parts = refl; first = shape_lacks s is })
    ∙ (λ i. shape_read s is i >>= λ shape. ok_or (mask_read m low i) faults.Mask >>= λ mask.
    ask_as (asks shape (Some mask)))

read_with : (s : Shape) (mask : Option ℕ) → IsShape s → IfSome mask (λ m. m < 2 ^ 64)
    → query_of (shape_word s ++ mask_word mask) ≡ Ok (asks s mask)
read_with s None is low = unmasked_read s is
read_with s (Some m) is low = masked_read s m is low

pub query_read : (q : Query) → IsQuery q → query_of (word_of q) ≡ Ok q
query_read q is = read_with q.shape q.mask is.shape is.mask
