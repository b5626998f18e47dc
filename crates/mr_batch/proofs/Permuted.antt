-- Changes of records in another order: what may be made of one list may be made of each other order
-- of it, and leaves the same in some order. So trees that change as the records do follow them.
use Rattle.std.proofs.Common.{◌≡◌, ℕ, zero, suc, ◌<◌, Bool, true, false, cond, not, eqb, ltb, ◌&&◌, List, [], ◌∷◌, length, get_or, set, swap, filter, Option, Some, None, refl, sym, ap, subst, ◌∙◌, arith, ◌++◌}
use Rattle.std.specs.Prelude.{◌≢◌, All}
use Rattle.std.specs.List.Sorted.{IsPermutation}
use Rattle.std.proofs.lemmas.Bool.{eqb-true}
use Rattle.std.proofs.lemmas.List.Elements.{All-cons}
use Rattle.std.proofs.lemmas.List.Kept.{AllPairs-cons}
use Rattle.std.proofs.lemmas.List.Sorted.{IsPermutation-refl, IsPermutation-cons, IsPermutation-keeps, IsPermutation-trans, IsPermutation-append_left, IsPermutation-append_comm, IsPermutation-to_front, All-permutation, list_any-IsPermutation, length_permutation}
use Rattle.mr_record.specs.declared.record.Record.{Record}
use Rattle.mr_record.specs.RecordText.{has_number}
use Rattle.mr_tree.specs.Limits.{count_limit}
use Rattle.mr_batch.specs.declared.change.Change.{Change}
use Rattle.mr_batch.specs.declared.change.Change.TheVariants.{Add, Remove}
use Rattle.mr_batch.proofs.Numbered.{Apart, apart_head, apart_tail}
use Rattle.mr_batch.proofs.Walking.{without-here, without-absent}
use Rattle.mr_batch.specs.Directory.{rect_in}
use Rattle.mr_batch.specs.Applied.{without, may_make, made, applied}

-- ---- some of a list in another order

-- a relation of lists that goes under a head, over an exchange of two heads and from step to step holds along each
-- permutation
module _ {X : Type 0} (R : List X → List X → Type 0) (same : (xs : List X) → R xs xs)
    (skip : (x : X) (xs ys : List X) → R xs ys → R (x ∷ xs) (x ∷ ys))
    (turn : (x y : X) (xs : List X) → R (x ∷ y ∷ xs) (y ∷ x ∷ xs))
    (chain : (xs ys zs : List X) → R xs ys → R ys zs → R xs zs) where
  to_head : (l : List X) (j : ℕ) (x d : X) → j < length l → R (x ∷ l) (get_or l j d ∷ set l j x)
  to_head [] j x d low = absurd (omega arith)
  to_head (y ∷ l) zero x d low = turn x y l
  to_head (y ∷ l) (suc j) x d low =
      chain _ _ _ (turn x y l)
      (chain _ _ _ (skip y _ _ (to_head l j x d (omega arith))) (turn y (get_or l j d) (set l j x)))

  exchanged : (l : List X) (i j : ℕ) (d : X) → i < length l → j < length l →
      R l (set (set l i (get_or l j d)) j (get_or l i d))
  exchanged [] i j d p q = absurd (omega arith)
  exchanged (x ∷ l) zero zero d p q = same (x ∷ l)
  exchanged (x ∷ l) zero (suc j) d p q = to_head l j x d (omega arith)
  exchanged (x ∷ l) (suc i) zero d p q = to_head l i x d (omega arith)
  exchanged (x ∷ l) (suc i) (suc j) d p q = skip x _ _ (exchanged l i j d (omega arith) (omega arith))

  swapped : (l : List X) (i j : ℕ) → i < length l → j < length l → R l (swap l i j)
  swapped [] i j p q = same []
  swapped (x ∷ l) i j p q = exchanged (x ∷ l) i j x p q

  along_permutation : (xs ys : List X) → IsPermutation xs ys → R xs ys
  along_permutation xs = IsPermutation-keeps xs (R xs) (same xs) (λ l i j p q h. chain xs l _ h (swapped l i j p q))

keep_first : {X : Type 0} (b : Bool) (x : X) (xs ys : List X) → IsPermutation xs ys →
    IsPermutation (cond b (x ∷ xs) xs) (cond b (x ∷ ys) ys)
keep_first true x xs ys p = IsPermutation-cons x xs ys p
keep_first false x xs ys p = p

keep_both : {X : Type 0} (a b : Bool) (x y : X) (xs : List X) →
    IsPermutation (cond a (x ∷ cond b (y ∷ xs) xs) (cond b (y ∷ xs) xs))
    (cond b (y ∷ cond a (x ∷ xs) xs) (cond a (x ∷ xs) xs))
keep_both true true x y xs =
    IsPermutation-append_left xs (x ∷ y ∷ []) (y ∷ x ∷ []) (IsPermutation-append_comm (x ∷ []) (y ∷ []))
keep_both true false x y xs = IsPermutation-refl (x ∷ xs)
keep_both false true x y xs = IsPermutation-refl (y ∷ xs)
keep_both false false x y xs = IsPermutation-refl xs

filter_permuted : {X : Type 0} (p : X → Bool) (xs ys : List X) → IsPermutation xs ys →
    IsPermutation (filter p xs) (filter p ys)
filter_permuted {X} p =
    along_permutation (λ xs ys. IsPermutation (filter p xs) (filter p ys)) (λ xs. IsPermutation-refl (filter p xs))
    (λ x xs ys h. keep_first (p x) x (filter p xs) (filter p ys) h)
    (λ x y xs. keep_both (p x) (p y) x y (filter p xs))
    (λ xs ys zs h k. IsPermutation-trans (filter p xs) (filter p ys) (filter p zs) h k)

-- ---- changes of records in another order

pub made_permuted : (xs ys : List Record) (c : Change) → IsPermutation xs ys → IsPermutation (made xs c) (made ys c)
made_permuted xs ys (Add r) p = IsPermutation-append_left (r ∷ []) xs ys p
made_permuted xs ys (Remove n) p = filter_permuted (λ r. not (eqb r.number n)) xs ys p

pub may_make_permuted : (xs ys : List Record) (c : Change) → IsPermutation xs ys → may_make xs c ≡ may_make ys c
may_make_permuted xs ys (Add r) p =
    let there : has_number r.number xs ≡ has_number r.number ys = list_any-IsPermutation (λ s. eqb s.number r.number) xs
    ys p in
    let many : length ys ≡ length xs = length_permutation xs ys p in
    λ j. not (there j) && ltb ((sym many) j) count_limit
may_make_permuted xs ys (Remove n) p = list_any-IsPermutation (λ s. eqb s.number n) xs ys p

-- ---- an addition and a removal as the old records and the one

head_differs : (r : Record) (rs : List Record) → Apart (r ∷ rs) → All (λ (s : Record). r.number ≢ s.number) rs
head_differs r rs apart k d low = apart 0 (suc k) d (omega arith) (omega arith)

record ApartToo (xs ys : List Record) : Type 0 where
  mixed : IsPermutation xs ys
  apart : Apart xs → Apart ys

apart_skip : (r : Record) (xs ys : List Record) → ApartToo xs ys → ApartToo (r ∷ xs) (r ∷ ys)
apart_skip r xs ys too = record {
  mixed = IsPermutation-cons r xs ys too.mixed;
  apart = λ all.
      AllPairs-cons (λ a b. a.number ≢ b.number) r ys
      (All-permutation (λ (s : Record). r.number ≢ s.number) xs ys too.mixed (head_differs r xs all))
      (too.apart (apart_tail r xs all));
}

apart_turn : (r s : Record) (xs : List Record) → ApartToo (r ∷ s ∷ xs) (s ∷ r ∷ xs)
apart_turn r s xs = record {
  mixed = IsPermutation-append_left xs (r ∷ s ∷ []) (s ∷ r ∷ []) (IsPermutation-append_comm (r ∷ []) (s ∷ []));
  apart = λ all.
      let of_r = head_differs r (s ∷ xs) all in
      let tail : Apart (s ∷ xs) = apart_tail r (s ∷ xs) all in
      let R : Record → Record → Type 0 = λ a b. a.number ≢ b.number in
      AllPairs-cons R s (r ∷ xs)
      (All-cons (R s) r xs (λ e. of_r 0 s (omega arith) (sym e)) (head_differs s xs tail))
      (AllPairs-cons R r xs (λ k d low. of_r (suc k) d (omega arith)) (apart_tail s xs tail));
}

apart_chain : (xs ys zs : List Record) → ApartToo xs ys → ApartToo ys zs → ApartToo xs zs
apart_chain xs ys zs a b =
    record { mixed = IsPermutation-trans xs ys zs a.mixed b.mixed; apart = λ all. b.apart (a.apart all) }

pub apart_permuted : (xs ys : List Record) → IsPermutation xs ys → Apart xs → Apart ys
apart_permuted xs ys p =
    (along_permutation ApartToo (λ zs. record { mixed = IsPermutation-refl zs; apart = λ all. all }) apart_skip
    apart_turn apart_chain xs ys p).apart

-- the rectangle of each number is the same
record RectsToo (xs ys : List Record) : Type 0 where
  too : ApartToo xs ys
  rects : Apart xs → (n : ℕ) → rect_in xs n ≡ rect_in ys n

rects_turn : (r s : Record) (xs : List Record) (n : ℕ) (a b : Bool) → eqb r.number n ≡ a → eqb s.number n ≡ b →
    r.number ≢ s.number → cond a (Some r.rect) (cond b (Some s.rect) (rect_in xs n))
    ≡ cond b (Some s.rect) (cond a (Some r.rect) (rect_in xs n))
rects_turn r s xs n true true p q other = absurd (other (eqb-true r.number n p ∙ sym (eqb-true s.number n q)))
rects_turn r s xs n true false p q other = refl
rects_turn r s xs n false true p q other = refl
rects_turn r s xs n false false p q other = refl

pub rects_permuted : (xs ys : List Record) → IsPermutation xs ys → Apart xs → (n : ℕ) → rect_in xs n ≡ rect_in ys n
rects_permuted xs ys p =
    (along_permutation RectsToo
    (λ zs. record { too = record { mixed = IsPermutation-refl zs; apart = λ all. all }; rects = λ all n. refl })
    (λ r us vs h. record {
      too = apart_skip r us vs h.too;
      rects = λ all n. ap (cond (eqb r.number n) (Some r.rect)) (h.rects (apart_tail r us all) n);
    })
    (λ r s zs. record {
      too = apart_turn r s zs;
      rects = λ all n.
          rects_turn r s zs n (eqb r.number n) (eqb s.number n) refl refl
          (head_differs r (s ∷ zs) all 0 s (omega arith));
    })
    (λ us vs ws h k. record {
      too = apart_chain us vs ws h.too k.too;
      rects = λ all n. h.rects all n ∙ k.rects (h.too.apart all) n;
    }) xs ys p).rects

-- new has the old records and r
pub addition_leaves : (old new : List Record) (r : Record) → IsPermutation (r ∷ old) new →
    IsPermutation (made old (Add r)) new
addition_leaves old new r p =
    IsPermutation-trans (old ++ r ∷ []) (r ∷ old) new (IsPermutation-to_front old r) p

-- new has the old records but r
pub removal_leaves : (old new : List Record) (r : Record) → Apart old → IsPermutation old (r ∷ new) →
    IsPermutation (made old (Remove r.number)) new
removal_leaves old new r apart p =
    let all : Apart (r ∷ new) = apart_permuted old (r ∷ new) p apart in
    subst (IsPermutation (without r.number old))
    (without-here r.number r new refl ∙ without-absent r.number new (apart_head r new all))
    (filter_permuted (λ s. not (eqb s.number r.number)) old (r ∷ new) p)

-- ---- changes one after the other

-- both lists can be changed, and leave the same in some order
pub record BothApply (xs ys : List Record) (cs : List Change) (out : List Record) : Type 0 where
  pub other : List Record
  pub applies : applied ys cs ≡ Some other
  pub same : IsPermutation out other

pub made_then : (b : Bool) (o : Option (List Record)) (out : List Record) → cond b o None ≡ Some out →
    (b ≡ true) × (o ≡ Some out)
made_then true o out e = (refl, e)
made_then false o out e = absurd cc

pub some_same : (xs ys : List Record) → ◌≡◌ {A = Option (List Record)} (Some xs) (Some ys) → xs ≡ ys
some_same xs ys e = cc

pub applied_permuted : (xs ys : List Record) (cs : List Change) (out : List Record) → IsPermutation xs ys →
    applied xs cs ≡ Some out → BothApply xs ys cs out
unfolding applied
applied_permuted xs ys [] out p e =
    record { other = ys; applies = refl; same = subst (λ o. IsPermutation o ys) (some_same xs out e) p }
applied_permuted xs ys (c ∷ cs) out p e =
    let first = made_then (may_make xs c) (applied (made xs c) cs) out e in
    let may : may_make ys c ≡ true = sym (may_make_permuted xs ys c p) ∙ first.0 in
    let rest = applied_permuted (made xs c) (made ys c) cs out (made_permuted xs ys c p) first.1 in
    record { other = rest.other; applies = rw may rest.applies; same = rest.same }

-- ---- what changes as its records do

module _ {T : Type 0} (records : T → List Record) (Holds : T → Type 0) (changed : T → Change → T)
    (follows : (t : T) (c : Change) → Holds t → may_make (records t) c ≡ true →
    Holds (changed t c) × IsPermutation (made (records t) c) (records (changed t c))) where
  abbrev pub changed_all : T → List Change → T
  changed_all t [] = t
  changed_all t (c ∷ cs) = changed_all (changed t c) cs

  -- the next change may be made, and the others after it
  pub next_change : (t : T) (c : Change) (cs : List Change) (out : List Record) → Holds t →
      applied (records t) (c ∷ cs) ≡ Some out →
      (may_make (records t) c ≡ true) × Holds (changed t c) × BothApply (made (records t) c) (records (changed t c))
      cs out
  unfolding applied
  next_change t c cs out holds e =
      let first = made_then (may_make (records t) c) (applied (made (records t) c) cs) out e in
      let step = follows t c holds first.0 in
      (first.0, step.0, applied_permuted (made (records t) c) (records (changed t c)) cs out step.1 first.1)

  -- all changes leave what the records are changed into, in some order
  pub all_changes : (t : T) (cs : List Change) (out : List Record) → Holds t → applied (records t) cs ≡ Some out →
      Holds (changed_all t cs) × IsPermutation out (records (changed_all t cs))
  unfolding applied
  all_changes t [] out holds e =
      (holds, subst (λ o. IsPermutation o (records t)) (some_same (records t) out e) (IsPermutation-refl (records t)))
  all_changes t (c ∷ cs) out holds e =
      let next = next_change t c cs out holds e in
      let both = next.2 in
      let rest = all_changes (changed t c) cs both.other next.1 both.applies in
      (rest.0, IsPermutation-trans out both.other (records (changed_all (changed t c) cs)) both.same rest.1)
