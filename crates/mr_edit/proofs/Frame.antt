-- What entries stand for stays while the pages of their trees stay.
use Rattle.std.proofs.Common.{◌≡◌, Bool, true, false, ℕ, suc, ◌+◌, ◌<◌, List, [], ◌∷◌, ◌++◌, refl, sym, ap, subst, ◌∙◌, arith}
use Rattle.std.specs.Prelude.{◌==◌, if◌then◌else◌}
use Rattle.std.proofs.lemmas.Bool.{eq-eqb}
use Rattle.mr_tree.specs.Digest.{Scheme}
use Rattle.mr_tree.specs.declared.child.Child.{Child}
use Rattle.mr_pages.specs.Stands.{Placed, Row, Leaf, Inner, no_more, first, pages_of, all_pages, IsWritten, AreWritten, IsChain}
use Rattle.mr_edit.specs.PageMap.{PageContent, PageMap, HasNode, HasFree, Agree, count_in}
use Rattle.mr_edit.specs.Held.{NameTrees, pages}

counted : (b : Bool) (n m k : ℕ) → n ≡ m + k → (if b then suc n else n) ≡ (if b then suc m else m) + k
counted true n m k e = omega (arith, e)
counted false n m k e = e

pub count_in-append : (q : ℕ) (xs ys : List ℕ) → count_in q (xs ++ ys) ≡ count_in q xs + count_in q ys
count_in-append q [] ys = omega arith
count_in-append q (x ∷ xs) ys = counted (x == q) (count_in q (xs ++ ys)) (count_in q xs) (count_in q ys)
    (count_in-append q xs ys)

pub times_first : (q : ℕ) (xs : List ℕ) → 0 < count_in q (q ∷ xs)
times_first q xs = subst (λ b. 0 < (if b then suc (count_in q xs) else count_in q xs)) (sym (eq-eqb q q refl))
    (omega arith)

pub times_rest : (q x : ℕ) (xs : List ℕ) → 0 < count_in q xs → 0 < count_in q (x ∷ xs)
times_rest q x xs some = at (x == q)
  where
    at : (b : Bool) → 0 < (if b then suc (count_in q xs) else count_in q xs)
    at true = omega arith
    at false = some

pub fewer_agree : (a b : PageMap) (xs ys : List ℕ) → ((q : ℕ) → 0 < count_in q xs → 0 < count_in q ys) → Agree a b ys →
    Agree a b xs
fewer_agree a b xs ys among agree = λ q some. agree q (among q some)

pub agree_left : (a b : PageMap) (xs ys : List ℕ) → Agree a b (xs ++ ys) → Agree a b xs
agree_left a b xs ys agree = λ q some. agree q (omega (arith, some, count_in-append q xs ys))

pub agree_right : (a b : PageMap) (xs ys : List ℕ) → Agree a b (xs ++ ys) → Agree a b ys
agree_right a b xs ys agree = λ q some. agree q (omega (arith, some, count_in-append q xs ys))

pub agree_rest : (a b : PageMap) (x : ℕ) (xs : List ℕ) → Agree a b (x ∷ xs) → Agree a b xs
agree_rest a b x xs agree = λ q some. agree q (times_rest q x xs some)

node_kept : (a b : PageMap) (x : ℕ) (xs : List ℕ) → Agree a b (x ∷ xs) → (b.content x).node ≡ (a.content x).node
node_kept a b x xs agree = ap (λ (s : PageContent). s.node) (agree x (times_first x xs))

free_kept : (a b : PageMap) (x : ℕ) (xs : List ℕ) → Agree a b (x ∷ xs) → (b.content x).free ≡ (a.content x).free
free_kept a b x xs agree = ap (λ (s : PageContent). s.free) (agree x (times_first x xs))

mutual
  pub frame : (scheme : Scheme) (a b : PageMap) (P : Placed) → Agree a b (pages_of P) → IsWritten scheme (HasNode a) P →
      IsWritten scheme (HasNode b) P
  frame scheme a b (Leaf p rs) agree w = node_kept a b p [] agree ∙ w
  frame scheme a b (Inner p Ps) agree w = (
    node_kept a b p (all_pages Ps) agree ∙ w.0,
    frame_row scheme a b Ps (agree_rest a b p (all_pages Ps) agree) w.1,
  )

  pub frame_row : (scheme : Scheme) (a b : PageMap) (Ps : Row) → Agree a b (all_pages Ps) →
      AreWritten scheme (HasNode a) Ps → AreWritten scheme (HasNode b) Ps
  frame_row scheme a b no_more agree w = tt
  frame_row scheme a b (first P Ps) agree w = (
    frame scheme a b P (agree_left a b (pages_of P) (all_pages Ps) agree) w.0,
    frame_row scheme a b Ps (agree_right a b (pages_of P) (all_pages Ps) agree) w.1,
  )

pub frame_all : (scheme : Scheme) (a b : PageMap) (cs : List Child) (Ps : List Placed) → Agree a b (pages Ps) →
    NameTrees scheme a cs Ps → NameTrees scheme b cs Ps
frame_all scheme a b [] [] agree named = tt
frame_all scheme a b [] (P ∷ Ps) agree named = absurd named
frame_all scheme a b (c ∷ cs) [] agree named = absurd named
frame_all scheme a b (c ∷ cs) (P ∷ Ps) agree named = (
  record {
    said = named.0.said;
    written = frame scheme a b P (agree_left a b (pages_of P) (pages Ps) agree)
        named.0.written;
  },
  frame_all scheme a b cs Ps (agree_right a b (pages_of P) (pages Ps) agree) named.1,
)

pub frame_chain : (a b : PageMap) (f : ℕ) (ps : List ℕ) → Agree a b ps → IsChain (HasFree a) f ps →
    IsChain (HasFree b) f ps
frame_chain a b f [] agree linked = linked
frame_chain a b f (p ∷ ps) agree linked = (
  linked.0,
  linked.1,
  (linked.2.0, free_kept a b p ps agree ∙ linked.2.1),
  frame_chain a b linked.0 ps (agree_rest a b p ps agree) linked.3,
)
