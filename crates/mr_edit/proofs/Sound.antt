-- Where the pages are told, no page is blamed.
use Rattle.std.proofs.Common.{◌≡◌, ◌≢◌, ℕ, ◌<◌, List, [], ◌∷◌, ◌++◌, length, refl, sym, ap, subst, arith}
use Rattle.std.specs.Prelude.{Option, Some, None, option_map, IsSomeAnd, Result, IfErr}
use Rattle.std.specs.Result.{IsErrAnd}
use Rattle.std.proofs.lemmas.Result.{err_from_is_err_and}
use Rattle.std.proofs.lemmas.List.{length-append}
use Rattle.mr_pages.specs.Page.{page_limit}
use Rattle.mr_pages.specs.Stands.{IsChain}
use Rattle.mr_edit.specs.PageMap.{PageContent, PageMap, HasFree, count_in, with_content}
use Rattle.mr_edit.specs.declared.error.EditErr.{EditErr}
use Rattle.mr_edit.specs.declared.error.EditErr.TheVariants as errors
use Rattle.mr_edit.specs.Outcome.{TakesPage, NeverMap, CanTake, CanPut, CanWrite}
use Rattle.mr_edit.proofs.Counts.{owned_length}
use Rattle.mr_edit.proofs.Frame.{count_in-append, times_first, times_rest}
use Rattle.mr_edit.proofs.Places.{times_cons, owned_within, same_owned}

-- what holds where another does
pub never : (e : EditErr) (P Q : Type 0) → (Q → P) → NeverMap e P → NeverMap e Q
never (errors.Map fault) P Q f denies = λ q. denies (f q)
never errors.Missing P Q f denies = tt
never errors.Fault P Q f denies = tt
never errors.NoMemory P Q f denies = tt

pub can_read : (told : Option PageMap) (free : ℕ) → free ≢ 0 → CanTake told free →
    IsSomeAnd told (λ b. (next : ℕ) × HasFree b free next)
can_read told free some k = subst (λ o. IsSomeAnd o (λ b. (next : ℕ) × HasFree b free next)) (sym k.is) (at k.chain
    k.linked)
  where
    at : (ps : List ℕ) → IsChain (HasFree k.page_map) free ps → (next : ℕ) × HasFree k.page_map free next
    at [] linked = absurd (some linked)
    at (p ∷ ps) linked = (linked.0, subst (λ q. HasFree k.page_map q linked.0) (sym linked.1) linked.2)

pub can_grow : (told : Option PageMap) (free : ℕ) → free ≡ 0 → CanTake told free →
    IsSomeAnd told (λ b. b.size < page_limit)
can_grow told free none k = subst (λ o. IsSomeAnd o (λ b. b.size < page_limit)) (sym k.is) (at k.chain k.linked k.room)
  where
    at : (ps : List ℕ) → IsChain (HasFree k.page_map) free ps → (ps ≡ [] → k.page_map.size < page_limit) →
        k.page_map.size < page_limit
    at [] linked room = room refl
    at (p ∷ ps) linked room = absurd (omega (arith, none, linked.1, linked.2.0))

pub can_take : (told : Option PageMap) (free page : ℕ) → CanPut told free page → CanTake told free
can_take told free page k = record {
  page_map = k.page_map;
  is = k.is;
  chain = k.chain;
  linked = k.linked;
  room = λ none. omega (
    arith,
    owned_length k.page_map.size (page ∷ (k.chain ++ k.others)) k.owned,
    length-append k.chain
        k.others,
    ap length none,
    k.few,
  );
}

pub can_write : (told : Option PageMap) (free page : ℕ) → CanPut told free page → CanWrite told page
can_write told free page k =
    subst (λ o. IsSomeAnd o (λ b. page < b.size)) (sym k.is)
    (owned_within k.page_map.size page (page ∷ (k.chain ++ k.others)) k.owned (times_first page (k.chain ++ k.others)))

moved_counts : (q x : ℕ) (f o : List ℕ) → count_in q (f ++ (x ∷ o)) ≡ count_in q (x ∷ (f ++ o))
moved_counts q x f o =
    omega (arith, count_in-append q f (x ∷ o), times_cons q x o, times_cons q x (f ++ o), count_in-append q f o)

-- once another page was taken, both are in the file
pub both_write : (told told1 : Option PageMap) (free free1 page other : ℕ) → TakesPage told free told1 free1 other →
    CanPut told free page → CanWrite told1 page × CanWrite told1 other
both_write told told1 free free1 page other takes k =
    let t = takes k.page_map k.chain k.is k.linked in
    let all = t.owned (page ∷ k.others)
    (same_owned k.page_map.size (page ∷ (k.chain ++ k.others)) _ (λ q. moved_counts q page k.chain k.others) k.owned) in
    let xs = t.chain ++ (page ∷ k.others) in
    let there : 0 < count_in page xs =
    omega (arith, count_in-append page t.chain (page ∷ k.others), times_first page k.others) in (
      subst (λ o. IsSomeAnd o (λ b. page < b.size)) (sym t.is)
          (owned_within t.page_map.size page (other ∷ xs) all (times_rest page other xs there)),
      subst (λ o. IsSomeAnd o (λ b. other < b.size)) (sym t.is)
          (owned_within t.page_map.size other (other ∷ xs) all (times_first other xs)),
    )

-- a write leaves what is in the file there
pub still_write : (told told1 : Option PageMap) (page other : ℕ) (s : PageContent) →
    told1 ≡ option_map (with_content page s) told → CanWrite told other → CanWrite told1 other
still_write None told1 page other s put can = absurd can
still_write (Some b) told1 page other s put can = subst (λ o. IsSomeAnd o (λ x. other < x.size)) (sym put) can

-- a refusal that is handed on
pub handed : {T : Type 0} (r : Result T EditErr) (e : EditErr) (P : Type 0) → IsErrAnd r (λ y. y ≡ e) → NeverMap e P →
    IfErr r (λ y. NeverMap y P)
handed r e P is denies =
    let p = err_from_is_err_and r is in
    subst (λ x. IfErr x (λ y. NeverMap y P)) (sym p.1) (subst (λ y. NeverMap y P) (sym p.2) denies)
