-- A page that is taken: the first free one, or a new one at the end.
use Rattle.std.proofs.Common.{◌≡◌, ◌≢◌, ℕ, suc, inl, inr, List, [], ◌∷◌, ◌++◌, refl, sym, ap, subst, ◌∙◌, arith}
use Rattle.std.specs.Prelude.{Option, Some, IfSome, option_map}
use Rattle.std.proofs.lemmas.Bool.{cases_lt}
use Rattle.mr_pages.specs.Stands.{IsChain}
use Rattle.mr_edit.specs.PageMap.{PageMap, HasFree, OwnsEachOnce, count_in, longer}
use Rattle.mr_edit.specs.Outcome.{TakesPage}
use Rattle.mr_edit.proofs.Places.{times_cons, times_one, times_other}

same_free : (o : Option ℕ) (m n : ℕ) → o ≡ Some m → o ≡ Some n → m ≡ n
same_free o m n here there = let both : ◌≡◌ {A = Option ℕ} (Some m) (Some n) = sym here ∙ there in cc

pub free_taken : (told told' : Option PageMap) (free next : ℕ) → free ≢ 0 → told' ≡ told →
    IfSome told (λ b. HasFree b free next) → TakesPage told free told' next free
free_taken told told' free next some same reads a [] is linked = absurd (some linked)
free_taken told told' free next some same reads a (p ∷ ps) is linked =
    let has : HasFree a free next = subst (λ o. IfSome o (λ b. HasFree b free next)) is reads in
    let there : linked.0 ≡ next = same_free (a.content p).free linked.0 next linked.2.1
    (subst (λ q. (a.content q).free ≡ Some next) linked.1 has.1) in
    record {
      page_map = a;
      is = same ∙ is;
      same = refl;
      chain = ps;
      linked = subst (λ g. IsChain (HasFree a) g ps) there linked.3;
      owned = λ rest o. subst (λ q. OwnsEachOnce a.size (q ∷ (ps ++ rest))) (sym linked.1) o;
      use_ = record { grew = inl refl; none = λ e. absurd (no e); more = omega arith };
    }
  where
    no : p ∷ ps ≡ [] → ⊥
    no e = cc

one_more : (n : ℕ) (xs : List ℕ) → OwnsEachOnce n xs → OwnsEachOnce (suc n) (n ∷ xs)
one_more n xs o = record {
  each = λ q within. elim (cases_lt q n) [
    | inl below ↦ let other : q ≢ n = λ same. omega (arith, below, same) in
        omega (arith, times_cons q n xs, times_other q n other, o.each q below)
    | inr above ↦ let here : q ≡ n = omega (arith, within, above) in ap (λ r. count_in r (n ∷ xs)) here ∙ last
  ];
  none = λ q past. let other : q ≢ n = λ same. omega (arith, past, same) in
      omega (arith, times_cons q n xs, times_other q n other, o.none q (omega (arith, past)));
}
  where
    last : count_in n (n ∷ xs) ≡ 1
    last = omega (arith, times_cons n n xs, times_one n, o.none n (omega arith))

pub new_taken : (told told' : Option PageMap) (free page : ℕ) → free ≡ 0 → told' ≡ option_map longer told →
    IfSome told (λ b. page ≡ b.size) → TakesPage told free told' free page
new_taken told told' free page none grows last a (p ∷ ps) is linked = absurd (omega (arith, none, linked.1, linked.2.0))
new_taken told told' free page none grows last a [] is linked =
    let at : page ≡ a.size = subst (λ o. IfSome o (λ b. page ≡ b.size)) is last in
    record {
      page_map = longer a;
      is = grows ∙ ap (option_map longer) is;
      same = refl;
      chain = [];
      linked = linked;
      owned = λ rest o. subst (λ q. OwnsEachOnce (suc a.size) (q ∷ rest)) (sym at) (one_more a.size rest o);
      use_ = record { grew = inr refl; none = λ e. refl; more = omega arith };
    }
