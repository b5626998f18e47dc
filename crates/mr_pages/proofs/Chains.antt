-- The free chain, and the pages that it and the walk reach together.
use Rattle.std.proofs.Common.{◌≡◌, ◌≢◌, ℕ, zero, suc, ◌+◌, ◌-◌, ◌<◌, ◌≤◌, Bool, true, false, cond, List, [], ◌∷◌, ◌++◌, length, refl, sym, ap, subst, ◌∙◌, arith}
use Rattle.std.specs.Prelude.{◌==◌, ◌||◌, not, Option, Some, None, is_none, unwrap_or, nat_le, AllPairs}
use Rattle.std.specs.List.{flat_map, AllByRecursion, IsDistinct}
use Rattle.std.proofs.lemmas.Bool.{eqb-true, eqb-false, ne_eqb, eq-eqb, leb-false, lt-leb, or_parts, or_from, not-false, not_from_true}
use Rattle.std.proofs.lemmas.Map.Steps.{length-le_from_distinct_below}
use Rattle.mr_pages.specs.declared.rule.MapFault.{MapFault}
use Rattle.mr_pages.specs.declared.rule.MapRule.TheVariants as rule
use Rattle.mr_pages.specs.Stands.{IsChain, AreAllPages}
use Rattle.mr_pages.specs.Faults.{fault_if, has, chain, chain_faults, count_from, lost_faults}
use Rattle.mr_pages.proofs.Lists.{nil_left, nil_right, nil_both, not_broken, no_fault, all_append, all_right, all_weaker, has_contains, contains_has, all_has, has_all, Fresh, fresh_append, fresh_right, fresh_apart, apart_fresh, apart_distinct}

-- the chain of free pages as a file's pages are read
abbrev pub ReadsChain : (ℕ → Option ℕ) → ℕ → List ℕ → Type 0
ReadsChain free = IsChain (λ p g. free p ≡ Some g)

zero_new : (n : ℕ) (ps : List ℕ) → AllByRecursion (λ p. (0 < p) × (p < n)) ps →
    AllByRecursion (λ q. (0 == q) ≡ false) ps
zero_new n ps all = all_weaker (λ p. (0 < p) × (p < n)) (λ q. (0 == q) ≡ false)
    (λ q h. ne_eqb 0 q (λ e. omega (arith, h.0, e))) ps all

with_zero : (n : ℕ) (ps : List ℕ) → AllByRecursion (λ p. (0 < p) × (p < n)) ps → IsDistinct ◌==◌ ps →
    IsDistinct ◌==◌ (0 ∷ ps)
unfolding IsDistinct
with_zero n ps all d = (zero_new n ps all, d)

-- no more than n - 1 numbers between 0 and n, none of them twice
few_pages : (n : ℕ) (ps : List ℕ) → 0 < n → AllByRecursion (λ p. (0 < p) × (p < n)) ps →
    AllPairs (λ (p q : ℕ). p ≢ q) ps → length ps < n
few_pages n ps some within apart =
    omega (
      arith,
      length-le_from_distinct_below (0 ∷ ps) n (with_zero n ps within (apart_distinct ps apart))
          (all_has (λ p. p < n) (0 ∷ ps) (
            some,
            all_weaker (λ p. (0 < p) × (p < n)) (λ p. p < n) (λ p h. h.1) ps
                within,
          )),
    )

-- ---- no fault on the chain

pub record ChainIsSound (free : ℕ → Option ℕ) (pages : ℕ) (before ps : List ℕ) : Type 0 where
  pub inside : AllByRecursion (λ p. p < pages) ps
  pub are_free : AllByRecursion (λ p. is_none (free p) ≡ false) ps
  pub new : Fresh before ps

pub chain_sound : (free : ℕ → Option ℕ) (pages : ℕ) (before ps : List ℕ) → chain_faults free pages before ps ≡ [] →
    ChainIsSound free pages before ps
chain_sound free pages before [] e = record { inside = tt; are_free = tt; new = tt }
chain_sound free pages before (p ∷ ps) e =
    let here = or_parts (nat_le pages p) _ (not_broken _ _ _
    (nil_left (fault_if (nat_le pages p || (has p before || is_none (free p))) p rule.Free) _ e)) in
    let more = or_parts (has p before) _ here.1 in
    let rest = chain_sound free pages (before ++ p ∷ []) ps
    (nil_right (fault_if (nat_le pages p || (has p before || is_none (free p))) p rule.Free) _ e) in
    record {
      inside = (leb-false pages p here.0, rest.inside);
      are_free = (more.1, rest.are_free);
      new =
          (more.0, rest.new);
    }

pub sound_chain : (free : ℕ → Option ℕ) (pages : ℕ) (before ps : List ℕ) → ChainIsSound free pages before ps →
    chain_faults free pages before ps ≡ []
sound_chain free pages before [] s = refl
sound_chain free pages before (p ∷ ps) s =
    nil_both _ _
    (no_fault _ _ _ (or_from (nat_le pages p) _ (lt-leb pages p s.inside.0)
    (or_from (has p before) _ s.new.0 s.are_free.0)))
    (sound_chain free pages (before ++ p ∷ []) ps (record
    { inside = s.inside.1; are_free = s.are_free.1; new = s.new.1 }))

-- ---- the chain as far as it is followed, and as it is

chain_low : (free : ℕ → Option ℕ) (n f : ℕ) → AllByRecursion (λ p. 0 < p) (chain free n f)
chain_low free zero f = tt
chain_low free (suc n) f = at (f == 0) refl (chain_low free n (unwrap_or (free f) 0))
  where
    at : (b : Bool) → (f == 0) ≡ b → AllByRecursion (λ p. 0 < p) (chain free n (unwrap_or (free f) 0)) →
        AllByRecursion (λ p. 0 < p) (chain free (suc n) f)
    at true e on = subst (λ b. AllByRecursion (λ p. 0 < p) (cond b [] (f ∷ chain free n (unwrap_or (free f) 0))))
        (sym e) tt
    at false e on =
        let apart : f ≢ 0 = eqb-false f 0 e in
        subst (λ b. AllByRecursion (λ p. 0 < p) (cond b [] (f ∷ chain free n (unwrap_or (free f) 0)))) (sym e)
        (omega (arith, apart), on)

there : (o : Option ℕ) → is_none o ≡ false → o ≡ Some (unwrap_or o 0)
there None e = cc
there (Some g) e = refl

-- followed less far than it may be, it has come to its end
chain_ends : (free : ℕ → Option ℕ) (n f : ℕ) (ps : List ℕ) → ps ≡ chain free n f → length ps < n →
    AllByRecursion (λ p. is_none (free p) ≡ false) ps → ReadsChain free f ps
chain_ends free zero f ps is short are = absurd (omega (arith, short))
chain_ends free (suc n) f ps is short are = at (f == 0) refl
    (chain_ends free n (unwrap_or (free f) 0) (chain free n (unwrap_or (free f) 0)) refl) ps is short are
  where
    at : (b : Bool) → (f == 0) ≡ b →
        (length (chain free n (unwrap_or (free f) 0)) < n →
        AllByRecursion (λ p. is_none (free p) ≡ false) (chain free n (unwrap_or (free f) 0)) →
        ReadsChain free (unwrap_or (free f) 0) (chain free n (unwrap_or (free f) 0))) →
        (qs : List ℕ) → qs ≡ chain free (suc n) f → length qs < suc n →
        AllByRecursion (λ p. is_none (free p) ≡ false) qs → ReadsChain free f qs
    at true e on qs same low all =
        let none : qs ≡ [] = same ∙ ap (λ b. cond b [] (f ∷ chain free n (unwrap_or (free f) 0))) e in
        subst (ReadsChain free f) (sym none) (eqb-true f 0 e)
    at false e on qs same low all =
        let some : qs ≡ f ∷ chain free n (unwrap_or (free f) 0) = same ∙ ap
        (λ b. cond b [] (f ∷ chain free n (unwrap_or (free f) 0))) e in
        let all' = subst (AllByRecursion (λ p. is_none (free p) ≡ false)) some all in
        let low' : length (chain free n (unwrap_or (free f) 0)) < n = omega (arith, low, ap length some) in
        subst (ReadsChain free f) (sym some)
        (unwrap_or (free f) 0, refl, there (free f) all'.0, on low' all'.1)

-- followed as far as it goes, it is as it is
chain_is : (free : ℕ → Option ℕ) (ps : List ℕ) (n f : ℕ) → ReadsChain free f ps → AllByRecursion (λ p. 0 < p) ps →
    length ps ≤ n → chain free n f ≡ ps
chain_is free [] zero f c low short = refl
chain_is free [] (suc n) f c low short = ap (λ b. cond b [] (f ∷ chain free n (unwrap_or (free f) 0))) (eq-eqb f 0 c)
chain_is free (p ∷ ps) zero f c low short = absurd (omega (arith, short))
chain_is free (p ∷ ps) (suc n) f c low short =
    let some : 0 < p = low.0 in
    let apart : f ≢ 0 = λ e. omega (arith, some, e, c.1) in
    let next : unwrap_or (free f) 0 ≡ c.0 = ap (λ q. unwrap_or (free q) 0) c.1 ∙ ap (λ o. unwrap_or o 0) c.2 in
    ap (λ b. cond b [] (f ∷ chain free n (unwrap_or (free f) 0))) (ne_eqb f 0 apart)
    ∙ (λ i. c.1 i ∷ chain free n (next i))
    ∙ ap (λ qs. p ∷ qs) (chain_is free ps n c.0 c.3 low.1 (omega (arith, short)))

-- ---- the pages that were never reached

-- each number from a up to b
all_counted : (P : ℕ → Type 0) (a n : ℕ) → AllByRecursion P (count_from a n) → (p : ℕ) → a ≤ p → p < a + n → P p
all_counted P a zero all p low high = absurd (omega (arith, low, high))
all_counted P a (suc n) all p low high = at (p == a) refl (all_counted P (suc a) n all.1 p)
  where
    at : (b : Bool) → (p == a) ≡ b → (suc a ≤ p → p < suc a + n → P p) → P p
    at true e on = subst P (sym (eqb-true p a e)) all.0
    at false e on =
        let apart : p ≢ a = eqb-false p a e in
        on (omega (arith, apart, low)) (omega (arith, high))

counted_all : (P : ℕ → Type 0) (a n : ℕ) → ((p : ℕ) → a ≤ p → p < a + n → P p) → AllByRecursion P (count_from a n)
counted_all P a zero f = tt
counted_all P a (suc n) f = (
  f a (omega arith) (omega arith),
  counted_all P (suc a) n
      (λ p low high. f p (omega (arith, low)) (omega (arith, high))),
)

nil_each : (f : ℕ → List MapFault) (ps : List ℕ) → flat_map f ps ≡ [] → AllByRecursion (λ p. f p ≡ []) ps
nil_each f [] e = tt
nil_each f (p ∷ ps) e = (nil_left (f p) (flat_map f ps) e, nil_each f ps (nil_right (f p) (flat_map f ps) e))

each_nil : (f : ℕ → List MapFault) (ps : List ℕ) → AllByRecursion (λ p. f p ≡ []) ps → flat_map f ps ≡ []
each_nil f [] e = refl
each_nil f (p ∷ ps) e = nil_both (f p) (flat_map f ps) e.0 (each_nil f ps e.1)

lost_none : (pages : ℕ) (ps : List ℕ) → lost_faults pages ps ≡ [] → (p : ℕ) → 0 < p → p < pages → has p ps ≡ true
lost_none pages ps e p low high =
    let all = nil_each (λ q. fault_if (not (has q ps)) q rule.Free) (count_from 1 (pages - 1)) e in
    not-false _ (not_broken _ _ _ (all_counted (λ q. fault_if (not (has q ps)) q rule.Free ≡ []) 1 (pages - 1) all p
    (omega (arith, low)) (omega (arith, high))))

pub none_lost : (pages : ℕ) (ps : List ℕ) → ((p : ℕ) → 0 < p → p < pages → has p ps ≡ true) → lost_faults pages ps ≡ []
none_lost pages ps f =
    each_nil (λ q. fault_if (not (has q ps)) q rule.Free) (count_from 1 (pages - 1))
    (counted_all (λ q. fault_if (not (has q ps)) q rule.Free ≡ []) 1 (pages - 1)
    (λ p low high. no_fault _ _ _ (not_from_true _ (f p (omega (arith, low)) (omega (arith, low, high))))))

-- ---- both together

-- the free pages of a file whose walk reaches these pages, each once
pub record FreeIsSound (free : ℕ → Option ℕ) (pages f : ℕ) (walked : List ℕ) (free_pages : List ℕ) : Type 0 where
  pub chain : ReadsChain free f free_pages
  pub all : AreAllPages pages (walked ++ free_pages)

within_both : (n : ℕ) (ps : List ℕ) → AllByRecursion (λ p. 0 < p) ps → AllByRecursion (λ p. p < n) ps →
    AllByRecursion (λ p. (0 < p) × (p < n)) ps
within_both n [] a b = tt
within_both n (p ∷ ps) a b = ((a.0, b.0), within_both n ps a.1 b.1)

pub free_sound : (free : ℕ → Option ℕ) (pages f : ℕ) (walked : List ℕ) → 0 < pages →
    AllByRecursion (λ p. (0 < p) × (p < pages)) walked → Fresh [] walked →
    chain_faults free pages walked (chain free pages f) ≡ [] → lost_faults pages (walked ++ chain free pages f) ≡ [] →
    FreeIsSound free pages f walked (chain free pages f)
free_sound free pages f walked some within apart e lost =
    let s = chain_sound free pages walked (chain free pages f) e in
    let ps = chain free pages f in
    let inside : AllByRecursion (λ p. (0 < p) × (p < pages)) ps = within_both pages ps (chain_low free pages f) s.inside
    in
    let all : AllByRecursion (λ p. (0 < p) × (p < pages)) (walked ++ ps) = all_append (λ p. (0 < p) × (p < pages))
    walked ps within inside in
    let short : length ps < pages = few_pages pages ps some inside (fresh_apart walked ps s.new) in
    record {
      chain = chain_ends free pages f ps refl short s.are_free;
      all = record {
        each = λ p. (
          λ in'. all_has (λ q. (0 < q) × (q < pages)) (walked ++ ps) all p (contains_has p (walked ++ ps) in'),
          λ h. has_contains p (walked ++ ps) (lost_none pages (walked ++ ps) lost p h.0 h.1),
        );
        once = fresh_apart [] (walked ++ ps) (fresh_append [] walked ps apart s.new);
      };
    }

pub all_within : (n : ℕ) (ps : List ℕ) → AreAllPages n ps → AllByRecursion (λ p. (0 < p) × (p < n)) ps
all_within n ps a = has_all (λ p. (0 < p) × (p < n)) ps (λ p e. (a.each p).0 (has_contains p ps e))

links_free : (free : ℕ → Option ℕ) (f : ℕ) (ps : List ℕ) → ReadsChain free f ps →
    AllByRecursion (λ p. is_none (free p) ≡ false) ps
links_free free f [] c = tt
links_free free f (p ∷ ps) c = (ap is_none c.2, links_free free c.0 ps c.3)

pub record FreeHasNone (free : ℕ → Option ℕ) (pages f : ℕ) (walked : List ℕ) (free_pages : List ℕ) : Type 0 where
  pub followed : chain free pages f ≡ free_pages
  pub on_chain : chain_faults free pages walked (chain free pages f) ≡ []
  pub lost : lost_faults pages (walked ++ chain free pages f) ≡ []

pub sound_free : (free : ℕ → Option ℕ) (pages f : ℕ) (walked ps : List ℕ) → 0 < pages → ReadsChain free f ps →
    AreAllPages pages (walked ++ ps) → FreeHasNone free pages f walked ps
sound_free free pages f walked ps some c a =
    let all = all_within pages (walked ++ ps) a in
    let within : AllByRecursion (λ p. (0 < p) × (p < pages)) ps = all_right _ walked ps all in
    let fresh : Fresh walked ps = fresh_right [] walked ps (apart_fresh (walked ++ ps) a.once) in
    let short : length ps < pages = few_pages pages ps some within (fresh_apart walked ps fresh) in
    let followed : chain free pages f ≡ ps = chain_is free ps pages f c
    (all_weaker (λ p. (0 < p) × (p < pages)) (λ p. 0 < p) (λ p h. h.0) ps within) (omega (arith, short)) in
    record {
      followed = followed;
      on_chain = subst (λ qs. chain_faults free pages walked qs ≡ []) (sym followed)
          (sound_chain free pages walked ps (record {
            inside = all_weaker (λ p. (0 < p) × (p < pages)) (λ p. p < pages) (λ p h. h.1) ps within;
            are_free = links_free free f ps c;
            new = fresh;
          }));
      lost = subst (λ qs. lost_faults pages (walked ++ qs) ≡ []) (sym followed)
          (none_lost pages (walked ++ ps) (λ p low high. contains_has p (walked ++ ps) ((a.each p).1 (low, high))));
    }
