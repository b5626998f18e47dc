-- One step on the chain of free pages.
use Rattle.std.proofs.Common.{◌≡◌, ◌≢◌, ℕ, ◌<◌, Bool, true, false, List, [], ◌++◌, refl, sym, ap, subst, ◌∙◌}
use Rattle.std.specs.Prelude.{◌==◌, ◌||◌, nat_le, is_none, Option, Some, None, Result, Err}
use Rattle.std.proofs.lemmas.Bool.{ne_eqb, or_parts}
use Rattle.mr_pages.specs.declared.error.MapErr.{MapErr}
use Rattle.mr_pages.specs.declared.error.MapErr.TheVariants as errors
use Rattle.mr_pages.specs.declared.rule.MapFault.{MapFault}
use Rattle.mr_pages.specs.declared.rule.MapRule.TheVariants as rule
use Rattle.mr_pages.specs.declared.visited.Visited.{Visited}
use Rattle.mr_pages.specs.Faults.{fault_if, has, chain, first_of}
use Rattle.mr_pages.specs.Walking.{enter_faults, Saw}
use Rattle.mr_pages.specs.private.Walks.{StepsOnChain, FollowsChain}
use Rattle.mr_pages.proofs.Lists.{nil_left, nil_right, not_broken}
use Rattle.mr_pages.proofs.Links.{Followed, follow_fails}

pub refused_step : (pages p : ℕ) (ps : List ℕ) (x : Bool) (f : MapFault) → p ≢ 0 →
    first_of (enter_faults pages ps p) ≡ Some f → (nat_le pages p || (has p ps || x)) ≡ true
refused_step pages p ps x f some e = at (nat_le pages p) refl (has p ps) refl
  where
    at : (a : Bool) → nat_le pages p ≡ a → (b : Bool) → has p ps ≡ b → (nat_le pages p || (has p ps || x)) ≡ true
    at true q b r = ap (λ c. c || (has p ps || x)) q
    at false q true r = (λ i. q i || (r i || x))
    at false q false r =
        let none : enter_faults pages ps p ≡ [] =
        λ i. fault_if (ne_eqb p 0 some i || q i) p rule.Outside ++ fault_if (r i) p rule.Twice in
        absurd (no (sym (ap first_of none) ∙ e))
      where
        no : ◌≡◌ {A = Option MapFault} None (Some f) → ⊥
        no h = cc

pub passed_step : (pages p : ℕ) (ps : List ℕ) (o : Option ℕ) (g : ℕ) → enter_faults pages ps p ≡ [] → o ≡ Some g →
    (nat_le pages p || (has p ps || is_none o)) ≡ false
passed_step pages p ps o g none e =
    let a = or_parts (p == 0) (nat_le pages p) (not_broken _ p rule.Outside
    (nil_left (fault_if (p == 0 || nat_le pages p) p rule.Outside) (fault_if (has p ps) p rule.Twice) none)) in
    let b = not_broken _ p rule.Twice
    (nil_right (fault_if (p == 0 || nat_le pages p) p rule.Outside) (fault_if (has p ps) p rule.Twice) none) in
    λ i. a.1 i || (b i || is_none (e i))

-- what is no free page
pub stopped_step : (pages p : ℕ) (ps : List ℕ) (o : Option ℕ) → o ≡ None →
    (nat_le pages p || (has p ps || is_none o)) ≡ true
stopped_step pages p ps o e =
    ap (λ q. nat_le pages p || (has p ps || is_none q)) e ∙ or_true (nat_le pages p) (has p ps)
  where
    or_true : (a b : Bool) → (a || (b || true)) ≡ true
    or_true true b = refl
    or_true false true = refl
    or_true false false = refl

pub chain_stops : (free : ℕ → Option ℕ) (pages f i next : ℕ) (ps ns : List ℕ) (s r : Visited) (e : MapErr) → i < pages →
    next ≢ 0 → Followed free pages f i next ps ns s →
    StepsOnChain free pages next (ps ++ Rattle.std.proofs.Common.take i (chain free pages f)) ns (Err e) r →
    FollowsChain {A = Unit {0}} free pages f ps ns (Err e) r
chain_stops free pages f i next ps ns s r (errors.Map x) low some d step =
    follow_fails free pages f i next ps ns s low some d step.0 ∙ ap Some (sym step.1)
chain_stops free pages f i next ps ns s r errors.Missing low some d step = tt
chain_stops free pages f i next ps ns s r errors.Fault low some d step = tt
chain_stops free pages f i next ps ns s r errors.NoMemory low some d step = tt

pub steps_along : (free : ℕ → Option ℕ) (m n p : ℕ) (ps ns : List ℕ) (r : Result ℕ MapErr) (s s' : Visited) → m ≡ n →
    (Saw m s ps ns → StepsOnChain free m p ps ns r s') → Saw n s ps ns → StepsOnChain free n p ps ns r s'
steps_along free m n p ps ns r s s' e f saw =
    subst (λ k. StepsOnChain free k p ps ns r s') e (f (subst (λ k. Saw k s ps ns) (sym e) saw))
