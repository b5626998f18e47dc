-- The first change that may not be made, by which numbers are there.
use Rattle.std.proofs.Common.{◌≡◌, ℕ, zero, suc, ◌+◌, ◌<◌, ◌≤◌, ◌≢◌, ◌↔◌, Bool, true, false, cond, not, eqb, leb, ltb, ◌||◌, ◌&&◌, List, [], ◌∷◌, ◌++◌, length, get_or, take, drop, Option, Some, None, Result, Ok, Err, refl, sym, ap, ◌∙◌, arith, ⊎_elim, MatchResult, IsSome, IsOk, IsErrAnd}
use Rattle.std.specs.Prelude.{slice_index}
use Rattle.std.proofs.lemmas.Bool.{cases_eq, cases_Bool, eq-eqb, eqb-true, ne_eqb, ltb-true, ltb-false, lt-leb, le-leb, or_parts, both_ways}
use Rattle.std.proofs.lemmas.List.{drop_more, length_push}
use Rattle.std.proofs.lemmas.List.Folds.{list_any-append, list_any_at}
use Rattle.std.proofs.lemmas.List.Kept.{AllPairs-filter}
use Rattle.std.proofs.lemmas.List.Quantifiers.{all_pairs_push}
use Rattle.mr_record.specs.declared.record.Record.{Record}
use Rattle.mr_record.specs.RecordText.{has_number}
use Rattle.mr_tree.specs.Limits.{count_limit}
use Rattle.mr_batch.specs.declared.change.Change.{Change}
use Rattle.mr_batch.specs.declared.change.Change.TheVariants.{Add, Remove}
use Rattle.mr_batch.specs.declared.admission.BatchFault.{BatchFault}
use Rattle.mr_batch.specs.declared.admission.BatchFault.TheVariants.{OutOfOrder, Present, Absent, Full}
use Rattle.mr_batch.specs.Changes.{Changes, named, numbers}
use Rattle.mr_batch.specs.Applied.{without, may_make, made, applied, IsAdmissible}
use Rattle.mr_batch.specs.Admissible.{or_else, hindrance, first_hindrance, batch_fault}
use Rattle.mr_batch.specs.Directory.{DirectoryEntries, HaveNumbers}
use Rattle.mr_batch.specs.private.Presence.{after, after_all, count_after, hindered, first_hindered, fault_by, knows}
use Rattle.mr_batch.proofs.Numbered.{Apart, apart_head, apart_tail}
use Rattle.mr_batch.proofs.Linking.{after_all-more, number_at}

-- ---- the loop

walk_on : (has : ℕ → Bool) (count line : ℕ) (c : Change) (cs : List Change) →
    hindered (has (named c)) count line c ≡ None →
    first_hindered has count line (c ∷ cs) ≡ first_hindered (after has c) (count_after count c) (line + 1) cs
unfolding first_hindered
walk_on has count line c cs e = rw e refl

walk_ends : (has : ℕ → Bool) (count line : ℕ) (c : Change) (cs : List Change) (fault : BatchFault) →
    hindered (has (named c)) count line c ≡ Some fault → first_hindered has count line (c ∷ cs) ≡ Some fault
unfolding first_hindered
walk_ends has count line c cs fault e = rw e refl

-- the changes from the place i on
pub rest_of : (cs : List Change) (i : ℕ) (c : Change) → i < length cs → c ≡ get_or cs i c →
    drop i cs ≡ c ∷ drop (i + 1) cs
rest_of cs i c low e = drop_more cs i c low ∙ ap (λ d. d ∷ drop (i + 1) cs) (sym e)

present_named : (has : ℕ → Bool) (cs : List Change) (i : ℕ) (c : Change) (present : Bool) → i < length cs →
    c ≡ get_or cs i c → present ≡ after_all has (take i cs) (slice_index (numbers cs) i) →
    after_all has (take i cs) (named c) ≡ present
present_named has cs i c present low e p = ap (after_all has (take i cs)) (sym (number_at cs i c low e)) ∙ sym p

pub loop_step : (has : ℕ → Bool) (count next : ℕ) (cs : List Change) (i : ℕ) (c : Change) (present : Bool)
    (meant : Option BatchFault) → i < length cs → c ≡ get_or cs i c →
    present ≡ after_all has (take i cs) (slice_index (numbers cs) i) →
    (next ≡ count_after count c) × (hindered present count (i + 2) c ≡ None) →
    first_hindered (after_all has (take i cs)) count (i + 2) (drop i cs) ≡ meant →
    first_hindered (after_all has (take (i + 1) cs)) next (i + 1 + 2) (drop (i + 1) cs) ≡ meant
loop_step has count next cs i c present meant low e p step so_far =
    let now : ℕ → Bool = after_all has (take i cs) in
    let rest : List Change = drop (i + 1) cs in
    let there : now (named c) ≡ present = present_named has cs i c present low e p in
    let free : hindered (now (named c)) count (i + 2) c ≡ None = ap (λ b. hindered b count (i + 2) c) there ∙ step.1 in
    let line : i + 2 + 1 ≡ i + 1 + 2 = omega arith in
    let onward = walk_on now count (i + 2) c rest free in
    let same : after now c ≡ after_all has (take (i + 1) cs) = λ j n. (sym (after_all-more has cs i c n low e)) j in
    sym (onward ∙ (λ j. first_hindered (same j) ((sym step.0) j) (line j) rest))
    ∙ ap (first_hindered now count (i + 2)) (sym (rest_of cs i c low e)) ∙ so_far

pub loop_fault : (has : ℕ → Bool) (count : ℕ) (cs : List Change) (i : ℕ) (c : Change) (present : Bool)
    (meant : Option BatchFault) (fault : BatchFault) → i < length cs → c ≡ get_or cs i c →
    present ≡ after_all has (take i cs) (slice_index (numbers cs) i) →
    hindered present count (i + 2) c ≡ Some fault →
    first_hindered (after_all has (take i cs)) count (i + 2) (drop i cs) ≡ meant → meant ≡ Some fault
loop_fault has count cs i c present meant fault low e p broken so_far =
    let now : ℕ → Bool = after_all has (take i cs) in
    let there : now (named c) ≡ present = present_named has cs i c present low e p in
    sym so_far ∙ ap (first_hindered now count (i + 2)) (rest_of cs i c low e)
    ∙ walk_ends now count (i + 2) c (drop (i + 1) cs) fault (ap (λ b. hindered b count (i + 2) c) there ∙ broken)

pub drop_all : (cs : List Change) (i : ℕ) → length cs ≤ i → drop i cs ≡ []
drop_all [] zero all = refl
drop_all [] (suc i) all = refl
drop_all (c ∷ cs) zero all = absurd (omega arith)
drop_all (c ∷ cs) (suc i) all = drop_all cs i (omega arith)

pub handed_on : (r : Result Unit BatchFault) (fault : BatchFault) (meant : Option BatchFault) →
    IsErrAnd r (λ e. e ≡ fault) → meant ≡ Some fault → MatchResult r (λ _. meant ≡ None) (λ e. meant ≡ Some e)
handed_on (Ok x) fault meant is e = absurd is
handed_on (Err other) fault meant is e = e ∙ ap (λ (f : BatchFault). Some f) (sym is)

walk_none : (has : ℕ → Bool) (count line : ℕ) → first_hindered has count line [] ≡ None
unfolding first_hindered
walk_none has count line = refl

pub loop_end : (has : ℕ → Bool) (count line i : ℕ) (cs : List Change) (meant : Option BatchFault) → length cs ≤ i →
    first_hindered has count line (drop i cs) ≡ meant → meant ≡ None
loop_end has count line i cs meant all so_far =
    sym so_far ∙ ap (first_hindered has count line) (drop_all cs i all) ∙ walk_none has count line

-- ---- which numbers are there after a change

true_and_false : (b : Bool) → b ≡ true → b ≡ false → ⊥
true_and_false b t f = both_ways b f t

or_is_cond : (a b : Bool) → (b || (a || false)) ≡ cond a true b
or_is_cond true true = refl
or_is_cond true false = refl
or_is_cond false true = refl
or_is_cond false false = refl

has_number-push : (n : ℕ) (rs : List Record) (r : Record) →
    has_number n (rs ++ r ∷ []) ≡ cond (eqb r.number n) true (has_number n rs)
has_number-push n rs r =
    list_any-append (λ s. eqb s.number n) rs (r ∷ []) ∙ or_is_cond (eqb r.number n) (has_number n rs)

taken_out : (k n m : ℕ) (has : Bool) → m ≡ k → cond (eqb k n) false has ≡ cond (eqb k n) false (eqb m n || has)
taken_out k n m has same =
    ⊎_elim (λ (t : eqb k n ≡ true). rw t refl)
    (λ (f : eqb k n ≡ false). let g : eqb m n ≡ false = ap (λ x. eqb x n) same ∙ f in rw (f, g) refl)
    (cases_Bool (eqb k n))

left_in : (k n m : ℕ) (has : Bool) → m ≢ k → (eqb m n || cond (eqb k n) false has)
    ≡ cond (eqb k n) false (eqb m n || has)
left_in k n m has other =
    ⊎_elim
    (λ (t : eqb k n ≡ true).
    let g : eqb m n ≡ false = ne_eqb m n (λ e. other (e ∙ sym (eqb-true k n t))) in rw (t, g) refl)
    (λ (f : eqb k n ≡ false). rw f refl) (cases_Bool (eqb k n))

pub without-here : (k : ℕ) (r : Record) (rs : List Record) → r.number ≡ k → without k (r ∷ rs) ≡ without k rs
without-here k r rs e = let t : eqb r.number k ≡ true = eq-eqb r.number k e in rw t refl

without-there : (k : ℕ) (r : Record) (rs : List Record) → r.number ≢ k → without k (r ∷ rs) ≡ r ∷ without k rs
without-there k r rs ne = let f : eqb r.number k ≡ false = ne_eqb r.number k ne in rw f refl

has_number-without : (k n : ℕ) (rs : List Record) → has_number n (without k rs) ≡ cond (eqb k n) false (has_number n rs)
has_number-without k n [] = ⊎_elim (λ (t : eqb k n ≡ true). rw t refl) (λ (f : eqb k n ≡ false). rw f refl)
    (cases_Bool (eqb k n))
has_number-without k n (r ∷ rs) =
    let ih = has_number-without k n rs in
    ⊎_elim
    (λ (same : r.number ≡ k).
    ap (has_number n) (without-here k r rs same) ∙ ih ∙ taken_out k n r.number (has_number n rs) same)
    (λ (other : r.number ≢ k).
    ap (has_number n) (without-there k r rs other) ∙ ap (λ b. eqb r.number n || b) ih
    ∙ left_in k n r.number (has_number n rs) other)
    (cases_eq r.number k)

pub without-absent : (k : ℕ) (rs : List Record) → has_number k rs ≡ false → without k rs ≡ rs
without-absent k [] none = refl
without-absent k (r ∷ rs) none =
    let parts = or_parts (eqb r.number k) (has_number k rs) none in
    without-there k r rs (λ e. absurd (true_and_false (eqb r.number k) (eq-eqb r.number k e) parts.0))
    ∙ ap (λ (ss : List Record). r ∷ ss) (without-absent k rs parts.1)

length-without : (k : ℕ) (rs : List Record) → Apart rs → has_number k rs ≡ true → length (without k rs) + 1 ≡ length rs
length-without k [] apart there = absurd cc
length-without k (r ∷ rs) apart there =
    ⊎_elim
    (λ (same : r.number ≡ k).
    let gone : has_number k rs ≡ false = ap (λ n. has_number n rs) (sym same) ∙ apart_head r rs apart in
    let e : length (without k (r ∷ rs)) ≡ length rs = ap length (without-here k r rs same ∙ without-absent k rs gone) in
    omega arith)
    (λ (other : r.number ≢ k).
    let f : eqb r.number k ≡ false = ne_eqb r.number k other in
    let inside : has_number k rs ≡ true = rw f at there in
    let ih = length-without k rs (apart_tail r rs apart) inside in
    let e : length (without k (r ∷ rs)) ≡ suc (length (without k rs)) = ap length (without-there k r rs other) in
    omega arith)
    (cases_eq r.number k)

-- ---- records and numbers walk alike

-- a map's records and numbers after one change
record IsMade (rs : List Record) (c : Change) : Type 0 where
  numbers_are : (n : ℕ) → after (λ m. has_number m rs) c n ≡ has_number n (made rs c)
  apart : Apart (made rs c)
  count : count_after (length rs) c ≡ length (made rs c)

new_is_apart : (rs : List Record) (r : Record) → has_number r.number rs ≡ false → (k : ℕ) (d : Record) →
    k < length rs → (get_or rs k d).number ≢ r.number
new_is_apart rs r new k d low e =
    both_ways (has_number r.number rs) new (list_any_at (λ s. eqb s.number r.number) rs k d low (eq-eqb _ _ e))

addition_made : (rs : List Record) (r : Record) → Apart rs → has_number r.number rs ≡ false → IsMade rs (Add r)
addition_made rs r apart new = record {
  numbers_are = λ n. sym (has_number-push n rs r);
  apart = all_pairs_push (λ a b. a.number ≢ b.number) rs r apart (new_is_apart rs r new);
  count = let e = length_push rs r in omega arith;
}

removal_made : (rs : List Record) (k : ℕ) → Apart rs → has_number k rs ≡ true → IsMade rs (Remove k)
removal_made rs k apart there = record {
  numbers_are = λ n. sym (has_number-without k n rs);
  apart = AllPairs-filter (λ a b. a.number ≢ b.number) (λ r. not (eqb r.number k)) rs apart;
  count = let e = length-without k rs apart there in omega arith;
}

free_addition : (b : Bool) (count line : ℕ) (r : Record) → hindered b count line (Add r) ≡ None → b ≡ false
free_addition true count line r e = absurd cc
free_addition false count line r e = refl

free_removal : (b : Bool) (count line n : ℕ) → hindered b count line (Remove n) ≡ None → b ≡ true
free_removal true count line n e = refl
free_removal false count line n e = absurd cc

made_is : (rs : List Record) (line : ℕ) (c : Change) → Apart rs →
    hindered (has_number (named c) rs) (length rs) line c ≡ None → IsMade rs c
made_is rs line (Add r) apart free =
    addition_made rs r apart (free_addition (has_number r.number rs) (length rs) line r free)
made_is rs line (Remove k) apart free =
    removal_made rs k apart (free_removal (has_number k rs) (length rs) line k free)

hindrance_same : (rs : List Record) (line : ℕ) (c : Change) →
    hindrance rs line c ≡ hindered (has_number (named c) rs) (length rs) line c
hindrance_same rs line (Add r) = refl
hindrance_same rs line (Remove k) = refl

or_else_same : (a b x y : Option BatchFault) → a ≡ b → (b ≡ None → x ≡ y) → or_else a x ≡ or_else b y
or_else_same a (Some f) x y e then = rw e refl
or_else_same a None x y e then = rw e (then refl)

walk_same : (rs : List Record) (line : ℕ) (cs : List Change) → Apart rs →
    first_hindrance rs line cs ≡ first_hindered (λ n. has_number n rs) (length rs) line cs
unfolding first_hindrance first_hindered
walk_same rs line [] apart = refl
walk_same rs line (c ∷ cs) apart =
    or_else_same (hindrance rs line c) (hindered (has_number (named c) rs) (length rs) line c)
    (first_hindrance (made rs c) (line + 1) cs)
    (first_hindered (after (λ n. has_number n rs) c) (count_after (length rs) c) (line + 1) cs)
    (hindrance_same rs line c)
    (λ free.
    let is = made_is rs line c apart free in
    let ih = walk_same (made rs c) (line + 1) cs is.apart in
    ih ∙ (λ j. first_hindered (λ n. (sym (is.numbers_are n)) j) ((sym is.count) j) (line + 1) cs))

fault_same : (b : Changes) (held : ℕ) (x y : Option BatchFault) → x ≡ y →
    cond (eqb b.number (held + 1)) x (Some (OutOfOrder held b.number)) ≡ cond (eqb b.number (held + 1)) y
    (Some (OutOfOrder held b.number))
fault_same b held x y e = ap (λ o. cond (eqb b.number (held + 1)) o (Some (OutOfOrder held b.number))) e

pub same_fault_by : (entries : DirectoryEntries) (rs : List Record) (count : ℕ) → HaveNumbers entries rs → count ≡
    length rs →
    (held : ℕ) (b : Changes) → fault_by (knows entries) count held b ≡ batch_fault rs held b
same_fault_by entries rs count have many held b =
    fault_same b held (first_hindered (knows entries) count 2 b.list) (first_hindrance rs 2 b.list)
    ((λ j. first_hindered (λ n. have.same n j) (many j) 2 b.list) ∙ sym (walk_same rs 2 b.list have.apart))

-- ---- no hindrance just where the changes can be applied

-- the change may be made just where nothing hinders it
data Chance (may : Bool) (why : Option BatchFault) : Type 0 where
  free : may ≡ true → why ≡ None → Chance may why
  barred : (f : BatchFault) → may ≡ false → why ≡ Some f → Chance may why

addition_chance : (there room full : Bool) (line : ℕ) → room ≡ not full →
    Chance (not there && room) (cond there (Some (Present line)) (cond full (Some (Full line)) None))
addition_chance true room full line e = barred (Present line) refl refl
addition_chance false room true line e = barred (Full line) e refl
addition_chance false room false line e = free e refl

removal_chance : (there : Bool) (line : ℕ) → Chance there (cond there None (Some (Absent line)))
removal_chance true line = free refl refl
removal_chance false line = barred (Absent line) refl refl

room_or_full : (n limit : ℕ) → ltb n limit ≡ not (leb limit n)
room_or_full n limit =
    ⊎_elim (λ (t : ltb n limit ≡ true). t ∙ ap not (sym (lt-leb limit n (ltb-true n limit t))))
    (λ (f : ltb n limit ≡ false). f ∙ ap not (sym (le-leb limit n (ltb-false n limit f)))) (cases_Bool (ltb n limit))

chance : (rs : List Record) (line : ℕ) (c : Change) → Chance (may_make rs c) (hindrance rs line c)
chance rs line (Add r) =
    addition_chance (has_number r.number rs) (ltb (length rs) count_limit) (leb count_limit (length rs)) line
    (room_or_full (length rs) count_limit)
chance rs line (Remove k) = removal_chance (has_number k rs) line

abbrev Alike : Option BatchFault → Option (List Record) → Type 0
Alike why after_them = (why ≡ None) ↔ IsSome after_them

alike_on : (may : Bool) (why next : Option BatchFault) (rest : Option (List Record)) → Chance may why →
    Alike next rest → Alike (or_else why next) (cond may rest None)
alike_on may why next rest (free t e) same = rw (e, t) same
alike_on may why next rest (barred f t e) same = rw (e, t) (λ x. absurd cc, λ x. absurd cc)

applied_alike : (rs : List Record) (line : ℕ) (cs : List Change) → Alike (first_hindrance rs line cs) (applied rs cs)
unfolding first_hindrance applied
applied_alike rs line [] = (λ _. refl, λ _. refl)
applied_alike rs line (c ∷ cs) =
    alike_on (may_make rs c) (hindrance rs line c) (first_hindrance (made rs c) (line + 1) cs)
    (applied (made rs c) cs) (chance rs line c) (applied_alike (made rs c) (line + 1) cs)

ordered_then : (x : Bool) (o : Option BatchFault) (f : BatchFault) → cond x o (Some f) ≡ None → (x ≡ true) × (o ≡ None)
ordered_then true o f e = (refl, e)
ordered_then false o f e = absurd cc

pub fault_none : (rs : List Record) (held : ℕ) (b : Changes) → batch_fault rs held b ≡ None → IsAdmissible rs held b
fault_none rs held b e =
    let both = ordered_then (eqb b.number (held + 1)) (first_hindrance rs 2 b.list) (OutOfOrder held b.number) e in
    record { next = eqb-true b.number (held + 1) both.0; made = (applied_alike rs 2 b.list).0 both.1 }

pub none_fault : (rs : List Record) (held : ℕ) (b : Changes) → IsAdmissible rs held b → batch_fault rs held b ≡ None
none_fault rs held b is =
    let t : eqb b.number (held + 1) ≡ true = eq-eqb b.number (held + 1) is.next in
    let free : first_hindrance rs 2 b.list ≡ None = (applied_alike rs 2 b.list).1 is.made in
    rw (t, free) refl

pub admitted : (r : Result Unit BatchFault) (rs : List Record) (held : ℕ) (b : Changes) →
    MatchResult r (λ _. batch_fault rs held b ≡ None) (λ f. batch_fault rs held b ≡ Some f) →
    IsOk r ↔ IsAdmissible rs held b
admitted (Ok x) rs held b e = (λ _. fault_none rs held b e, λ _. refl)
admitted (Err f) rs held b e =
    (λ no. absurd cc, λ is. let none = none_fault rs held b is in let clash : Some f ≡ None = sym e ∙ none in absurd cc)
