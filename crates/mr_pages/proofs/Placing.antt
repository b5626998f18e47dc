-- A number is met: by its flag, in a table with one place for each, or beside it.
use Rattle.std.proofs.Common.{◌≡◌, ◌≢◌, ℕ, ◌+◌, ◌%◌, ◌<◌, ◌≤◌, Bool, true, false, cond, List, [], ◌∷◌, ◌++◌, length, get_or, set, inl, inr, refl, sym, ap, ◌∙◌, length-append, arith}
use Rattle.std.proofs.Math.Nat.{mod-lt}
use Rattle.std.specs.Prelude.{◌==◌, ◌||◌, ◌&&◌, not, nat_lt, if◌then◌else◌}
use Rattle.std.specs.Ordering.{nat_cmp}
use Rattle.std.specs.BTreeSet.{BTreeSet, contains, btree_set_len}
use Rattle.std.specs.BTreeMap.{is_at}
use Rattle.std.proofs.lemmas.Bool.{true≢false, false≢true, cond-true, cond-false, ltb-true, lt-ltb, le-ltb, eq-eqb, cases_eq, ne_eqb, and_right, or_from, not-false, OnFalse_from}
use Rattle.std.proofs.lemmas.List.{get_or-set_same, get_or-set_other, length-set}
use Rattle.std.proofs.lemmas.List.Sums.{sum_by-set}
use Rattle.std.proofs.lemmas.Bool.Decides.{nat_tests}
use Rattle.mr_pages.specs.declared.flags.Flags.{Flags}
use Rattle.mr_pages.specs.declared.table.Table.{Table}
use Rattle.mr_pages.specs.declared.numbers.Numbers.{Numbers}
use Rattle.mr_pages.specs.private.Places.{number_in_place, put_at_place, is_taken, taken_of, flagged_of}
use Rattle.mr_pages.specs.private.Numbers.{holds_high, holds, Met, MeetsNumber}
use Rattle.mr_pages.proofs.Lists.{has-append}

-- ---- a number's flag is set

-- whether a number is kept, where another's flag was set
with_flag : (low f h e : Bool) → low ≡ true → e ≡ true →
    (if low then true else h) ≡ ((if low then f else h) || (e || false))
with_flag true true h true low same = refl
with_flag true false h true low same = refl
with_flag low f h false low' same = absurd (false≢true same)
with_flag false f h true low same = absurd (false≢true low)

with_none : (b e : Bool) → e ≡ false → b ≡ (b || (e || false))
with_none true false none = refl
with_none false false none = refl
with_none b true none = absurd (true≢false none)

flag_holds : (l : List Bool) (n q : ℕ) (h : Bool) → n < length l →
    (if nat_lt q (length (set l n true)) then get_or (set l n true) q false else h)
    ≡ ((if nat_lt q (length l) then get_or l q false else h) || ((q == n) || false))
flag_holds l n q h within = elim (cases_eq q n) [
  | inl same ↦
      ap (λ m. if nat_lt q m then get_or (set l n true) q false else h) (length-set l n true)
      ∙ ap (λ b. if nat_lt q (length l) then b else h)
      (ap (λ k. get_or (set l n true) k false) same ∙ get_or-set_same l n true false within)
      ∙ with_flag (nat_lt q (length l)) (get_or l q false) h (q == n)
      (lt-ltb q (length l) (omega (arith, within, same))) (eq-eqb q n same)
  | inr other ↦
      ap (λ m. if nat_lt q m then get_or (set l n true) q false else h) (length-set l n true)
      ∙ ap (λ b. if nat_lt q (length l) then b else h) (get_or-set_other l n q true false other)
      ∙ with_none (if nat_lt q (length l) then get_or l q false else h) (q == n) (ne_eqb q n other)
]

flag_count : (l : List Bool) (n : ℕ) → n < length l → get_or l n false ≡ false →
    flagged_of (set l n true) ≡ flagged_of l + 1
flag_count l n within fresh =
    let weight : Bool → ℕ = λ b. cond b 1 0 in
    let before : weight (get_or l n false) ≡ 0 = ap weight fresh in
    omega (arith, sum_by-set weight l n true false within, before)

module _ (s : Numbers) (n : ℕ) (within : n < length s.flags.flags.items) where
  low : nat_lt n (length s.flags.flags.items) ≡ true
  low = lt-ltb n (length s.flags.flags.items) within

  is_flag : holds s n ≡ get_or s.flags.flags.items n false
  is_flag = cond-true (nat_lt n (length s.flags.flags.items)) (get_or s.flags.flags.items n false) (holds_high s n) low

  module _ (f : Flags) (b : Bool) (was : b ≡ get_or s.flags.flags.items n false)
      (sets : f.flags.items ≡ set s.flags.flags.items n true) where
    abbrev flagged : Numbers
    flagged = record { flags = f; table = s.table; others = s.others }

    pub meets_low : MeetsNumber s n b flagged
    meets_low = λ ns met. (
      was ∙ sym is_flag ∙ met.all n,
      OnFalse_from b (Met flagged (ns ++ n ∷ [])) (λ fresh. record {
        all = λ q.
            (λ i. if nat_lt q (length (sets i)) then get_or (sets i) q false else holds_high s q)
            ∙ flag_holds s.flags.flags.items n q (holds_high s q) within
            ∙ ap (λ b. b || ((q == n) || false)) (met.all q)
            ∙ sym (has-append q ns (n ∷ []));
        count = omega (
          arith,
          ap flagged_of sets,
          flag_count s.flags.flags.items n within (sym was ∙ fresh),
          met.count,
          length-append ns (n ∷ []),
        );
        others = met.others;
      }),
    )

-- what is so of a number without a flag, where the flags stay
by_high : (l : List Bool) (n q : ℕ) (h h' : Bool) → length l ≤ n → h' ≡ (h || ((q == n) || false)) →
    (if nat_lt q (length l) then get_or l q false else h')
    ≡ ((if nat_lt q (length l) then get_or l q false else h) || ((q == n) || false))
by_high l n q h h' high is = by (nat_lt q (length l)) refl
  where
    by : (b : Bool) → nat_lt q (length l) ≡ b → (if b then get_or l q false else h')
        ≡ ((if b then get_or l q false else h) || ((q == n) || false))
    by true e =
        with_none (get_or l q false) (q == n)
        (ne_eqb q n (λ same. absurd (omega (arith, ltb-true q (length l) e, same, high))))
    by false e = is

high_is : (s : Numbers) (n : ℕ) → length s.flags.flags.items ≤ n → holds s n ≡ holds_high s n
high_is s n high =
    cond-false (nat_lt n (length s.flags.flags.items)) (get_or s.flags.flags.items n false) (holds_high s n)
    (le-ltb n (length s.flags.flags.items) high)

-- ---- a number is put at its place

put_same : (l : List ℕ) (n q : ℕ) → 1 ≤ length l → q % length l ≡ n % length l → number_in_place
    (put_at_place l n) q ≡ n
put_same l n q some same =
    ap (λ m. get_or (set l (n % length l) n) (q % m) 0) (length-set l (n % length l) n)
    ∙ ap (λ k. get_or (set l (n % length l) n) k 0) same
    ∙ get_or-set_same l (n % length l) n 0 (mod-lt n (omega arith))

put_other : (l : List ℕ) (n q : ℕ) → q % length l ≢ n % length l → number_in_place (put_at_place l n) q ≡
    number_in_place l q
put_other l n q other =
    ap (λ m. get_or (set l (n % length l) n) (q % m) 0) (length-set l (n % length l) n)
    ∙ get_or-set_other l (n % length l) (q % length l) n 0 other

put_count : (l : List ℕ) (n : ℕ) → 1 ≤ length l → n ≢ 0 → number_in_place l n ≡ 0 →
    taken_of (put_at_place l n) ≡ taken_of l + 1
put_count l n some nonzero empty =
    let within : n % length l < length l = mod-lt n (omega arith) in
    let weight : ℕ → ℕ = λ m. cond (is_taken m) 1 0 in
    let before : weight (number_in_place l n) ≡ 0 = ap weight empty in
    let after : weight n ≡ 1 = ap (λ b. cond {A = ℕ} (not b) 1 0) (ne_eqb n 0 nonzero) in
    omega (arith, sum_by-set weight l (n % length l) n 0 within, before, after)

-- whether a number is kept, where another was put at its place
with_put : (q n : ℕ) (b : Bool) → n ≢ 0 → (q ≢ 0 → b ≡ false) →
    ((is_taken q && n == q) || b) ≡ (((is_taken q && 0 == q) || b) || ((q == n) || false))
with_put q n b nonzero none = grind (arith, nat_tests)

with_other : (q n : ℕ) (b : Bool) → q ≢ n → b ≡ (b || ((q == n) || false))
with_other q n b apart = grind (arith, nat_tests)

module _ (s : Numbers) (t : Table) (n : ℕ) (high : length s.flags.flags.items ≤ n)
    (empty : number_in_place s.table.places.items n ≡ 0)
    (put : t.places.items ≡ put_at_place s.table.places.items n) where
  abbrev before : List ℕ
  before = s.table.places.items

  some : 1 ≤ length before
  some = omega (arith, s.table.some, s.table.places.ok)

  nonzero : n ≢ 0
  nonzero e = absurd (omega (arith, s.flags.some, s.flags.flags.ok, high, e))

  abbrev after : Numbers
  after = record { flags = s.flags; table = t; others = s.others }

  put_holds : (none : (q : ℕ) → q ≢ 0 → number_in_place before q ≡ 0 → contains nat_cmp s.others q ≡ false) (q : ℕ) →
      holds_high after q ≡ (holds_high s q || ((q == n) || false))
  put_holds none q =
      let b = contains nat_cmp s.others q in
      elim (cases_eq (q % length before) (n % length before)) [
        | inl same ↦
            let now : number_in_place t.places.items q ≡ n = ap (λ xs. number_in_place xs q) put ∙ put_same before n q
            some same in
            let was : number_in_place before q ≡ 0 = ap (λ k. get_or before k 0) same ∙ empty in
            ap (λ m. (is_taken q && m == q) || b) now
            ∙ with_put q n b nonzero (λ z. none q z was)
            ∙ ap (λ m. ((is_taken q && m == q) || b) || ((q == n) || false)) (sym was)
        | inr other ↦
            let now : number_in_place t.places.items q ≡ number_in_place before q =
            ap (λ xs. number_in_place xs q) put ∙ put_other before n q other in
            ap (λ m. (is_taken q && m == q) || b) now
            ∙ with_other q n (holds_high s q) (λ e. other (ap (λ m. m % length before) e))
      ]

  put_others : (q : ℕ) → number_in_place t.places.items q ≡ 0 → number_in_place before q ≡ 0
  put_others q e = elim (cases_eq (q % length before) (n % length before)) [
    | inl same ↦ ap (λ k. get_or before k 0) same ∙ empty
    | inr other ↦ sym (put_other before n q other) ∙ ap (λ xs. number_in_place xs q) (sym put) ∙ e
  ]

  pub meets_empty : MeetsNumber s n false after
  meets_empty = λ ns met. (
    sym (or_from (is_taken n && number_in_place before n == n) (contains nat_cmp s.others n)
        (and_right (is_taken n) (number_in_place before n == n)
        (ne_eqb (number_in_place before n) n (λ e. nonzero (sym e ∙ empty))))
        (met.others n nonzero empty))
        ∙ sym (high_is s n high)
        ∙ met.all n,
    record {
      all = λ q.
          by_high s.flags.flags.items n q (holds_high s q) (holds_high after q) high (put_holds met.others q)
          ∙ ap (λ b. b || ((q == n) || false)) (met.all q)
          ∙ sym (has-append q ns (n ∷ []));
      count = omega (
        arith,
        ap taken_of put,
        put_count before n some nonzero empty,
        met.count,
        length-append ns (n ∷ []),
      );
      others = λ q z e. met.others q z (put_others q e);
    },
  )

-- ---- a number is met beside the table

-- whether a set has a number that has one number more
with_one : (k q : ℕ) (b : Bool) → cond (is_at (nat_cmp k) q) true b ≡ (b || ((q == k) || false))
with_one k q b = grind (arith, nat_tests)

or_assoc : (a b c : Bool) → (a || (b || c)) ≡ ((a || b) || c)
or_assoc true b c = refl
or_assoc false b c = refl

not_not : (b : Bool) → not (not b) ≡ b
not_not true = refl
not_not false = refl

module _ (s : Numbers) (o : BTreeSet ℕ) (n : ℕ) (high : length s.flags.flags.items ≤ n)
    (apart : n ≢ 0 → number_in_place s.table.places.items n ≢ n)
    (taken : n ≢ 0 → number_in_place s.table.places.items n ≢ 0) where
  abbrev stands : ℕ → Bool
  stands q = is_taken q && number_in_place s.table.places.items q == q

  beside : stands n ≡ false
  beside = elim (cases_eq n 0) [
    | inl zero ↦ ap (λ m. is_taken m && number_in_place s.table.places.items m == m) zero
    | inr nonzero ↦
        and_right (is_taken n) (number_in_place s.table.places.items n == n)
        (ne_eqb (number_in_place s.table.places.items n) n (apart nonzero))
  ]

  abbrev beyond : Numbers
  beyond = record { flags = s.flags; table = s.table; others = o }

  pub meets_other : {b : Bool} → b ≡ not (contains nat_cmp s.others n) →
      ((q : ℕ) → contains nat_cmp o q ≡ cond (is_at (nat_cmp n) q) true (contains nat_cmp s.others q)) →
      btree_set_len o ≡ btree_set_len s.others + cond b 1 0 →
      MeetsNumber s n (not b) beyond
  meets_other {b} added updates longer = λ ns met. (
    ap not added ∙ not_not (contains nat_cmp s.others n)
        ∙ ap (λ x. x || contains nat_cmp s.others n) (sym beside)
        ∙ sym (high_is s n high)
        ∙ met.all n,
    OnFalse_from (not b) (Met beyond (ns ++ n ∷ [])) (λ e. record {
      all = λ q.
          by_high s.flags.flags.items n q (holds_high s q) (holds_high beyond q) high
          (ap (λ x. stands q || x) (updates q ∙ with_one n q (contains nat_cmp s.others q))
          ∙ or_assoc (stands q) (contains nat_cmp s.others q) ((q == n) || false))
          ∙ ap (λ x. x || ((q == n) || false)) (met.all q)
          ∙ sym (has-append q ns (n ∷ []));
      count = omega (
        arith,
        longer ∙ ap (λ x. btree_set_len s.others + cond x 1 0) (not-false b e),
        met.count,
        length-append ns (n ∷ []),
      );
      others = λ q z empty.
          updates q
          ∙ with_one n q (contains nat_cmp s.others q)
          ∙ sym (with_other q n (contains nat_cmp s.others q)
          (λ same. taken (λ none. z (same ∙ none)) (ap (number_in_place s.table.places.items) (sym same) ∙ empty)))
          ∙ met.others q z empty;
    }),
  )
