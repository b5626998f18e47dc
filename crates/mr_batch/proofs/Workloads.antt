-- The words of made-up workloads one by one, and what is made of them.
use Rattle.std.proofs.Common.{◌≡◌, ◌≢◌, ℕ, ◌+◌, ◌-◌, ◌^◌, ◌<◌, ◌≤◌, List, [], ◌∷◌, ◌++◌, length, get_or, All, AllPairs, refl, sym, subst, ap, ◌∙◌, add-one, append_assoc, arith}
use Rattle.std.proofs.lemmas.List.{append-nil, length-map, get_or-map}
use Rattle.std.proofs.lemmas.List.FromFn.{length-enumerate_from, get_or-enumerate_from}
use Rattle.std.specs.List.{enumerate_from}
use Rattle.rand_core.specs.Steps.{first_words}
use Rattle.mr_record.specs.declared.record.Record.{Record}
use Rattle.std.proofs.lemmas.List.Elements.{All-nil, All-cons}
use Rattle.mr_record.specs.declared.version.Version.TheVariants.{One}
use Rattle.mr_record.specs.Record.{IsRecord, HasLayer}
use Rattle.mr_record.specs.RecordText.{IsRecordList}
use Rattle.mr_query.specs.declared.query.Query.{Query}
use Rattle.mr_batch.specs.Workload.{words, of_each, record_of_word, generated, query_of_word, generated_queries}

-- ---- one more word

-- the first word of a generator, and the words from the state after it
pub first_and_rest : (step : ℕ → ℕ × ℕ) (k s w t : ℕ) → (w, t) ≡ step s
    → first_words step (k + 1) s ≡ w ∷ first_words step k t
unfolding first_words
first_and_rest step k s w t e =
    ap (λ (n : ℕ). first_words step n s) (add-one k)
    ∙ sym (ap (λ (p : ℕ × ℕ). p.0 ∷ first_words step k p.1) e)

-- the words that are left behind one of them
words_left : (n i s w t : ℕ) → i < n → ((k : ℕ) → words (k + 1) s ≡ w ∷ words k t)
    → words (n - i) s ≡ w ∷ words (n - (i + 1)) t
words_left n i s w t below next =
    let e : n - i ≡ (n - (i + 1)) + 1 = omega arith in
    ap (λ (m : ℕ). words m s) e ∙ next (n - (i + 1))

of_each-cons : {A : Type 0} (f : ℕ → ℕ → A) (first word : ℕ) (rest : List ℕ)
    → of_each f first (word ∷ rest) ≡ f first word ∷ of_each f (first + 1) rest
unfolding of_each
of_each-cons f first word rest = refl

-- what is made of one more word goes to the end of what is made so far
pub one_more : {A : Type 0} (f : ℕ → ℕ → A) (so_far after whole : List A) (one : A) (first n i s w t : ℕ)
    → i < n → ((k : ℕ) → words (k + 1) s ≡ w ∷ words k t) → one ≡ f first w → after ≡ so_far ++ one ∷ []
    → so_far ++ of_each f first (words (n - i) s) ≡ whole
    → after ++ of_each f (first + 1) (words (n - (i + 1)) t) ≡ whole
one_more {A} f so_far after whole one first n i s w t below next is pushed before =
    let rest = of_each f (first + 1) (words (n - (i + 1)) t) in
    let left : of_each f first (words (n - i) s) ≡ one ∷ rest =
    ap (of_each f first) (words_left n i s w t below next)
    ∙ of_each-cons f first w (words (n - (i + 1)) t) ∙ ap (λ (x : A). x ∷ rest) (sym is) in
    ap (λ (l : List A). l ++ rest) pushed ∙ append_assoc so_far (one ∷ []) rest
    ∙ ap (λ (l : List A). so_far ++ l) (sym left) ∙ before

-- nothing is left to be made
pub all_made : {A : Type 0} (f : ℕ → ℕ → A) (so_far whole : List A) (first n i s : ℕ) → n ≤ i
    → so_far ++ of_each f first (words (n - i) s) ≡ whole → so_far ≡ whole
unfolding of_each words first_words
all_made {A} f so_far whole first n i s over e =
    let none : n - i ≡ 0 = omega arith in
    sym (append-nil so_far) ∙ sym (ap (λ (m : ℕ). so_far ++ of_each f first (words m s)) none) ∙ e

-- all is left to be made
none_made : {A : Type 0} (f : ℕ → ℕ → A) (so_far : List A) (first n s start : ℕ) → so_far ≡ [] → s ≡ start
    → so_far ++ of_each f first (words (n - 0) s) ≡ of_each f first (words n start)
none_made {A} f so_far first n s start none same =
    let left : n - 0 ≡ n = omega arith in
    ap (λ (l : List A). l ++ of_each f first (words (n - 0) s)) none
    ∙ ap (λ (m : ℕ). of_each f first (words m s)) left
    ∙ ap (λ (m : ℕ). of_each f first (words n m)) same

pub no_record_made : (so_far : List Record) (n s start : ℕ) → so_far ≡ [] → s ≡ start
    → so_far ++ of_each record_of_word 1 (words (n - 0) s) ≡ generated n start
unfolding generated
no_record_made so_far n s start none same = none_made record_of_word so_far 1 n s start none same

pub no_query_made : (so_far : List Query) (n s start : ℕ) → so_far ≡ [] → s ≡ start
    → so_far ++ of_each query_of_word 0 (words (n - 0) s) ≡ generated_queries n start
unfolding generated_queries
no_query_made so_far n s start none same = none_made query_of_word so_far 0 n s start none same

-- ---- the records

number_at : (first : ℕ) (ws : List ℕ) (i : ℕ) (d : Record) → i < length (of_each record_of_word first ws)
    → (get_or (of_each record_of_word first ws) i d).number ≡ first + i
unfolding of_each record_of_word
number_at first ws i d below =
    let count = length-map (enumerate_from first ws) (λ (p : ℕ × ℕ). record_of_word p.0 p.1)
    ∙ length-enumerate_from first ws in
    let inside : i < length ws = omega arith in
    let there : i < length (enumerate_from first ws) = omega (arith, length-enumerate_from first ws) in
    ap (λ (r : Record). r.number)
    (get_or-map (λ (p : ℕ × ℕ). record_of_word p.0 p.1) (enumerate_from first ws) i (0, 0) d there)
    ∙ ap (λ (p : ℕ × ℕ). p.0) (get_or-enumerate_from first ws i (0, 0) inside)

-- records that are numbered one after the other have different numbers
apart_each : (first : ℕ) (ws : List ℕ)
    → AllPairs (λ a b. a.number ≢ b.number) (of_each record_of_word first ws)
apart_each first ws i j d before below same =
    let p = number_at first ws i d (omega arith) in
    let q = number_at first ws j d below in
    absurd (omega arith)

layers_each : (first : ℕ) (ws : List ℕ) → All (HasLayer One) (of_each record_of_word first ws)
unfolding of_each record_of_word
layers_each first [] = All-nil (HasLayer One)
layers_each first (w ∷ ws) = All-cons (HasLayer One) (record_of_word first w) _ (omega arith)
    (layers_each (first + 1) ws)

pub generated_list : (rs : List Record) (n start : ℕ) → rs ≡ generated n start → All IsRecord rs
    → length rs ≡ n → n ≤ 2 ^ 20 → IsRecordList One rs
unfolding generated
generated_list rs n start exact each count few = record {
  each = each;
  layers = subst (All (HasLayer One)) (sym exact) (layers_each 1 (words n start));
  apart = subst (λ (l : List Record). AllPairs (λ a b. a.number ≢ b.number) l) (sym exact)
      (apart_each 1 (words n start));
  count = omega arith;
}
