-- Records with just the numbers of a directory are as many as it has, and there are such records.
use Rattle.std.proofs.Common.{◌≡◌, ℕ, suc, ◌<◌, ◌≢◌, Bool, false, cond, eqb, ltb, ◌||◌, List, [], ◌∷◌, length, get_or, map, refl, sym, ap, subst, ◌∙◌, arith, ⊎_elim, AllPairs, is_some}
use Rattle.std.specs.Prelude.{All}
use Rattle.std.specs.List.{list_any, AllByRecursion, IsDistinct}
use Rattle.std.specs.Map.{keys_of}
use Rattle.std.specs.Set.{is_member}
use Rattle.std.specs.Cmp.{nat_eq_equiv}
use Rattle.std.specs.BTreeMap.{is_at}
use Rattle.std.specs.Ordering.{nat_cmp, is_eq, eq_by_cmp}
use Rattle.std.specs.declared.cmp.Ordering.TheVariants.{Less, Equal, Greater}
use Rattle.std.proofs.lemmas.Bool.{cases_eq, cond_both, eq-eqb, eqb-false, ne_eqb, ltb-true, or_parts}
use Rattle.std.proofs.lemmas.List.{length-map}
use Rattle.std.proofs.lemmas.List.Elements.{All-cons, All-nil}
use Rattle.std.proofs.lemmas.List.Folds.{list_any_none}
use Rattle.std.proofs.lemmas.List.Kept.{AllPairs-cons}
use Rattle.std.proofs.lemmas.Map.Entries.{length-keys_of}
use Rattle.std.proofs.lemmas.Map.Keys.{IsDistinct-from_sorted, IsDistinct-head, IsDistinct-tail}
use Rattle.std.proofs.lemmas.Map.Made.{is_some-lookup, length-from_same_keys}
use Rattle.mr_geom.specs.Rectangle.{Rectangle}
use Rattle.mr_record.specs.declared.record.Record.{Record}
use Rattle.mr_record.specs.RecordText.{has_number}
use Rattle.mr_batch.specs.Directory.{DirectoryEntries, rect_at, HaveNumbers, AreRising}

-- ---- the order of numbers tells whether they are equal

pub same_test : (a b : ℕ) → is_eq (nat_cmp a b) ≡ eqb a b
same_test a b =
    cond_both (ltb a b) Less (cond (eqb a b) Equal Greater) (λ o. is_eq o ≡ eqb a b)
    (λ t. let low : a < b = ltb-true a b t in sym (ne_eqb a b (λ e. absurd (omega arith))))
    (λ f. cond_both (eqb a b) Equal Greater (λ o. is_eq o ≡ eqb a b) (λ t. sym t) (λ g. sym g))

same_eq : eq_by_cmp nat_cmp ≡ eqb
same_eq = λ j a b. same_test a b j

same_query : (n : ℕ) → is_at (nat_cmp n) ≡ eqb n
same_query n = λ j b. same_test n b j

turned : (a b : ℕ) → eqb a b ≡ eqb b a
turned a b =
    ⊎_elim (λ (e : a ≡ b). eq-eqb a b e ∙ sym (eq-eqb b a (sym e)))
    (λ (ne : a ≢ b). ne_eqb a b ne ∙ sym (ne_eqb b a (λ e. ne (sym e)))) (cases_eq a b)

-- ---- numbers that differ

abbrev number_of : Record → ℕ
number_of r = r.number

member_number : (n : ℕ) (rs : List Record) → is_member eqb (map number_of rs) n ≡ has_number n rs
member_number n [] = refl
member_number n (r ∷ rs) = (λ j. turned n r.number j || member_number n rs j)

none_equal : (n : ℕ) (rs : List Record) → has_number n rs ≡ false → AllByRecursion (λ y. eqb n y ≡ false)
    (map number_of rs)
none_equal n [] none = tt
none_equal n (r ∷ rs) none =
    let parts = or_parts (eqb r.number n) (has_number n rs) none in
    (turned n r.number ∙ parts.0, none_equal n rs parts.1)

abbrev pub Apart : List Record → Type 0
Apart rs = AllPairs (λ a b. a.number ≢ b.number) rs

pub apart_head : (r : Record) (rs : List Record) → Apart (r ∷ rs) → has_number r.number rs ≡ false
apart_head r rs apart =
    list_any_none (λ s. eqb s.number r.number) rs
    (λ k d low. ne_eqb (get_or rs k d).number r.number (λ e. apart 0 (suc k) d (omega arith) (omega arith) (sym e)))

pub apart_tail : (r : Record) (rs : List Record) → Apart (r ∷ rs) → Apart rs
apart_tail r rs apart i j d above low = apart (suc i) (suc j) d (omega arith) (omega arith)

distinct_numbers : (rs : List Record) → Apart rs → IsDistinct eqb (map number_of rs)
unfolding IsDistinct
distinct_numbers [] apart = tt
distinct_numbers (r ∷ rs) apart =
    (none_equal r.number rs (apart_head r rs apart), distinct_numbers rs (apart_tail r rs apart))

distinct_keys : (entries : DirectoryEntries) → AreRising entries → IsDistinct eqb (keys_of entries)
distinct_keys entries rising =
    subst (λ (e : ℕ → ℕ → Bool). IsDistinct e (keys_of entries)) same_eq
    (IsDistinct-from_sorted nat_cmp (keys_of entries) rising)

found : (entries : DirectoryEntries) (n : ℕ) → is_some (rect_at entries n) ≡ is_member eqb (keys_of entries) n
found entries n =
    is_some-lookup (is_at (nat_cmp n)) entries ∙ ap (λ (t : ℕ → Bool). list_any t (keys_of entries)) (same_query n)

pub as_many : (entries : DirectoryEntries) (rs : List Record) → AreRising entries → HaveNumbers entries rs →
    length entries ≡ length rs
as_many entries rs rising have =
    sym (length-keys_of entries)
    ∙ length-from_same_keys nat_eq_equiv (keys_of entries) (map number_of rs) (distinct_keys entries rising)
    (distinct_numbers rs have.apart)
    (λ n. sym (found entries n) ∙ have.same n ∙ sym (member_number n rs))
    ∙ length-map rs number_of

-- ---- there are such records

abbrev record_at : (ℕ × Rectangle) → Record
record_at e = record { number = e.0; rect = e.1; layer = 0; payload = [] }

member_entry : (n : ℕ) (entries : DirectoryEntries) → is_member eqb (keys_of entries) n ≡ has_number n
    (map record_at entries)
member_entry n [] = refl
member_entry n (e ∷ entries) = (λ j. turned n e.0 j || member_entry n entries j)

numbers_differ : (n : ℕ) (entries : DirectoryEntries) → AllByRecursion (λ y. eqb n y ≡ false) (keys_of entries) →
    All (λ (r : Record). n ≢ r.number) (map record_at entries)
numbers_differ n [] none = All-nil (λ (r : Record). n ≢ r.number)
numbers_differ n (e ∷ entries) none =
    All-cons (λ (r : Record). n ≢ r.number) (record_at e) (map record_at entries) (eqb-false n e.0 none.0)
    (numbers_differ n entries none.1)

apart_entries : (entries : DirectoryEntries) → IsDistinct eqb (keys_of entries) → Apart (map record_at entries)
apart_entries [] distinct = λ i j d above low. absurd (omega arith)
apart_entries (e ∷ entries) distinct =
    let others : Apart (map record_at entries) = apart_entries entries
    (IsDistinct-tail eqb e.0 (keys_of entries) distinct)
    in
    AllPairs-cons (λ a b. a.number ≢ b.number) (record_at e) (map record_at entries)
    (numbers_differ e.0 entries (IsDistinct-head eqb e.0 (keys_of entries) distinct)) others

pub some_records : (entries : DirectoryEntries) → AreRising entries → (rs : List Record) × HaveNumbers entries rs
some_records entries rising = (
  map record_at entries,
  record {
    same = λ n. found entries n ∙ member_entry n entries;
    apart = apart_entries entries (distinct_keys entries rising);
  },
)
