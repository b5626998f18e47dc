-- A tree map that was made of all that was listed is the directory of the records.
use Rattle.std.proofs.Common.{◌≡◌, ◌≢◌, ℕ, suc, Bool, true, false, cond, eqb, List, [], ◌∷◌, length, map, get_or, Option, Some, None, AllPairs, refl, sym, ap, subst, ◌∙◌, arith}
use Rattle.std.specs.BTreeMap.{BTreeMap, IsFromIterResult}
use Rattle.std.specs.Bool.{Decides}
use Rattle.std.specs.Cmp.{unsigned_tied}
use Rattle.std.specs.Map.{keys_of, update, update_all}
use Rattle.std.specs.Ordering.{eq_by_cmp, nat_cmp}
use Rattle.std.proofs.lemmas.Bool.{eq-eqb, eqb-true, ne_eqb}
use Rattle.std.proofs.lemmas.Cmp.{eq_by_cmp_equiv, nat_cmp_total}
use Rattle.std.proofs.lemmas.List.{length-map}
use Rattle.std.proofs.lemmas.List.Folds.{list_any_none}
use Rattle.std.proofs.lemmas.Map.Made.{distinct_count-from_IsDistinct, IsDistinct-from_AllPairs}
use Rattle.std.proofs.lemmas.Map.Views.{btree_map_len-from_list}
use Rattle.mr_geom.specs.Rectangle.{Rectangle}
use Rattle.mr_record.specs.RecordText.{has_number}
use Rattle.mr_record.specs.declared.record.Record.{Record}
use Rattle.mr_pages.specs.Faults.{numbers_of}
use Rattle.mr_pages.proofs.AsRead.{numbers_apart}
use Rattle.mr_batch.specs.Directory.{DirectoryEntries, rect_in}
use Rattle.mr_batch.proofs.Directories.{rect_in-absent}
use Rattle.mr_store.specs.private.Listing.{directory_entry, AreApart, GathersDirectory}

apart_rest : (r : Record) (rs : List Record) → AreApart (r ∷ rs) → AreApart rs
apart_rest r rs apart = λ i j d low high. apart (suc i) (suc j) d (omega (arith, low)) (omega (arith, high))

new_first : (r : Record) (rs : List Record) → AreApart (r ∷ rs) → has_number r.number rs ≡ false
new_first r rs apart =
    list_any_none (λ (s : Record). eqb s.number r.number) rs
    (λ k d inside. ne_eqb (get_or rs k d).number r.number
    (λ same. apart 0 (suc k) d (omega arith) (omega (arith, inside)) (sym same)))

-- the first of the two
abbrev either : Option Rectangle → Option Rectangle → Option Rectangle
either (Some r) o = Some r
either None o = o

or_none : (o : Option Rectangle) → either o None ≡ o
or_none (Some r) = refl
or_none None = refl

-- where no number stands twice, the last record of a number is the first one
found : (rs : List Record) (f : ℕ → Option Rectangle) (n : ℕ) → AreApart rs →
    update_all (eq_by_cmp nat_cmp) f (map directory_entry rs) n ≡ either (rect_in rs n) (f n)
found [] f n apart = refl
found (r ∷ rs) f n apart =
    found rs (update (eq_by_cmp nat_cmp) f r.number (Some r.rect)) n (apart_rest r rs apart)
    ∙ ap (λ b. either (rect_in rs n) (cond b (Some r.rect) (f n))) (unsigned_tied r.number n)
    ∙ at (eqb r.number n) refl
  where
    at : (b : Bool) → eqb r.number n ≡ b →
        either (rect_in rs n) (cond b (Some r.rect) (f n)) ≡ either (cond b (Some r.rect) (rect_in rs n)) (f n)
    at true is =
        ap (λ o. either o (Some r.rect))
        (rect_in-absent rs n (ap (λ m. has_number m rs) (sym (eqb-true r.number n is)) ∙ new_first r rs apart))
    at false is = refl

numbers_are : (rs : List Record) → numbers_of rs ≡ keys_of (map directory_entry rs)
numbers_are [] = refl
numbers_are (r ∷ rs) = ap (λ ns. r.number ∷ ns) (numbers_are rs)

same_number : (a b : ℕ) → Decides (eq_by_cmp nat_cmp a b) (a ≡ b)
same_number a b = (
  λ t. eqb-true a b (sym (unsigned_tied a b) ∙ t),
  λ e. unsigned_tied a b ∙ eq-eqb a b e,
)

-- as many entries as different numbers
as_many : (rs : List Record) (m : BTreeMap ℕ Rectangle) → AreApart rs →
    IsFromIterResult nat_cmp (map directory_entry rs) m → length m.entries ≡ length rs
as_many rs m apart made =
    let keys = keys_of (map directory_entry rs) in
    btree_map_len-from_list nat_cmp_total (map directory_entry rs) m made
    ∙ distinct_count-from_IsDistinct (eq_by_cmp_equiv nat_cmp_total) keys
    (IsDistinct-from_AllPairs same_number keys
    (subst (AllPairs (λ (a b : ℕ). a ≢ b)) (numbers_are rs) (numbers_apart rs apart)))
    ∙ length-map (map directory_entry rs) (λ e. e.0) ∙ length-map rs directory_entry

pub made_gathers : (all : DirectoryEntries) (m : BTreeMap ℕ Rectangle) → IsFromIterResult nat_cmp all m →
    GathersDirectory all m.entries
made_gathers all m made rs has apart =
    let of = subst (λ es. IsFromIterResult nat_cmp es m) has made in
    record {
      rects = λ n. of.0 n ∙ found rs (λ k. None) n apart ∙ or_none (rect_in rs n);
      count = as_many rs m apart of;
    }
