-- Sorting records beside their numbers sorts the records.
use Rattle.std.proofs.Common.{◌≡◌, ℕ, zero, suc, subst, List, [], ◌∷◌, ◌++◌, map, take, drop, refl, sym, ap, ◌∙◌}
use Rattle.std.specs.Prelude.{All}
use Rattle.std.specs.List.{AllByRecursion}
use Rattle.std.proofs.lemmas.List.{map-append, take-append-drop}
use Rattle.std.proofs.lemmas.List.Elements.{recursion_from_All, All-from_recursion}
use Rattle.mr_record.specs.Record.{HasLayer}
use Rattle.mr_record.specs.declared.version.Version.{Version}
use Rattle.std.specs.Ordering.{is_lt, nat_cmp}
use Rattle.mr_record.specs.Sorting.{sorted_by_key}
use Rattle.mr_record.specs.declared.record.Record.{Record}
use Rattle.mr_pack.proofs.Natural.{sorted_map}
use Rattle.mr_query.specs.Scan.{by_number}
use Rattle.mr_command.specs.private.Listing.{items_of, numbered_values, numbered}
use Rattle.mr_command.specs.declared.list_command.Numbered.{Numbered}

items_seen : (es : List Numbered) → map (λ (e : Numbered). e.item.now) es
    ≡ map (λ (p : ℕ × Record). p.1) (map numbered_values es)
items_seen [] = refl
items_seen (e ∷ es) = ap (λ rs. e.item.now ∷ rs) (items_seen es)

records_numbered : (rs : List Record) → map (λ (p : ℕ × Record). p.1) (map numbered rs) ≡ rs
records_numbered [] = refl
records_numbered (r ∷ rs) = ap (λ ts. r ∷ ts) (records_numbered rs)

-- the records of a cut list
pub items_cut : (es some others : List Numbered) (n : ℕ) → some ≡ take n es → others ≡ drop n es
    → items_of es ≡ items_of some ++ items_of others
items_cut es some others n front back =
    ap items_of (sym (take-append-drop n es)) ∙ map-append (λ (e : Numbered). e.item.now) (take n es) (drop n es)
    ∙ (λ i. items_of (sym front i) ++ items_of (sym back i))

pub sorted_entries : (es : List Numbered) (rs : List Record) → map numbered_values es ≡ map numbered rs
    → map (λ (e : Numbered). e.item.now) (sorted_by_key (λ (e : Numbered). e.number) es) ≡ by_number rs
sorted_entries es rs same =
    items_seen (sorted_by_key (λ (e : Numbered). e.number) es)
    ∙ ap (map (λ (p : ℕ × Record). p.1))
    (sym (sorted_map numbered_values (λ (a b : Numbered). is_lt (nat_cmp a.number b.number))
    (λ (a b : ℕ × Record). is_lt (nat_cmp a.0 b.0)) (λ a b. refl) es)
    ∙ ap (sorted_by_key (λ (p : ℕ × Record). p.0)) same
    ∙ sorted_map numbered (λ (a b : Record). is_lt (nat_cmp a.number b.number))
    (λ (a b : ℕ × Record). is_lt (nat_cmp a.0 b.0)) (λ a b. refl) rs)
    ∙ records_numbered (by_number rs)

-- the layers of a part are among those of all
pub front_layers : (v : Version) (es some others : List Numbered) (n : ℕ) → some ≡ take n es → others ≡ drop n es
    → All (HasLayer v) (items_of es) → All (HasLayer v) (items_of some)
front_layers v es some others n front back all =
    subst (λ fs. All (HasLayer v) (items_of fs)) (sym front)
    (All-from_recursion (HasLayer v) (items_of (take n es))
    (front_each v n es (recursion_from_All (HasLayer v) (items_of es) all)))
  where
    front_each : (u : Version) (k : ℕ) (fs : List Numbered) → AllByRecursion (HasLayer u) (items_of fs)
        → AllByRecursion (HasLayer u) (items_of (take k fs))
    front_each u zero fs each = tt
    front_each u (suc k) [] each = tt
    front_each u (suc k) (f ∷ fs) each = (each.0, front_each u k fs each.1)

pub back_layers : (v : Version) (es some others : List Numbered) (n : ℕ) → some ≡ take n es → others ≡ drop n es
    → All (HasLayer v) (items_of es) → All (HasLayer v) (items_of others)
back_layers v es some others n front back all =
    subst (λ fs. All (HasLayer v) (items_of fs)) (sym back)
    (All-from_recursion (HasLayer v) (items_of (drop n es))
    (back_each v n es (recursion_from_All (HasLayer v) (items_of es) all)))
  where
    back_each : (u : Version) (k : ℕ) (fs : List Numbered) → AllByRecursion (HasLayer u) (items_of fs)
        → AllByRecursion (HasLayer u) (items_of (drop k fs))
    back_each u zero fs each = each
    back_each u (suc k) [] each = tt
    back_each u (suc k) (f ∷ fs) each = back_each u k fs each.1
