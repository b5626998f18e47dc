-- Page 0 and free pages are read from the bytes that spell them, and from no others; so the first
-- version of the format is one whose pages are read as what they spell.
use Rattle.std.proofs.Common.{◌≡◌, ◌≢◌, ℕ, zero, suc, ◌+◌, ◌-◌, ◌^◌, ◌<◌, ◌≤◌, Bool, true, false, cond, eqb, List, ◌∷◌, ◌++◌, length, get_or, take, drop, replicate, Result, Ok, Err, Option, Some, None, refl, sym, ap, subst, ◌∙◌, inl, inr, arith, append_assoc, length-append}
use Rattle.std.specs.Prelude.{slice_range, nat_le, ◌&&◌, not, bytes_eq}
use Rattle.std.specs.Int.{w32, w64, from_be_bytes, to_be_bytes}
use Rattle.std.specs.Result.{result_ok}
use Rattle.std.proofs.lemmas.Bool.{le-leb, leb-true, eq-eqb, eqb-true, ne_eqb, cases_Bool, and_parts}
use Rattle.std.proofs.lemmas.List.{take_at, drop_at, drop-drop, length-take-le, length-drop, length-replicate}
use Rattle.std.proofs.lemmas.Nat.{from_be_bytes-to_be_bytes_4, from_be_bytes-to_be_bytes_8}
use Rattle.std.proofs.lemmas.Slice.Eq.{bytes_eq-Decides}
use Rattle.mr_record.proofs.Encodings.{IsBytes, IsBytes-take, IsBytes-drop, word_below}
use Rattle.mr_tree.specs.Limits.{count_limit, level_limit}
use Rattle.mr_tree.proofs.Told.{told_le}
use Rattle.mr_pages.specs.declared.rule.MapRule.{MapRule}
use Rattle.mr_pages.specs.declared.rule.MapRule.TheVariants.{Unsealed, Header}
use Rattle.mr_pages.specs.Page.{Link, Head, IsRoot, IsHead, FitsMapHead, IsForm, page_limit}
use Rattle.mr_record.specs.Version.{told}
use Rattle.mr_record.specs.declared.version.Version.{Version}
use Rattle.mr_record.specs.declared.version.Version.TheVariants.{One, Two}
use Rattle.mr_pages.specs.declared.layout.Layout.{Layout}
use Rattle.mr_pages.specs.PageBytes.{filled, root_size, root_link_in, node_bytes, node_limit, IsLayout, free_tag, free_page, free_in, root_place, free_place, head_size, seal, seal_place, root_level, root_link_bytes, head_bytes, head_page, root_in, fields_in, is_root, is_head, is_sealed, head_in, form_of, first_layout, first_form, second_layout, second_form}
use Rattle.mr_pages.proofs.PageLaws.{from_bytes, quarter_below, chosen, spelled_root, root_link_again, root_link_is, root_level_read, length-root_link, length-filled, both_true, node_again, node_is, node_room}

same_bytes : (xs ys : List ℕ) → bytes_eq xs ys ≡ true → xs ≡ ys
same_bytes xs ys t = (bytes_eq-Decides xs ys).0 t

bytes_same : (xs ys : List ℕ) → xs ≡ ys → bytes_eq xs ys ≡ true
bytes_same xs ys e = (bytes_eq-Decides xs ys).1 e

-- ---- free pages

pub free_again : (size g : ℕ) → g < 2 ^ 32 → free_in size (free_page size g) ≡ Some g
free_again size g below =
    let same : from_be_bytes w32 (slice_range (free_page size g) 1 5) ≡ g = from_be_bytes-to_be_bytes_4 g below in
    ap (λ (k : ℕ). cond (bytes_eq (free_page size k) (free_page size g)) (Some k) None) same
    ∙ ap (λ (b : Bool). cond b (Some g) None) (bytes_same (free_page size g) (free_page size g) refl)

pub free_is : (size : ℕ) (page : List ℕ) (g : ℕ) → IsBytes page → free_in size page ≡ Some g →
    (g < 2 ^ 32) × (free_page size g ≡ page)
free_is size page g fits e =
    let k : ℕ = from_be_bytes w32 (slice_range page 1 5) in
    let p = chosen (bytes_eq (free_page size k) page) (Some k) g e in
    let same : k ≡ g = cc in
    subst (λ (n : ℕ). (n < 2 ^ 32) × (free_page size n ≡ page)) same (
      quarter_below (slice_range page 1 5) (IsBytes-take 4 (drop 1 page) (IsBytes-drop 1 page fits)),
      same_bytes
          (free_page size k) page p.0,
    )

-- ---- the root node on page 0

pub length-root_link_bytes : (v : Version) (count : ℕ) (root : Option Link) → IsRoot v count root →
    length (root_link_bytes v root) ≡ root_size v
unfolding root_link_bytes
length-root_link_bytes v count None is = length-replicate {A = ℕ} (root_size v) 0
length-root_link_bytes v count (Some l) is = length-root_link v l is.3

root_again : (v : Version) (count : ℕ) (root : Option Link) → IsRoot v count root →
    root_in v count (root_level root) (root_link_bytes v root) ≡ root
unfolding root_in root_link_bytes
root_again v count None is =
    ap (λ (b : Bool). cond b None (root_link_in v count 0 (replicate (root_size v) 0))) (eq-eqb count 0 is)
root_again v count (Some l) is =
    ap (λ (b : Bool). cond b None (root_link_in v count l.entry.level (spelled_root v l)))
    (ne_eqb count 0 (omega arith))
    ∙ root_link_again v count l is.3 is.2

pub root_test : (v : Version) (count : ℕ) (root : Option Link) → IsRoot v count root → is_root count root ≡ true
root_test v count None is = eq-eqb count 0 is
root_test v count (Some l) is =
    both_true (not (eqb count 0)) (not (eqb l.page 0) && nat_le l.entry.level level_limit)
    (ap not (ne_eqb count 0 (omega arith)))
    (both_true (not (eqb l.page 0)) (nat_le l.entry.level level_limit) (ap not (ne_eqb l.page 0 is.1))
    (le-leb l.entry.level level_limit is.3.level))

-- ---- what page 0 says

-- the parts of page 0 behind its first 26 bytes
tail_root : (n : ℕ) (R F Z S : List ℕ) → length R ≡ n → take n (((R ++ F) ++ Z) ++ S) ≡ R
tail_root n R F Z S long = ap (take n) (append_assoc (R ++ F) Z S ∙ append_assoc R F (Z ++ S))
    ∙ take_at R (F ++ (Z ++ S)) n long

tail_free : (n : ℕ) (R F Z S : List ℕ) → length R ≡ n → length F ≡ 4 →
    take 4 (drop n (((R ++ F) ++ Z) ++ S)) ≡ F
tail_free n R F Z S long four =
    ap (λ (t : List ℕ). take 4 (drop n t)) (append_assoc (R ++ F) Z S ∙ append_assoc R F (Z ++ S))
    ∙ ap (take 4) (drop_at R (F ++ (Z ++ S)) n long) ∙ take_at F (Z ++ S) 4 four

-- what stands behind a front
behind : (page : List ℕ) (a b c : ℕ) → slice_range page (a + b) (a + b + c) ≡ take c (drop b (drop a page))
behind page a b c =
    let some : a + b + c - (a + b) ≡ c = omega arith in
    let sum : b + a ≡ a + b = omega arith in
    ap (λ n. take n (drop (a + b) page)) some
    ∙ ap (λ n. take c (drop n page)) (sym sum)
    ∙ ap (take c) (sym (drop-drop b a page ∙ ap (λ n. drop n page) (sym sum)))

pub fields_again : (form : Layout) (h : Head) → IsHead form.version h → fields_in form.version (head_page form h) ≡ h
unfolding fields_in head_bytes
fields_again form h is =
    let v : Version = form.version in
    let page : List ℕ = head_page form h in
    let R : List ℕ = root_link_bytes v h.root in
    let F : List ℕ = to_be_bytes w32 h.free in
    let Z : List ℕ = replicate (seal_place form.size - length (head_bytes v h)) 0 in
    let long : length R ≡ root_size v = length-root_link_bytes v h.count h.root is.root in
    let batch : from_be_bytes w64 (slice_range page 6 14) ≡ h.batch =
    from_be_bytes-to_be_bytes_8 h.batch is.batch in
    let count : from_be_bytes w64 (slice_range page 14 22) ≡ h.count =
    from_be_bytes-to_be_bytes_8 h.count (omega (arith, is.count)) in
    let pages : from_be_bytes w32 (slice_range page 22 root_place) ≡ h.pages =
    from_be_bytes-to_be_bytes_4 h.pages (omega (arith, is.pages.1)) in
    let raw : slice_range page root_place (free_place v) ≡ R =
    behind page root_place 0 (root_size v) ∙ tail_root (root_size v) R F Z seal long in
    let free : from_be_bytes w32 (slice_range page (free_place v) (head_size v)) ≡ h.free =
    ap (from_be_bytes w32) (behind page root_place (root_size v) 4 ∙ tail_free (root_size v) R F Z seal long refl)
    ∙ from_be_bytes-to_be_bytes_4 h.free is.free in
    (λ i. record {
      batch = batch i;
      count = count i;
      pages = pages i;
      root = root_in v (count i) (root_level h.root) (raw i);
      free = free i;
    })
    ∙ ap (λ (root : Option Link). let x : Head = record
    { batch = h.batch; count = h.count; pages = h.pages; root = root; free = h.free } in x)
    (root_again v h.count h.root is.root)

length-head_bytes : (v : Version) (h : Head) → IsHead v h → length (head_bytes v h) ≡ head_size v
unfolding head_bytes
length-head_bytes v h is =
    let R : List ℕ = root_link_bytes v h.root in
    let long : length R ≡ root_size v = length-root_link_bytes v h.count h.root is.root in
    omega (arith, long, length-append R (to_be_bytes w32 h.free))

-- what page 0 says has room before the seal
head_fits : (form : Layout) → node_limit form.version ≤ form.size → head_size form.version ≤ seal_place form.size
head_fits form big = omega (arith, big, told_le form.version 8)

pub length-head_page : (form : Layout) (h : Head) → node_limit form.version ≤ form.size → IsHead form.version h →
    length (head_page form h) ≡ form.size
length-head_page form h big is =
    omega (
      arith,
      length-append (filled (seal_place form.size) (head_bytes form.version h)) seal,
      length-filled (seal_place form.size)
          (head_bytes form.version h) (omega (arith, length-head_bytes form.version h is, head_fits form big)),
      big,
    )

sealed_again : (form : Layout) (h : Head) → node_limit form.version ≤ form.size → IsHead form.version h →
    is_sealed form.size (head_page form h) ≡ true
sealed_again form h big is =
    bytes_same (drop (seal_place form.size) (head_page form h)) seal
    (drop_at (filled (seal_place form.size) (head_bytes form.version h)) seal (seal_place form.size)
    (length-filled (seal_place form.size) (head_bytes form.version h)
    (omega (arith, length-head_bytes form.version h is, head_fits form big))))

head_test : (v : Version) (pages : ℕ) (h : Head) → IsHead v h → h.pages ≡ pages → is_head pages h ≡ true
head_test v pages h is same =
    both_true (nat_le h.count count_limit) (eqb h.pages pages && is_root h.count h.root)
    (le-leb h.count count_limit is.count)
    (both_true (eqb h.pages pages) (is_root h.count h.root) (eq-eqb h.pages pages same)
    (root_test v h.count h.root is.root))

-- page 0 if it passes both tests
abbrev judged : Bool → Bool → Head → Result Head MapRule
judged sealed fits h = cond (not sealed) (Err Unsealed) (cond fits (Ok h) (Err Header))

pub head_again : (form : Layout) (pages : ℕ) (h : Head) → node_limit form.version ≤ form.size → IsHead form.version h →
    h.pages ≡ pages →
    head_in form pages (head_page form h) ≡ Ok h
head_again form pages h big is same =
    let page : List ℕ = head_page form h in
    let found : fields_in form.version page ≡ h = fields_again form h is in
    (λ i. judged (sealed_again form h big is i) (is_head pages (found i) && bytes_eq (head_page form (found i)) page)
    (found i))
    ∙ ap (λ (b : Bool). judged true b h)
    (both_true (is_head pages h) (bytes_eq page page) (head_test form.version pages h is same)
    (bytes_same page page refl))

judged_ok : (a b : Bool) (x h : Head) → result_ok (judged a b x) ≡ Some h → (b ≡ true) × (x ≡ h)
judged_ok true true x h e = (refl, cc)
judged_ok true false x h e = absurd cc
judged_ok false b x h e = absurd cc

ne_from : (count : ℕ) → eqb count 0 ≡ false → 0 < count
ne_from zero e = absurd cc
ne_from (suc n) e = omega arith

not_zero : (n : ℕ) → not (eqb n 0) ≡ true → n ≢ 0
not_zero zero e = absurd cc
not_zero (suc n) e = omega arith

linked : (v : Version) (count level : ℕ) (raw : List ℕ) (o : Option Link) → length raw ≡ root_size v → IsBytes raw →
    0 < count → root_link_in v count level raw ≡ o → is_root count o ≡ true → IsRoot v count o
linked v count level raw None long fits some e t = eqb-true count 0 t
linked v count level raw (Some l) long fits some e t =
    let u = and_parts (not (eqb count 0)) (not (eqb l.page 0) && nat_le l.entry.level level_limit) t in
    let w = and_parts (not (eqb l.page 0)) (nat_le l.entry.level level_limit) u.1 in
    let at : l.entry.level ≡ level = root_level_read v count level raw l e in
    let low : level ≤ level_limit = subst (λ (n : ℕ). n ≤ level_limit) at (leb-true l.entry.level level_limit w.1) in
    let is = root_link_is v count level raw l low long fits e in
    (some, not_zero l.page w.0, is.count, is.link)

root_is : (v : Version) (count level : ℕ) (raw : List ℕ) → length raw ≡ root_size v → IsBytes raw →
    is_root count (root_in v count level raw) ≡ true → IsRoot v count (root_in v count level raw)
unfolding root_in
root_is v count level raw long fits t = elim (cases_Bool (eqb count 0)) [
  | inl none ↦
      subst (λ (b : Bool). IsRoot v count (cond b None (root_link_in v count level raw))) (sym none)
      (eqb-true count 0 none)
  | inr some ↦
      subst (λ (b : Bool). IsRoot v count (cond b None (root_link_in v count level raw))) (sym some)
      (linked v count level raw (root_link_in v count level raw) long fits (ne_from count some) refl
      (subst (λ (b : Bool). is_root count (cond b None (root_link_in v count level raw)) ≡ true) some t))
]

less_told : (v : Version) → told v 8 ≤ told v 737
less_told One = omega arith
less_told Two = omega arith

pub head_is : (form : Layout) (pages : ℕ) (page : List ℕ) (h : Head) → node_limit form.version ≤ form.size → 1 ≤ pages →
    pages ≤ page_limit → IsBytes page
    → result_ok (head_in form pages page) ≡ Some h → FitsMapHead form.version pages h × (head_page form h ≡ page)
unfolding fields_in
head_is form pages page h big some few fits e =
    let v : Version = form.version in
    let found : Head = fields_in v page in
    let p = judged_ok (is_sealed form.size page) (is_head pages found && bytes_eq (head_page form found) page) found h e
    in
    let t = and_parts (is_head pages found) (bytes_eq (head_page form found) page) p.0 in
    let u = and_parts (nat_le found.count count_limit) (eqb found.pages pages && is_root found.count found.root) t.0 in
    let w = and_parts (eqb found.pages pages) (is_root found.count found.root) u.1 in
    let spelled : head_page form found ≡ page = same_bytes (head_page form found) page t.1 in
    let wide : head_size v ≤ length page = omega (
      arith,
      big,
      less_told v,
      ap length spelled,
      length-append
          (filled (seal_place form.size) (head_bytes form.version found)) seal,
      length-append (head_bytes form.version found)
          (replicate (seal_place form.size - length (head_bytes form.version found)) 0),
      length-replicate {A = ℕ}
          (seal_place form.size - length (head_bytes form.version found)) 0,
    ) in
    let part = λ (at n : ℕ). IsBytes-take n (drop at page) (IsBytes-drop at page fits) in
    let same : found.pages ≡ pages = eqb-true found.pages pages w.0 in
    let is : IsHead v found = record {
      batch = word_below (slice_range page 6 14) (part 6 8);
      count = leb-true found.count count_limit u.0;
      pages = (omega arith, omega arith);
      root = root_is v found.count (get_or page 5 0) (slice_range page root_place (free_place v))
          (length-take-le (free_place v - root_place) (drop root_place page)
          (omega (arith, wide, length-drop root_place page)) ∙ (omega arith))
          (part root_place (free_place v - root_place)) w.1;
      free = quarter_below (slice_range page (free_place v) (head_size v))
          (part (free_place v) (head_size v - free_place v));
    } in
    subst (λ (x : Head). FitsMapHead v pages x × (head_page form x ≡ page)) p.1 ((is, same), spelled)

-- ---- whole pages

pub form_is : (layout : Layout) → IsLayout layout → IsForm (form_of layout)
form_is layout is =
    let size : ℕ = layout.size in
    let v : Version = layout.version in
    let room : node_limit v ≤ size = is.room in
    record {
      some = omega (arith, room);
      heads = λ pages some few. record {
        sized = λ h fit. length-head_page layout h room fit.0;
        read_again = λ h fit. ap result_ok (head_again layout pages h room fit.0 fit.1);
        spelled = λ bytes h all e. head_is layout pages bytes h room some few (from_bytes bytes all) e;
      };
      nodes = record {
        sized = λ n fit. length-filled size (node_bytes v n) (omega (arith, node_room v n fit, room));
        read_again = λ n fit. node_again layout n room fit;
        spelled = λ bytes n all e. node_is layout bytes n (from_bytes bytes all) e;
      };
      frees = record {
        sized = λ g below. length-filled size (free_tag ∷ to_be_bytes w32 g) (omega (arith, room));
        read_again = λ g below. free_again size g below;
        spelled = λ bytes g all e. free_is size bytes g (from_bytes bytes all) e;
      };
    }

-- ---- the first version

pub first_layout_is : IsLayout first_layout
first_layout_is = record { room = omega arith; small = omega arith }

pub first_form_is : IsForm first_form
first_form_is = form_is first_layout first_layout_is

-- ---- the second version

pub second_layout_is : IsLayout second_layout
second_layout_is = record { room = omega arith; small = omega arith }

pub second_form_is : IsForm second_form
second_form_is = form_is second_layout second_layout_is
