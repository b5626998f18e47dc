-- Pages that are put into a map, over what a crash left of a map that they were put into.
use Rattle.std.proofs.Common.{◌≡◌, inl, inr, ⊎_elim, ℕ, zero, suc, ◌+◌, ◌-◌, ◌*◌, ◌<◌, ◌≤◌, ◌^◌, max, Bool, true, false, ◌&&◌, nat_lt, nat_le, eqb, List, [], ◌∷◌, ◌++◌, length, get_or, take, drop, refl, sym, ap, ◌∙◌, subst, arith}
use Rattle.std.proofs.lemmas.List.{ext_get_or, length-take, length-drop, drop-append-le, take-append-le, take_all}
use Rattle.std.proofs.lemmas.Bool.{cases_lt, and_parts, and_from, and_right, and_left, eqb-true, leb-true, ltb-true, le-leb, lt-ltb, eq-eqb, lt-leb, false≢true}
use Rattle.mr_outside.specs.Files.{replaced}
use Rattle.mr_journal.specs.Torn.{Range, IsTouched, greatest, Torn, TornAt}
use Rattle.mr_journal.specs.Format.{Page, number_of, first_page, entries, fits, pages_fit, put_pages, ready, carried, page_size, is_version, has_count}
use Rattle.mr_journal.specs.private.Parsed.{places, IsParsed}
use Rattle.mr_journal.specs.private.ReplacedLaws.{length-replaced, replaced_before, replaced_within, replaced_behind}
use Rattle.mr_journal.specs.private.TornLaws.{greatest_le, greatest_more}
use Rattle.std.proofs.lemmas.List.{get_or-take, get_or-drop}

-- what it says that a page fits
pub record Fits (size low reach : ℕ) (page : Page) : Type 0 where
  pub whole : length page.bytes ≡ size
  pub rises : low ≤ page.number
  pub below : page.number < 2 ^ 20
  pub begins : page.number * size ≤ reach

pub fits_parts : (size low reach : ℕ) (page : Page) → fits size low reach page ≡ true → Fits size low reach page
fits_parts size low reach page h =
    let a = and_parts (eqb (length page.bytes) size)
    (nat_le low page.number && (nat_lt page.number (2 ^ 20) && nat_le (page.number * size) reach)) h in
    let b = and_parts (nat_le low page.number) (nat_lt page.number (2 ^ 20) && nat_le (page.number * size) reach) a.1 in
    let c = and_parts (nat_lt page.number (2 ^ 20)) (nat_le (page.number * size) reach) b.1 in
    record { whole = eqb-true _ _ a.0; rises = leb-true _ _ b.0; below = ltb-true _ _ c.0; begins = leb-true _ _ c.1 }

pub fits_from : (size low reach : ℕ) (page : Page) → Fits size low reach page → fits size low reach page ≡ true
fits_from size low reach page f =
    and_from (eqb (length page.bytes) size) _ (eq-eqb _ _ f.whole)
    (and_from (nat_le low page.number) _ (le-leb _ _ f.rises)
    (and_from (nat_lt page.number (2 ^ 20)) _ (lt-ltb _ _ f.below) (le-leb _ _ f.begins)))

pub placed_parts : (size low reach : ℕ) (page : Page) (pages : List Page) → pages_fit size low reach (page ∷ pages)
    ≡ true
    → Fits size low reach page × (pages_fit size (page.number + 1) (max reach (page.number * size + size)) pages ≡ true)
placed_parts size low reach page pages h =
    let a = and_parts (fits size low reach page)
    (pages_fit size (page.number + 1) (max reach (page.number * size + size)) pages) h in
    (fits_parts size low reach page a.0, a.1)

-- they stand in a longer map too
pub placed_more : (size low m n : ℕ) (pages : List Page) → m ≤ n → pages_fit size low m pages ≡ true
    → pages_fit size low n pages ≡ true
placed_more size low m n [] le h = refl
placed_more size low m n (page ∷ pages) le h =
    let a = placed_parts size low m page pages h in
    let f = a.0 in
    and_from (fits size low n page) (pages_fit size (page.number + 1) (max n (page.number * size + size)) pages)
    (fits_from size low n page (record {
      whole = f.whole;
      rises = f.rises;
      below = f.below;
      begins = omega
          (arith, f.begins);
    }))
    (placed_more size (page.number + 1) (max m (page.number * size + size)) (max n (page.number * size + size)) pages
    (omega arith) a.1)

-- a range is written over both
torn_over : (at size : ℕ) (bytes : List ℕ) (rs : List Range) (a c : List ℕ) → length bytes ≡ size → at ≤ length a
    → Torn ((at, size) ∷ rs) a c → Torn rs (replaced at bytes a) (replaced at bytes c)
torn_over at size bytes rs a c long le t = record {
  no_shorter = omega (arith, long, t.no_shorter, length-replaced at bytes a, length-replaced at bytes c);
  no_longer = omega (
    arith,
    long,
    t.no_shorter,
    t.no_longer,
    length-replaced at bytes a,
    length-replaced at bytes c,
    greatest_le (length (replaced at bytes a)) rs,
    greatest_more (length a) (length (replaced at bytes a)) rs (omega (arith, length-replaced at bytes a)),
  );
  else_stays = λ i lt un. ⊎_elim
      (λ low. replaced_before at bytes c i low (omega (arith, t.no_shorter))
      ∙ t.else_stays i (omega arith) (λ x. ⊎_elim (λ y. absurd (omega (arith, y.0))) un x)
      ∙ sym (replaced_before at bytes a i low (omega arith)))
      (λ high. ⊎_elim
      (λ within. replaced_within at bytes c i (omega (arith, t.no_shorter)) high (omega (arith, long))
      ∙ sym (replaced_within at bytes a i le high (omega (arith, long))))
      (λ past. replaced_behind at bytes c i (omega (arith, t.no_shorter)) (omega (arith, long))
      ∙ t.else_stays i (omega (arith, long, length-replaced at bytes a))
      (λ x. ⊎_elim (λ y. absurd (omega (arith, y.1))) un x)
      ∙ sym (replaced_behind at bytes a i le (omega (arith, long))))
      (cases_lt i (at + size)))
      (cases_lt i at);
}

-- Pages that are put in again over a map that is torn where they stand.
pub absorbed : (size low : ℕ) (pages : List Page) (a c : List ℕ) → pages_fit size low (length a) pages ≡ true
    → Torn (places size pages) a c → put_pages size pages c ≡ put_pages size pages a
absorbed size low [] a c h t = ext_get_or 0 c a (omega (arith, t.no_shorter, t.no_longer))
    (λ i lt. t.else_stays i (omega (arith, t.no_shorter, t.no_longer)) (λ x. x))
absorbed size low (page ∷ pages) a c h t =
    let p = placed_parts size low (length a) page pages h in
    let f = p.0 in
    let at = page.number * size in
    let long : max (length a) (at + size) ≡ length (replaced at page.bytes a) = omega
    (arith, f.whole, f.begins, length-replaced at page.bytes a) in
    let rest : pages_fit size (page.number + 1) (length (replaced at page.bytes a)) pages ≡ true = subst
    (λ (n : ℕ). pages_fit size (page.number + 1) n pages ≡ true) long p.1 in
    absorbed size (page.number + 1) pages (replaced at page.bytes a) (replaced at page.bytes c) rest
    (torn_over at size page.bytes (places size pages) a c f.whole f.begins t)

-- the place of one of the pages
pub page_touched : (size : ℕ) (front : List Page) (page : Page) (back : List Page) (i : ℕ) → page.number * size ≤ i
    → i < page.number * size + size → IsTouched (places size (front ++ page ∷ back)) i
page_touched size [] page back i low high = inl (low, high)
page_touched size (p ∷ front) page back i low high = inr (page_touched size front page back i low high)

pub page_within : (size n : ℕ) (front : List Page) (page : Page) (back : List Page)
    → page.number * size + size ≤ greatest n (places size (front ++ page ∷ back))
page_within size n [] page back = omega arith
page_within size n (p ∷ front) page back = omega (arith, page_within size n front page back)

pub torn_page : (size : ℕ) (front : List Page) (page : Page) (back : List Page) (a c : List ℕ)
    → TornAt (page.number * size) size a c → Torn (places size (front ++ page ∷ back)) a c
torn_page size front page back a c t = record {
  no_shorter = t.no_shorter;
  no_longer = omega (
    arith,
    t.no_longer,
    page_within size (length a) front page back,
    greatest_le (length a)
        (places size (front ++ page ∷ back)),
  );
  else_stays = λ i lt un. t.else_stays i lt
      (λ x. ⊎_elim (λ y. un (page_touched size front page back i y.0 y.1)) (λ y. y) x);
}

-- four bytes are there
number_append : (bytes rest : List ℕ) → 4 ≤ length bytes → number_of (bytes ++ rest) ≡ number_of bytes
unfolding number_of
number_append [] rest le = absurd (omega arith)
number_append (a ∷ []) rest le = absurd (omega arith)
number_append (a ∷ b ∷ []) rest le = absurd (omega arith)
number_append (a ∷ b ∷ c ∷ []) rest le = absurd (omega arith)
number_append (a ∷ b ∷ c ∷ d ∷ bytes) rest le = refl

pub number_short : (bytes : List ℕ) → length bytes < 4 → number_of bytes ≡ 0
unfolding number_of
number_short [] lt = refl
number_short (a ∷ []) lt = refl
number_short (a ∷ b ∷ []) lt = refl
number_short (a ∷ b ∷ c ∷ []) lt = refl
number_short (a ∷ b ∷ c ∷ d ∷ bytes) lt = absurd (omega arith)

-- what is ignored behind the entries
entries_append : (size low reach n : ℕ) (bytes rest : List ℕ) → 1 ≤ size
    → pages_fit size low reach (entries size n bytes) ≡ true → entries size n (bytes ++ rest) ≡ entries size n bytes
entries_append size low reach zero bytes rest some h = refl
entries_append size low reach (suc n) bytes rest some h =
    let p = placed_parts size low reach (first_page size bytes) (entries size n (drop (4 + size) bytes)) h in
    let long : 4 + size ≤ length bytes = omega
    (arith, p.0.whole, length-take size (drop 4 bytes), length-drop 4 bytes) in
    let number : number_of (bytes ++ rest) ≡ number_of bytes = number_append bytes rest (omega arith) in
    let page : take size (drop 4 (bytes ++ rest)) ≡ take size (drop 4 bytes) =
    ap (take size) (drop-append-le 4 bytes rest (omega arith))
    ∙ take-append-le size (drop 4 bytes) rest (omega (arith, length-drop 4 bytes)) in
    let more : entries size n (drop (4 + size) (bytes ++ rest)) ≡ entries size n (drop (4 + size) bytes) =
    ap (entries size n) (drop-append-le (4 + size) bytes rest long)
    ∙ entries_append size (number_of bytes + 1) (max reach (number_of bytes * size + size)) n (drop (4 + size) bytes)
    rest some p.1 in
    λ i. record { number = number i; bytes = page i } ∷ more i

sized : (version : ℕ) → 1 ≤ page_size version
unfolding page_size
sized version = grind arith

large : (version : ℕ) → 4096 ≤ page_size version
unfolding page_size
large version = grind arith

-- the parts of a body that is ready
pub record Parts (n : ℕ) (body : List ℕ) : Type 0 where
  pub version : ℕ
  pub rest : List ℕ
  pub is : body ≡ version ∷ rest
  pub known : is_version version ≡ true
  pub count : has_count (number_of rest) ≡ true
  pub long : 4 ≤ length rest
  pub placed_in : pages_fit (page_size version) 0 n (entries (page_size version) (number_of rest) (drop 4 rest)) ≡ true

pub parts : (n : ℕ) (body : List ℕ) → ready n body ≡ true → Parts n body
unfolding ready
parts n [] h = absurd (false≢true h)
parts n (version ∷ rest) h =
    let a = and_parts (is_version version)
    (has_count (number_of rest) && pages_fit (page_size version) 0 n
    (entries (page_size version) (number_of rest) (drop 4 rest))) h in
    let b = and_parts (has_count (number_of rest))
    (pages_fit (page_size version) 0 n (entries (page_size version) (number_of rest) (drop 4 rest))) a.1 in
    let c = and_parts (nat_le 1 (number_of rest)) (nat_le (number_of rest) (2 ^ 20)) b.0 in
    record {
      version = version;
      rest = rest;
      is = refl;
      known = a.0;
      count = b.0;
      long = ⊎_elim (λ short. absurd (omega (arith, leb-true _ _ c.0, number_short rest short))) (λ le. le)
          (cases_lt (length rest) 4);
      placed_in = b.1;
    }

pub ready_from : (n : ℕ) (version : ℕ) (rest : List ℕ) → is_version version ≡ true → has_count (number_of rest) ≡ true
    → pages_fit (page_size version) 0 n (entries (page_size version) (number_of rest) (drop 4 rest)) ≡ true
    → ready n (version ∷ rest) ≡ true
unfolding ready
ready_from n version rest known count h = and_from (is_version version) _ known
    (and_from (has_count (number_of rest)) _ count h)

pub carried_is : (version : ℕ) (rest map : List ℕ)
    → carried (version ∷ rest) map ≡ put_pages (page_size version)
    (entries (page_size version) (number_of rest) (drop 4 rest)) map
unfolding carried
carried_is version rest map = refl

-- a body and what is ignored behind it
pub ready_append : (n : ℕ) (body more : List ℕ) → ready n body ≡ true → ready n (body ++ more) ≡ true
ready_append n body more h =
    let p = parts n body h in
    let number = number_append p.rest more p.long in
    let bytes : drop 4 (p.rest ++ more) ≡ drop 4 p.rest ++ more = drop-append-le 4 p.rest more p.long in
    let same : entries (page_size p.version) (number_of (p.rest ++ more)) (drop 4 (p.rest ++ more))
    ≡ entries (page_size p.version) (number_of p.rest) (drop 4 p.rest) =
    (λ i. entries (page_size p.version) (number i) (bytes i))
    ∙ entries_append (page_size p.version) 0 n (number_of p.rest) (drop 4 p.rest) more (sized p.version) p.placed_in in
    subst (λ (b : List ℕ). ready n (b ++ more) ≡ true) (sym p.is)
    (ready_from n p.version (p.rest ++ more) p.known (ap has_count number ∙ p.count)
    (ap (pages_fit (page_size p.version) 0 n) same ∙ p.placed_in))

pub carried_append : (n : ℕ) (body more map : List ℕ) → ready n body ≡ true
    → carried (body ++ more) map ≡ carried body map
carried_append n body more map h =
    let p = parts n body h in
    let number = number_append p.rest more p.long in
    let bytes : drop 4 (p.rest ++ more) ≡ drop 4 p.rest ++ more = drop-append-le 4 p.rest more p.long in
    let same : entries (page_size p.version) (number_of (p.rest ++ more)) (drop 4 (p.rest ++ more))
    ≡ entries (page_size p.version) (number_of p.rest) (drop 4 p.rest) =
    (λ i. entries (page_size p.version) (number i) (bytes i))
    ∙ entries_append (page_size p.version) 0 n (number_of p.rest) (drop 4 p.rest) more (sized p.version) p.placed_in in
    ap (λ (b : List ℕ). carried (b ++ more) map) p.is
    ∙ carried_is p.version (p.rest ++ more) map
    ∙ ap (λ (ps : List Page). put_pages (page_size p.version) ps map) same
    ∙ sym (carried_is p.version p.rest map)
    ∙ ap (λ (b : List ℕ). carried b map) (sym p.is)

pub number_four : (bytes : List ℕ) → 4 ≤ length bytes
    → get_or bytes 0 0 * 16777216 + get_or bytes 1 0 * 65536 + get_or bytes 2 0 * 256 + get_or bytes 3 0
    ≡ number_of bytes
unfolding number_of
number_four [] le = absurd (omega arith)
number_four (a ∷ []) le = absurd (omega arith)
number_four (a ∷ b ∷ []) le = absurd (omega arith)
number_four (a ∷ b ∷ c ∷ []) le = absurd (omega arith)
number_four (a ∷ b ∷ c ∷ d ∷ bytes) le = refl

-- the parts of a body
pub parsed : (version : ℕ) (rest : List ℕ) → is_version version ≡ true → 4 ≤ length rest → 1 ≤ number_of rest
    → number_of rest ≤ 2 ^ 20
    → (1 ≤ page_size version) × (page_size version ≤ 8192)
    → IsParsed (version ∷ rest) (page_size version) (number_of rest) (drop 4 rest)
unfolding ready carried
parsed version rest known long low high small = record {
  small = small;
  large = large version;
  some = low;
  fits = λ n. ap (λ (b : Bool). b && (has_count (number_of rest) && pages_fit (page_size version) 0 n
      (entries (page_size version) (number_of rest) (drop 4 rest)))) known
      ∙ ap (λ (b : Bool). b && pages_fit (page_size version) 0 n
      (entries (page_size version) (number_of rest) (drop 4 rest)))
      (and_from (nat_le 1 (number_of rest)) (nat_le (number_of rest) (2 ^ 20)) (le-leb _ _ low) (le-leb _ _ high));
  makes = λ map. refl;
}

pub unknown : (version : ℕ) (rest : List ℕ) → is_version version ≡ false → (n : ℕ) → ready n (version ∷ rest) ≡ false
unfolding ready
unknown version rest not n = and_left (is_version version) _ not

pub no_count : (version : ℕ) (rest : List ℕ) → has_count (number_of rest) ≡ false → (n : ℕ)
    → ready n (version ∷ rest) ≡ false
unfolding ready
no_count version rest not n = and_right (is_version version) _ (and_left (has_count (number_of rest)) _ not)

pub too_few : (count : ℕ) → count < 1 → has_count count ≡ false
too_few count lt = and_left (nat_le 1 count) (nat_le count (2 ^ 20)) (lt-leb 1 count lt)

pub too_many : (count : ℕ) → 2 ^ 20 < count → has_count count ≡ false
too_many count lt = and_right (nat_le 1 count) (nat_le count (2 ^ 20)) (lt-leb count (2 ^ 20) lt)

pub no_body : (n : ℕ) → ready n [] ≡ false
unfolding ready
no_body n = refl

-- what stands behind the first byte
pub cut_first : (body : List ℕ) → 1 ≤ length body → body ≡ get_or body 0 0 ∷ take (length body - 1) (drop 1 body)
cut_first [] le = absurd (omega arith)
cut_first (v ∷ r) le = ap (λ (l : List ℕ). v ∷ l) (sym (take_all (length (v ∷ r) - 1) r (omega arith)))

pub parsed_at : (body : List ℕ) (size count : ℕ) (bytes : List ℕ) (v : ℕ) (r : List ℕ) → body ≡ v ∷ r
    → size ≡ page_size v → count ≡ number_of r → bytes ≡ drop 4 r
    → is_version v ≡ true → 4 ≤ length r → 1 ≤ count → count ≤ 2 ^ 20 → 1 ≤ size → size ≤ 8192
    → IsParsed body size count bytes
parsed_at body size count bytes v r is a b c known long low high small large =
    let p = parsed v r known long (omega arith) (omega arith) (omega arith, omega arith) in
    subst (λ (l : List ℕ). IsParsed l size count bytes) (sym is)
    (subst (λ (l : List ℕ). IsParsed (v ∷ r) size count l) (sym c)
    (subst (λ (n : ℕ). IsParsed (v ∷ r) size n (drop 4 r)) (sym b)
    (subst (λ (n : ℕ). IsParsed (v ∷ r) n (number_of r) (drop 4 r)) (sym a) p)))

-- one page more stands where it may
pub placed_next : (size low reach left number next : ℕ) (rest after : List ℕ) → 0 < left → number ≡ number_of rest
    → after ≡ drop (4 + size) rest → next ≡ max reach (number * size + size)
    → fits size low reach (first_page size rest) ≡ true
    → pages_fit size (number + 1) next (entries size (left - 1) after) ≡ pages_fit size low reach
    (entries size left rest)
placed_next size low reach zero number next rest after some is behind to fit = absurd (omega arith)
placed_next size low reach (suc n) number next rest after some is behind to fit =
    let count : suc n - 1 ≡ n = omega arith in
    let goes : next ≡ max reach (number_of rest * size + size) = to ∙ ap (λ (k : ℕ). max reach (k * size + size)) is in
    (λ i. pages_fit size (is i + 1) (goes i) (entries size (count i) (behind i)))
    ∙ sym (ap (λ (b : Bool). b && pages_fit size (number_of rest + 1) (max reach (number_of rest * size + size))
    (entries size n (drop (4 + size) rest))) fit)

pub short_body : (n : ℕ) (body : List ℕ) → length body < 1 → ready n body ≡ false
short_body n [] lt = no_body n
short_body n (v ∷ r) lt = absurd (omega arith)

-- a place below all pages
pub put_low : (size low i : ℕ) (pages : List Page) (m : List ℕ) → 1 ≤ low → i < size
    → pages_fit size low (length m) pages ≡ true → get_or (put_pages size pages m) i 0 ≡ get_or m i 0
put_low size low i [] m some lt h = refl
put_low size low i (page ∷ pages) m some lt h =
    let p = placed_parts size low (length m) page pages h in
    let f = p.0 in
    let at = page.number * size in
    let behind : size ≤ at = at_least page.number size (omega (arith, f.rises)) in
    let long : max (length m) (at + size) ≡ length (replaced at page.bytes m) = omega
    (arith, f.whole, f.begins, length-replaced at page.bytes m) in
    put_low size (page.number + 1) i pages (replaced at page.bytes m) (omega arith) lt
    (subst (λ (n : ℕ). pages_fit size (page.number + 1) n pages ≡ true) long p.1)
    ∙ replaced_before at page.bytes m i (omega (arith, behind)) (omega (arith, behind, f.begins))
  where
    at_least : (n size : ℕ) → 1 ≤ n → size ≤ n * size
    at_least zero size le = absurd (omega arith)
    at_least (suc n) size le = grind arith

-- byte 4 of the map, where page 0 is not put in, and where it is
pub head_kept : (size n : ℕ) (bytes m : List ℕ) → 4096 ≤ size → pages_fit size 0 (length m) (entries size n bytes)
    ≡ true
    → (number_of bytes ≡ 0 → ⊥) → get_or (put_pages size (entries size n bytes) m) 4 0 ≡ get_or m 4 0
head_kept size zero bytes m large h some = refl
head_kept size (suc n) bytes m large h some =
    let page = first_page size bytes in
    let pages = entries size n (drop (4 + size) bytes) in
    let p = placed_parts size 0 (length m) page pages h in
    let f = p.0 in
    let up : pages_fit size 1 (length m) (page ∷ pages) ≡ true =
    and_from (fits size 1 (length m) page)
    (pages_fit size (page.number + 1) (max (length m) (page.number * size + size)) pages)
    (fits_from size 1 (length m) page (record {
      whole = f.whole;
      rises = positive page.number some;
      below = f.below;
      begins = f.begins;
    })) p.1 in
    put_low size 1 4 (page ∷ pages) m (omega arith) (omega (arith, large)) up
  where
    positive : (k : ℕ) → (k ≡ 0 → ⊥) → 1 ≤ k
    positive zero ne = absurd (ne refl)
    positive (suc k) ne = omega arith

pub head_put : (size n : ℕ) (bytes m : List ℕ) → 4096 ≤ size → 1 ≤ n
    → pages_fit size 0 (length m) (entries size n bytes) ≡ true → number_of bytes ≡ 0
    → get_or (put_pages size (entries size n bytes) m) 4 0 ≡ get_or bytes 8 0
head_put size zero bytes m large some h none = absurd (omega arith)
head_put size (suc n) bytes m large some h none =
    let page = first_page size bytes in
    let pages = entries size n (drop (4 + size) bytes) in
    let p = placed_parts size 0 (length m) page pages h in
    let f = p.0 in
    let at = number_of bytes * size in
    let start : at ≡ 0 = ap (λ (k : ℕ). k * size) none ∙ nothing size in
    let long : max (length m) (at + size) ≡ length (replaced at page.bytes m) = omega
    (arith, f.whole, f.begins, length-replaced at page.bytes m) in
    put_low size (number_of bytes + 1) 4 pages (replaced at page.bytes m) (omega arith) (omega (arith, large))
    (subst (λ (k : ℕ). pages_fit size (number_of bytes + 1) k pages ≡ true) long p.1)
    ∙ replaced_within at page.bytes m 4 f.begins (omega (arith, start)) (omega (arith, f.whole, large))
    ∙ ap (λ (k : ℕ). get_or page.bytes (4 - k) 0) start
    ∙ get_or-take size (drop 4 bytes) 4 0 (omega (arith, large))
    ∙ get_or-drop 4 bytes 4 0
  where
    nothing : (size : ℕ) → 0 * size ≡ 0
    nothing size = grind arith

-- an entry that is left is whole
pub way_long : (size low reach left : ℕ) (rest : List ℕ) → 1 ≤ size → 0 < left
    → pages_fit size low reach (entries size left rest) ≡ true → 4 + size ≤ length rest
way_long size low reach zero rest some more h = absurd (omega arith)
way_long size low reach (suc n) rest some more h =
    let p = placed_parts size low reach (first_page size rest) (entries size n (drop (4 + size) rest)) h in
    omega (arith, p.0.whole, length-take size (drop 4 rest), length-drop 4 rest)
