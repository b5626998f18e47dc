-- Words that are read one after the other stand there, and what stands there is read.
use Rattle.std.proofs.Common.{◌≡◌, ◌≢◌, ℕ, ◌^◌, ◌<◌, ◌≤◌, Bool, true, false, not, ◌&&◌, eqb, ltb, leb, List, [], ◌∷◌, length, map, replicate, Option, Some, None, is_some, is_ok, unwrap_or, IfSome, Result, Ok, Err, refl, sym, ap, ◌∙◌, arith}
use Rattle.std.specs.Prelude.{bytes_eq, decimal, ⊤}
use Rattle.std.specs.List.{AllByRecursion, list_all}
use Rattle.std.specs.Result.{result_unwrap_or}
use Rattle.std.proofs.lemmas.Bool.{and_from, and_parts, both_ways, cond-true, cond_both, eqb-true, false_from_ne_true, le-leb, leb-true, ltb-true, ne_eqb, not-true}
use Rattle.std.proofs.lemmas.Slice.Eq.{bytes_eq-Decides}
use Rattle.hex.specs.Hex.{encode_lower}
use Rattle.mr_record.specs.Decimal.{u64_of}
use Rattle.mr_record.proofs.Decimals.{u64_of-decimal, u64_of-text}
use Rattle.mr_query.specs.Word.{IsQuery, query_of, word_of}
use Rattle.mr_query.specs.declared.query.Query.{Query}
use Rattle.mr_query.specs.declared.query.QueryFault.{QueryFault}
use Rattle.mr_query.specs.declared.query.Shape.{Shape}
use Rattle.mr_query.specs.declared.query.Shape.TheVariants as shapes
use Rattle.mr_query.proofs.Words.{query_read, query_written}
use Rattle.mr_plan.specs.private.Kinds.{Kind, key_word, file_word, digest_word, query_word, window_word, number_word, Reading, kind_of, is_fresh, is_window, if_window, no_query, within, fits, word_in, word_next, past, all_next, past_all, last_behind, earlier_behind, is_complete}
use Rattle.mr_plan.specs.private.Asking.{digest_of_word}
use Rattle.mr_plan.specs.Words.{Word, key, file, digest, query, window, number, spelled, IsDigest, IsWindow, IsWord, file_names, AreApart}
use Rattle.mr_plan.proofs.Digests.{digest_read, digest_written}

abbrev pub reading_at : (words : List (List ℕ)) (last earlier : List ℕ) → Bool → Reading
reading_at words last earlier right = record { words = words; last = last; earlier = earlier; is_right = right }

-- each file is none of the two before it
abbrev pub AreNew : (last earlier : List ℕ) → List (List ℕ) → Type 0
AreNew last earlier [] = ⊤
AreNew last earlier (name ∷ names) = (name ≢ last) × (name ≢ earlier) × AreNew name last names

-- a number that is read fits 64 bits
abbrev pub is_low : Word → Bool
is_low (number least most value) = ltb most (2 ^ 64)
is_low (key name) = true
is_low (file name) = true
is_low (digest bytes) = true
is_low (query asked) = true
is_low (window asked) = true

-- ---- what is read stands there

has_bytes : (word : List ℕ) → not (eqb (length word) 0) ≡ true → 0 < length word
has_bytes [] is = absurd cc
has_bytes (b ∷ bytes) is = omega arith

pub differ : (a b : List ℕ) → not (bytes_eq a b) ≡ true → a ≢ b
differ a b e same = both_ways (bytes_eq a b) (not-true (bytes_eq a b) e) ((bytes_eq-Decides a b).1 same)

fresh_so : (word last earlier : List ℕ) → is_fresh word last earlier ≡ true
    → (0 < length word) × (word ≢ last) × (word ≢ earlier)
fresh_so word last earlier is =
    let both = and_parts (not (eqb (length word) 0)) (not (bytes_eq word last) && not (bytes_eq word earlier)) is in
    let apart = and_parts (not (bytes_eq word last)) (not (bytes_eq word earlier)) both.1 in
    (has_bytes word both.0, differ word last apart.0, differ word earlier apart.1)

found_digest : (word : List ℕ) (o : Option (List ℕ)) → digest_of_word word ≡ o → is_some o ≡ true
    → (word ≡ encode_lower (unwrap_or o (replicate 32 0))) × IsDigest (unwrap_or o (replicate 32 0))
found_digest word None e is = absurd cc
found_digest word (Some bytes) e is = let w = digest_written word bytes e in (w.1, w.0)

found_query : (word : List ℕ) (o : Result Query QueryFault) → query_of word ≡ o → is_ok o ≡ true
    → (word ≡ word_of (result_unwrap_or o no_query)) × IsQuery (result_unwrap_or o no_query)
found_query word (Err fault) e is = absurd cc
found_query word (Ok q) e is = let w = query_written word q e in (w.1, w.0)

is_window_so : (s : Shape) → is_window s ≡ true → IsWindow s
is_window_so (shapes.Window w) is = tt
is_window_so (shapes.Nearest p k) is = absurd cc

-- the word spells this query, which is for a window
abbrev IsFoundWindow : List ℕ → Query → Type 0
IsFoundWindow word q = (word ≡ word_of q) × (IsQuery q × IsWindow q.shape)

found_window : (word : List ℕ) (o : Result Query QueryFault) → query_of word ≡ o → is_some (if_window o) ≡ true
    → IsFoundWindow word (unwrap_or (if_window o) no_query)
found_window word (Err fault) e is = absurd cc
found_window word (Ok q) e is =
    let w = query_written word q e in
    cond_both (is_window q.shape) (Some q) None
    (λ o. is_some o ≡ true → IsFoundWindow word (unwrap_or o no_query))
    (λ t some. (w.1, (w.0, is_window_so q.shape t)))
    (λ f some. absurd cc) is

abbrev IsFound : (least most : ℕ) (word : List ℕ) → ℕ → Type 0
IsFound least most word n = (word ≡ decimal n) × ((least ≤ n) × (n ≤ most))

found_number : (least most : ℕ) (word : List ℕ) (o : Option ℕ) → IfSome o (λ n. word ≡ decimal n)
    → is_some (within least most o) ≡ true → IsFound least most word (unwrap_or (within least most o) 0)
found_number least most word None e is = absurd cc
found_number least most word (Some n) e is =
    cond_both (leb least n && leb n most) (Some n) None
    (λ o. is_some o ≡ true → IsFound least most word (unwrap_or o 0))
    (λ t some. let parts = and_parts (leb least n) (leb n most) t in
    (e, (leb-true least n parts.0, leb-true n most parts.1)))
    (λ f some. absurd cc) is

stands : (kind : Kind) (word last earlier : List ℕ) → fits kind word last earlier ≡ true
    → (word ≡ spelled (word_in kind word)) × IsWord (word_in kind word)
stands key_word word last earlier is = (refl, tt)
stands file_word word last earlier is =
    (refl, (fresh_so word last earlier is).0)
stands digest_word word last earlier is = found_digest word (digest_of_word word) refl is
stands query_word word last earlier is = found_query word (query_of word) refl is
stands window_word word last earlier is = found_window word (query_of word) refl is
stands (number_word least most) word last earlier is =
    found_number least most word (u64_of word) (u64_of-text word) is

new_behind : (kind : Kind) (word last earlier : List ℕ) (words : List Word) → fits kind word last earlier ≡ true
    → AreNew (last_behind kind word last) (earlier_behind kind last earlier) (file_names words)
    → AreNew last earlier (file_names (word_in kind word ∷ words))
new_behind key_word word last earlier words is rest = rest
new_behind file_word word last earlier words is rest =
    let fresh = fresh_so word last earlier is in (fresh.1, fresh.2, rest)
new_behind digest_word word last earlier words is rest = rest
new_behind query_word word last earlier words is rest = rest
new_behind window_word word last earlier words is rest = rest
new_behind (number_word least most) word last earlier words is rest = rest

-- words stand there as they are read
pub record Stand (kinds : List Kind) (words : List (List ℕ)) (last earlier : List ℕ) (right : Bool) : Type 0 where
  pub was_right : right ≡ true
  pub spelled_so : words ≡ map spelled (all_next kinds (reading_at words last earlier right))
  pub each : AllByRecursion IsWord (all_next kinds (reading_at words last earlier right))
  pub new : AreNew last earlier (file_names (all_next kinds (reading_at words last earlier right)))

stand_more : (kind : Kind) (kinds : List Kind) (word : List ℕ) (words : List (List ℕ)) (last earlier : List ℕ)
    (right : Bool)
    → Stand kinds words (last_behind kind word last) (earlier_behind kind last earlier)
    (fits kind word last earlier && right)
    → Stand (kind ∷ kinds) (word ∷ words) last earlier right
unfolding word_next past
stand_more kind kinds word words last earlier right rest =
    let both = and_parts (fits kind word last earlier) right rest.was_right in
    let front = stands kind word last earlier both.0 in
    record {
      was_right = both.1;
      spelled_so = λ i. front.0 i ∷ rest.spelled_so i;
      each = (front.1, rest.each);
      new = new_behind kind word last earlier
          (all_next kinds (reading_at words (last_behind kind word last) (earlier_behind kind last earlier)
          (fits kind word last earlier && right)))
          both.0 rest.new;
    }

pub stand : (kinds : List Kind) (words : List (List ℕ)) (last earlier : List ℕ) (right : Bool)
    → is_complete (past_all kinds (reading_at words last earlier right)) ≡ true
    → Stand kinds words last earlier right
unfolding is_complete past
stand [] [] last earlier right is = record {
  was_right = (and_parts right true is).0;
  spelled_so = refl;
  each = tt;
  new = tt;
}
stand [] (word ∷ words) last earlier right is =
    let none = eqb-true (length (word ∷ words)) 0 (and_parts right (eqb (length (word ∷ words)) 0) is).1 in
    absurd (omega arith)
stand (kind ∷ kinds) [] last earlier right is =
    let rest = stand kinds [] (last_behind kind [] last) (earlier_behind kind last earlier)
    (fits kind [] last earlier && false) is in
    let none = (and_parts (fits kind [] last earlier) false rest.was_right).1 in
    absurd cc
stand (kind ∷ kinds) (word ∷ words) last earlier right is =
    stand_more kind kinds word words last earlier right
    (stand kinds words (last_behind kind word last) (earlier_behind kind last earlier)
    (fits kind word last earlier && right) is)

-- ---- what stands there is read

keeps_bytes : (word : List ℕ) → 0 < length word → not (eqb (length word) 0) ≡ true
keeps_bytes word some = ap not (ne_eqb (length word) 0 (λ same. omega (arith, some, same)))

pub keeps_apart : (a b : List ℕ) → a ≢ b → not (bytes_eq a b) ≡ true
keeps_apart a b apart = ap not (false_from_ne_true (bytes_eq a b) (λ t. apart ((bytes_eq-Decides a b).0 t)))

found_within : (least most value : ℕ) → ltb most (2 ^ 64) ≡ true → (least ≤ value) × (value ≤ most)
    → within least most (u64_of (decimal value)) ≡ Some value
found_within least most value low is =
    let below : most < 2 ^ 64 = ltb-true most (2 ^ 64) low in
    ap (within least most) (u64_of-decimal value (omega (arith, is.1)))
    ∙ cond-true (leb least value && leb value most) (Some value) None
    (and_from (leb least value) (leb value most) (le-leb least value is.0) (le-leb value most is.1))

window_kept : (s : Shape) → IsWindow s → is_window s ≡ true
window_kept (shapes.Window w) is = refl
window_kept (shapes.Nearest p k) is = absurd is

kept_window : (q : Query) → IsQuery q × IsWindow q.shape → if_window (query_of (word_of q)) ≡ Some q
kept_window q is =
    ap if_window (query_read q is.0) ∙ cond-true (is_window q.shape) (Some q) None (window_kept q.shape is.1)

read_so : (word : Word) → is_low word ≡ true → IsWord word → word_in (kind_of word) (spelled word) ≡ word
read_so (key name) low is = refl
read_so (file name) low is = refl
read_so (digest bytes) low is =
    ap (λ (o : Option (List ℕ)). digest (unwrap_or o (replicate 32 0))) (digest_read bytes is)
read_so (query asked) low is =
    ap (λ (o : Result Query QueryFault). query (result_unwrap_or o no_query)) (query_read asked is)
read_so (window asked) low is = ap (λ (o : Option Query). window (unwrap_or o no_query)) (kept_window asked is)
read_so (number least most value) low is =
    ap (λ (o : Option ℕ). number least most (unwrap_or o 0)) (found_within least most value low is)

fits_so : (word : Word) (words : List Word) (last earlier : List ℕ) → is_low word ≡ true → IsWord word
    → AreNew last earlier (file_names (word ∷ words)) → fits (kind_of word) (spelled word) last earlier ≡ true
fits_so (key name) words last earlier low is new = refl
fits_so (file name) words last earlier low is new =
    and_from _ _ (keeps_bytes name is)
    (and_from _ _ (keeps_apart name last new.0) (keeps_apart name earlier new.1))
fits_so (digest bytes) words last earlier low is new = ap is_some (digest_read bytes is)
fits_so (query asked) words last earlier low is new = ap is_ok (query_read asked is)
fits_so (window asked) words last earlier low is new = ap is_some (kept_window asked is)
fits_so (number least most value) words last earlier low is new =
    ap is_some (found_within least most value low is)

new_rest : (word : Word) (words : List Word) (last earlier : List ℕ)
    → AreNew last earlier (file_names (word ∷ words))
    → AreNew (last_behind (kind_of word) (spelled word) last) (earlier_behind (kind_of word) last earlier)
    (file_names words)
new_rest (key name) words last earlier new = new
new_rest (file name) words last earlier new = new.2
new_rest (digest bytes) words last earlier new = new
new_rest (query asked) words last earlier new = new
new_rest (window asked) words last earlier new = new
new_rest (number least most value) words last earlier new = new

pub read_again : (words : List Word) (last earlier : List ℕ) (right : Bool) → list_all is_low words ≡ true
    → AllByRecursion IsWord words
    → all_next (map kind_of words) (reading_at (map spelled words) last earlier right) ≡ words
unfolding word_next past
read_again [] last earlier right low each = refl
read_again (word ∷ words) last earlier right low each =
    let both = and_parts (is_low word) (list_all is_low words) low in
    let front = read_so word both.0 each.0 in
    let rest = read_again words (last_behind (kind_of word) (spelled word) last)
    (earlier_behind (kind_of word) last earlier)
    (fits (kind_of word) (spelled word) last earlier && right) both.1 each.1 in
    λ i. front i ∷ rest i

pub read_whole : (words : List Word) (last earlier : List ℕ) (right : Bool) → right ≡ true
    → list_all is_low words ≡ true → AllByRecursion IsWord words → AreNew last earlier (file_names words)
    → is_complete (past_all (map kind_of words) (reading_at (map spelled words) last earlier right)) ≡ true
unfolding is_complete past
read_whole [] last earlier right is low each new = and_from right true is refl
read_whole (word ∷ words) last earlier right is low each new =
    let both = and_parts (is_low word) (list_all is_low words) low in
    read_whole words (last_behind (kind_of word) (spelled word) last) (earlier_behind (kind_of word) last earlier)
    (fits (kind_of word) (spelled word) last earlier && right)
    (and_from _ _ (fits_so word words last earlier both.0 each.0 new) is) both.1 each.1
    (new_rest word words last earlier new)

-- ---- three files at most

pub apart_new : (names : List (List ℕ)) → length names ≤ 3 → AreNew [] [] names → AreApart names
apart_new [] few new = tt
apart_new (a ∷ []) few new = (tt, tt)
apart_new (a ∷ b ∷ []) few new = (((λ same. new.2.0 (sym same)), tt), (tt, tt))
apart_new (a ∷ b ∷ c ∷ []) few new = (
  ((λ same. new.2.0 (sym same)), ((λ same. new.2.2.1 (sym same)), tt)),
  (((λ same. new.2.2.0 (sym same)), tt), (tt, tt)),
)
apart_new (a ∷ b ∷ c ∷ d ∷ names) few new = absurd (omega arith)

named : (name : List ℕ) → 0 < length name → name ≢ []
named name some same = absurd (omega (arith, ap length same))

pub new_apart : (names : List (List ℕ)) → length names ≤ 3 → AllByRecursion (λ name. 0 < length name) names
    → AreApart names → AreNew [] [] names
new_apart [] few each apart = tt
new_apart (a ∷ []) few each apart = (named a each.0, named a each.0, tt)
new_apart (a ∷ b ∷ []) few each apart = (
  named a each.0,
  named a each.0,
  ((λ same. apart.0.0 (sym same)), named b each.1.0, tt),
)
new_apart (a ∷ b ∷ c ∷ []) few each apart = (
  named a each.0,
  named a each.0,
  (
    (λ same. apart.0.0 (sym same)),
    named b each.1.0,
    ((λ same. apart.1.0.0 (sym same)), (λ same. apart.0.1.0 (sym same)), tt),
  ),
)
new_apart (a ∷ b ∷ c ∷ d ∷ names) few each apart = absurd (omega arith)

pub names_named : (words : List Word) → AllByRecursion IsWord words
    → AllByRecursion (λ name. 0 < length name) (file_names words)
names_named [] each = tt
names_named (key name ∷ words) each = names_named words each.1
names_named (file name ∷ words) each = (each.0, names_named words each.1)
names_named (digest bytes ∷ words) each = names_named words each.1
names_named (query asked ∷ words) each = names_named words each.1
names_named (window asked ∷ words) each = names_named words each.1
names_named (number least most value ∷ words) each = names_named words each.1
