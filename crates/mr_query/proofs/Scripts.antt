-- A script is read as its queries, and what is read is written so.
use Rattle.std.proofs.Common.{◌≡◌, ℕ, ◌<◌, ◌≤◌, Bool, true, false, leb, List, [], ◌∷◌, ◌++◌, length, get_or, Option, Some, None, Result, Ok, Err, refl, sym, ap, subst, ◌∙◌, inl, inr, arith, lit≤}
use Rattle.std.specs.Prelude.{IfOk, IfErr, All, flat_map, decimal}
use Rattle.std.specs.List.{list_all}
use Rattle.std.specs.Fmt.{signed_decimal}
use Rattle.std.specs.Int.{w64, to_be_bytes}
use Rattle.std.specs.Global.{Vec}
use Rattle.std.proofs.lemmas.Bool.{and_parts, or_cases, leb-true}
use Rattle.std.proofs.lemmas.List.{length-append, length_push, get_or_at}
use Rattle.std.proofs.lemmas.List.Elements.{All-push, All-get_or, All-cons, All-append, All-weaker, All-nil}
use Rattle.std.proofs.lemmas.List.Sums.{AllPass-from_list_all}
use Rattle.hex.specs.Hex.{encode_lower}
use Rattle.mr_record.specs.declared.text_fault.TextErr.{TextErr}
use Rattle.mr_record.specs.declared.text_fault.TextErr.TheVariants as errors
use Rattle.mr_record.specs.Answer.{AnswersText}
use Rattle.mr_record.specs.RecordText.{is_lower_digit}
use Rattle.mr_record.specs.Lines.{lines_of}
use Rattle.mr_record.specs.LineTexts.{text_by, values_after}
use Rattle.mr_record.proofs.RecordLines.{IsInk, decimal_ink, signed_ink, IsDark, dark_ink, lacks_feed}
use Rattle.mr_record.proofs.LineTexts.{IsSpelling, line_text, lines_text, spelled_lines, values_written, spelled_again, values_read, first_break}
use Rattle.mr_query.specs.declared.query.Query.{Query}
use Rattle.mr_query.specs.declared.query.Shape.{Shape}
use Rattle.mr_query.specs.declared.query.Shape.TheVariants.{Window, Nearest}
use Rattle.mr_query.specs.declared.query.QueryFault.{QueryFault}
use Rattle.mr_query.specs.Script.{script_limit, IsScript, script_of, as_rule, query_lines, queries_of_text, IsScriptRefusal}
use Rattle.mr_query.specs.Word.{window_word, nearest_word, query_of, IsShape, IsQuery, shape_word, mask_word, word_of}
use Rattle.mr_query.proofs.MaskWords.{mask_digits}
use Rattle.mr_query.proofs.Words.{query_written, query_read}

-- ---- a word has no line feed

dark_word : (word : List ℕ) → list_all (leb 32) word ≡ true → IsDark word
dark_word word e =
    All-weaker (λ b. leb 32 b ≡ true) (λ b. 32 ≤ b) (λ b h. leb-true 32 b h) word
    (AllPass-from_list_all (leb 32) word e)

dark_part : (front rest : List ℕ) → IsInk front → IsDark rest → IsDark (front ++ 44 ∷ rest)
dark_part front rest ink dark =
    All-append (λ b. 32 ≤ b) front (44 ∷ rest) (dark_ink front ink) (All-cons (λ b. 32 ≤ b) 44 rest (lit≤ tt) dark)

shape_dark : (s : Shape) → IsShape s → IsDark (shape_word s)
unfolding shape_word
shape_dark (Window w) is =
    All-append (λ b. 32 ≤ b) window_word _ (dark_word window_word refl)
    (dark_part (signed_decimal w.x0) _ (signed_ink w.x0 is.1.x0)
    (dark_part (signed_decimal w.y0) _ (signed_ink w.y0 is.1.y0)
    (dark_part (signed_decimal w.x1) _ (signed_ink w.x1 is.1.x1)
    (dark_ink (signed_decimal w.y1) (signed_ink w.y1 is.1.y1)))))
shape_dark (Nearest p k) is =
    All-append (λ b. 32 ≤ b) nearest_word _ (dark_word nearest_word refl)
    (dark_part (signed_decimal p.x) _ (signed_ink p.x is.0.x)
    (dark_part (signed_decimal p.y) _ (signed_ink p.y is.0.y)
    (dark_ink (decimal k) (decimal_ink k (omega (arith, is.1.1))))))

digits_dark : (text : List ℕ) → list_all is_lower_digit text ≡ true → IsDark text
digits_dark text e =
    All-weaker (λ b. is_lower_digit b ≡ true) (λ b. 32 ≤ b) digit_dark text
    (AllPass-from_list_all is_lower_digit text e)
  where
    digit_dark : (b : ℕ) → is_lower_digit b ≡ true → 32 ≤ b
    digit_dark b e = elim (or_cases _ _ e) [
      | inl t ↦ let low : 48 ≤ b = leb-true 48 b (and_parts (leb 48 b) (leb b 57) t).0 in omega arith
      | inr t ↦ let low : 97 ≤ b = leb-true 97 b (and_parts (leb 97 b) (leb b 102) t).0 in omega arith
    ]

mask_dark : (mask : Option ℕ) → IsDark (mask_word mask)
mask_dark None = All-nil (λ b. 32 ≤ b)
mask_dark (Some m) =
    All-cons (λ b. 32 ≤ b) 47 (encode_lower (to_be_bytes w64 m)) (lit≤ tt)
    (digits_dark (encode_lower (to_be_bytes w64 m)) (mask_digits m))

word_dark : (q : Query) → IsQuery q → IsDark (word_of q)
word_dark q is =
    All-append (λ b. 32 ≤ b) (shape_word q.shape) (mask_word q.mask) (shape_dark q.shape is.shape) (mask_dark q.mask)

-- ---- one line behind others

query_from : (r : Result Query QueryFault) (q : Query) → as_rule r ≡ Ok q → r ≡ Ok q
query_from (Ok p) q e = cc
query_from (Err fault) q e = absurd cc

IsScript-push : (earlier : List Query) (q : Query) → IsScript earlier → length earlier < script_limit → IsQuery q
    → IsScript (earlier ++ q ∷ [])
IsScript-push earlier q are room is =
    record { each = All-push IsQuery earlier q are.each is; count = omega (arith, length_push earlier q) }

-- the query at a place in a list
one_is : (earlier : List Query) (q : Query) (more : List Query) → IsScript (earlier ++ q ∷ more) → IsQuery q
one_is earlier q more are =
    let here : length earlier < length (earlier ++ q ∷ more) = omega (arith, length-append earlier (q ∷ more)) in
    subst IsQuery (get_or_at earlier q more q (length earlier) refl)
    (All-get_or IsQuery (earlier ++ q ∷ more) (length earlier) q here are.each)

pub query_spelling : IsSpelling query_lines IsScript
query_spelling = record {
  none = record { each = All-nil IsQuery; count = omega arith };
  lacks = λ earlier q more are. lacks_feed (word_of q) (word_dark q (one_is earlier q more are));
  few = λ earlier q more are. omega (arith, length-append earlier (q ∷ more), are.count);
  again = λ earlier q more are. ap as_rule (query_read q (one_is earlier q more are));
  written = λ earlier line q are room e. let facts = query_written line q (query_from (query_of line) q e) in
      (IsScript-push earlier q are room facts.0, facts.1);
}

-- ---- the text

script_by : (queries : List Query) → text_by query_lines queries ≡ script_of queries
unfolding script_of
script_by queries = refl

text_written : (text : List ℕ) (queries : List Query) → queries_of_text text ≡ Ok queries
    → IsScript queries × (text ≡ script_of queries)
text_written text queries e =
    let w = values_written query_lines IsScript query_spelling (lines_of text) queries e in (
      w.0,
      sym (lines_text text) ∙ ap (flat_map line_text) w.1 ∙ spelled_lines query_lines queries ∙ script_by queries,
    )

pub answer_written : (text : List ℕ) (answer : Result (Vec Query) TextErr) → AnswersText answer (queries_of_text text)
    → IfOk answer (λ v. IsScript v.items × (text ≡ script_of v.items))
answer_written text (Ok v) e = text_written text v.items e
answer_written text (Err rule) e = tt

pub text_read : (queries : List Query) → IsScript queries → queries_of_text (script_of queries) ≡ Ok queries
text_read queries is =
    ap queries_of_text (sym (script_by queries))
    ∙ ap (values_after query_lines []) (spelled_again query_lines IsScript query_spelling queries is)
    ∙ values_read query_lines IsScript query_spelling queries is

pub answer_refused : (text : List ℕ) (answer : Result (Vec Query) TextErr) → AnswersText answer (queries_of_text text)
    → IfErr answer (λ e. IsScriptRefusal text e)
answer_refused text (Ok v) e = tt
answer_refused text (Err (errors.Text fault)) e =
    first_break query_lines IsScript query_spelling (lines_of text) fault e
answer_refused text (Err errors.NoMemory) e = tt
