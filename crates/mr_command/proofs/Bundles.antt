-- What `check-all` says of a bundle, and what it comes to behind each step.
use Rattle.std.proofs.Common.{◌≡◌, ℕ, ◌+◌, ◌≤◌, Bool, true, false, cond, ◌&&◌, ◌||◌, eqb, List, [], ◌∷◌, ◌++◌, length, map, refl, sym, ap, subst, ◌∙◌, arith}
use Rattle.std.specs.Prelude.{Option, None, Result, Ok, Err, All, is_none}
use Rattle.std.specs.List.{AllByRecursion, list_any}
use Rattle.std.proofs.lemmas.Bool.{eq-eqb}
use Rattle.std.proofs.lemmas.List.{flat_map_more, length-map}
use Rattle.std.proofs.lemmas.List.Elements.{recursion_from_All, All-from_recursion}
use Rattle.std.proofs.lemmas.List.Sums.{sum_by-cons}
use Rattle.std.proofs.lemmas.Slice.Zip.{length-zip}
use Rattle.mr_outside.specs.Files.{Files}
use Rattle.mr_outside.specs.State.{Shelved}
use Rattle.mr_record.specs.declared.text_fault.TextFault.{TextFault}
use Rattle.mr_record.specs.declared.version.Version.{Version}
use Rattle.mr_record.specs.declared.version.Version.TheVariants.{One, Two}
use Rattle.mr_query.specs.declared.query.Query.{Query}
use Rattle.mr_tree.specs.Digest.{by}
use Rattle.mr_proof.specs.Tight.{MayCome, question}
use Rattle.mr_bundle.specs.Bundle.{parts, part_bytes, bundle_of, bytes_of}
use Rattle.mr_bundle.specs.Proofs.{HasProofs, bundle, proofs}
use Rattle.mr_bundle.specs.Verdicts.{asked, judged, verdicts as verdicts_of}
use Rattle.mr_bundle.specs.declared.reading.Part.{Part}
use Rattle.mr_bundle.specs.declared.verdict.Verdict.{Verdict}
use Rattle.mr_pages.specs.declared.opening.Opened.{Opened}
use Rattle.mr_command.specs.Answer.{IsSettled}
use Rattle.mr_command.specs.Ending.{AreJudged, RunsPlan, IsEndingOf, IsEndingOrHalt, printed_of}
use Rattle.mr_command.specs.private.Inputs.{FollowsText}
use Rattle.mr_plan.specs.Judged.{is_accepted, IsAccepted, accepted_count, bundle_text, bundle_status}
use Rattle.mr_plan.specs.Lines.{bad_text_line, needs_version_2_line}
use Rattle.mr_plan.specs.Outcome.{Nothing}
use Rattle.mr_plan.specs.Plan.{Plan, Input, comes}
use Rattle.mr_command.specs.Counting.{pieces_of, reads_taken}
use Rattle.mr_plan.specs.Say.{given_queries, say_parts}
use Rattle.mr_plan.specs.Saying.{ends, lacks_proof, unless_lacking, say_bundle, say_parts_of, say_serve_of, say_verdicts}
use Rattle.mr_command.specs.declared.ending.Ending.{Ending}
use Rattle.mr_command.specs.declared.ending.Halt.{Halt}
use Rattle.mr_command.specs.declared.ending.Halt.TheVariants as halts
use Rattle.mr_plan.specs.declared.status.Status.TheVariants.{Done, Refused, BadText, NeedsVersion2}
use Rattle.mr_command.proofs.Counting.{text_taken, once_none}
use Rattle.mr_command.proofs.Going.{comes_given, comes_halted, judged_needs}
use Rattle.mr_command.proofs.Inputs.{says_text}
use Rattle.mr_command.proofs.Verdicts.{gives}

-- ---- the bytes

pub bundle_none : bundle_of [] ≡ []
unfolding bundle_of
bundle_none = refl

-- one proof more
pub bundle_push : (list : List (List ℕ)) (p : List ℕ) → bundle_of (list ++ p ∷ []) ≡ bundle_of list ++ part_bytes p
unfolding bundle_of
bundle_push list p = sym (flat_map_more part_bytes [] list p)

-- ---- the status

-- either status is settled
pub settled_status : (vs : List Verdict) (broken : Option ℕ) → IsSettled (bundle_status vs broken)
settled_status vs broken = by_cases (eqb (accepted_count vs) (length vs) && is_none broken)
  where
    by_cases : (b : Bool) → IsSettled (cond b Done Refused)
    by_cases true = ((λ e. cc), (λ e. cc))
    by_cases false = ((λ e. cc), (λ e. cc))

pub says_parts : (hash : List ℕ → List ℕ) (root : List ℕ) (queries : List Query) (bytes : List ℕ) (vs : List Verdict)
    (broken : Option ℕ) → vs ≡ verdicts_of hash root queries bytes (parts bytes (length queries)).list
    → broken ≡ (parts bytes (length queries)).broken
    → say_verdicts (length queries) vs broken ≡ say_parts_of hash root queries bytes
unfolding say_parts_of
says_parts hash root queries bytes vs broken is at = λ i. say_verdicts (length queries) (is i) (at i)

parts_write : (hash : List ℕ → List ℕ) (root : List ℕ) (queries : List Query) (bytes : List ℕ)
    → (say_parts_of hash root queries bytes).written ≡ Nothing
unfolding say_parts_of
parts_write hash root queries bytes = refl

pub parts_given : (hash : List ℕ → List ℕ) (root : List ℕ) (queries : List Query) (bytes : List ℕ) (at : Shelved)
    (result : Result Ending Halt) → IsEndingOrHalt (say_parts_of hash root queries bytes) result
    → RunsPlan (comes (say_parts_of hash root queries bytes)) at at result
parts_given hash root queries bytes at result =
    comes_given (say_parts_of hash root queries bytes) at result (parts_write hash root queries bytes)

-- an ending of this status and text
pub gives_parts : (hash : List ℕ → List ℕ) (root : List ℕ) (queries : List Query) (bytes : List ℕ) (vs : List Verdict)
    (broken : Option ℕ) (ending : Ending)
    → vs ≡ verdicts_of hash root queries bytes (parts bytes (length queries)).list
    → broken ≡ (parts bytes (length queries)).broken → ending.status ≡ bundle_status vs broken
    → printed_of ending ≡ bundle_text (length queries) vs broken
    → IsEndingOf (say_parts_of hash root queries bytes) ending
gives_parts hash root queries bytes vs broken ending is at status printed =
    subst (λ said. IsEndingOf said ending) (says_parts hash root queries bytes vs broken is at)
    (gives (say_verdicts (length queries) vs broken) ending (settled_status vs broken) status printed)

pub verdicts_few : (hash : List ℕ → List ℕ) (root : List ℕ) (queries : List Query) (bytes : List ℕ) (ps : List Part)
    → length (verdicts_of hash root queries bytes ps) ≤ length queries
verdicts_few hash root queries bytes ps =
    omega (arith, length-map (asked queries bytes ps) (judged hash root), length-zip queries (map (bytes_of bytes) ps))

-- ---- all accepted

counted : (v : Verdict) (vs : List Verdict) → accepted_count (v ∷ vs) ≡ cond (is_accepted v) 1 0 + accepted_count vs
counted v vs = sum_by-cons (λ x. cond (is_accepted x) 1 0) v vs

all_counted : (vs : List Verdict) → AllByRecursion IsAccepted vs → accepted_count vs ≡ length vs
all_counted [] all = refl
all_counted (v ∷ vs) all =
    let one : ◌≡◌ {A = ℕ} (cond (is_accepted v) 1 0) 1 = ap (λ b. cond b 1 0) all.0 in
    omega (arith, counted v vs, all_counted vs all.1, one)

pub parts_done : (hash : List ℕ → List ℕ) (root : List ℕ) (queries : List Query) (bytes : List ℕ)
    → (parts bytes (length queries)).broken ≡ None
    → All IsAccepted (verdicts_of hash root queries bytes (parts bytes (length queries)).list)
    → (say_parts_of hash root queries bytes).status ≡ Done
unfolding say_parts_of
parts_done hash root queries bytes unbroken accepted =
    let vs = verdicts_of hash root queries bytes (parts bytes (length queries)).list in
    let same = all_counted vs (recursion_from_All IsAccepted vs accepted) in
    (λ i. cond (eq-eqb (accepted_count vs) (length vs) same i && is_none (unbroken i)) Done Refused)

-- ---- the bundle of a server

pub says_served : (hash : List ℕ → List ℕ) (name : List ℕ) (map : Opened) (queries : List Query) (list : List (List ℕ))
    (bytes : List ℕ) → list_any (lacks_proof map.version) queries ≡ false
    → list ≡ proofs (by map.version hash) map.tree map.batch queries → bytes ≡ bundle_of list
    → say_bundle name (length queries) bytes ≡ say_serve_of hash name map (Ok queries)
unfolding say_serve_of bundle
says_served hash name map queries list bytes has are is =
    ap (say_bundle name (length queries)) (is ∙ ap bundle_of are)
    ∙ ap (λ b. unless_lacking b (say_bundle name (length queries)
    (bundle (by map.version hash) map.tree map.batch queries))) (sym has)

-- a query has no proof, so none is made
pub says_unserved : (hash : List ℕ → List ℕ) (name : List ℕ) (map : Opened) (queries : List Query)
    → list_any (lacks_proof map.version) queries ≡ true
    → ends NeedsVersion2 needs_version_2_line ≡ say_serve_of hash name map (Ok queries)
unfolding say_serve_of
says_unserved hash name map queries lacks =
    ap (λ b. unless_lacking b (say_bundle name (length queries)
    (bundle (by map.version hash) map.tree map.batch queries))) (sym lacks)

pub served_done : (hash : List ℕ → List ℕ) (name : List ℕ) (map : Opened) (queries : List Query)
    → list_any (lacks_proof map.version) queries ≡ false → (say_serve_of hash name map (Ok queries)).status ≡ Done
unfolding say_serve_of
served_done hash name map queries has =
    ap (λ b. (unless_lacking b (say_bundle name (length queries)
    (bundle (by map.version hash) map.tree map.batch queries))).status) has

-- each of the queries has one
pub has_by : (v : Version) (q : Query) → lacks_proof v q ≡ false → MayCome (question q) v
has_by One q has = has
has_by Two q has = tt

pub lacks_by : (v : Version) (q : Query) → MayCome (question q) v → lacks_proof v q ≡ false
lacks_by One q may = may
lacks_by Two q may = refl

has_with : (v : Version) (q : Query) (qs : List Query) (b : Bool) → lacks_proof v q ≡ b
    → (b || list_any (lacks_proof v) qs) ≡ false
    → (list_any (lacks_proof v) qs ≡ false → AllByRecursion (λ q. MayCome (question q) v) qs)
    → AllByRecursion (λ q. MayCome (question q) v) (q ∷ qs)
has_with v q qs true is e behind = absurd cc
has_with v q qs false is e behind = (has_by v q is, behind e)

each_has : (v : Version) (qs : List Query) → list_any (lacks_proof v) qs ≡ false
    → AllByRecursion (λ q. MayCome (question q) v) qs
each_has v [] has = tt
each_has v (q ∷ qs) has = has_with v q qs (lacks_proof v q) refl has (each_has v qs)

pub all_have : (v : Version) (qs : List Query) → list_any (lacks_proof v) qs ≡ false
    → HasProofs v qs
all_have v qs has = All-from_recursion (λ q. MayCome (question q) v) qs (each_has v qs has)

none_lacks : (v : Version) (qs : List Query) → AllByRecursion (λ q. MayCome (question q) v) qs
    → list_any (lacks_proof v) qs ≡ false
none_lacks v [] may = refl
none_lacks v (q ∷ qs) may = rw (lacks_by v q may.0) (none_lacks v qs may.1)

pub lacks_none : (v : Version) (qs : List Query) → HasProofs v qs
    → list_any (lacks_proof v) qs ≡ false
lacks_none v qs may = none_lacks v qs (recursion_from_All (λ q. MayCome (question q) v) qs may)

-- the script has a fault
fault_says : (hash : List ℕ → List ℕ) (name : List ℕ) (map : Opened) (fault : TextFault)
    → ends BadText (bad_text_line fault) ≡ say_serve_of hash name map (Err fault)
unfolding say_serve_of
fault_says hash name map fault = refl

pub served_follows : (hash : List ℕ → List ℕ) (name : List ℕ) (map : Opened)
    → FollowsText (λ found. comes (say_serve_of hash name map found))
served_follows hash name map = says_text (say_serve_of hash name map) (λ f. sym (fault_says hash name map f))

-- ---- behind the queries of a script

module _ (hash : List ℕ → List ℕ) (root bundle : List ℕ) where
  abbrev on_queries : Result (List Query) TextFault → Plan
  on_queries = given_queries (say_parts hash root bundle)

  judged_queries : (told : Option Files) (r : Result (List Query) TextFault) → AreJudged (on_queries r) told
  judged_queries told (Ok queries) = judged_needs bundle (say_parts_of hash root queries) told
  judged_queries told (Err fault) = tt

  no_memory : (at : Shelved) (r : Result (List Query) TextFault) → RunsPlan (on_queries r) at at (Err halts.NoMemory)
  no_memory at (Ok queries) =
      comes_halted bundle (λ bytes. comes (say_parts_of hash root queries bytes)) at at halts.NoMemory
      (record { faults = omega arith; reads = omega arith })
      (text_taken at.files bundle (say_parts_of hash root queries) at.reads at.reads
      (once_none at.files bundle at.reads)) refl
      (judged_needs bundle (say_parts_of hash root queries) at.files) tt
  no_memory at (Err fault) = comes_given (ends BadText (bad_text_line fault)) at (Err halts.NoMemory) refl refl

  pub queries_follow : FollowsText on_queries
  queries_follow = record {
    fault = λ f. refl;
    pieces = in_pieces;
    judged = λ found told. judged_queries told found;
    given_up = λ found at. no_memory at found;
  }
    where
      in_pieces : (found : Result (List Query) TextFault) (input : Input)
          → reads_taken (on_queries found) input ≡ pieces_of input
      in_pieces (Ok queries) input = refl
      in_pieces (Err fault) input = refl
