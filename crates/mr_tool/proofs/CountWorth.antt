-- What the proofs of counts are worth, as the commands say it.
use Rattle.std.proofs.Common.{◌≡◌, ℕ, ◌<◌, ◌^◌, List, ◌++◌, refl, sym, ap, subst, ◌∙◌, arith}
use Rattle.std.specs.Prelude.{None, Result, Ok}
use Rattle.std.proofs.lemmas.List.Elements.{recursion_from_All}
use Rattle.mr_geom.specs.Rectangle.{Rectangle}
use Rattle.mr_outside.specs.Bytes.{AreBytes}
use Rattle.mr_record.specs.Record.{IsRecord}
use Rattle.mr_record.specs.declared.version.Version.{Version}
use Rattle.mr_tree.specs.Digest.{Scheme, by, root}
use Rattle.mr_tree.specs.Tree.{records}
use Rattle.mr_tree.specs.WellFormed.{WellFormed, HasLayers}
use Rattle.mr_tree.specs.declared.tree.Tree.{Tree}
use Rattle.mr_query.specs.Layers.{asked_layers}
use Rattle.mr_query.specs.declared.key.Key.{Key}
use Rattle.mr_query.specs.declared.query.Query.{Query}
use Rattle.mr_query.specs.declared.query.Shape.{Shape}
use Rattle.mr_query.specs.declared.query.Shape.TheVariants.{Window, Nearest}
use Rattle.mr_proof.specs.declared.head.Kind.TheVariants as kind
use Rattle.mr_proof.specs.declared.rule.Fault.{Fault}
use Rattle.mr_proof.specs.declared.way.Way.{Way}
use Rattle.mr_proof.specs.Accepted.{ShowsCut}
use Rattle.mr_proof.specs.Clash.{clash_of, NoneAnd}
use Rattle.mr_proof.specs.Headline.{MatchesHonest}
use Rattle.mr_proof.specs.Honest.{honest_said, IsProofFor}
use Rattle.mr_proof.specs.Reading.{◌>>=◌}
use Rattle.mr_proof.specs.Spelling.{Parsed}
use Rattle.mr_proof.specs.Tight.{IsLawful, IsNarrow}
use Rattle.mr_proof.proofs.Complete.{accepts_own}
use Rattle.mr_proof.proofs.Completeness.{checked_from}
use Rattle.mr_proof.proofs.NoClash.{own_quiet}
use Rattle.mr_proof.proofs.PreimageBytes.{IsSized}
use Rattle.mr_proof.proofs.SameNodes.{none_more}
use Rattle.mr_proof.proofs.Worth.{accepted_matches_honest, shown_is_own}
use Rattle.mr_pages.specs.Law.{map_root, map_in}
use Rattle.mr_pages.proofs.PageLaws.{from_bytes}
use Rattle.mr_count.specs.Accepted.{IsHonestChoice, AcceptedChoiceIsHonest}
use Rattle.mr_count.specs.Chosen.{taken_of, number_whole, total_whole, IsChosen}
use Rattle.mr_count.specs.Finding.{finding_of}
use Rattle.mr_count.specs.Inside.{inside_way, count_inside}
use Rattle.mr_count.specs.declared.taken.Taken.{Taken}
use Rattle.mr_count.specs.private.InsideLaws.{inside_narrow}
use Rattle.mr_count.proofs.HonestChoices.{accepted, honest_chosen, lawful, two_of}
use Rattle.mr_count.proofs.InsideCounts.{number_inside}
use Rattle.mr_plan.specs.Counts.{count_letter, count_question, count_ways, count_verdict, shape_ways}
use Rattle.mr_plan.specs.Lines.{counted_line, sound_line}
use Rattle.mr_plan.specs.Say.{prints, say_audit_count_of}
use Rattle.mr_command.proofs.Verdicts.{says_count_finding}

-- ---- what a query counts is lawful

narrow_shape : (layers : ℕ) (s : Shape) → IsNarrow (shape_ways layers s)
narrow_shape layers (Window w) = inside_narrow w layers
narrow_shape layers (Nearest p k) = λ a b o n f g inside among closed. refl

pub narrow_ways : (q : Query) → IsNarrow (count_ways q)
narrow_ways q = narrow_shape (asked_layers q) q.shape

pub law_of : (way : Key → Way) → IsNarrow way → IsLawful (count_question way)
law_of way narrow = lawful count_letter way (omega arith) narrow

-- ---- accepted bytes

-- bytes that show what is asked give the count of what they show
pub count_from : (hash : List ℕ → List ℕ) (root : List ℕ) (way : Key → Way) (bytes : List ℕ) (x : Parsed)
    → IsNarrow way → ShowsCut hash root (count_question way) bytes x
    → count_verdict hash root way bytes ≡ Ok (taken_of way x)
count_from hash root way bytes x narrow shows =
    ap (λ (r : Result Parsed Fault). r >>= λ x. Ok (taken_of way x))
    (checked_from hash root (count_question way) bytes x (law_of way narrow) shows)

pub count_shown : (hash : List ℕ → List ℕ) (root : List ℕ) (q : Query) (bytes : List ℕ) (x : Parsed)
    → ShowsCut hash root (count_question (count_ways q)) bytes x
    → count_verdict hash root (count_ways q) bytes ≡ Ok (taken_of (count_ways q) x)
count_shown hash root q bytes x shows = count_from hash root (count_ways q) bytes x (narrow_ways q) shows

-- accepted bytes are the honest proof, or a pair is a collision
pub count_honest : (s : Scheme) → IsSized s.of → (way : Key → Way) → IsNarrow way → (bytes : List ℕ) → AreBytes bytes
    → AcceptedChoiceIsHonest s count_letter way bytes
count_honest s sized way narrow bytes all =
    accepted s count_letter way bytes narrow
    (accepted_matches_honest s sized (count_question way) (law_of way narrow) bytes (from_bytes bytes all))

-- so are those that show what is asked
pub shown_honest : (s : Scheme) → IsSized s.of → (way : Key → Way) → IsNarrow way → (t : Tree) (batch : ℕ)
    (bytes : List ℕ) (x : Parsed) → WellFormed t → HasLayers s.version t → batch < 2 ^ 64
    → ShowsCut s.of (root s t batch) (count_question way) bytes x
    → NoneAnd s.of (clash_of (kind.Choice count_letter) s t batch bytes)
    (IsHonestChoice s t batch count_letter way bytes (taken_of way x))
shown_honest s sized way narrow t batch bytes x well layers low shows =
    none_more s.of (clash_of (kind.Choice count_letter) s t batch bytes)
    (MatchesHonest s t batch (count_question way) bytes x)
    (IsHonestChoice s t batch count_letter way bytes (taken_of way x))
    (shown_is_own s sized (count_question way) (law_of way narrow) t batch bytes x well layers low shows)
    (λ own. record {
      own = own.own;
      given = subst (IsChosen t way) (ap (taken_of way) (sym own.same))
          (honest_chosen s (two_of count_letter way s.version own.own.may_come) t batch count_letter way narrow well);
    })

-- ---- the honest proof

-- what it gives
abbrev pub own_taken : Scheme → (Key → Way) → Tree → (batch : ℕ) → Taken
own_taken s way t batch = taken_of way (honest_said s (count_question way) t batch)

module _ (v : Version) (hash : List ℕ → List ℕ) (sized : IsSized hash) (way : Key → Way) (narrow : IsNarrow way)
    (t : Tree) (batch : ℕ) (bytes : List ℕ) (well : WellFormed t) (layers : HasLayers v t) (low : batch < 2 ^ 64)
    (own : IsProofFor (by v hash) (count_question way) t batch bytes) where
  pub own_verdict : count_verdict hash (map_root hash (map_in v t batch)) way bytes
      ≡ Ok (own_taken (by v hash) way t batch)
  own_verdict =
      ap (count_verdict hash (map_root hash (map_in v t batch)) way) own.own
      ∙ ap (λ (r : Result Parsed Fault). r >>= λ x. Ok (taken_of way x))
      (accepts_own (by v hash) sized (count_question way) (law_of way narrow) t batch own.may_come well layers low)

  own_none : clash_of (kind.Choice count_letter) (by v hash) t batch bytes ≡ None
  own_none =
      ap (clash_of (kind.Choice count_letter) (by v hash) t batch) own.own
      ∙ own_quiet (by v hash) sized (count_question way) (law_of way narrow) t batch own.may_come well layers low

  pub own_number : total_whole way (own_taken (by v hash) way t batch) ≡ number_whole way (records t)
  own_number =
      (honest_chosen (by v hash) (two_of count_letter way v own.may_come) t batch count_letter way narrow well).whole

  -- what an audit says of it
  pub own_found : say_audit_count_of hash way (map_in v t batch) bytes
      ≡ prints (sound_line ++ counted_line (total_whole way (own_taken (by v hash) way t batch)))
  own_found =
      sym (says_count_finding hash way (map_in v t batch) bytes
      (finding_of (Ok (own_taken (by v hash) way t batch)) None)
      (λ i. finding_of (sym own_verdict i) (sym own_none i)))

-- of a window the number is that of the records inside it on one of the layers
pub number_there : (w : Rectangle) (layers : ℕ) (t : Tree) → WellFormed t
    → number_whole (inside_way w layers) (records t) ≡ count_inside w layers (records t)
number_there w layers t well = number_inside w layers (records t) (recursion_from_All IsRecord (records t) well.each)
