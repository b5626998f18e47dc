-- What accepted bytes for a choice give fits, whatever the map.
use Rattle.std.proofs.Common.{◌≡◌, ℕ, ◌+◌, ◌-◌, ◌≤◌, Bool, true, false, List, length, Option, Some, None, sym, ap, subst, ◌∙◌, arith}
use Rattle.std.specs.Prelude.{if◌then◌else◌, All, IfSome}
use Rattle.std.proofs.lemmas.List.{length-append}
use Rattle.std.proofs.lemmas.List.Elements.{All-nil, All-append, All-filter}
use Rattle.std.proofs.lemmas.List.Sums.{sum_by-cons, length-filter, count_by-le-length}
use Rattle.mr_record.specs.Record.{HasLayer}
use Rattle.mr_record.specs.declared.version.Version.{Version}
use Rattle.mr_record.specs.declared.version.Version.TheVariants.{Two}
use Rattle.mr_record.specs.Version.{told}
use Rattle.mr_tree.specs.Limits.{count_limit}
use Rattle.mr_query.specs.declared.key.Key.{Key}
use Rattle.mr_proof.specs.declared.head.Head.{Head}
use Rattle.mr_proof.specs.declared.way.Way.{Way}
use Rattle.mr_proof.specs.Accepted.{ShowsCut}
use Rattle.mr_proof.specs.Cut.{Cut, Cuts, Pruned, Leaf, Inner, no_more, first, count, counts, records, all_records}
use Rattle.mr_proof.specs.Spelling.{Parsed, said, FitsCut, FitCuts, FitsPart}
use Rattle.mr_proof.specs.Tight.{key_at, keeps_record}
use Rattle.mr_check.specs.Whole.{is_whole, whole_of, wholes_of}
use Rattle.mr_count.specs.Chosen.{chosen, taken_of, FitsTaken}
use Rattle.mr_count.proofs.HonestChoices.{two_of}

-- ---- no more records than a cut counts

some_or_none : (b : Bool) (n : ℕ) → (if b then n else 0) + 0 ≤ n
some_or_none true n = omega arith
some_or_none false n = omega arith

mutual
  few_of : (way : Key → Way) (P : Cut) → whole_of Two way P + length (records P) ≤ count Two P
  few_of way (Pruned x) = some_or_none (is_whole (way (key_at Two x.mask x.rect))) x.count
  few_of way (Leaf rs) = omega arith
  few_of way (Inner cuts) = few_all way cuts

  few_all : (way : Key → Way) (Ps : Cuts)
      → wholes_of Two way Ps + length (all_records Ps) ≤ count Two (Inner Ps)
  few_all way no_more = omega arith
  few_all way (first P Ps) = omega (
    arith,
    few_of way P,
    few_all way Ps,
    length-append (records P) (all_records Ps),
    sum_by-cons (λ (n : ℕ). n) (count Two P) (counts Two Ps),
  )

-- ---- their layers

mutual
  layers_of : (v : Version) (level : ℕ) (P : Cut) → FitsCut v level P → All (HasLayer v) (records P)
  layers_of v level (Pruned x) fit = All-nil (HasLayer v)
  layers_of v level (Leaf rs) fit = fit.layers
  layers_of v level (Inner cuts) fit = layers_all v (level - 1) cuts fit.1

  layers_all : (v : Version) (level : ℕ) (Ps : Cuts) → FitCuts v level Ps → All (HasLayer v) (all_records Ps)
  layers_all v level no_more fit = All-nil (HasLayer v)
  layers_all v level (first P Ps) fit =
      All-append (HasLayer v) (records P) (all_records Ps) (layers_of v level P fit.0) (layers_all v level Ps fit.1)

-- ---- a head and a cut

fits_part : (way : Key → Way) (h : Head) (P : Option Cut) → h.version ≡ Two → h.count ≤ count_limit → FitsPart h P
    → IfSome P (λ P. count h.version P ≡ told h.version h.count) → FitsTaken (taken_of way (said h P))
fits_part way h None two low part counted =
    record { few = omega arith; count = low; layers = All-nil (HasLayer Two) }
fits_part way h (Some P) two low part counted = record {
  few =
      let below : whole_of h.version way P + length (records P) ≤ count h.version P =
      subst (λ (v : Version). whole_of v way P + length (records P) ≤ count v P) (sym two) (few_of way P) in
      let tally : count h.version P ≡ h.count = counted ∙ ap (λ (v : Version). told v h.count) two in
      omega (
        arith,
        length-filter (keeps_record way) (records P),
        count_by-le-length (keeps_record way) (records P),
      );
  count = low;
  layers = All-filter (keeps_record way) (HasLayer Two) (records P)
      (subst (λ (v : Version). All (HasLayer v) (records P)) two (layers_of h.version h.level P part.1));
}

pub taken_fits : (hash : List ℕ → List ℕ) (root : List ℕ) (letter : ℕ) (way : Key → Way) (bytes : List ℕ)
    (x : Parsed) → ShowsCut hash root (chosen letter way) bytes x → FitsTaken (taken_of way x)
taken_fits hash root letter way bytes x shows =
    fits_part way x.head x.part (two_of letter way x.head.version shows.version) shows.spelled.head.count
    shows.spelled.part shows.tight.counted
