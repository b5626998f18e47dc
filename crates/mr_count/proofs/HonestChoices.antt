-- What accepted bytes for a choice are worth.
use Rattle.std.proofs.Common.{◌≡◌, ℕ, ◌<◌, ◌^◌, ◌+◌, List, [], length, Option, Some, None, Result, Ok, refl, sym, ap, subst, ◌∙◌, inl, inr, arith}
use Rattle.std.specs.Prelude.{filter}
use Rattle.std.specs.List.{Contains}
use Rattle.std.proofs.lemmas.Bool.{false≢true}
use Rattle.mr_record.specs.declared.record.Record.{Record}
use Rattle.mr_record.specs.declared.version.Version.{Version}
use Rattle.mr_record.specs.declared.version.Version.TheVariants.{One, Two}
use Rattle.mr_tree.specs.Tree.{records}
use Rattle.mr_tree.specs.Tree as trees
use Rattle.mr_tree.specs.Digest.{Scheme, by, root}
use Rattle.mr_tree.specs.WellFormed.{WellFormed, HasLayers}
use Rattle.mr_tree.specs.declared.tree.Tree.{Tree}
use Rattle.mr_tree.specs.declared.tree.Tree.TheVariants as tree
use Rattle.mr_tree.proofs.Equations.{rect-Empty, records-Empty}
use Rattle.mr_query.specs.declared.key.Key.{Key}
use Rattle.mr_proof.specs.declared.head.Kind.TheVariants as kind
use Rattle.mr_proof.specs.declared.rule.Fault.{Fault}
use Rattle.mr_proof.specs.declared.way.Way.{Way}
use Rattle.mr_proof.specs.Cut.{Cut}
use Rattle.mr_proof.specs.Spelling.{Parsed, opened_records}
use Rattle.mr_proof.specs.Tight.{keeps_record, MayCome, IsNarrow, IsLawful}
use Rattle.mr_proof.specs.Honest.{honest_cut, honest_part, honest_said}
use Rattle.mr_proof.specs.Reading.{checked, ◌>>=◌}
use Rattle.mr_proof.specs.Clash.{clash_of}
use Rattle.mr_proof.specs.Halves.{AcceptsHonestProof}
use Rattle.mr_proof.specs.Headline.{MatchesHonest, AcceptedMatchesHonest, HonestProofIsQuiet}
use Rattle.mr_proof.proofs.FieldsTaken.{behind_step}
use Rattle.mr_proof.proofs.Full.{empty_or_full, some_record}
use Rattle.mr_proof.proofs.HonestCut.{rect_of_cut, honest_good, some_part, no_part}
use Rattle.mr_proof.proofs.KeptRecords.{narrow_misses, kept}
use Rattle.mr_proof.proofs.SameNodes.{none_more}
use Rattle.mr_check.specs.Answers.{rect_round}
use Rattle.mr_check.specs.Whole.{whole_in}
use Rattle.mr_count.specs.declared.taken.Taken.{Taken}
use Rattle.mr_count.specs.Chosen.{chosen, taken_of, opens_record, number_whole, IsChosen}
use Rattle.mr_count.specs.Accepted.{IsHonestChoice, AcceptedChoiceIsHonest, AcceptsHonestChoice}
use Rattle.mr_count.proofs.WholeRecords.{counted, among, filter_within, kept_whole, kept_opened}

pub lawful : (letter : ℕ) (way : Key → Way) → letter < 2 ^ 8 → IsNarrow way → IsLawful (chosen letter way)
lawful letter way low law =
    record { letter = low; two_only = λ e. refl; around = refl; circle = tt; narrow = λ radius. law }

-- a proof for a choice is of the second version
pub two_of : (letter : ℕ) (way : Key → Way) (v : Version) → MayCome (chosen letter way) v → v ≡ Two
two_of letter way One may = absurd (false≢true (sym may))
two_of letter way Two may = refl

-- ---- what a cut of the map gives of it

record Gives (v : Version) (t : Tree) (way : Key → Way) (P : Option Cut) : Type 0 where
  rect : rect_round P ≡ trees.rect t
  among : (r : Record) → Contains (filter (keeps_record way) (opened_records P)) r → Contains (records t) r
  opened : filter (opens_record way) (filter (keeps_record way) (opened_records P))
      ≡ filter (opens_record way) (records t)
  whole : whole_in v way P + number_whole way (filter (keeps_record way) (opened_records P))
      ≡ number_whole way (records t)

empty_gives : (v : Version) (t : Tree) (way : Key → Way) → t ≡ tree.Empty → records t ≡ [] → Gives v t way None
empty_gives v t way e none = record {
  rect = sym (ap trees.rect e ∙ rect-Empty);
  among = λ r within. subst (λ (xs : List Record). Contains xs r) (sym none) within;
  opened = sym (ap (filter (opens_record way)) none);
  whole = sym (ap (number_whole way) none);
}

gives : (s : Scheme) → s.version ≡ Two → (t : Tree) (letter : ℕ) (way : Key → Way) → IsNarrow way → WellFormed t
    → Gives s.version t way (honest_part s (chosen letter way) t)
gives s two t letter way law well = elim (empty_or_full t well) [
  | inl e ↦
      let none : records t ≡ [] = ap records e ∙ records-Empty in
      subst (Gives s.version t way) (sym (no_part s (chosen letter way) t (ap length none)))
      (empty_gives s.version t way e none)
  | inr full ↦
      let P = honest_cut s way t in
      let good = honest_good s way t full in
      let all = counted s two way law P t full good.cut good.tight in
      let same = kept_whole way (opened_records (Some P)) in
      subst (Gives s.version t way) (sym (some_part s (chosen letter way) t (some_record t full))) (record {
        rect = rect_of_cut s P t good.cut;
        among = λ r within. among s P t good.cut r
            (filter_within (keeps_record way) (opened_records (Some P)) r within);
        opened = kept_opened way (opened_records (Some P))
            ∙ kept s way (narrow_misses way law) P t full good.cut good.tight;
        whole = omega arith;
      })
]

-- what the honest proof gives is of the map
pub honest_chosen : (s : Scheme) → s.version ≡ Two → (t : Tree) (b letter : ℕ) (way : Key → Way) → IsNarrow way
    → WellFormed t → IsChosen t way (taken_of way (honest_said s (chosen letter way) t b))
honest_chosen s two t b letter way law well =
    let g = gives s two t letter way law well in
    record { count = refl; rect = g.rect; among = g.among; opened = g.opened; whole = g.whole }

-- ---- accepted bytes

abbrev pub answer : Taken → Result Taken Fault
answer x = Ok x

pub same_taken : (x y : Taken) → answer x ≡ answer y → x ≡ y
same_taken x y e = cc

pub accepted : (s : Scheme) (letter : ℕ) (way : Key → Way) (bytes : List ℕ) → IsNarrow way
    → AcceptedMatchesHonest s (chosen letter way) bytes → AcceptedChoiceIsHonest s letter way bytes
accepted s letter way bytes law matches = λ t b x well layers low e.
    let a = chosen letter way in
    let c = behind_step (checked s.of (root s t b) a bytes) (λ y. Ok (taken_of way y)) x e in
    let same : taken_of way c.0 ≡ x = same_taken (taken_of way c.0) x c.2 in
    none_more s.of (clash_of (kind.Choice letter) s t b bytes) (MatchesHonest s t b a bytes c.0)
    (IsHonestChoice s t b letter way bytes x) (matches t b c.0 well layers low c.1)
    (λ o. record {
      own = o.own;
      given = subst (IsChosen t way) (ap (taken_of way) (sym o.same) ∙ same)
          (honest_chosen s (two_of letter way s.version o.own.may_come) t b letter way law well);
    })

-- the layers of a map's records are those of the second version
pub layers_two : (t : Tree) → WellFormed t → HasLayers Two t
layers_two t well = λ k d within. (well.each k d within).layer

pub accepts : (hash : List ℕ → List ℕ) (letter : ℕ) (way : Key → Way) → IsNarrow way
    → AcceptsHonestProof (by Two hash) (chosen letter way) → HonestProofIsQuiet (by Two hash) (chosen letter way)
    → AcceptsHonestChoice hash letter way
accepts hash letter way law own quiet = λ t b well low. record {
  accepted = ap (λ (r : Result Parsed Fault). r >>= λ x. Ok (taken_of way x))
      (own t b tt well (layers_two t well) low);
  given = honest_chosen (by Two hash) refl t b letter way law well;
  quiet = quiet t b tt well (layers_two t well) low;
}
