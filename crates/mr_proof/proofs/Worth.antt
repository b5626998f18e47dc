-- An accepted proof is the honest one, or it shows a collision, whatever is asked.
use Rattle.std.proofs.Common.{◌≡◌, ◌⊎◌, ℕ, ◌<◌, ◌^◌, List, [], ◌++◌, length, Option, Some, None, Result, Ok, Err, refl, sym, ap, subst, ◌∙◌, inl, inr, arith}
use Rattle.mr_record.specs.declared.record.Record.{Record}
use Rattle.mr_record.proofs.Encodings.{IsBytes}
use Rattle.mr_tree.specs.Tree.{level, records}
use Rattle.mr_tree.specs.Digest.{Scheme, by, root, root_preimage, word_bytes}
use Rattle.mr_tree.specs.declared.entry.Entry.{Entry}
use Rattle.mr_tree.specs.Digest as digests
use Rattle.mr_tree.specs.WellFormed.{WellFormed, HasLayers}
use Rattle.mr_record.specs.declared.version.Version.{Version}
use Rattle.mr_record.specs.Version.{told}
use Rattle.mr_tree.specs.declared.tree.Tree.{Tree}
use Rattle.mr_tree.specs.declared.tree.Tree.TheVariants as tree
use Rattle.mr_tree.proofs.Equations.{entry_level, entry_count, records-Empty, level-Empty}
use Rattle.mr_tree.proofs.Slim.{slim_tree}
use Rattle.mr_tree.proofs.Told.{count_told}
use Rattle.mr_query.specs.Word.{IsQuery}
use Rattle.mr_query.specs.Scan.{scan}
use Rattle.mr_query.specs.declared.query.Query.{Query}
use Rattle.mr_proof.specs.declared.head.Kind.{Kind}
use Rattle.mr_proof.specs.declared.head.Head.{Head}
use Rattle.mr_proof.specs.declared.rule.Fault.{Fault}
use Rattle.mr_proof.specs.Cut.{Cut, CutOf}
use Rattle.mr_proof.specs.Cut as cut
use Rattle.mr_proof.specs.Spelling.{Parsed, said, head_bytes, part_bytes, opened_records, FitsCut}
use Rattle.mr_proof.specs.Tight.{Question, MayCome, radius_by, IsLawful, kind_of, question, IsTightCut}
use Rattle.mr_proof.specs.Accepted.{proof_preimage, ShowsCut}
use Rattle.mr_proof.specs.Honest.{ways_of, honest_cut, honest_head, honest_part, IsProof}
use Rattle.mr_proof.specs.Halves.{IsQueried}
use Rattle.mr_proof.specs.Reading.{kind_in, verdict}
use Rattle.mr_proof.specs.Clash.{Pair, differ, node_clash, part_clash, pair_clash, if_said, clash_of, clash, IsCollision, NoneAnd}
use Rattle.mr_proof.specs.Headline.{MatchesHonest, MatchesHonestOrCollides, AcceptedMatchesHonest, IsHonest, Headline, AcceptedIsHonest, OthersFail}
use Rattle.mr_proof.proofs.LayeredTrees.{layered_tree}
use Rattle.mr_proof.proofs.Full.{IsFull, IsThere, some_record, empty_or_full}
use Rattle.mr_proof.proofs.KeptRecords.{narrow_misses, kept}
use Rattle.mr_proof.proofs.Laws.{is_lawful, same_radius}
use Rattle.mr_proof.proofs.HonestCut.{some_part, no_part}
use Rattle.mr_proof.proofs.Preimages.{entry-rect, entry-mask, entry-count}
use Rattle.mr_proof.proofs.Pairs.{kind_spelled, pair_found_of}
use Rattle.mr_proof.proofs.Soundness.{shows_from, proves_from}
use Rattle.mr_proof.proofs.PreimageBytes.{IsSized, root_of_are_bytes, shown_root_bytes}
use Rattle.mr_proof.proofs.NoClash.{queried_shape}
use Rattle.mr_proof.proofs.Complete.{honest_scan}
use Rattle.mr_proof.proofs.UniqueCut.{is_honest}
use Rattle.mr_proof.proofs.SameNodes.{SameEntry, named_tree, named_cut, cut_or_clash, none_differ, none_both, none_more}
use Rattle.mr_proof.proofs.SameRoots.{same_root, same_empty, empty_filled, one_version}

-- ---- heads

same_head : (s : Scheme) (a : Question) (h : Head) (t : Tree) (b : ℕ) → h.version ≡ s.version → h.kind ≡ a.kind
    → b ≡ h.batch → length (records t) ≡ h.count → h.radius ≡ radius_by a.around (records t) → level t ≡ h.level
    → h ≡ honest_head s a t b
same_head s a h t b v k p q r l = λ i. record {
  version = v i;
  kind = k i;
  batch = sym p i;
  count = sym q i;
  radius = r i;
  level = sym l i;
}

-- the bytes that spell the map's own head and cut are the honest proof
own_by : (s : Scheme) (a : Question) (t : Tree) (b : ℕ) (h : Head) (P : Option Cut) (bytes held : List ℕ)
    → ShowsCut s.of held a bytes (said h P) → h ≡ honest_head s a t b → P ≡ honest_part s a t
    → MatchesHonest s t b a bytes (said h P)
own_by s a t b h P bytes held p e f = record {
  same = λ i. said (e i) (f i);
  own = record {
    may_come = subst (MayCome a) (ap (λ (x : Head). x.version) e) p.version;
    own = p.spelled.whole ∙ (λ i. head_bytes (e i) ++ part_bytes (e i).version (f i));
  };
}

-- ---- the empty map

empty_own : (s : Scheme) (a : Question) (t : Tree) (b : ℕ) (h : Head) (bytes held : List ℕ)
    → t ≡ tree.Empty → b < 2 ^ 64 → h.version ≡ s.version → ShowsCut s.of held a bytes (said h None)
    → digests.root_preimage_of s t b ≡ proof_preimage s.of h None → MatchesHonest s t b a bytes (said h None)
empty_own s a t b h bytes held e low one p same =
    let none : records t ≡ [] = ap records e ∙ records-Empty in
    let zero : length (records t) ≡ 0 = ap length none in
    let nothing : Entry = record { level = 0; rect = None; mask = 0; count = 0; digest = [] } in
    let batch : b ≡ h.batch = same_empty s.version h.version b h.batch (digests.entry s t)
    nothing low p.spelled.head.batch
    (sym (ap (λ (n : ℕ). root_preimage s.version b n (digests.entry s t)) zero) ∙ same) in
    let flat : level t ≡ h.level = ap level e ∙ level-Empty ∙ sym (p.spelled.head.empty p.spelled.part) in
    let head = same_head s a h t b one p.kind batch (zero ∙ sym p.spelled.part)
    (p.tight.radius ∙ ap (radius_by a.around) (sym none)) flat in
    own_by s a t b h None bytes held p head (sym (no_part s a t zero))

-- ---- other maps

filled_own : (s : Scheme) (a : Question) → IsLawful a → (t : Tree) (b : ℕ) (h : Head) (P : Cut)
    (bytes held : List ℕ) → IsFull t → h.version ≡ s.version → ShowsCut s.of held a bytes (said h (Some P))
    → b ≡ h.batch → length (records t) ≡ h.count → level t ≡ h.level → CutOf s P t
    → MatchesHonest s t b a bytes (said h (Some P))
filled_own s a law t b h P bytes held full one p batch count flat c =
    let own_version = subst (λ (v : Version). IsTightCut v (a.way h.radius) P) one p.tight.parts in
    let close = subst (λ (o : Option ℕ). IsTightCut s.version (a.way o) P) p.tight.radius own_version in
    let radius = radius_by a.around (cut.records P) in
    let way = a.way radius in
    let all = kept s way (narrow_misses way (law.narrow radius)) P t full c close in
    let same = same_radius a law (cut.records P) (records t) all in
    let head = same_head s a h t b one p.kind batch count (p.tight.radius ∙ same) flat in
    let own : P ≡ honest_cut s (ways_of a t) t =
    is_honest s way P t c close ∙ ap (λ (o : Option ℕ). honest_cut s (a.way o) t) same in
    own_by s a t b h (Some P) bytes held p head
    (ap (λ (C : Cut). Some C) own ∙ sym (some_part s a t (some_record t full)))

-- what a root preimage says of the root node of a cut
abbrev entry_said : Scheme → Head → Cut → Entry
entry_said s h P = record {
  level = h.level;
  rect = cut.rect P;
  mask = cut.mask h.version P;
  count = 0;
  digest = cut.digest (by h.version s.of) h.level P;
}

-- with one root, the map is of the version of the head
pub version_said : (s : Scheme) (t : Tree) (b : ℕ) (h : Head) (P : Option Cut)
    → digests.root_preimage_of s t b ≡ proof_preimage s.of h P → s.version ≡ h.version
version_said s t b h None same =
    one_version s.version h.version b (length (records t)) h.batch 0 (digests.entry s t)
    (record { level = 0; rect = None; mask = 0; count = 0; digest = [] }) same
version_said s t b h (Some P) same =
    one_version s.version h.version b (length (records t)) h.batch h.count (digests.entry s t) (entry_said s h P) same

-- a cut counts as many records as the tree of the head's count
same_count : (s : Scheme) (t : Tree) (h : Head) (P : Cut) → h.version ≡ s.version → length (records t) ≡ h.count
    → cut.count h.version P ≡ told h.version h.count → (digests.entry s t).count ≡ (cut.entry s h.level P).count
same_count s t h P one n counted =
    entry_count s t ∙ count_told s.version t ∙ ap (told s.version) n
    ∙ subst (λ (v : Version). told v h.count ≡ cut.count v P) one (sym counted) ∙ sym (entry-count s h.level P)

by_part : (s : Scheme) → IsSized s.of → (a : Question) → IsLawful a → (t : Tree)
    (b : ℕ) (h : Head) (P : Option Cut) (bytes held : List ℕ) → WellFormed t
    → (t ≡ tree.Empty) ⊎ IsFull t → HasLayers s.version t → b < 2 ^ 64 → h.version ≡ s.version
    → ShowsCut s.of held a bytes (said h P) → digests.root_preimage_of s t b ≡ proof_preimage s.of h P
    → NoneAnd s.of (part_clash s s h.level t P) (MatchesHonest s t b a bytes (said h P))
by_part s sized a law t b h None bytes held well (inl e) layers low one p same =
    empty_own s a t b h bytes held e low one p same
by_part s sized a law t b h None bytes held well (inr full) layers low one p same =
    absurd (empty_filled h.version s.version h.batch b (length (records t))
    (record { level = 0; rect = None; mask = 0; count = 0; digest = [] }) (digests.entry s t) (some_record t full)
    (sym same))
by_part s sized a law t b h (Some P) bytes held well (inl e) layers low one p same =
    let zero : length (records t) ≡ 0 = ap (λ (t : Tree). length (records t)) e ∙ ap length records-Empty in
    absurd (empty_filled s.version h.version b h.batch h.count (digests.entry s t)
    (entry_said s h P)
    p.spelled.part.0 (sym (ap (λ (n : ℕ). root_preimage s.version b n (digests.entry s t)) zero) ∙ same))
by_part s sized a law t b h (Some P) bytes held well (inr full) layers low one p same =
    let few = well.few in
    let less = p.spelled.head.count in
    let fit = subst (λ (v : Version). FitsCut v h.level P) one p.spelled.part.1 in
    let there = subst IsThere (entry-rect s h.level P) (named_cut s sized.long h.level P fit).there in
    let r = same_root s.version h.version b (length (records t)) h.batch h.count (digests.entry s t)
    (entry_said s h P) low (omega arith)
    p.spelled.head.batch (omega arith) (some_record t full) p.spelled.part.0 (named_tree s sized.long t full).there
    there same in
    let e : SameEntry s.version (digests.entry s t) (cut.entry s h.level P) =
    record {
      rect = r.same.rect ∙ sym (entry-rect s h.level P);
      mask = r.same.mask ∙ ap (λ (v : Version). word_bytes s.version (cut.mask v P)) one
          ∙ ap (word_bytes s.version) (sym (entry-mask s h.level P));
      count = ap (word_bytes s.version) (same_count s t h P one r.count p.tight.counted);
      digest = r.same.digest ∙ ap (λ (v : Version). cut.digest (by v s.of) h.level P) one;
    } in
    none_more s.of (node_clash s s h.level t P) (CutOf s P t) (MatchesHonest s t b a bytes (said h (Some P)))
    (cut_or_clash s sized h.level t P p.spelled.head.level full (slim_tree t well) (layered_tree s.version t layers)
    well.few fit e)
    (filled_own s a law t b h P bytes held full one p r.batch r.count (sym (entry_level s t) ∙ r.level))

-- what bytes are worth that show what is asked
pub shown_is_own : (s : Scheme) → IsSized s.of → (a : Question) → IsLawful a
    → (t : Tree) (b : ℕ) (bytes : List ℕ) (x : Parsed) → WellFormed t → HasLayers s.version t → b < 2 ^ 64
    → ShowsCut s.of (root s t b) a bytes x → MatchesHonestOrCollides s t b a bytes x
shown_is_own s sized a law t b bytes x well layers low p =
    let h = x.head in
    subst (λ o. NoneAnd s.of (if_said o (pair_clash s t b)) (MatchesHonest s t b a bytes x))
    (sym (pair_found_of a.kind h x.part bytes p.kind p.spelled))
    (none_both s.of (differ (digests.root_preimage_of s t b) (Some (proof_preimage s.of h x.part)))
    (part_clash s (by h.version s.of) h.level t x.part)
    (digests.root_preimage_of s t b ≡ proof_preimage s.of h x.part) (MatchesHonest s t b a bytes x)
    (none_differ s.of (digests.root_preimage_of s t b) (proof_preimage s.of h x.part)
    (root_of_are_bytes s sized t b well (empty_or_full t well))
    (shown_root_bytes s.of sized h x.part p.spelled.head p.spelled.part) (sym p.held))
    (λ same.
    let one : s.version ≡ h.version = version_said s t b h x.part same in
    subst (λ (v : Version). NoneAnd s.of (part_clash s (by v s.of) h.level t x.part) (MatchesHonest s t b a bytes x))
    one (by_part s sized a law t b h x.part bytes (root s t b) well (empty_or_full t well) layers low (sym one) p
    same)))

pub accepted_matches_honest : (s : Scheme) → IsSized s.of → (a : Question) → IsLawful a
    → (bytes : List ℕ) → IsBytes bytes → AcceptedMatchesHonest s a bytes
accepted_matches_honest s sized a law bytes fits = λ t b x well layers low e.
    shown_is_own s sized a law t b bytes x well layers low (shows_from s.of (root s t b) a bytes x law fits e)

-- ---- for queries

pub headline : (s : Scheme) → IsSized s.of → (q : Query) (bytes : List ℕ) → IsQuery q → Headline s q bytes
headline s h q bytes is = λ t b answer well layers low p.
    let of : IsQueried p.said.head.kind = subst IsQueried (sym p.shows.kind) (queried_shape q.shape) in
    let kind : kind_in bytes ≡ kind_of q =
    kind_spelled p.said.head p.said.part bytes of p.shows.spelled ∙ p.shows.kind in
    let worth = shown_is_own s h (question q) (is_lawful q is) t b bytes p.said well layers low p.shows in
    none_more s.of (clash s t b bytes) (MatchesHonest s t b (question q) bytes p.said) (IsHonest s t b q bytes answer)
    (subst (λ (k : Kind). NoneAnd s.of (clash_of k s t b bytes) (MatchesHonest s t b (question q) bytes p.said))
    (sym kind) worth)
    (λ own. record {
      complete = p.scanned ∙ ap (λ (x : Parsed). scan (opened_records x.part) q) own.same
          ∙ sym (honest_scan s h t q is well);
      own = own.own;
    })

pub accepted_headline : (s : Scheme) → IsSized s.of → (q : Query) (bytes : List ℕ)
    → IsQuery q → IsBytes bytes → AcceptedIsHonest s q bytes
accepted_headline s h q bytes is fits = λ t b answer well layers low e.
    headline s h q bytes is t b answer well layers low (proves_from s.of (root s t b) q bytes answer is fits e)

abbrev Fails : Scheme → (Option Pair) → Result (List Record) Fault → Type 0
Fails s c r = ((f : Fault) × (r ≡ Err f)) ⊎ ((p : Pair) × (c ≡ Some p) × IsCollision s.of p)

fails_so : (s : Scheme) (c : Option Pair) (r : Result (List Record) Fault) (K : Type 0) → NoneAnd s.of c K
    → (K → ⊥) → Fails s c r
fails_so s None r K k not = absurd (not k)
fails_so s (Some p) r K k not = inr (p, refl, k)

others : (s : Scheme) → IsSized s.of → (q : Query) (bytes : List ℕ)
    → IsQuery q → IsBytes bytes → (t : Tree) (b : ℕ) → WellFormed t → HasLayers s.version t → b < 2 ^ 64
    → (IsProof s t b q bytes → ⊥) → (r : Result (List Record) Fault) → verdict s.of (root s t b) q bytes ≡ r
    → Fails s (clash s t b bytes) r
others s h q bytes is fits t b well layers low other (Err f) e = inl (f, refl)
others s h q bytes is fits t b well layers low other (Ok answer) e =
    fails_so s (clash s t b bytes) (Ok answer) (IsHonest s t b q bytes answer)
    (headline s h q bytes is t b answer well layers low
    (proves_from s.of (root s t b) q bytes answer is fits e))
    (λ own. other own.own)

pub others_fail : (s : Scheme) → IsSized s.of → (q : Query) (bytes : List ℕ)
    → IsQuery q → IsBytes bytes → OthersFail s q bytes
others_fail s h q bytes is fits = λ t b well layers low other.
    others s h q bytes is fits t b well layers low other (verdict s.of (root s t b) q bytes) refl
