-- What `audit` says of a proof, and that two strings which an audit prints are a collision.
use Rattle.std.proofs.Common.{◌≡◌, ℕ, ◌<◌, ◌^◌, List, ◌++◌, refl, sym, ap, subst, ◌∙◌, inl, inr}
use Rattle.std.specs.Prelude.{◌⊎◌, Option, Some, None, IfSome, Result, Ok, Err}
use Rattle.mr_outside.specs.Files.{Files}
use Rattle.mr_outside.specs.Bytes.{AreBytes}
use Rattle.mr_record.specs.RecordText.{text_of}
use Rattle.mr_record.specs.declared.record.Record.{Record}
use Rattle.mr_record.specs.declared.version.Version.{Version}
use Rattle.mr_tree.specs.Digest.{Scheme, by}
use Rattle.mr_tree.specs.Tree.{records}
use Rattle.mr_tree.specs.WellFormed.{WellFormed, HasLayers}
use Rattle.mr_tree.specs.declared.tree.Tree.{Tree}
use Rattle.mr_query.specs.Scan.{scan}
use Rattle.mr_query.specs.Word.{IsQuery}
use Rattle.mr_query.specs.declared.query.Query.{Query}
use Rattle.mr_proof.specs.declared.rule.Fault.{Fault}
use Rattle.mr_proof.specs.Clash.{Pair, clash, IsCollision, NoneAnd}
use Rattle.mr_proof.specs.Headline.{IsHonest}
use Rattle.mr_proof.specs.Honest.{honest_head, honest_part, IsProof}
use Rattle.mr_proof.specs.Spelling.{part_bytes}
use Rattle.mr_proof.specs.Reading.{verdict}
use Rattle.mr_proof.specs.Tight.{question}
use Rattle.mr_proof.proofs.PreimageBytes.{IsSized}
use Rattle.mr_proof.proofs.Complete.{accepts_honest}
use Rattle.mr_proof.proofs.NoClash.{honest_quiet}
use Rattle.mr_proof.proofs.Worth.{accepted_headline}
use Rattle.mr_check.specs.Versions.{proof_version}
use Rattle.mr_check.proofs.Versions.{head_version}
use Rattle.mr_clash.specs.Finding.{finding_of, ShowsCollision}
use Rattle.mr_clash.specs.declared.finding.Finding.{Finding}
use Rattle.mr_clash.specs.declared.finding.Finding.TheVariants as findings
use Rattle.mr_pages.specs.File.{version_of}
use Rattle.mr_pages.specs.Law.{IsMapFile, map_root, map_in}
use Rattle.mr_pages.proofs.PageLaws.{from_bytes}
use Rattle.mr_command.specs.Answer.{World, HasStopped}
use Rattle.mr_command.specs.Ending.{EndsPlan, EndsAsSaid, IsWell}
use Rattle.mr_plan.specs.Found.{Found, ShowsMap}
use Rattle.mr_plan.specs.Outcome.{Outcome}
use Rattle.mr_plan.specs.Plan.{Plan, comes, opens, Input}
use Rattle.mr_plan.specs.Untold.{IsFinding, MaySayAudit, MaySayBeside}
use Rattle.mr_tool.specs.Asked.{HoldsBytes}
use Rattle.mr_tool.specs.Promises.{DeliversOutcome}
use Rattle.mr_tool.proofs.Statements.{SaysWorth}
use Rattle.mr_plan.specs.Say.{given, given_map, needs, needs_map, needs_beside, prints, say_audit, say_audit_of, say_finding}
use Rattle.mr_plan.specs.Lines.{sound_line, collision_lines}
use Rattle.mr_pages.specs.declared.opening.Opened.{Opened}
use Rattle.mr_plan.specs.declared.status.Status.{Status}
use Rattle.mr_plan.specs.declared.status.Status.TheVariants.{Done, Refused, BadMap, Collision, Outside}
use Rattle.mr_command.proofs.Going.{version_by}
use Rattle.mr_command.proofs.Verdicts.{says_finding}
use Rattle.mr_tool.proofs.Ended.{HasRun, beside_on, whole_of, layers_of, other_status}

-- ---- a proof beside the map

-- the version of an accepted proof without a pair, and of the honest one, is the map's
pub own_version : (s : Scheme) (t : Tree) (batch : ℕ) (q : Query) (bytes : List ℕ) → IsProof s t batch q bytes
    → proof_version bytes ≡ s.version
own_version s t batch q bytes is =
    ap proof_version is.own
    ∙ head_version (honest_head s (question q) t batch) (part_bytes s.version (honest_part s (question q) t))

module _ (v : Version) (hash : List ℕ → List ℕ) where
  abbrev scheme : Scheme
  scheme = by v hash

  pub says_found : (q : Query) (t : Tree) (batch : ℕ) (bytes : List ℕ)
      (r : Result (List Record) Fault) (o : Option Pair) → verdict hash (map_root hash (map_in v t batch)) q bytes ≡ r
      → clash scheme t batch bytes ≡ o →
      say_audit_of hash q (map_in v t batch) bytes ≡ say_finding (proof_version bytes) (finding_of r o)
  says_found q t batch bytes r o e d =
      sym (says_finding hash q (map_in v t batch) bytes (finding_of r o) (λ i. finding_of (sym e i) (sym d i)))

  module _ (before after : Option Files) (status : Status) (text : List ℕ) (map : List ℕ)
      (q : Query) (name : List ℕ) (t : Tree) (batch : ℕ) (held bytes : List ℕ) (map_held : HoldsBytes before map held)
      (stands : IsMapFile hash held (map_in v t batch)) (name_held : HoldsBytes before name bytes) where
    audited_ends : EndsAsSaid (say_audit hash map q name) (MaySayAudit hash map q name) before after status text
        → EndsPlan (comes (say_audit_of hash q (map_in v t batch) bytes)) before after status text
    audited_ends ends =
        beside_on v hash map held t batch before after status text map_held stands name bytes name_held
        (say_audit_of hash q) (MaySayAudit hash map q name) ends

    pub audit_done : IsSized hash → IsQuery q → IsProof scheme t batch q bytes
        → EndsAsSaid (say_audit hash map q name) (MaySayAudit hash map q name) before after status text
        → status ≡ Done
    audit_done sized asked is ends =
        let low = stands.stands.batch_fits in
        let layers = layers_of v hash held t batch stands in
        let accepted : verdict hash (map_root hash (map_in v t batch)) q bytes ≡ Ok (scan (records t) q) =
        ap (verdict hash (map_root hash (map_in v t batch)) q) is.own
        ∙ accepts_honest scheme sized q asked t batch is.may_come stands.well layers low in
        let quiet : clash scheme t batch bytes ≡ None =
        ap (clash scheme t batch) is.own
        ∙ honest_quiet scheme sized q asked t batch is.may_come stands.well layers low in
        (audited_ends ends).0
        ∙ ap (λ (o : Outcome). o.status) (says_found q t batch bytes (Ok (scan (records t) q)) None accepted quiet)

module _ (v : Version) (hash : List ℕ → List ℕ) (before after : World) (status : Status) (map : List ℕ)
    (q : Query) (name : List ℕ) (t : Tree) (batch : ℕ) (held bytes : List ℕ) (answer : List Record)
    (map_held : HoldsBytes before.shelf.files map held) (stands : IsMapFile hash held (map_in v t batch))
    (name_held : HoldsBytes before.shelf.files name bytes)
    (accepted : verdict hash (map_root hash (map_in v t batch)) q bytes ≡ Ok answer) where
  delivered : (o : Option Pair) (other : Outcome) → clash (by v hash) t batch bytes ≡ o
      → say_finding (proof_version bytes) (finding_of (Ok answer) o) ≡ other
      → HasRun (say_audit hash map q name) (MaySayAudit hash map q name) before after status
      ⊎ HasStopped before after status
      → DeliversOutcome other before after status
  delivered o other d e (inr stop) = inr stop
  delivered o other d e (inl run) =
      inl (whole_of (say_audit_of hash q (map_in v t batch) bytes) other before after status run.text
      (says_found v hash q t batch bytes (Ok answer) o accepted d ∙ e)
      (audited_ends v hash before.shelf.files after.shelf.files status run.text map q name t batch held bytes map_held
      stands name_held run.ends) run.printed)

  pub says_worth : (o : Option Pair) → clash (by v hash) t batch bytes ≡ o
      → NoneAnd hash o (IsHonest (by v hash) t batch q bytes answer)
      → HasRun (say_audit hash map q name) (MaySayAudit hash map q name) before after status
      ⊎ HasStopped before after status
      → SaysWorth (by v hash) t batch q bytes o before after status
  says_worth None d own run = (
    own.own,
    delivered None (prints (sound_line ++ text_of v (scan (records t) q))) d
        (λ i. prints (sound_line ++ text_of (own_version (by v hash) t batch q bytes own.own i) (own.complete i))) run,
  )
  says_worth (Some p) d collides run = (collides, delivered (Some p) _ d refl run)

-- ---- two strings that are printed

-- the two strings that the text names
pub record Shown (hash : List ℕ → List ℕ) (text : List ℕ) : Type 0 where
  pub pair : Pair
  pub collides : IsCollision hash pair
  pub is : text ≡ collision_lines pair.owned pair.shown

module _ (v : Version) (hash : List ℕ → List ℕ) (sized : IsSized hash) (q : Query) (may : IsQuery q) (t : Tree)
    (batch : ℕ) (bytes : List ℕ) (well : WellFormed t) (layers : HasLayers v t) (low : batch < 2 ^ 64)
    (all : AreBytes bytes) (before after : Option Files) (status : Status) (text : List ℕ) where
  shown_by : (r : Result (List Record) Fault) (o : Option Pair)
      → verdict hash (map_root hash (map_in v t batch)) q bytes ≡ r → clash (by v hash) t batch bytes ≡ o
      → status ≡ Collision
      → EndsPlan (comes (say_finding (proof_version bytes) (finding_of r o))) before after status text
      → Shown hash text
  shown_by (Err f) o e d is ends = other_status status Refused is ends.0 (λ c. cc)
  shown_by (Ok answer) None e d is ends = other_status status Done is ends.0 (λ c. cc)
  shown_by (Ok answer) (Some p) e d is ends = record {
    pair = p;
    collides = subst (λ o. NoneAnd hash o (IsHonest (by v hash) t batch q bytes answer)) d
        (accepted_headline (by v hash) sized q bytes may (from_bytes bytes all) t batch answer well layers low e);
    is = ends.1;
  }

  shown_of : status ≡ Collision → EndsPlan (comes (say_audit_of hash q (map_in v t batch) bytes)) before after
      status text
      → Shown hash text
  shown_of is ends =
      let r = verdict hash (map_root hash (map_in v t batch)) q bytes in
      let o = clash (by v hash) t batch bytes in
      shown_by r o refl refl is
      (subst (λ said. EndsPlan (comes said) before after status text)
      (says_found v hash q t batch bytes r o refl refl) ends)

-- whatever an audit says of the bytes of a proof and of a map
module _ (hash : List ℕ → List ℕ) (name : List ℕ) (before after : Option Files) (status : Status) (text : List ℕ)
    (is : status ≡ Collision) (said_of : Opened → List ℕ → Outcome) (finds : Outcome → Type 0)
    (shows : (m : Opened) → WellFormed m.tree → HasLayers m.version m.tree → m.batch < 2 ^ 64 → (bytes : List ℕ)
    → AreBytes bytes → EndsPlan (comes (said_of m bytes)) before after status text → Shown hash text)
    (finds_shown : (said : Outcome) → finds said → status ≡ said.status → text ≡ said.printed → Shown hash text) where
  -- what is said of the proof, by the map
  abbrev proof_plan : Opened → Plan
  proof_plan m = needs name (λ bytes. comes (said_of m bytes))

  shown_with : (m : Opened) → WellFormed m.tree → HasLayers m.version m.tree → m.batch < 2 ^ 64 → (input : Input)
      → IfSome input AreBytes
      → EndsPlan (given name (λ bytes. comes (said_of m bytes)) input) before after status text
      → Shown hash text
  shown_with m well layers low None taken ends = other_status status Outside is ends.0 (λ c. cc)
  shown_with m well layers low (Some bytes) taken ends = shows m well layers low bytes taken ends

  shown_found : (v : Version) (held : List ℕ) (found : Found) → ShowsMap v hash held found → IsWell found
      → EndsPlan (given_map proof_plan found) before after status text → Shown hash text
  shown_found v held (Ok m) shows well ends =
      shown_with m well.0 (subst (λ u. HasLayers u m.tree) (version_by v ∙ sym shows.0) shows.1.layers) well.1
      ends.0 ends.2 ends.3
  shown_found v held (Err fault) shows well ends = other_status status BadMap is ends.0 (λ c. cc)

  shown_opened : (map : List ℕ) (input : Input)
      → EndsPlan (given map (λ bytes. opens (version_of bytes) hash bytes (given_map proof_plan)) input) before after
      status text
      → Shown hash text
  shown_opened map None ends = other_status status Outside is ends.0 (λ c. cc)
  shown_opened map (Some bytes) ends = shown_found (version_of bytes) bytes ends.0 ends.1.0 ends.2 ends.3

  shown_untold : (map : List ℕ) (said : Outcome) → MaySayBeside hash map name finds said → status ≡ said.status
      → text ≡ said.printed → Shown hash text
  shown_untold map said (inl (inl e)) st tx =
      other_status status Outside is (st ∙ ap (λ (o : Outcome). o.status) e) (λ c. cc)
  shown_untold map said (inl (inr bad)) st tx =
      other_status status BadMap is (st ∙ ap (λ (o : Outcome). o.status) bad.2) (λ c. cc)
  shown_untold map said (inr (inl e)) st tx =
      other_status status Outside is (st ∙ ap (λ (o : Outcome). o.status) e) (λ c. cc)
  shown_untold map said (inr (inr found)) st tx = finds_shown said found st tx

  pub shown_beside : (map : List ℕ)
      → EndsAsSaid (needs_beside hash map name said_of) (MaySayBeside hash map name finds) before after status text
      → Shown hash text
  shown_beside map ends = by_files before refl
    where
      by_files : (o : Option Files) → before ≡ o → Shown hash text
      by_files None e =
          let on = subst (λ o. EndsAsSaid (needs_beside hash map name said_of) (MaySayBeside hash map name finds) o
          after status text) e ends in
          shown_untold map on.0 on.1 on.2 on.3
      by_files (Some files) e =
          let on = subst (λ o. EndsPlan (needs_map hash map proof_plan) o after status text) (sym e)
          (subst (λ o. EndsAsSaid (needs_beside hash map name said_of) (MaySayBeside hash map name finds) o after
          status text) e ends) in
          shown_opened map on.0 on.3

-- by what was found of the proof of an answer
module _ (hash : List ℕ → List ℕ) (status : Status) (text : List ℕ) (is : status ≡ Collision) where
  shown_finding : (v : Version) (f : Finding) (said : Outcome) → ShowsCollision hash f → said ≡ say_finding v f
      → status ≡ said.status → text ≡ said.printed → Shown hash text
  shown_finding v (findings.Refused fault) said collides e st tx =
      other_status status Refused is (st ∙ ap (λ (o : Outcome). o.status) e) (λ c. cc)
  shown_finding v (findings.Sound answer) said collides e st tx =
      other_status status Done is (st ∙ ap (λ (o : Outcome). o.status) e) (λ c. cc)
  shown_finding v (findings.Collision owned shown) said collides e st tx = record {
    pair = record { owned = owned; shown = shown };
    collides = collides;
    is = tx ∙ ap (λ (o : Outcome). o.printed) e;
  }

  pub shown_audit : IsSized hash → (q : Query) → IsQuery q → (name : List ℕ) (before after : Option Files)
      (map : List ℕ) → EndsAsSaid (say_audit hash map q name) (MaySayAudit hash map q name) before after status text
      → Shown hash text
  shown_audit sized q may name before after map ends =
      shown_beside hash name before after status text is (say_audit_of hash q)
      (λ said. (bytes : List ℕ) × (finding : Finding) × IsFinding hash q bytes finding
      × (said ≡ say_finding (proof_version bytes) finding))
      (λ m well layers low bytes taken ends.
      shown_of m.version hash sized q may m.tree m.batch bytes well layers low taken before after status text is ends)
      (λ said found st tx. shown_finding (proof_version found.0) found.1 said found.2.collides found.3 st tx) map ends
