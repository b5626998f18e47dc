-- What a run promises of counts, and of two strings that an audit shows.
use Rattle.std.proofs.Common.{◌≡◌, ℕ, ◌<◌, ◌^◌, List, ◌++◌, refl, sym, ap, subst, ◌∙◌, inl, inr}
use Rattle.std.specs.Prelude.{◌⊎◌, Option, Some, None, Result, Ok, Err}
use Rattle.mr_geom.specs.Rectangle.{Rectangle}
use Rattle.mr_outside.specs.Files.{Files}
use Rattle.mr_outside.specs.Told.{TakesBytes}
use Rattle.mr_outside.specs.Bytes.{AreBytes}
use Rattle.mr_record.specs.declared.version.Version.{Version}
use Rattle.mr_record.specs.declared.version.Version.TheVariants.{Two}
use Rattle.mr_tree.specs.Digest.{by}
use Rattle.mr_tree.specs.Tree.{records}
use Rattle.mr_tree.specs.WellFormed.{WellFormed, HasLayers}
use Rattle.mr_tree.specs.declared.tree.Tree.{Tree}
use Rattle.mr_query.specs.Layers.{layers_named}
use Rattle.mr_query.specs.Word.{asks}
use Rattle.mr_query.specs.declared.key.Key.{Key}
use Rattle.mr_query.specs.declared.query.Shape.TheVariants.{Window}
use Rattle.mr_proof.specs.declared.head.Kind.TheVariants as kind
use Rattle.mr_proof.specs.declared.rule.Fault.{Fault}
use Rattle.mr_proof.specs.declared.way.Way.{Way}
use Rattle.mr_proof.specs.Clash.{Pair, clash_of, NoneAnd}
use Rattle.mr_proof.specs.Honest.{IsProofFor}
use Rattle.mr_proof.specs.Reading.{checked}
use Rattle.mr_proof.specs.Tight.{IsNarrow}
use Rattle.mr_proof.proofs.FieldsTaken.{behind_step}
use Rattle.mr_proof.proofs.PreimageBytes.{IsSized}
use Rattle.mr_proof.proofs.SameNodes.{none_more}
use Rattle.mr_proof.proofs.Soundness.{shows_from}
use Rattle.mr_pages.specs.Law.{IsMapFile, map_root, map_in}
use Rattle.mr_pages.specs.declared.opening.Opened.{Opened}
use Rattle.mr_pages.proofs.PageLaws.{from_bytes}
use Rattle.mr_count.specs.Accepted.{IsHonestChoice}
use Rattle.mr_count.specs.Chosen.{taken_of, number_whole, total_whole}
use Rattle.mr_count.specs.Finding.{finding_of}
use Rattle.mr_count.specs.Finding as choices
use Rattle.mr_count.specs.Inside.{count_inside}
use Rattle.mr_count.specs.declared.finding.ChoiceFinding.{ChoiceFinding}
use Rattle.mr_count.specs.declared.finding.ChoiceFinding.TheVariants as findings
use Rattle.mr_count.specs.declared.taken.Taken.{Taken}
use Rattle.mr_count.proofs.HonestChoices.{layers_two}
use Rattle.mr_plan.specs.Counts.{count_letter, count_question, count_ways, count_verdict}
use Rattle.mr_plan.specs.Lines.{counted_line, sound_line}
use Rattle.mr_plan.specs.Outcome.{Outcome}
use Rattle.mr_plan.specs.Plan.{Plan, comes, LeadsToOutcome}
use Rattle.mr_plan.specs.Say.{ends, prints, say_check_count, say_check_count_of, say_audit_count, say_audit_count_of, say_count_finding}
use Rattle.mr_plan.specs.Untold.{IsCountFinding, MaySayAuditCount}
use Rattle.mr_plan.specs.Words.{SpellsCommand}
use Rattle.mr_plan.specs.declared.status.Status.{Status}
use Rattle.mr_plan.specs.declared.status.Status.TheVariants.{Done, Refused, Collision}
use Rattle.mr_plan.specs.declared.words.Command.{Command}
use Rattle.mr_plan.specs.declared.words.Command.TheVariants as commands
use Rattle.mr_command.specs.Answer.{World, HasStopped, IsWhole}
use Rattle.mr_command.specs.Ending.{EndsAsSaid, EndsPlan, IsCarriedOut}
use Rattle.mr_command.proofs.Rereading.{loud_of}
use Rattle.mr_command.specs.private.Steps.{PrintsEnding}
use Rattle.mr_command.specs.declared.ending.Ending.{Ending}
use Rattle.mr_command.specs.declared.ending.Halt.{Halt}
use Rattle.mr_command.proofs.Verdicts.{says_count_verdict, says_count_finding}
use Rattle.mr_tool.specs.Asked.{HoldsBytes}
use Rattle.mr_tool.specs.Promises.{DeliversOutcome}
use Rattle.mr_tool.proofs.Statements.{SaysSoundOrPair, CollidesRightly, CountsHonest, PrintsCount, IsCountWorth, CountsOrCollides, AuditsAcceptedCount}
use Rattle.mr_tool.proofs.CountWorth.{count_from, count_honest, shown_honest, law_of, narrow_ways, number_there, own_number, own_taken, own_verdict}
use Rattle.mr_tool.proofs.Ended.{HasRun, IsRunOr, beside_on, ends_on, layers_of, not_collided, not_refused, not_stopped, other_status, ran, taken_on, told_ends, whole_of}
use Rattle.mr_tool.proofs.Audited.{Shown, shown_audit, shown_beside}

abbrev way_at : Rectangle → (mask : Option ℕ) → Key → Way
way_at w mask = count_ways (asks (Window w) mask)

abbrev narrow_at : (w : Rectangle) (mask : Option ℕ) → IsNarrow (way_at w mask)
narrow_at w mask = narrow_ways (asks (Window w) mask)

-- ---- `check-count`

abbrev plan_of : (List ℕ → List ℕ) → (root : List ℕ) → (Key → Way) → (name : List ℕ) → Plan
plan_of hash root way name = say_check_count hash root way name

abbrev RunsCheck : (List ℕ → List ℕ) → (root : List ℕ) → (Key → Way) → (name : List ℕ) → World → World → Status
    → Type 0
RunsCheck hash root way name before after status =
    HasRun (plan_of hash root way name) (LeadsToOutcome (plan_of hash root way name) None) before after status

module _ (hash : List ℕ → List ℕ) (before after : World) (status : Status) (root : List ℕ) (way : Key → Way)
    (name bytes : List ℕ) (held : HoldsBytes before.shelf.files name bytes)
    (run : RunsCheck hash root way name before after status) where
  abbrev next : List ℕ → Plan
  next bytes = comes (say_check_count_of hash root way bytes)

  check_ends : EndsPlan (comes (say_check_count_of hash root way bytes)) before.shelf.files after.shelf.files status
      run.text
  check_ends =
      ends_on name bytes before.shelf.files after.shelf.files status run.text held next
      (told_ends before.shelf.files after.shelf.files name bytes (plan_of hash root way name)
      (LeadsToOutcome (plan_of hash root way name) None) status run.text held run.ends)

  check_bytes : AreBytes bytes
  check_bytes =
      taken_on name bytes before.shelf.files after.shelf.files status run.text held next
      (told_ends before.shelf.files after.shelf.files name bytes (plan_of hash root way name)
      (LeadsToOutcome (plan_of hash root way name) None) status run.text held run.ends)

  -- accepted bytes, by their verdict
  check_whole : (x : Taken) → count_verdict hash root way bytes ≡ Ok x
      → IsWhole (prints (counted_line (total_whole way x))) before after status
  check_whole x is =
      whole_of (say_check_count_of hash root way bytes) (prints (counted_line (total_whole way x))) before after status
      run.text (says_count_verdict hash root way bytes (Ok x) is) check_ends run.printed

-- the honest proof
whole_counted : (hash : List ℕ → List ℕ) → IsSized hash → (before after : World) (status : Status) (t : Tree)
    (batch : ℕ) (root : List ℕ) (w : Rectangle) (mask : Option ℕ) (name bytes : List ℕ) → WellFormed t
    → batch < 2 ^ 64 → root ≡ map_root hash (map_in Two t batch) → HoldsBytes before.shelf.files name bytes
    → IsProofFor (by Two hash) (count_question (way_at w mask)) t batch bytes
    → RunsCheck hash root (way_at w mask) name before after status
    → IsWhole (prints (counted_line (count_inside w (layers_named mask) (records t)))) before after status
whole_counted hash sized before after status t batch root w mask name bytes well low is_root held own run =
    let way = way_at w mask in
    let narrow = narrow_at w mask in
    let two = layers_two t well in
    subst (λ n. IsWhole (prints (counted_line n)) before after status)
    (own_number Two hash sized way narrow t batch bytes well two low own ∙ number_there w (layers_named mask) t well)
    (check_whole hash before after status root way name bytes held run (own_taken (by Two hash) way t batch)
    (ap (λ r. count_verdict hash r way bytes) is_root
    ∙ own_verdict Two hash sized way narrow t batch bytes well two low own))

-- accepted bytes
module _ (v : Version) (hash : List ℕ → List ℕ) (sized : IsSized hash) (before after : World) (status : Status)
    (t : Tree) (batch : ℕ) (root : List ℕ) (w : Rectangle) (mask : Option ℕ) (name bytes : List ℕ)
    (well : WellFormed t) (layers : HasLayers v t) (low : batch < 2 ^ 64)
    (is_root : root ≡ map_root hash (map_in v t batch)) (held : HoldsBytes before.shelf.files name bytes)
    (run : RunsCheck hash root (way_at w mask) name before after status) where
  worth_by : status ≡ Done → (r : Result Taken Fault) → count_verdict hash root (way_at w mask) bytes ≡ r
      → IsCountWorth (by v hash) t batch w (layers_named mask) bytes before after
  worth_by done (Err fault) e =
      not_refused status done
      ((check_ends hash before after status root (way_at w mask) name bytes held run).0
      ∙ ap (λ (o : Outcome). o.status) (says_count_verdict hash root (way_at w mask) bytes (Err fault) e))
  worth_by done (Ok x) e =
      let way = way_at w mask in
      let all = check_bytes hash before after status root way name bytes held run in
      let there : count_verdict hash (map_root hash (map_in v t batch)) way bytes ≡ Ok x =
      subst (λ held. count_verdict hash held way bytes ≡ Ok x) is_root e in
      let c = behind_step (checked hash (map_root hash (map_in v t batch)) (count_question way) bytes)
      (λ y. Ok (taken_of way y)) x there in
      record {
        said = c.0;
        shows = shows_from hash (map_root hash (map_in v t batch)) (count_question way) bytes c.0
            (law_of way (narrow_at w mask)) (from_bytes bytes all) c.1;
        worth = none_more hash (clash_of (kind.Choice count_letter) (by v hash) t batch bytes)
            (IsHonestChoice (by v hash) t batch count_letter way bytes x)
            (PrintsCount (by v hash) t batch w (layers_named mask) bytes before after)
            (count_honest (by v hash) sized way (narrow_at w mask) bytes all t batch x well layers low there)
            (λ own. record {
              own = own.own;
              printed = subst (λ n. TakesBytes before.sink after.sink (counted_line n))
                  (own.given.whole ∙ number_there w (layers_named mask) t well)
                  (check_whole hash before after status root way name bytes held run x e).printed;
            });
      }

-- ---- `audit-count`

abbrev audit_plan : (List ℕ → List ℕ) → (map : List ℕ) → (Key → Way) → (name : List ℕ) → Plan
audit_plan hash map way name = say_audit_count hash map way name

abbrev RunsAudit : (List ℕ → List ℕ) → (map : List ℕ) → (Key → Way) → (name : List ℕ) → World → World → Status
    → Type 0
RunsAudit hash map way name before after status =
    HasRun (audit_plan hash map way name) (MaySayAuditCount hash map way name) before after status
    ⊎ HasStopped before after status

module _ (v : Version) (hash : List ℕ → List ℕ) (before after : World) (status : Status) (map : List ℕ)
    (way : Key → Way) (name : List ℕ) (t : Tree) (batch : ℕ) (held bytes : List ℕ) (x : Taken)
    (map_held : HoldsBytes before.shelf.files map held) (stands : IsMapFile hash held (map_in v t batch))
    (name_held : HoldsBytes before.shelf.files name bytes)
    (accepted : count_verdict hash (map_root hash (map_in v t batch)) way bytes ≡ Ok x) where
  said_by : (o : Option Pair) → clash_of (kind.Choice count_letter) (by v hash) t batch bytes ≡ o
      → say_audit_count_of hash way (map_in v t batch) bytes ≡ say_count_finding way (finding_of (Ok x) o)
  said_by o d =
      sym (says_count_finding hash way (map_in v t batch) bytes (finding_of (Ok x) o)
      (λ i. finding_of (sym accepted i) (sym d i)))

  delivered : (o : Option Pair) (other : Outcome) → clash_of (kind.Choice count_letter) (by v hash) t batch bytes ≡ o
      → say_count_finding way (finding_of (Ok x) o) ≡ other → RunsAudit hash map way name before after status
      → DeliversOutcome other before after status
  delivered o other d e (inr stop) = inr stop
  delivered o other d e (inl run) =
      inl (whole_of (say_audit_count_of hash way (map_in v t batch) bytes) other before after status run.text
      (said_by o d ∙ e)
      (beside_on v hash map held t batch before.shelf.files after.shelf.files status run.text map_held stands name
      bytes name_held (say_audit_count_of hash way) (MaySayAuditCount hash map way name) run.ends) run.printed)

  says_count_worth : (n : ℕ) (o : Option Pair) → clash_of (kind.Choice count_letter) (by v hash) t batch bytes ≡ o
      → NoneAnd hash o (IsHonestChoice (by v hash) t batch count_letter way bytes x)
      → number_whole way (records t) ≡ n → RunsAudit hash map way name before after status
      → SaysSoundOrPair hash (IsProofFor (by v hash) (count_question way) t batch bytes) (counted_line n) o before
      after status
  says_count_worth n None d own is run = (
    own.own,
    delivered None (prints (sound_line ++ counted_line n)) d
        (ap (λ n. prints (sound_line ++ counted_line n)) (own.given.whole ∙ is)) run,
  )
  says_count_worth n (Some p) d collides is run = (collides, delivered (Some p) _ d refl run)

-- ---- two strings that are printed

module _ (hash : List ℕ → List ℕ) (status : Status) (text : List ℕ) (is : status ≡ Collision) where
  shown_finding : (way : Key → Way) (f : ChoiceFinding) (said : Outcome) → choices.ShowsCollision hash f
      → said ≡ say_count_finding way f → status ≡ said.status → text ≡ said.printed → Shown hash text
  shown_finding way (findings.Refused fault) said collides e st tx =
      other_status status Refused is (st ∙ ap (λ (o : Outcome). o.status) e) (λ c. cc)
  shown_finding way (findings.Sound x) said collides e st tx =
      other_status status Done is (st ∙ ap (λ (o : Outcome). o.status) e) (λ c. cc)
  shown_finding way (findings.Collision owned shown) said collides e st tx = record {
    pair = record { owned = owned; shown = shown };
    collides = collides;
    is = tx ∙ ap (λ (o : Outcome). o.printed) e;
  }

  module _ (sized : IsSized hash) (way : Key → Way) (narrow : IsNarrow way) (before after : Option Files) where
    shown_by : (m : Opened) → WellFormed m.tree → HasLayers m.version m.tree → m.batch < 2 ^ 64 → (bytes : List ℕ)
        → AreBytes bytes → (r : Result Taken Fault) (o : Option Pair)
        → count_verdict hash (map_root hash m) way bytes ≡ r
        → clash_of (kind.Choice count_letter) (by m.version hash) m.tree m.batch bytes ≡ o
        → EndsPlan (comes (say_count_finding way (finding_of r o))) before after status text → Shown hash text
    shown_by m well layers low bytes all (Err f) o e d ends = other_status status Refused is ends.0 (λ c. cc)
    shown_by m well layers low bytes all (Ok x) None e d ends = other_status status Done is ends.0 (λ c. cc)
    shown_by m well layers low bytes all (Ok x) (Some p) e d ends = record {
      pair = p;
      collides = subst (λ o. NoneAnd hash o
          (IsHonestChoice (by m.version hash) m.tree m.batch count_letter way bytes x))
          d (count_honest (by m.version hash) sized way narrow bytes all m.tree m.batch x well layers low e);
      is = ends.1;
    }

    shown_of : (m : Opened) → WellFormed m.tree → HasLayers m.version m.tree → m.batch < 2 ^ 64 → (bytes : List ℕ)
        → AreBytes bytes → EndsPlan (comes (say_audit_count_of hash way m bytes)) before after status text
        → Shown hash text
    shown_of m well layers low bytes all ends =
        let r = count_verdict hash (map_root hash m) way bytes in
        let o = clash_of (kind.Choice count_letter) (by m.version hash) m.tree m.batch bytes in
        shown_by m well layers low bytes all r o refl refl
        (subst (λ said. EndsPlan (comes said) before after status text)
        (sym (says_count_finding hash way m bytes (finding_of r o) refl)) ends)

    pub shown_count_audit : (map name : List ℕ)
        → EndsAsSaid (say_audit_count hash map way name) (MaySayAuditCount hash map way name) before after status text
        → Shown hash text
    shown_count_audit map name ends =
        shown_beside hash name before after status text is (say_audit_count_of hash way)
        (λ said. (bytes : List ℕ) × (finding : ChoiceFinding) × IsCountFinding hash way bytes finding
        × (said ≡ say_count_finding way finding))
        shown_of (λ said found st tx. shown_finding way found.1 said found.2.collides found.3 st tx) map ends

-- ---- whatever command the words spell

module _ (hash : List ℕ → List ℕ) (words : List (List ℕ)) (before after : World) (status : Status)
    (came : Result Ending Halt)
    (carried : (c : Command) → SpellsCommand words c → IsCarriedOut hash c before.shelf after.shelf came)
    (ended : PrintsEnding came before.sink after.sink status) where
  ran_as : (command : Command) → SpellsCommand words command → IsRunOr hash command before after status
  ran_as command spells = ran hash command before after status came
      (loud_of hash before.shelf after.shelf came command (carried command spells)) ended

  pub counted_honest : IsSized hash → CountsHonest hash words before after status
  counted_honest sized t batch root w mask name bytes well low is_root spells held own =
      elim (ran_as (commands.CheckCount root (asks (Window w) mask) name) spells) [
        | inl run ↦ inl (whole_counted hash sized before after status t batch root w mask name.now bytes well low
            is_root held own run)
        | inr stop ↦ inr stop
      ]

  pub counted_worth : IsSized hash → CountsOrCollides hash words before after status
  counted_worth sized v t batch root w mask name bytes well layers low is_root spells held done =
      elim (ran_as (commands.CheckCount root (asks (Window w) mask) name) spells) [
        | inl run ↦ worth_by v hash sized before after status t batch root w mask name.now bytes well layers low
            is_root held run done (count_verdict hash root (way_at w mask) bytes) refl
        | inr stop ↦ not_stopped before after status done stop
      ]

  pub counted_audited : IsSized hash → AuditsAcceptedCount hash words before after status
  counted_audited sized v t batch map w mask name held bytes said spells map_held stands name_held shows =
      let way = way_at w mask in
      let root = map_root hash (map_in v t batch) in
      let layers = layers_of v hash held t batch stands in
      let accepted = count_from hash root way bytes said (narrow_at w mask) shows in
      says_count_worth v hash before after status map.now way name.now t batch held bytes (taken_of way said) map_held
      stands name_held accepted (count_inside w (layers_named mask) (records t))
      (clash_of (kind.Choice count_letter) (by v hash) t batch bytes) refl
      (shown_honest (by v hash) sized way (narrow_at w mask) t batch bytes said stands.well layers
      stands.stands.batch_fits shows)
      (number_there w (layers_named mask) t stands.well)
      (ran_as (commands.AuditCount map (asks (Window w) mask) name) spells)

  pub collided_rightly : IsSized hash → CollidesRightly hash words before after status
  collided_rightly sized map q name (inl spells) is = elim (ran_as (commands.Audit map q name) spells) [
    | inl run ↦
        let x = shown_audit hash status run.text is sized q spells.each.1.1.0 name.now before.shelf.files
        after.shelf.files map.now run.ends in
        (x.pair, x.collides, subst (TakesBytes before.sink after.sink) x.is run.printed)
    | inr stop ↦ not_collided before after status is stop
  ]
  collided_rightly sized map q name (inr spells) is = elim (ran_as (commands.AuditCount map q name) spells) [
    | inl run ↦
        let x = shown_count_audit hash status run.text is sized (count_ways q) (narrow_ways q) before.shelf.files
        after.shelf.files map.now name.now run.ends in
        (x.pair, x.collides, subst (TakesBytes before.sink after.sink) x.is run.printed)
    | inr stop ↦ not_collided before after status is stop
  ]
