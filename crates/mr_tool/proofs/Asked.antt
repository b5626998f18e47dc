-- What is promised of all that may be asked of proofs, by its cases.
use Rattle.std.proofs.Common.{◌≡◌, ℕ, ◌<◌, ◌^◌, List, refl, subst, inl, inr}
use Rattle.std.specs.Prelude.{◌⊎◌, ⊤, [], ◌∷◌, Option, Some, None}
use Rattle.std.specs.Borrow.{Bor}
use Rattle.mr_geom.specs.Rectangle.{Rectangle}
use Rattle.mr_record.specs.declared.version.Version.{Version}
use Rattle.mr_record.specs.declared.version.Version.TheVariants.{One, Two}
use Rattle.mr_tree.specs.Digest.{by}
use Rattle.mr_tree.specs.WellFormed.{WellFormed}
use Rattle.mr_tree.specs.declared.tree.Tree.{Tree}
use Rattle.mr_pages.specs.Law.{map_root, map_in}
use Rattle.mr_query.specs.Layers.{layers_named}
use Rattle.mr_proof.specs.Clash.{Pair, clash_of, clash, IsCollision, NoneAnd}
use Rattle.mr_proof.specs.declared.head.Kind.TheVariants as kind
use Rattle.mr_proof.proofs.SameNodes.{none_more}
use Rattle.mr_count.specs.Inside.{inside_way}
use Rattle.mr_count.proofs.HonestChoices.{two_of}
use Rattle.mr_join.specs.Accepted.{first_clash, second_clash}
use Rattle.mr_outside.specs.Told.{TakesBytes}
use Rattle.mr_command.specs.Answer.{World}
use Rattle.mr_plan.specs.Counts.{count_letter}
use Rattle.mr_plan.specs.Joins.{map_collision_lines, first_name, second_name}
use Rattle.mr_plan.specs.Lines.{collision_lines}
use Rattle.mr_plan.specs.Say.{prints}
use Rattle.mr_plan.specs.declared.status.Status.{Status}
use Rattle.mr_plan.specs.declared.words.Command.TheVariants as commands
use Rattle.mr_tool.specs.Asked.{HoldsBytes, owned_root, answer, number, pairs, SpellsCheck, IsHonestOf, right_lines, AreGiven, of_one, of_named}
use Rattle.mr_tool.specs.Promises.{PrintsRight, IsAudit, PrintsPair}
use Rattle.mr_tool.specs.Promises as promises
use Rattle.mr_tool.proofs.Statements.{CountsHonest, CountsOrCollides, AuditsAcceptedCount, JoinsHonest, JoinsOrCollides, AuditsAcceptedJoin, JoinsCollideRightly, PrintsScan, PrintsCount, PrintsPairs, SaysJoinOrPair}
use Rattle.mr_tool.proofs.Statements as statements

module _ (hash : List ℕ → List ℕ) (words : List (List ℕ)) (before after : World) (status : Status) where
  -- ---- honest proofs

  number_honest : CountsHonest hash words before after status → (v : Version) (t : Tree) (batch : ℕ) (w : Rectangle)
      (mask : Option ℕ) (proof : Bor (List ℕ)) (bytes : List ℕ) → WellFormed t → batch < 2 ^ 64
      → SpellsCheck hash (number v t batch w mask) words proof → HoldsBytes before.shelf.files proof.now bytes
      → IsHonestOf hash (number v t batch w mask) bytes
      → promises.DeliversOutcome (prints (right_lines (number v t batch w mask))) before after status
  number_honest counts One t batch w mask proof bytes well low spells held own =
      let e : One ≡ Two = two_of count_letter (inside_way w (layers_named mask)) One own.may_come in absurd (cc)
  number_honest counts Two t batch w mask proof bytes well low spells held own =
      counts t batch (map_root hash (map_in Two t batch)) w mask proof bytes well low refl spells held own

  pub asked_honest : statements.AnswersHonest hash words before after status
      → CountsHonest hash words before after status → JoinsHonest hash words before after status
      → promises.AnswersHonest hash words before after status
  asked_honest answers counts joins (answer v t batch q) proof bytes maps spells held own =
      answers v t batch (map_root hash (map_in v t batch)) q proof bytes maps.0 maps.1 maps.2 refl spells held own
  asked_honest answers counts joins (number v t batch w mask) proof bytes maps spells held own =
      number_honest counts v t batch w mask proof bytes maps.0 maps.2 spells held own
  asked_honest answers counts joins (pairs m n) proof bytes maps spells held own =
      joins m n (owned_root hash m) (owned_root hash n) proof bytes maps.0 maps.1 refl refl spells held own

  -- ---- accepted bytes

  pub asked_worth : statements.AcceptsHonestOrCollides hash words before after status
      → CountsOrCollides hash words before after status → JoinsOrCollides hash words before after status
      → promises.AcceptsHonestOrCollides hash words before after status
  asked_worth answers counts joins (answer v t batch q) proof bytes maps spells held done =
      let x = answers v t batch (map_root hash (map_in v t batch)) q proof bytes maps.0 maps.1 maps.2 refl spells held
      done in
      record {
        accepted = (x.answer, x.proves);
        worth = none_more hash (clash (by v hash) t batch bytes) (PrintsScan (by v hash) t batch q bytes before after)
            (PrintsRight hash (answer v t batch q) bytes before after) x.worth
            (λ right. record { own = right.own; printed = right.printed });
      }
  asked_worth answers counts joins (number v t batch w mask) proof bytes maps spells held done =
      let x = counts v t batch (map_root hash (map_in v t batch)) w mask proof bytes maps.0 maps.1 maps.2 refl spells
      held done in
      record {
        accepted = (x.said, x.shows);
        worth = none_more hash (clash_of (kind.Choice count_letter) (by v hash) t batch bytes)
            (PrintsCount (by v hash) t batch w (layers_named mask) bytes before after)
            (PrintsRight hash (number v t batch w mask) bytes before after) x.worth
            (λ right. record { own = right.own; printed = right.printed });
      }
  asked_worth answers counts joins (pairs m n) proof bytes maps spells held done =
      let x = joins m n (owned_root hash m) (owned_root hash n) proof bytes maps.0 maps.1 refl refl spells held done in
      let second = second_clash (by Two hash) n bytes in
      let was = PrintsPairs hash m n bytes before after in
      let is = PrintsRight hash (pairs m n) bytes before after in
      record {
        accepted = (x.pairs, x.given);
        worth = none_more hash (first_clash (by Two hash) m bytes) (NoneAnd hash second was) (NoneAnd hash second is)
            x.worth
            (λ y. none_more hash second was is y (λ right. record { own = right.own; printed = right.printed }));
      }

  -- ---- audits

  says_one : (own : Type 0) (lines : List ℕ) (o : Option Pair)
      → statements.SaysSoundOrPair hash own lines o before after status
      → promises.SaysSoundOrPair hash ⊤ own lines (of_one o ∷ []) before after status
  says_one own lines None said = elim said.1 [
    | inl whole ↦ inl (said.0, whole)
    | inr stop ↦ inr (λ given. said.0, stop)
  ]
  says_one own lines (Some p) said = elim said.1 [
    | inl whole ↦ inl (said.0, whole)
    | inr stop ↦ inr (λ given. said.0, stop)
  ]

  says_two : (given own : Type 0) (lines : List ℕ) (o p : Option Pair)
      → SaysJoinOrPair hash given own lines o p before after status
      → promises.SaysSoundOrPair hash given own lines (of_named first_name o ∷ of_named second_name p ∷ []) before after
      status
  says_two given own lines None None said = said
  says_two given own lines None (Some q) said = said
  says_two given own lines (Some q) p said = said

  pub asked_audited : statements.AuditsAccepted hash words before after status
      → AuditsAcceptedCount hash words before after status → AuditsAcceptedJoin hash words before after status
      → promises.AuditsAccepted hash words before after status
  asked_audited answers counts joins (answer v t batch q) proof bytes spells held accepted =
      let map = spells.2 in
      says_one (IsHonestOf hash (answer v t batch q) bytes) (right_lines (answer v t batch q))
      (clash (by v hash) t batch bytes)
      (answers v t batch spells.0 q proof map.bytes bytes accepted.0 spells.1 map.held map.stands held accepted.1)
  asked_audited answers counts joins (number v t batch w mask) proof bytes spells held accepted =
      let map = spells.2 in
      says_one (IsHonestOf hash (number v t batch w mask) bytes) (right_lines (number v t batch w mask))
      (clash_of (kind.Choice count_letter) (by v hash) t batch bytes)
      (counts v t batch spells.0 w mask proof map.bytes bytes accepted.0 spells.1 map.held map.stands held accepted.1)
  asked_audited answers counts joins (pairs m n) proof bytes spells held accepted =
      let one = spells.3 in
      let other = spells.4 in
      says_two (AreGiven (pairs m n) bytes) (IsHonestOf hash (pairs m n) bytes) (right_lines (pairs m n))
      (first_clash (by Two hash) m bytes) (second_clash (by Two hash) n bytes)
      (joins m n spells.0 spells.1 proof one.bytes other.bytes bytes accepted.0 spells.2 one.held one.stands other.held
      other.stands held accepted.1)

  -- ---- two strings that are printed

  pub asked_collides : statements.CollidesRightly hash words before after status
      → JoinsCollideRightly hash words before after status → promises.CollidesRightly hash words before after status
  asked_collides answers joins (commands.Audit map q proof) spells audit is =
      let x = answers map q proof (inl spells) is in
      (x.0, collision_lines x.0.owned x.0.shown, refl, x.1, x.2)
  asked_collides answers joins (commands.AuditCount map q proof) spells audit is =
      let x = answers map q proof (inr spells) is in
      (x.0, collision_lines x.0.owned x.0.shown, refl, x.1, x.2)
  asked_collides answers joins (commands.AuditJoin first second proof) spells audit is =
      let x = joins first second proof spells is in
      let p = x.2.0 in
      elim x.1 [
        | inl named ↦ of_joined first second proof p first_name x.2.1 (inl refl)
            (subst (λ name. TakesBytes before.sink after.sink (map_collision_lines name p.owned p.shown)) named x.2.2)
        | inr named ↦ of_joined first second proof p second_name x.2.1 (inr refl)
            (subst (λ name. TakesBytes before.sink after.sink (map_collision_lines name p.owned p.shown)) named x.2.2)
      ]
    where
      of_joined : (first second proof : Bor (List ℕ)) (p : Pair) (name : List ℕ) → IsCollision hash p
          → (map_collision_lines name p.owned p.shown ≡ map_collision_lines first_name p.owned p.shown)
          ⊎ (map_collision_lines name p.owned p.shown ≡ map_collision_lines second_name p.owned p.shown)
          → TakesBytes before.sink after.sink (map_collision_lines name p.owned p.shown)
          → (q : Pair) × (lines : List ℕ) × PrintsPair (commands.AuditJoin first second proof) q lines
          × IsCollision hash q × TakesBytes before.sink after.sink lines
      of_joined first second proof p name collides printed taken =
          (p, map_collision_lines name p.owned p.shown, printed, collides, taken)
  asked_collides answers joins command spells audit is = absurd audit
