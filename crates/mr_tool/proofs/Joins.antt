-- What a run promises of joins.
use Rattle.std.proofs.Common.{◌≡◌, ℕ, List, ◌++◌, refl, sym, ap, subst, ◌∙◌, inl, inr}
use Rattle.std.specs.Prelude.{◌⊎◌, Option, Some, None, IfSome, Result, Ok, Err}
use Rattle.mr_outside.specs.Files.{Files}
use Rattle.mr_outside.specs.Told.{TakesBytes}
use Rattle.mr_outside.specs.Bytes.{AreBytes}
use Rattle.mr_record.specs.declared.version.Version.{Version}
use Rattle.mr_record.specs.declared.version.Version.TheVariants.{One, Two}
use Rattle.mr_tree.specs.Digest.{by}
use Rattle.mr_proof.specs.Clash.{Pair, IsCollision, NoneAnd}
use Rattle.mr_proof.proofs.PreimageBytes.{IsSized}
use Rattle.mr_proof.proofs.SameNodes.{none_more}
use Rattle.mr_pages.specs.File.{version_of}
use Rattle.mr_pages.specs.Law.{IsMapFile, map_in}
use Rattle.mr_pages.specs.declared.opening.Opened.{Opened}
use Rattle.mr_join.specs.Accepted.{Owned, IsOwned, IsHonestJoin, first_clash, second_clash, join_proof, map_pairs}
use Rattle.mr_join.specs.Finding.{finding_of}
use Rattle.mr_join.specs.declared.fault.JoinFault.{JoinFault}
use Rattle.mr_join.specs.declared.pair.Pair as joined
use Rattle.mr_plan.specs.Found.{Found, ShowsMap}
use Rattle.mr_plan.specs.Joins.{first_name, second_name, join_given, map_collision_lines, pair_lines}
use Rattle.mr_plan.specs.Lines.{sound_line}
use Rattle.mr_plan.specs.Outcome.{Outcome}
use Rattle.mr_plan.specs.Plan.{Input, Plan, comes, opens, LeadsToOutcome}
use Rattle.mr_plan.specs.Say.{ends, given, given_map, needs, needs_map, prints, say_audit_join, say_audit_join_of, say_beside_maps, say_check_join, say_check_join_of, say_join_finding}
use Rattle.mr_plan.specs.Words.{SpellsCommand}
use Rattle.mr_plan.specs.declared.status.Status.{Status}
use Rattle.mr_plan.specs.declared.status.Status.TheVariants.{Done, Refused, BadMap, Collision, NeedsVersion2, Outside}
use Rattle.mr_plan.specs.declared.words.Command.{Command}
use Rattle.mr_plan.specs.declared.words.Command.TheVariants as commands
use Rattle.mr_command.specs.Answer.{World, HasStopped, IsWhole}
use Rattle.mr_command.specs.Ending.{EndsAsSaid, EndsPlan, IsCarriedOut, IsWell}
use Rattle.mr_command.specs.private.Steps.{PrintsEnding}
use Rattle.mr_command.specs.declared.ending.Ending.{Ending}
use Rattle.mr_command.specs.declared.ending.Halt.{Halt}
use Rattle.mr_command.proofs.Joined.{says_join_verdict}
use Rattle.mr_command.proofs.Rereading.{loud_of}
use Rattle.mr_tool.specs.Asked.{HoldsBytes, owned_root}
use Rattle.mr_tool.proofs.Statements.{SaysJoinOrPair, JoinsHonest, PrintsPairs, IsJoinWorth, JoinsOrCollides, AuditsAcceptedJoin, JoinsCollideRightly}
use Rattle.mr_tool.proofs.JoinWorth.{accepted_join, honest_join, owned_map, said_by}
use Rattle.mr_tool.proofs.Ended.{HasRun, IsRunOr, ends_on, map_on, not_collided, not_refused, not_stopped, other_status, ran, taken_on, told_ends, whole_of}

-- ---- `check-join`

abbrev RunsCheck : (List ℕ → List ℕ) → (first second name : List ℕ) → World → World → Status → Type 0
RunsCheck hash first second name before after status =
    HasRun (say_check_join hash first second name) (LeadsToOutcome (say_check_join hash first second name) None)
    before after status

module _ (hash : List ℕ → List ℕ) (before after : World) (status : Status) (first second name bytes : List ℕ)
    (held : HoldsBytes before.shelf.files name bytes)
    (run : RunsCheck hash first second name before after status) where
  abbrev next : List ℕ → Plan
  next bytes = comes (say_check_join_of hash first second bytes)

  plan_ends : EndsPlan (needs name next) before.shelf.files after.shelf.files status run.text
  plan_ends =
      told_ends before.shelf.files after.shelf.files name bytes (say_check_join hash first second name)
      (LeadsToOutcome (say_check_join hash first second name) None) status run.text held run.ends

  check_ends : EndsPlan (comes (say_check_join_of hash first second bytes)) before.shelf.files after.shelf.files
      status run.text
  check_ends =
      ends_on name bytes before.shelf.files after.shelf.files status run.text held next plan_ends

  check_bytes : AreBytes bytes
  check_bytes = taken_on name bytes before.shelf.files after.shelf.files status run.text held next plan_ends

  -- accepted bytes, by their verdict
  check_whole : (pairs : List joined.Pair) → join_given hash first second bytes ≡ Ok pairs
      → IsWhole (prints (pair_lines pairs)) before after status
  check_whole pairs is =
      whole_of (say_check_join_of hash first second bytes) (prints (pair_lines pairs)) before after status run.text
      (says_join_verdict hash first second bytes (Ok pairs) is) check_ends run.printed

-- accepted bytes
module _ (hash : List ℕ → List ℕ) (sized : IsSized hash) (before after : World) (status : Status) (m n : Owned)
    (first second name bytes : List ℕ) (own_m : IsOwned m) (own_n : IsOwned n) (is_first : first ≡ owned_root hash m)
    (is_second : second ≡ owned_root hash n) (held : HoldsBytes before.shelf.files name bytes)
    (run : RunsCheck hash first second name before after status) where
  worth_by : status ≡ Done → (r : Result (List joined.Pair) JoinFault) → join_given hash first second bytes ≡ r
      → IsJoinWorth hash m n bytes before after
  worth_by done (Err fault) e =
      not_refused status done ((check_ends hash before after status first second name bytes held run).0
      ∙ ap (λ (o : Outcome). o.status) (says_join_verdict hash first second bytes (Err fault) e))
  worth_by done (Ok pairs) e =
      let there : join_given hash (owned_root hash m) (owned_root hash n) bytes ≡ Ok pairs =
      sym (λ i. join_given hash (is_first i) (is_second i) bytes) ∙ e in
      let other = second_clash (by Two hash) n bytes in
      let all = check_bytes hash before after status first second name bytes held run in
      record {
        pairs = pairs;
        given = there;
        worth = none_more hash (first_clash (by Two hash) m bytes)
            (NoneAnd hash other (IsHonestJoin hash hash m n bytes pairs))
            (NoneAnd hash other (PrintsPairs hash m n bytes before after))
            (accepted_join hash sized bytes all m n pairs own_m own_n there)
            (λ quiet. none_more hash other (IsHonestJoin hash hash m n bytes pairs)
            (PrintsPairs hash m n bytes before after) quiet
            (λ own. record {
              own = own.own;
              printed = subst (λ ps. TakesBytes before.sink after.sink (pair_lines ps)) own.whole
                  (check_whole hash before after status first second name bytes held run pairs e).printed;
            }));
      }

-- ---- `audit-join`

abbrev RunsAudit : (List ℕ → List ℕ) → (first second name : List ℕ) → World → World → Status → Type 0
RunsAudit hash first second name before after status =
    HasRun (say_audit_join hash first second name) (LeadsToOutcome (say_audit_join hash first second name) None)
    before after status ⊎ HasStopped before after status

-- behind two maps of version 2 in files
pub both_on : (hash : List ℕ → List ℕ) (first second one other : List ℕ) (m n : Owned)
    (before after : Option Files) (status : Status) (text : List ℕ) → HoldsBytes before first one
    → IsMapFile hash one (owned_map m) → HoldsBytes before second other → IsMapFile hash other (owned_map n)
    → (next : Opened → Opened → Plan)
    → EndsPlan (needs_map hash first (λ x. needs_map hash second (next x))) before after status text
    → EndsPlan (next (owned_map m) (owned_map n)) before after status text
both_on hash first second one other m n before after status text held_m stands_m held_n stands_n next ends =
    map_on Two hash second other n.tree n.batch before after status text held_n stands_n (next (owned_map m))
    (map_on Two hash first one m.tree m.batch before after status text held_m stands_m
    (λ x. needs_map hash second (next x)) ends)

-- and then the proof is read
module _ (hash : List ℕ → List ℕ) (first second name one other bytes : List ℕ) (m n : Owned)
    (before after : Option Files) (status : Status) (text : List ℕ) (held_m : HoldsBytes before first one)
    (stands_m : IsMapFile hash one (owned_map m)) (held_n : HoldsBytes before second other)
    (stands_n : IsMapFile hash other (owned_map n)) (held : HoldsBytes before name bytes) (may : Outcome → Type 0)
    (ends : EndsAsSaid (say_audit_join hash first second name) may before after status text) where
  abbrev audits : List ℕ → Plan
  audits bytes = comes (say_audit_join_of hash (owned_map m) (owned_map n) bytes)

  audit_needs : EndsPlan (needs name audits) before after status text
  audit_needs =
      both_on hash first second one other m n before after status text held_m stands_m held_n stands_n
      (say_beside_maps hash name)
      (told_ends before after first one (say_audit_join hash first second name) may status text held_m ends)

  audit_ends : EndsPlan (audits bytes) before after status text
  audit_ends = ends_on name bytes before after status text held audits audit_needs

  audit_bytes : AreBytes bytes
  audit_bytes = taken_on name bytes before after status text held audits audit_needs

module _ (hash : List ℕ → List ℕ) (before after : World) (status : Status) (first second name : List ℕ) (m n : Owned)
    (one other bytes : List ℕ) (pairs : List joined.Pair) (held_m : HoldsBytes before.shelf.files first one)
    (stands_m : IsMapFile hash one (owned_map m)) (held_n : HoldsBytes before.shelf.files second other)
    (stands_n : IsMapFile hash other (owned_map n)) (held : HoldsBytes before.shelf.files name bytes)
    (accepted : join_given hash (owned_root hash m) (owned_root hash n) bytes ≡ Ok pairs) where
  abbrev Ran : Type 0
  Ran = HasRun (say_audit_join hash first second name) (LeadsToOutcome (say_audit_join hash first second name) None)
      before after status

  bytes_read : Ran → AreBytes bytes
  bytes_read run =
      audit_bytes hash first second name one other bytes m n before.shelf.files after.shelf.files status run.text
      held_m stands_m held_n stands_n held (LeadsToOutcome (say_audit_join hash first second name) None) run.ends

  all_done : (o p : Option Pair) (said : Outcome) → first_clash (by Two hash) m bytes ≡ o
      → second_clash (by Two hash) n bytes ≡ p → say_join_finding (finding_of (Ok pairs) o p) ≡ said
      → Ran → IsWhole said before after status
  all_done o p said d f e run =
      whole_of (say_audit_join_of hash (owned_map m) (owned_map n) bytes) said before after status run.text
      (said_by hash m n bytes (Ok pairs) o p accepted d f ∙ e)
      (audit_ends hash first second name one other bytes m n before.shelf.files after.shelf.files status run.text
      held_m stands_m held_n stands_n held (LeadsToOutcome (say_audit_join hash first second name) None) run.ends)
      run.printed

  says_join_worth : (o p : Option Pair) → first_clash (by Two hash) m bytes ≡ o
      → second_clash (by Two hash) n bytes ≡ p
      → (AreBytes bytes → NoneAnd hash o (NoneAnd hash p (IsHonestJoin hash hash m n bytes pairs)))
      → RunsAudit hash first second name before after status
      → SaysJoinOrPair hash (AreBytes bytes) (bytes ≡ join_proof hash hash m n) (pair_lines (map_pairs m n)) o p before
      after status
  says_join_worth None None d f worth (inl run) =
      let own = worth (bytes_read run) in
      inl (
        own.own,
        all_done None None (prints (sound_line ++ pair_lines (map_pairs m n))) d f
            (ap (λ ps. prints (sound_line ++ pair_lines ps)) own.whole) run,
      )
  says_join_worth None None d f worth (inr stop) = inr ((λ are. (worth are).own), stop)
  says_join_worth None (Some q) d f worth (inl run) =
      inl (worth (bytes_read run), all_done None (Some q) _ d f refl run)
  says_join_worth None (Some q) d f worth (inr stop) = inr (worth, stop)
  says_join_worth (Some q) p d f worth (inl run) = inl (worth (bytes_read run), all_done (Some q) p _ d f refl run)
  says_join_worth (Some q) p d f worth (inr stop) = inr (worth, stop)

-- ---- two strings that are printed

-- the two strings of one of the maps that the text names
record Shown (hash : List ℕ → List ℕ) (text : List ℕ) : Type 0 where
  name : List ℕ
  named : (name ≡ first_name) ⊎ (name ≡ second_name)
  pair : Pair
  collides : IsCollision hash pair
  is : text ≡ map_collision_lines name pair.owned pair.shown

module _ (hash : List ℕ → List ℕ) (sized : IsSized hash) (status : Status) (text : List ℕ)
    (is : status ≡ Collision) where
  shown_by : (m n : Owned) → IsOwned m → IsOwned n → (bytes : List ℕ) → AreBytes bytes
      → (r : Result (List joined.Pair) JoinFault) (o p : Option Pair)
      → join_given hash (owned_root hash m) (owned_root hash n) bytes ≡ r → first_clash (by Two hash) m bytes ≡ o
      → second_clash (by Two hash) n bytes ≡ p → status ≡ (say_join_finding (finding_of r o p)).status
      → text ≡ (say_join_finding (finding_of r o p)).printed → Shown hash text
  shown_by m n own_m own_n bytes all (Err f) o p e d g st tx = other_status status Refused is st (λ c. cc)
  shown_by m n own_m own_n bytes all (Ok pairs) None None e d g st tx = other_status status Done is st (λ c. cc)
  shown_by m n own_m own_n bytes all (Ok pairs) None (Some q) e d g st tx =
      let worth = accepted_join hash sized bytes all m n pairs own_m own_n e in
      let quiet = subst (λ o. NoneAnd hash o (NoneAnd hash (second_clash (by Two hash) n bytes)
      (IsHonestJoin hash hash m n bytes pairs))) d worth in
      record {
        name = second_name;
        named = inr refl;
        pair = q;
        collides = subst (λ o. NoneAnd hash o (IsHonestJoin hash hash m n bytes pairs)) g quiet;
        is = tx;
      }
  shown_by m n own_m own_n bytes all (Ok pairs) (Some q) p e d g st tx = record {
    name = first_name;
    named = inl refl;
    pair = q;
    collides = subst (λ o. NoneAnd hash o (NoneAnd hash (second_clash (by Two hash) n bytes)
        (IsHonestJoin hash hash m n bytes pairs))) d
        (accepted_join hash sized bytes all m n pairs own_m own_n e);
    is = tx;
  }

  shown_of : (m n : Owned) → IsOwned m → IsOwned n → (bytes : List ℕ) → AreBytes bytes
      → status ≡ (say_audit_join_of hash (owned_map m) (owned_map n) bytes).status
      → text ≡ (say_audit_join_of hash (owned_map m) (owned_map n) bytes).printed → Shown hash text
  shown_of m n own_m own_n bytes all st tx =
      let r = join_given hash (owned_root hash m) (owned_root hash n) bytes in
      let o = first_clash (by Two hash) m bytes in
      let p = second_clash (by Two hash) n bytes in
      let same = said_by hash m n bytes r o p refl refl refl in
      shown_by m n own_m own_n bytes all r o p refl refl refl (st ∙ ap (λ (x : Outcome). x.status) same)
      (tx ∙ ap (λ (x : Outcome). x.printed) same)

  -- over files that are told
  module _ (before after : Option Files) (name : List ℕ) where
    told_input : (m n : Owned) → IsOwned m → IsOwned n → (input : Input) → IfSome input AreBytes
        → EndsPlan (given name (λ bytes. comes (say_audit_join_of hash (owned_map m) (owned_map n) bytes)) input) before
        after status text
        → Shown hash text
    told_input m n own_m own_n None all ends = other_status status Outside is ends.0 (λ c. cc)
    told_input m n own_m own_n (Some bytes) all ends = shown_of m n own_m own_n bytes all ends.0 ends.1

    told_maps : (v w : Version) (m n : Owned) → IsOwned m → IsOwned n
        → EndsPlan (say_beside_maps hash name (map_in v m.tree m.batch) (map_in w n.tree n.batch)) before after status
        text
        → Shown hash text
    told_maps One w m n own_m own_n ends = other_status status NeedsVersion2 is ends.0 (λ c. cc)
    told_maps Two One m n own_m own_n ends = other_status status NeedsVersion2 is ends.0 (λ c. cc)
    told_maps Two Two m n own_m own_n ends = told_input m n own_m own_n ends.0 ends.2 ends.3

    told_second : (one : Opened) → IsWell (Ok one) → (found : Found) → IsWell found
        → EndsPlan (given_map (say_beside_maps hash name one) found) before after status text → Shown hash text
    told_second one well_m (Ok other) well_n ends =
        told_maps one.version other.version (record { tree = one.tree; batch = one.batch })
        (record { tree = other.tree; batch = other.batch }) (record { well = well_m.0; batch = well_m.1 })
        (record { well = well_n.0; batch = well_n.1 }) ends
    told_second one well_m (Err fault) well_n ends = other_status status BadMap is ends.0 (λ c. cc)

    told_second_file : (second : List ℕ) (one : Opened) → IsWell (Ok one) → (input : Input)
        → EndsPlan (given second (λ bytes. opens (version_of bytes) hash bytes
        (given_map (say_beside_maps hash name one))) input) before after status text
        → Shown hash text
    told_second_file second one well None ends = other_status status Outside is ends.0 (λ c. cc)
    told_second_file second one well (Some bytes) ends = told_second one well ends.0 ends.2 ends.3

    told_first : (second : List ℕ) (found : Found) → IsWell found
        → EndsPlan (given_map (λ one. needs_map hash second (say_beside_maps hash name one)) found) before after status
        text
        → Shown hash text
    told_first second (Ok one) well ends = told_second_file second one well ends.0 ends.3
    told_first second (Err fault) well ends = other_status status BadMap is ends.0 (λ c. cc)

    told_first_file : (first second : List ℕ) (input : Input)
        → EndsPlan (given first (λ bytes. opens (version_of bytes) hash bytes
        (given_map (λ one. needs_map hash second (say_beside_maps hash name one)))) input) before after status text
        → Shown hash text
    told_first_file first second None ends = other_status status Outside is ends.0 (λ c. cc)
    told_first_file first second (Some bytes) ends = told_first second ends.0 ends.2 ends.3

  -- and over others, by what may be said
  module _ (name : List ℕ) (said : Outcome) (st : status ≡ said.status) (tx : text ≡ said.printed) where
    other_said : {A : Type 0} (o : Outcome) (s : Status) → said ≡ o → o.status ≡ s → (Collision ≡ s → ⊥) → A
    other_said o s e t not = other_status status s is (st ∙ ap (λ (x : Outcome). x.status) e ∙ t) not

    may_input : (m n : Owned) → IsOwned m → IsOwned n → (input : Input) → IfSome input AreBytes
        → LeadsToOutcome (given name (λ bytes. comes (say_audit_join_of hash (owned_map m) (owned_map n) bytes)) input)
        None said
        → Shown hash text
    may_input m n own_m own_n None all e = other_said _ Outside e refl (λ c. cc)
    may_input m n own_m own_n (Some bytes) all e =
        shown_of m n own_m own_n bytes all (st ∙ ap (λ (x : Outcome). x.status) e)
        (tx ∙ ap (λ (x : Outcome). x.printed) e)

    may_maps : (v w : Version) (m n : Owned) → IsOwned m → IsOwned n
        → LeadsToOutcome (say_beside_maps hash name (map_in v m.tree m.batch) (map_in w n.tree n.batch)) None said
        → Shown hash text
    may_maps One w m n own_m own_n e = other_said _ NeedsVersion2 e refl (λ c. cc)
    may_maps Two One m n own_m own_n e = other_said _ NeedsVersion2 e refl (λ c. cc)
    may_maps Two Two m n own_m own_n leads = may_input m n own_m own_n leads.0 leads.1 leads.2

    owned_shown : (v : Version) (held : List ℕ) (map : Opened) → ShowsMap v hash held (Ok map)
        → IsOwned (record { tree = map.tree; batch = map.batch })
    owned_shown v held map shows = record { well = shows.1.well; batch = shows.1.stands.batch_fits }

    may_second : (one : Opened) → IsOwned (record { tree = one.tree; batch = one.batch }) → (v : Version)
        (held : List ℕ) (found : Found) → ShowsMap v hash held found
        → LeadsToOutcome (given_map (say_beside_maps hash name one) found) None said → Shown hash text
    may_second one own v held (Ok other) shows leads =
        may_maps one.version other.version (record { tree = one.tree; batch = one.batch })
        (record { tree = other.tree; batch = other.batch }) own (owned_shown v held other shows) leads
    may_second one own v held (Err fault) shows e = other_said _ BadMap e refl (λ c. cc)

    may_second_file : (second : List ℕ) (one : Opened) → IsOwned (record { tree = one.tree; batch = one.batch })
        → (input : Input)
        → LeadsToOutcome (given second (λ bytes. opens (version_of bytes) hash bytes
        (given_map (say_beside_maps hash name one))) input) None said
        → Shown hash text
    may_second_file second one own None e = other_said _ Outside e refl (λ c. cc)
    may_second_file second one own (Some bytes) leads =
        may_second one own (version_of bytes) bytes leads.0 leads.1 leads.2

    may_first : (second : List ℕ) (v : Version) (held : List ℕ) (found : Found) → ShowsMap v hash held found
        → LeadsToOutcome (given_map (λ one. needs_map hash second (say_beside_maps hash name one)) found) None said
        → Shown hash text
    may_first second v held (Ok one) shows leads =
        may_second_file second one (owned_shown v held one shows) leads.0 leads.2
    may_first second v held (Err fault) shows e = other_said _ BadMap e refl (λ c. cc)

    may_first_file : (first second : List ℕ) (input : Input)
        → LeadsToOutcome (given first (λ bytes. opens (version_of bytes) hash bytes
        (given_map (λ one. needs_map hash second (say_beside_maps hash name one)))) input) None said
        → Shown hash text
    may_first_file first second None e = other_said _ Outside e refl (λ c. cc)
    may_first_file first second (Some bytes) leads = may_first second (version_of bytes) bytes leads.0 leads.1 leads.2

  shown_audit_join : (first second name : List ℕ) (before after : Option Files)
      → EndsAsSaid (say_audit_join hash first second name)
      (LeadsToOutcome (say_audit_join hash first second name) None) before after status text
      → Shown hash text
  shown_audit_join first second name before after ends = by_files before refl
    where
      by_files : (o : Option Files) → before ≡ o → Shown hash text
      by_files None e =
          let on = subst (λ o. EndsAsSaid (say_audit_join hash first second name)
          (LeadsToOutcome (say_audit_join hash first second name) None) o after status text) e ends in
          may_first_file name on.0 on.2 on.3 first second on.1.0 on.1.2
      by_files (Some files) e =
          let on = subst (λ o. EndsPlan (say_audit_join hash first second name) o after status text) (sym e)
          (subst (λ o. EndsAsSaid (say_audit_join hash first second name)
          (LeadsToOutcome (say_audit_join hash first second name) None) o after status text) e ends) in
          told_first_file before after name first second on.0 on.3

-- ---- whatever command the words spell

module _ (hash : List ℕ → List ℕ) (words : List (List ℕ)) (before after : World) (status : Status)
    (came : Result Ending Halt)
    (carried : (c : Command) → SpellsCommand words c → IsCarriedOut hash c before.shelf after.shelf came)
    (ended : PrintsEnding came before.sink after.sink status) where
  ran_as : (command : Command) → SpellsCommand words command → IsRunOr hash command before after status
  ran_as command spells = ran hash command before after status came
      (loud_of hash before.shelf after.shelf came command (carried command spells)) ended

  pub joined_honest : IsSized hash → JoinsHonest hash words before after status
  joined_honest sized m n first second name bytes own_m own_n is_first is_second spells held own =
      elim (ran_as (commands.CheckJoin first second name) spells) [
        | inl run ↦ inl (check_whole hash before after status first second name.now bytes held run (map_pairs m n)
            ((λ i. join_given hash (is_first i) (is_second i) (own i))
            ∙ (honest_join hash sized m n own_m own_n).accepted))
        | inr stop ↦ inr stop
      ]

  pub joined_worth : IsSized hash → JoinsOrCollides hash words before after status
  joined_worth sized m n first second name bytes own_m own_n is_first is_second spells held done =
      elim (ran_as (commands.CheckJoin first second name) spells) [
        | inl run ↦ worth_by hash sized before after status m n first second name.now bytes own_m own_n is_first
            is_second held run done (join_given hash first second bytes) refl
        | inr stop ↦ not_stopped before after status done stop
      ]

  pub joined_audited : IsSized hash → AuditsAcceptedJoin hash words before after status
  joined_audited sized m n first second name one other bytes pairs spells held_m stands_m held_n stands_n held given =
      let own_m : IsOwned m = record { well = stands_m.well; batch = stands_m.stands.batch_fits } in
      let own_n : IsOwned n = record { well = stands_n.well; batch = stands_n.stands.batch_fits } in
      says_join_worth hash before after status first.now second.now name.now m n one other bytes pairs held_m stands_m
      held_n stands_n held given (first_clash (by Two hash) m bytes) (second_clash (by Two hash) n bytes) refl refl
      (λ all. accepted_join hash sized bytes all m n pairs own_m own_n given)
      (ran_as (commands.AuditJoin first second name) spells)

  pub joined_collided : IsSized hash → JoinsCollideRightly hash words before after status
  joined_collided sized first second name spells is =
      elim (ran_as (commands.AuditJoin first second name) spells) [
        | inl run ↦
            let x = shown_audit_join hash sized status run.text is first.now second.now name.now before.shelf.files
            after.shelf.files run.ends in
            (x.name, x.named, (x.pair, x.collides, subst (TakesBytes before.sink after.sink) x.is run.printed))
        | inr stop ↦ not_collided before after status is stop
      ]
