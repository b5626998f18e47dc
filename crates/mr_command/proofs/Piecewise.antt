-- A text that goes to its file piece by piece: each step, and what is left where one is refused.
use Rattle.std.proofs.Common.{◌≡◌, ℕ, ◌+◌, ◌<◌, ◌≤◌, List, [], ◌∷◌, ◌++◌, length, get_or, take, drop, refl, sym, ap, subst, ◌∙◌, inl, inr, arith, append_assoc, append-nil, length-append, take-append-drop}
use Rattle.std.specs.Prelude.{Result, Ok, Err, IsErrAnd, MatchResult}
use Rattle.std.proofs.lemmas.List.{take_all, take_more}
use Rattle.mr_outside.specs.Causes.{ShelfCauses}
use Rattle.mr_outside.specs.Files.{with_file, grown}
use Rattle.mr_outside.specs.State.{Shelved}
use Rattle.mr_outside.specs.Writing.{IsChanged, IsChangedPartly}
use Rattle.mr_outside.specs.declared.shelf.ShelfErr.{ShelfErr}
use Rattle.mr_outside.proofs.Changes.{IsChanged-grown}
use Rattle.mr_bundle.specs.Bundle.{bundle_of, part_bytes}
use Rattle.mr_command.specs.private.Bundled.{IsGivenUp, HasMadeText}
use Rattle.mr_command.specs.Ending.{halt_of}
use Rattle.mr_command.specs.private.Steps.{SavesFile}
use Rattle.mr_plan.specs.Outcome.{text}
use Rattle.mr_command.specs.declared.ending.Halt.{Halt}
use Rattle.mr_command.specs.declared.ending.Halt.TheVariants as halts
use Rattle.mr_command.proofs.Bundles.{bundle_none, bundle_push}
use Rattle.mr_command.proofs.Texts.{stops_there}

four : (a b c d : List ℕ) → ((a ++ b) ++ c) ++ d ≡ a ++ ((b ++ c) ++ d)
four a b c d = simp append_assoc

between : (a b c d : List ℕ) → (a ++ (b ++ c)) ++ d ≡ (a ++ b) ++ (c ++ d)
between a b c d = simp append_assoc

module _ (name : List ℕ) (before : Shelved) where
  module _ (made waits : List ℕ) (now : Shelved) (is : HasMadeText name made waits before now) where
    -- more was made, and waits
    pub more_made : (part more : List ℕ) → more ≡ waits ++ part → HasMadeText name (made ++ part) more before now
    more_made part more put = record {
      front = is.front;
      joined = ap (λ w. is.front ++ w) put ∙ sym (append_assoc is.front waits part) ∙ ap (λ m. m ++ part) is.joined;
      put = is.put;
      faults = is.faults;
      reads = is.reads;
    }

    -- what waited went to the file
    pub all_put : (after : Shelved) → IsChanged (grown name) waits now.files after.files
        → IsChanged (with_file name) made before.files after.files
    all_put after put =
        subst (λ bytes. IsChanged (with_file name) bytes before.files after.files) is.joined
        (IsChanged-grown name is.front waits before.files now.files after.files is.put put)

    pub none_waits : (left : List ℕ) (after : Shelved) → IsChanged (grown name) waits now.files after.files
        → after.faults ≡ now.faults → after.reads ≡ now.reads → left ≡ [] → HasMadeText name made left before after
    none_waits left after put faults reads none = record {
      front = made;
      joined = ap (λ w. made ++ w) none ∙ append-nil made;
      put = all_put after put;
      faults = faults ∙ is.faults;
      reads = reads ∙ is.reads;
    }

    -- memory gave out
    pub unmade : (part : List ℕ) → IsGivenUp name (made ++ part) before now halts.NoMemory
    unmade part = λ rest.
        let split : (made ++ part) ++ rest ≡ is.front ++ ((waits ++ part) ++ rest) =
        ap (λ m. (m ++ part) ++ rest) (sym is.joined) ∙ four is.front waits part rest in
        record {
          counts = record { faults = omega (arith, is.faults); reads = omega (arith, is.reads) };
          unread = is.reads;
          saved = (tt, inr (is.front, inl ((waits ++ part) ++ rest, split), is.put));
        }

    -- the file was refused
    pub unput : (after : Shelved) (error : ShelfErr) → IsChangedPartly (grown name) waits now.files after.files
        → after.reads ≡ now.reads → ShelfCauses {A = Unit} name now after (Err error)
        → IsGivenUp name made before after (halt_of error)
    unput after error part reads c = λ rest.
        let split : made ++ rest ≡ (is.front ++ part.front) ++ (part.rest ++ rest) =
        ap (λ m. m ++ rest) (sym is.joined ∙ ap (λ w. is.front ++ w) part.whole)
        ∙ between is.front part.front part.rest rest in
        record {
          counts = record {
            faults = omega (arith, is.faults, c.faults);
            reads = omega (arith, is.reads, reads);
          };
          unread = reads ∙ is.reads;
          saved = (
            stops_there name is.front before now after error is.put is.faults c,
            inr (
              is.front ++ part.front,
              inl (part.rest ++ rest, split),
              IsChanged-grown name is.front part.front before.files now.files after.files is.put part.changed,
            ),
          );
        }

    -- so it is, whatever was to follow
    pub unput_all : (after : Shelved) (halt : Halt) → IsGivenUp name made before after halt
        → SavesFile name (text made) before after (Err halt)
    unput_all after halt up =
        subst (λ bytes. SavesFile name (text bytes) before after (Err halt)) (append-nil made) (up [])

  -- ---- the bundle of a list

  pub begun : (waits : List ℕ) (now : Shelved) → waits ≡ [] → IsChanged (with_file name) [] before.files now.files
      → now.faults ≡ before.faults → now.reads ≡ before.reads → HasMadeText name (bundle_of []) waits before now
  begun waits now none put faults reads =
      record { front = []; joined = none ∙ sym bundle_none; put = put; faults = faults; reads = reads }

  pub all_made : (list : List (List ℕ)) (n : ℕ) (waits bytes : List ℕ) (now : Shelved) → length list ≤ n
      → bytes ≡ waits → HasMadeText name (bundle_of (take n list)) waits before now
      → HasMadeText name (bundle_of list) bytes before now
  all_made list n waits bytes now past same is =
      subst (λ l. HasMadeText name (bundle_of l) bytes before now) (take_all n list past)
      (subst (λ b. HasMadeText name (bundle_of (take n list)) b before now) (sym same) is)

-- one proof more
pub bundle_more : (list : List (List ℕ)) (i : ℕ) (p : List ℕ) → i < length list → p ≡ get_or list i p
    → bundle_of (take i list) ++ part_bytes p ≡ bundle_of (take (i + 1) list)
bundle_more list i p here is =
    ap (λ q. bundle_of (take i list) ++ part_bytes q) is
    ∙ sym (bundle_push (take i list) (get_or list i p)) ∙ ap bundle_of (sym (take_more list i p here))

bundle_append : (xs ys : List (List ℕ)) → bundle_of (xs ++ ys) ≡ bundle_of xs ++ bundle_of ys
unfolding bundle_of
bundle_append [] ys = refl
bundle_append (x ∷ xs) ys =
    ap (λ b. part_bytes x ++ b) (bundle_append xs ys) ∙ sym (append_assoc (part_bytes x) (bundle_of xs) (bundle_of ys))

-- and those behind it
pub bundle_whole : (list : List (List ℕ)) (i : ℕ) (p : List ℕ) → i < length list → p ≡ get_or list i p
    → (bundle_of (take i list) ++ part_bytes p) ++ bundle_of (drop (i + 1) list) ≡ bundle_of list
bundle_whole list i p here is =
    ap (λ b. b ++ bundle_of (drop (i + 1) list)) (bundle_more list i p here is)
    ∙ sym (bundle_append (take (i + 1) list) (drop (i + 1) list)) ∙ ap bundle_of (take-append-drop (i + 1) list)

pub size_more : (list : List (List ℕ)) (i : ℕ) (p : List ℕ) (size : ℕ) → i < length list → p ≡ get_or list i p
    → size ≡ length (bundle_of (take i list)) → size + (4 + length p) ≡ length (bundle_of (take (i + 1) list))
size_more list i p size here is so_far =
    let all : length (bundle_of (take i list) ++ part_bytes p) ≡ length (bundle_of (take (i + 1) list)) =
    ap length (bundle_more list i p here is) in
    let both = length-append (bundle_of (take i list)) (part_bytes p) in
    omega (arith, so_far, all, both)

-- what was made, or that it was given up
pub given_up : (name made waits : List ℕ) (before after : Shelved) (result : Result (Unit {0}) Halt) (halt : Halt)
    → IsErrAnd result (λ h. h ≡ halt) → IsGivenUp name made before after halt
    → MatchResult result (λ done. HasMadeText name made waits before after) (IsGivenUp name made before after)
given_up name made waits before after (Ok done) halt is up = absurd is
given_up name made waits before after (Err h) halt is up = subst (IsGivenUp name made before after) (sym is) up
