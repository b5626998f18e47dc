-- What is left of a map and its journal once a change was carried out.
use Rattle.std.proofs.Common.{◌≡◌, ℕ, ◌+◌, ◌-◌, ◌<◌, ◌≤◌, true, false, List, [], ◌∷◌, ◌++◌, length, drop, Option, Some, None, IfSome, option_map, refl, sym, ap, ◌∙◌, subst, arith}
use Rattle.std.proofs.lemmas.Bool.{cond-true, cond-false}
use Rattle.std.proofs.lemmas.List.{drop-drop}
use Rattle.mr_outside.specs.Files.{replaced}
use Rattle.mr_journal.specs.declared.disk.Area.TheVariants.{Journal}
use Rattle.mr_journal.specs.Images.{Image, written}
use Rattle.mr_journal.specs.Format.{ready, body_of, is_open, restored, recovered, changed_by}
use Rattle.mr_journal.specs.private.Progress.{behind, opened_by, closed_by}
use Rattle.mr_journal.proofs.Gating.{shut_restores, armed_whole, armed_for}

pub some_body : (n : ℕ) (body : List ℕ) → ready n body ≡ true → 1 ≤ length body
unfolding ready
some_body n [] fit = absurd cc
some_body n (b ∷ body) fit = omega arith

same_some : (a b : Image) → Some a ≡ Some b → a ≡ b
same_some a b e = cc

none_is : (a : Image) → None ≡ Some a → ⊥
none_is a e = cc

-- a journal that is filled and opened ends as before
ends_so : (n : ℕ) (old new : List ℕ) → 1 ≤ n → drop 2 new ≡ drop 2 old → drop (1 + n) new ≡ drop (1 + n) old
ends_so n old new some same =
    let long : 1 + n ≡ 2 + (n - 1) = omega arith in
    ap (λ k. drop k new) long ∙ sym (drop-drop (n - 1) 2 new) ∙ ap (drop (n - 1)) same
    ∙ drop-drop (n - 1) 2 old ∙ ap (λ k. drop k old) (sym long)

journal_opened : (body old new : List ℕ) → 1 ≤ length body → 0 < length new → drop 2 new ≡ drop 2 old
    → replaced 0 (79 ∷ []) (replaced 1 body new) ≡ 79 ∷ (body ++ drop (1 + length body) old)
journal_opened body old [] some there same = absurd (omega arith)
journal_opened body old (gate ∷ new) some there same =
    ap (λ (l : List ℕ). 79 ∷ (body ++ l)) (ends_so (length body) old (gate ∷ new) some same)

pub opened_after : (body : List ℕ) (a b c d : Option Image) → 1 ≤ length body
    → option_map behind b ≡ option_map behind a → IfSome b (λ k. 0 < length k.journal)
    → c ≡ option_map (written Journal 1 body) b → d ≡ option_map (written Journal 0 (79 ∷ [])) c
    → d ≡ option_map (opened_by body) a
opened_after body None None c d some same there fill put = put
    ∙ ap (option_map (written Journal 0 (79 ∷ []))) fill
opened_after body None (Some m) c d some same there fill put = absurd (none_is (behind m) (sym same))
opened_after body (Some k) None c d some same there fill put = absurd (none_is (behind k) same)
opened_after body (Some k) (Some m) c d some same there fill put =
    let e = same_some (behind m) (behind k) same in
    let journal = journal_opened body k.journal m.journal some there (ap (λ (x : Image). x.journal) e) in
    put ∙ ap (option_map (written Journal 0 (79 ∷ []))) fill
    ∙ ap Some (λ i. record { map = (e i).map; journal = journal i })

pub ready_opened : (body : List ℕ) (a b : Option Image) → b ≡ option_map (opened_by body) a
    → IfSome a (λ k. ready (length k.map) body ≡ true) → IfSome b (λ k. ready (length k.map) body ≡ true)
ready_opened body None b is fit = subst (λ (o : Option Image). IfSome o (λ k. ready (length k.map) body ≡ true))
    (sym is) fit
ready_opened body (Some k) b is fit = subst (λ (o : Option Image). IfSome o (λ m. ready (length m.map) body ≡ true))
    (sym is) fit

-- opened, and then closed
pub changed_as : (body : List ℕ) (o : Option Image)
    → option_map (closed_by body) (option_map (opened_by body) o) ≡ option_map (changed_by body) o
unfolding changed_by
changed_as body None = refl
changed_as body (Some k) = refl

-- a journal that isn't open stays
pub recovered_shut : (o : Option Image) → ((k : Image) → o ≡ Some k → is_open k ≡ false)
    → o ≡ option_map recovered o
unfolding recovered
recovered_shut None shut = refl
recovered_shut (Some k) shut =
    let closed = shut k refl in
    ap Some (λ i. record {
      map = sym (shut_restores k.map k (record { map_is = refl; shut = closed })) i;
      journal = sym (cond-false (is_open k) (0 ∷ body_of k.journal) k.journal closed) i;
    })

rest_is : (j : List ℕ) → drop 1 j ≡ body_of j
rest_is [] = refl
rest_is (gate ∷ body) = refl

-- an open one is carried out and closed
pub recovered_open : (body : List ℕ) (o : Option Image)
    → ((k : Image) → o ≡ Some k → (k.journal ≡ 79 ∷ body) × (ready (length k.map) body ≡ true))
    → option_map (closed_by body) o ≡ option_map recovered o
unfolding recovered
recovered_open body None opened = refl
recovered_open body (Some k) opened =
    let f = opened k refl in
    let armed = armed_whole body k f.0 f.1 in
    let gated = (armed_for body (restored k) k armed).armed in
    ap Some (λ i. record {
      map = armed.makes i;
      journal = (ap (λ (l : List ℕ). 0 ∷ l) (rest_is k.journal)
          ∙ sym (cond-true (is_open k) (0 ∷ body_of k.journal) k.journal gated)) i;
    })
