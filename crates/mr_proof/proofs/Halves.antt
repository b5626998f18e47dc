-- Each byte string has just one half of the verdict.
use Rattle.std.proofs.Common.{◌≡◌, ◌⊎◌, ℕ, List, Result, Ok, Err, refl, sym, ◌∙◌, inl, inr}
use Rattle.mr_record.specs.declared.record.Record.{Record}
use Rattle.mr_query.specs.Word.{IsQuery}
use Rattle.mr_query.specs.declared.query.Query.{Query}
use Rattle.mr_proof.specs.declared.rule.Fault.{Fault}
use Rattle.mr_proof.specs.Tight.{Question, IsLawful, question}
use Rattle.mr_proof.specs.Accepted.{ProvesAnswer}
use Rattle.mr_proof.specs.Refused.{IsRefused}
use Rattle.mr_proof.specs.Reading.{verdict}
use Rattle.mr_proof.specs.Halves.{ShowsJust, AcceptsJust, OneHalf}
use Rattle.mr_record.proofs.Encodings.{IsBytes}
use Rattle.mr_proof.proofs.FirstFault.{refuses_just}
use Rattle.mr_proof.proofs.Soundness.{shows_from, proves_from}
use Rattle.mr_proof.proofs.Completeness.{checked_from, verdict_from}

pub shows_just : (hash : List ℕ → List ℕ) (root : List ℕ) (a : Question) (bytes : List ℕ) → IsLawful a
    → IsBytes bytes → ShowsJust hash root a bytes
shows_just hash root a bytes law fits =
    λ x. (shows_from hash root a bytes x law fits, checked_from hash root a bytes x law)

pub accepts_just : (hash : List ℕ → List ℕ) (root : List ℕ) (q : Query) (bytes : List ℕ) → IsQuery q
    → IsBytes bytes → AcceptsJust hash root q bytes
accepts_just hash root q bytes may fits =
    λ answer. (proves_from hash root q bytes answer may fits, verdict_from hash root q bytes answer may)

either : (hash : List ℕ → List ℕ) (root : List ℕ) (q : Query) (bytes : List ℕ) → IsQuery q
    → IsBytes bytes → (r : Result (List Record) Fault) → verdict hash root q bytes ≡ r
    → ((answer : List Record) × ProvesAnswer hash root q bytes answer) ⊎ ((f : Fault)
    × IsRefused hash root (question q) bytes f)
either hash root q bytes may fits (Ok answer) e = inl (answer, proves_from hash root q bytes answer may fits e)
either hash root q bytes may fits (Err f) e = inr (f, (refuses_just hash root q bytes f).0 e)

abbrev answered : List Record → Result (List Record) Fault
answered a = Ok a

abbrev failed : Fault → Result (List Record) Fault
failed f = Err f

not_both : (a : List Record) (f : Fault) → answered a ≡ failed f → ⊥
not_both a f e = cc

pub one_half : (hash : List ℕ → List ℕ) (root : List ℕ) (q : Query) (bytes : List ℕ) → IsQuery q
    → IsBytes bytes → OneHalf hash root q bytes
one_half hash root q bytes may fits = record {
  some = either hash root q bytes may fits (verdict hash root q bytes) refl;
  apart = λ answer f p r. not_both answer f (sym (verdict_from hash root q bytes answer may p)
      ∙ (refuses_just hash root q bytes f).1 r);
}
