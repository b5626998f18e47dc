-- What the reading of a join's proof is worth.
use Rattle.std.proofs.Common.{◌≡◌, ℕ, List, Result, Ok, Err, sym, ap, subst, ◌∙◌}
use Rattle.mr_record.proofs.Encodings.{IsBytes}
use Rattle.mr_proof.specs.declared.head.Kind.TheVariants as kind
use Rattle.mr_proof.proofs.FirstFault.{faults_just}
use Rattle.mr_proof.proofs.Halves.{shows_just}
use Rattle.mr_proof.proofs.Longer.{stays_refused}
use Rattle.mr_proof.proofs.Pairs.{finds_pair_of, one_pair_of}
use Rattle.mr_count.specs.Chosen.{chosen}
use Rattle.mr_join.specs.declared.fault.JoinFault.{JoinFault}
use Rattle.mr_join.specs.Meets.{meets_way}
use Rattle.mr_join.specs.Frame.{Frame, frame_of, ReadsJust}
use Rattle.mr_join.specs.Parts.{IsReadPart, ReadsParts}
use Rattle.mr_join.specs.Verdict.{Held, letter}
use Rattle.mr_join.proofs.Framing.{frame_reads, frame_again}
use Rattle.mr_join.proofs.Worth.{asks_lawfully}

pub reads_just : (bytes : List ℕ) → IsBytes bytes → ReadsJust bytes
reads_just bytes fits = record {
  spelled = λ x e. (frame_reads bytes x fits e).whole;
  found = λ x fit e. ap frame_of e ∙ frame_again x fit;
}

part_read : (h : Held) (bytes : List ℕ) → IsBytes bytes → IsReadPart h bytes
part_read h bytes fits = record {
  shows = λ list. shows_just h.of h.root (chosen letter (meets_way list)) bytes (asks_lawfully list) fits;
  faults = λ list. faults_just h.of h.root (chosen letter (meets_way list)) bytes;
  longer = λ list. stays_refused h.of h.root (chosen letter (meets_way list)) bytes;
  one_pair = one_pair_of (kind.Choice letter) bytes;
  pair = finds_pair_of (kind.Choice letter) bytes fits;
}

abbrev good : Frame → Result Frame JoinFault
good x = Ok x

same_frame : (x y : Frame) → good x ≡ good y → x ≡ y
same_frame x y e = cc

not_both : (x : Frame) (f : JoinFault) → good x ≡ Err f → ⊥
not_both x f e = cc

pub parts_read : (h g : Held) (bytes : List ℕ) (y : Frame) → frame_of bytes ≡ Ok y → IsBytes y.first
    → IsBytes y.second → ReadsParts h g bytes
parts_read h g bytes y read first second = λ x e.
    subst (λ (z : Frame). IsReadPart h z.first × IsReadPart g z.second) (same_frame y x (sym read ∙ e))
    (part_read h y.first first, part_read g y.second second)

pub parts_unread : (h g : Held) (bytes : List ℕ) (f : JoinFault) → frame_of bytes ≡ Err f → ReadsParts h g bytes
parts_unread h g bytes f read = λ x e. absurd (not_both x f (sym e ∙ read))
