-- Outcomes, by what they say.
use Rattle.std.specs.Prelude.{ℕ, Bool, false, if◌then◌else◌, List, ◌++◌, length, Option, Result, Ok, Err}
use Rattle.std.specs.List.{list_any}
use Rattle.mr_record.specs.RecordText.{text_of}
use Rattle.mr_record.specs.declared.version.Version.{Version}
use Rattle.mr_record.specs.declared.version.Version.TheVariants.{One, Two}
use Rattle.mr_record.specs.declared.text_fault.TextFault.{TextFault}
use Rattle.mr_journal.specs.Images.{Image}
use Rattle.mr_tree.specs.Digest.{by}
pub use Rattle.mr_pages.specs.Opening.{opened_in}
use Rattle.mr_pages.specs.declared.opening.Opened.{Opened}
use Rattle.mr_query.specs.declared.query.Query.{Query}
use Rattle.mr_query.specs.declared.key.Key.{Key}
use Rattle.mr_proof.specs.Tight.{Question, question}
use Rattle.mr_proof.specs.declared.way.Way.{Way}
use Rattle.mr_count.specs.Chosen.{total_whole}
use Rattle.mr_count.specs.declared.finding.ChoiceFinding.{ChoiceFinding}
use Rattle.mr_count.specs.declared.finding.ChoiceFinding.TheVariants as counts
use Rattle.mr_join.specs.declared.finding.JoinFinding.{JoinFinding}
use Rattle.mr_join.specs.declared.finding.JoinFinding.TheVariants as joins
use Rattle.mr_bundle.specs.Bundle.{parts}
use Rattle.mr_bundle.specs.Proofs.{bundle}
use Rattle.mr_bundle.specs.Verdicts.{verdicts}
use Rattle.mr_bundle.specs.declared.verdict.Verdict.{Verdict}
use Rattle.mr_clash.specs.declared.finding.Finding.{Finding}
use Rattle.mr_clash.specs.declared.finding.Finding.TheVariants as findings
use Rattle.mr_plan.specs.Judged.{bundle_text, bundle_status}
use Rattle.mr_plan.specs.Joins.{first_name, second_name, pair_lines, join_refused_line, map_collision_lines}
use Rattle.mr_plan.specs.Lines.{bad_text_line, needs_version_2_line, missing_line, proof_line, served_line, sound_line, collision_lines, counted_line}
use Rattle.mr_plan.specs.Outcome.{Outcome, Content, Nothing, File, InPlace}
use Rattle.mr_plan.specs.Outcome as content
use Rattle.mr_plan.specs.Refusal.{refused_line}
pub use Rattle.mr_plan.specs.Words.{journal_of}
use Rattle.mr_plan.specs.declared.status.Status.{Status}
use Rattle.mr_plan.specs.declared.status.Status.TheVariants.{Done, Refused, BadText, Collision, Outside, NeedsVersion2}

-- a command that ends so, prints this text and writes no file
abbrev pub ends : Status → List ℕ → Outcome
ends status text = record { status = status; printed = text; written = Nothing }

-- all was done
abbrev pub prints : List ℕ → Outcome
prints text = ends Done text

-- a file that is missing, by its name
abbrev pub says_missing : List ℕ → Outcome
says_missing name = ends Outside (missing_line name)

-- these bytes in a file, and a line on them
abbrev pub say_text : (line name bytes : List ℕ) → Outcome
say_text line name bytes = record {
  status = Done;
  printed = line;
  written = File name (content.text bytes);
}

-- a map in its own file, which with its journal was this image, and what is said of it
abbrev pub say_in_place : Status → List ℕ → (map : List ℕ) → (was : Image) → Option Content
    → Outcome
say_in_place status text map was made = record {
  status = status;
  printed = text;
  written = InPlace map (journal_of map) was made;
}

-- these bytes in a file, and their number
abbrev pub say_written : List ℕ → List ℕ → Outcome
say_written proof bytes = say_text (proof_line (length bytes)) proof bytes

-- what was found of the bytes of a proof of this version: its fault; that it is the honest proof,
-- and then the answer, a line of the version for each record; or the two strings
abbrev pub say_finding : Version → Finding → Outcome
say_finding v (findings.Refused fault) = ends Refused (refused_line fault)
say_finding v (findings.Sound answer) = prints (sound_line ++ text_of v answer)
say_finding v (findings.Collision owned shown) = ends Collision (collision_lines owned shown)

-- the same of the bytes of a proof of a count: in place of the answer the number of the records
-- that are taken whole
abbrev pub say_count_finding : (Key → Way) → ChoiceFinding → Outcome
say_count_finding way (counts.Refused fault) = ends Refused (refused_line fault)
say_count_finding way (counts.Sound taken) =
    prints (sound_line ++ counted_line (total_whole way taken))
say_count_finding way (counts.Collision owned shown) = ends Collision (collision_lines owned shown)

-- and of a join: its pairs, a line for each, or the two strings of the first map or of the second
abbrev pub say_join_finding : JoinFinding → Outcome
say_join_finding (joins.Refused fault) = ends Refused (join_refused_line fault)
say_join_finding (joins.Sound pairs) = prints (sound_line ++ pair_lines pairs)
say_join_finding (joins.First owned shown) =
    ends Collision (map_collision_lines first_name owned shown)
say_join_finding (joins.Second owned shown) =
    ends Collision (map_collision_lines second_name owned shown)

-- whether a map of this version has no proof of what is asked: one of the first version where only
-- proofs of the second may come
abbrev pub lacks_proof_for : Version → Question → Bool
lacks_proof_for One asked = asked.two_only
lacks_proof_for Two asked = false

-- for a query: where it names a mask
abbrev pub lacks_proof : Version → Query → Bool
lacks_proof v query = lacks_proof_for v (question query)

-- this is said, unless a map lacks a proof that is asked for
abbrev pub unless_lacking : Bool → Outcome → Outcome
unless_lacking lacks said = if lacks then ends NeedsVersion2 needs_version_2_line else said

-- a bundle in a file, how many queries it is for, and its length
abbrev pub say_bundle : List ℕ → (queries : ℕ) → List ℕ → Outcome
say_bundle name queries bytes = say_text (served_line queries (length bytes)) name bytes

-- the bundle for the queries of a script on a map in a file; or the script's first fault, or that
-- one of them has no proof
unfoldable pub say_serve_of : (List ℕ → List ℕ) → List ℕ → Opened → Result (List Query) TextFault
    → Outcome
say_serve_of hash name map (Err fault) = ends BadText (bad_text_line fault)
say_serve_of hash name map (Ok queries) =
    unless_lacking (list_any (lacks_proof map.version) queries)
    (say_bundle name (length queries) (bundle (by map.version hash) map.tree map.batch queries))

-- the verdicts on the parts of a bundle that are whole, for so many queries
abbrev pub say_verdicts : (queries : ℕ) → List Verdict → (broken : Option ℕ) → Outcome
say_verdicts queries vs broken = ends (bundle_status vs broken) (bundle_text queries vs broken)

-- what is said of a bundle, for some queries
unfoldable pub say_parts_of : (List ℕ → List ℕ) → (root : List ℕ) → List Query → List ℕ → Outcome
say_parts_of hash root queries bytes =
    let cut = parts bytes (length queries) in
    say_verdicts (length queries) (verdicts hash root queries bytes cut.list) cut.broken
