-- What the proofs of joins are worth, as the commands say it.
use Rattle.std.proofs.Common.{◌≡◌, ℕ, List, ◌++◌, length, refl, sym, ap, subst, ◌∙◌}
use Rattle.std.specs.Prelude.{Option, Some, None, Result, Ok, Err}
use Rattle.std.specs.Int.{w32, to_be_bytes}
use Rattle.std.proofs.lemmas.List.{take_at, drop_at}
use Rattle.mr_geom.specs.Rectangle.{Rectangle}
use Rattle.mr_outside.specs.Bytes.{AreBytes}
use Rattle.mr_record.specs.Record.{rectangle_bytes}
use Rattle.mr_record.specs.declared.version.Version.{Version}
use Rattle.mr_record.specs.declared.version.Version.TheVariants.{Two}
use Rattle.mr_record.proofs.Encodings.{IsBytes, IsBytes-take, IsBytes-drop}
use Rattle.mr_tree.specs.Digest.{by}
use Rattle.mr_proof.specs.Clash.{Pair}
use Rattle.mr_proof.specs.Headline.{AcceptedMatchesHonest}
use Rattle.mr_proof.specs.Tight.{Question, IsLawful}
use Rattle.mr_proof.proofs.Complete.{accepts_own, honest_stands}
use Rattle.mr_proof.proofs.NoClash.{own_quiet}
use Rattle.mr_proof.proofs.PreimageBytes.{IsSized}
use Rattle.mr_proof.proofs.Worth.{accepted_matches_honest}
use Rattle.mr_pages.specs.Law.{map_in}
use Rattle.mr_pages.specs.declared.opening.Opened.{Opened}
use Rattle.mr_pages.proofs.PageLaws.{from_bytes}
use Rattle.mr_join.specs.Accepted.{Owned, IsOwned, AcceptedJoinIsHonest, AcceptsHonestJoin, first_clash, second_clash, join_proof, map_pairs}
use Rattle.mr_join.specs.Finding.{finding_of}
use Rattle.mr_join.specs.Frame.{Frame, frame_of, magic, parts_bytes}
use Rattle.mr_join.specs.declared.fault.JoinFault.{JoinFault}
use Rattle.mr_join.specs.declared.pair.Pair as joined
use Rattle.mr_join.proofs.Framing.{NoFirst, frame_reads}
use Rattle.mr_join.proofs.Worth.{Honest, honest_accepted, join_worth, unread_worth}
use Rattle.mr_plan.specs.Joins.{join_given, pair_lines}
use Rattle.mr_plan.specs.Lines.{sound_line}
use Rattle.mr_plan.specs.Say.{prints, say_audit_join_of, say_join_finding, say_join_of}
use Rattle.mr_plan.specs.declared.status.Status.TheVariants.{Done}
use Rattle.mr_command.proofs.Joined.{says_join_finding}
use Rattle.mr_tool.specs.Asked.{owned_root}

-- the map of version 2 that its owner has
abbrev pub owned_map : Owned → Opened
owned_map m = map_in Two m.tree m.batch

-- ---- the bytes of both parts

behind : (a b : List ℕ) → IsBytes (a ++ b) → IsBytes b
behind a b all = subst IsBytes (drop_at a b (length a) refl) (IsBytes-drop (length a) (a ++ b) all)

before : (a b : List ℕ) → IsBytes (a ++ b) → IsBytes a
before a b all = subst IsBytes (take_at a b (length a) refl) (IsBytes-take (length a) (a ++ b) all)

part_bytes : (o : Option Rectangle) (first second : List ℕ) → NoFirst o first
    → IsBytes (magic ++ parts_bytes o first second) → IsBytes first × IsBytes second
part_bytes None first second none all = (
  subst IsBytes (sym none) (IsBytes-take 0 (magic ++ parts_bytes None first second) all),
  IsBytes-drop 5 (magic ++ parts_bytes None first second) all,
)
part_bytes (Some w) first second none all =
    let rest = IsBytes-drop 5 (magic ++ parts_bytes (Some w) first second) all in
    let past = behind (rectangle_bytes w) (to_be_bytes w32 (length first) ++ (first ++ second)) rest in
    let both = behind (to_be_bytes w32 (length first)) (first ++ second) past in
    (before first second both, behind first second both)

-- ---- accepted bytes, and the honest proof

honest_all : (hash : List ℕ → List ℕ) → IsSized hash → Honest hash
honest_all hash sized = record {
  accepts = λ v a law. accepts_own (by v hash) sized a law;
  honest = λ v a law t batch may well layers low. honest_stands (by v hash) sized a law t batch may well layers low;
  quiet = λ v a law. own_quiet (by v hash) sized a law;
}

matches_all : (hash : List ℕ → List ℕ) → IsSized hash → (bytes : List ℕ) → IsBytes bytes → (v : Version)
    (a : Question) → IsLawful a → AcceptedMatchesHonest (by v hash) a bytes
matches_all hash sized bytes all v a law = accepted_matches_honest (by v hash) sized a law bytes all

pub accepted_join : (hash : List ℕ → List ℕ) → IsSized hash → (bytes : List ℕ) → AreBytes bytes
    → AcceptedJoinIsHonest hash hash bytes
accepted_join hash sized bytes all = by_frame (frame_of bytes) refl
  where
    by_frame : (r : Result Frame JoinFault) → frame_of bytes ≡ r → AcceptedJoinIsHonest hash hash bytes
    by_frame (Err d) e = unread_worth hash hash bytes d e
    by_frame (Ok x) e =
        let fits : IsBytes bytes = from_bytes bytes all in
        let reads = frame_reads bytes x fits e in
        let parts = part_bytes x.rect x.first x.second reads.none (subst IsBytes reads.whole fits) in
        join_worth hash hash bytes x (honest_all hash sized) fits e (matches_all hash sized x.first parts.0)
        (matches_all hash sized x.second parts.1)

pub honest_join : (hash : List ℕ → List ℕ) → IsSized hash → AcceptsHonestJoin hash hash
honest_join hash sized = honest_accepted hash hash (honest_all hash sized) (honest_all hash sized)

-- ---- what is said

-- what an audit says, by the verdict and by the strings that differ
pub said_by : (hash : List ℕ → List ℕ) (m n : Owned) (bytes : List ℕ) (r : Result (List joined.Pair) JoinFault)
    (o p : Option Pair) → join_given hash (owned_root hash m) (owned_root hash n) bytes ≡ r
    → first_clash (by Two hash) m bytes ≡ o → second_clash (by Two hash) n bytes ≡ p
    → say_audit_join_of hash (owned_map m) (owned_map n) bytes ≡ say_join_finding (finding_of r o p)
said_by hash m n bytes r o p e d f =
    sym (says_join_finding hash (owned_map m) (owned_map n) bytes (finding_of r o p)
    (λ i. finding_of (sym e i) (sym d i) (sym f i)))

-- the honest proof of two maps
pub own_said : (hash : List ℕ → List ℕ) → IsSized hash → (m n : Owned) (bytes : List ℕ) → IsOwned m → IsOwned n
    → bytes ≡ join_proof hash hash m n
    → say_audit_join_of hash (owned_map m) (owned_map n) bytes ≡ prints (sound_line ++ pair_lines (map_pairs m n))
own_said hash sized m n bytes own_m own_n own =
    let accepts = honest_join hash sized m n own_m own_n in
    said_by hash m n bytes (Ok (map_pairs m n)) None None
    (ap (join_given hash (owned_root hash m) (owned_root hash n)) own ∙ accepts.accepted)
    (ap (first_clash (by Two hash) m) own ∙ accepts.first)
    (ap (second_clash (by Two hash) n) own ∙ accepts.second)

-- `join` of two maps of version 2
pub join_done : (hash : List ℕ → List ℕ) (name : List ℕ) (m n : Owned)
    → (say_join_of hash name (owned_map m) (owned_map n)).status ≡ Done
unfolding say_join_of
join_done hash name m n = refl
