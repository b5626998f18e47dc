-- The accepting half: when the bytes of a proof are accepted, against a root digest, and which
-- answer they prove.
use Rattle.std.specs.Prelude.{◌≡◌, ℕ, List, [], Option, Some, None}
use Rattle.mr_record.specs.declared.record.Record.{Record}
use Rattle.mr_tree.specs.Digest.{by, root_preimage}
use Rattle.mr_query.specs.declared.query.Query.{Query}
use Rattle.mr_query.specs.Scan.{scan}
use Rattle.mr_proof.specs.declared.head.Head.{Head}
use Rattle.mr_proof.specs.Cut.{Cut, rect, mask, digest}
use Rattle.mr_proof.specs.Spelling.{Parsed, opened_records, IsSpelled}
use Rattle.mr_proof.specs.Tight.{Question, MayCome, question, IsTight}

-- The bytes that the root digest is of, of the map of which a proof with this head and cut is: by
-- the head's version, batch, count and level, and the rectangle, the mask and the digest of the
-- cut. Without a cut the map is empty.
abbrev pub proof_preimage : (List ℕ → List ℕ) → Head → Option Cut → List ℕ
proof_preimage hash h None =
    root_preimage h.version h.batch 0 (record
    { level = 0; rect = None; mask = 0; count = 0; digest = [] })
proof_preimage hash h (Some P) =
    root_preimage h.version h.batch h.count (record {
      level = h.level;
      rect = rect P;
      mask = mask h.version P;
      count = 0;
      digest = digest (by h.version hash) h.level P;
    })

-- the root digest of that map
abbrev pub root_found : (List ℕ → List ℕ) → Head → Option Cut → List ℕ
root_found hash h P = hash (proof_preimage hash h P)

-- the bytes spell this head and cut, which show what is asked, of the map with the root digest
pub record ShowsCut (hash : List ℕ → List ℕ) (root : List ℕ) (a : Question) (bytes : List ℕ)
    (x : Parsed) : Type 0 where
  pub spelled : IsSpelled x.head x.part bytes
  pub kind : x.head.kind ≡ a.kind
  pub version : MayCome a x.head.version
  pub tight : IsTight a x.head x.part
  pub held : root_found hash x.head x.part ≡ root

-- the bytes prove the answer to the query
pub record ProvesAnswer (hash : List ℕ → List ℕ) (root : List ℕ) (q : Query) (bytes : List ℕ)
    (answer : List Record) : Type 0 where
  pub said : Parsed
  pub shows : ShowsCut hash root (question q) bytes said
  pub scanned : answer ≡ scan (opened_records said.part) q
