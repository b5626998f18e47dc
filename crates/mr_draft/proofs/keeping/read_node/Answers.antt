use Rattle.std.proofs.Common.{inl}
use Rattle.mr_store.specs.CachedFile.{state_of, name_of}
use Rattle.mr_draft.proofs.NodesKept.{never_blamed, refused_cause}
use Rattle.mr_draft.proofs.ReadPages.{node_as_read}
use Rattle.mr_draft.proofs.keeping.read_node.Goals as goal

pub returns-in-Ok-clause-node : goal.returns-in-Ok-clause-node
returns-in-Ok-clause-node g c =
    let f = c.args.file.now in
    node_as_read f.layout (state_of f).files (name_of f) f.pages c.args.child.now.id c.read_node.new.into
    c.requires.within c.in-Ok.ensures.has

pub returns-in-Err-clause-blames_none_told : goal.returns-in-Err-clause-blames_none_told
returns-in-Err-clause-blames_none_told g c =
    let f = c.args.file.now in
    never_blamed f.layout f.pages g.H.Hashes.of (Unit {0}) (state_of f).files (name_of f) c.args.child.now
    c.in-Err.error c.from.result c.read_node.new.into c.in-Err.ensures.told c.from.ensures

pub returns-in-Err-clause-cause : goal.returns-in-Err-clause-cause
returns-in-Err-clause-cause g c =
    let f = c.args.file.now in
    refused_cause f.pages (name_of f) c.args.child.now (state_of f) (state_of c.read_node.new.self) c.in-Err.error
    c.from.result c.requires.pages.there c.in-Err.ensures.refused c.from.ensures

pub returns-in-Err-clause-given : goal.returns-in-Err-clause-given
returns-in-Err-clause-given g c = record {
  error = c.in-Err.error;
  is = c.from.ensures;
  given = inl c.in-Err.ensures.given;
}
