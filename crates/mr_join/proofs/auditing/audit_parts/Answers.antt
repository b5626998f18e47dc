use Rattle.mr_join.proofs.auditing.audit_parts.Goals as goal

pub returns-in-Sound-clause-collides : goal.returns-in-Sound-clause-collides
returns-in-Sound-clause-collides g c = c.audit_behind.ensures.collides g.A.Hash.Hashes.of
