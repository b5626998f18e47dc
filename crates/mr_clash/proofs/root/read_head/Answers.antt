use Rattle.std.proofs.Common.{◌++◌, ◌∷◌, refl, sym, ap, ◌∙◌, append_assoc, arith}
use Rattle.std.specs.Int.{w64, to_be_bytes}
use Rattle.mr_record.specs.Version.{version_byte}
use Rattle.mr_proof.specs.declared.head.Kind.{Kind}
use Rattle.mr_proof.specs.Fields.{magic, kind_byte}
use Rattle.mr_proof.specs.Spelling.{radius_bytes, level_bytes}
use Rattle.mr_clash.proofs.root.read_head.Goals as goal

pub returns : goal.returns
returns c = λ h rest kind fits is.
    let tail = (radius_bytes h.kind h.radius ++ level_bytes h.count h.level) ++ rest in
    let words = to_be_bytes w64 h.batch ++ (to_be_bytes w64 h.count ++ tail) in
    let a = c.take-magic.ensures magic (version_byte h.version ∷ kind_byte h.kind ∷ words) refl is in
    let v = c.read_version-version.ensures h.version (kind_byte h.kind ∷ words) a.1 in
    let k = c.byte-kind.ensures (kind_byte h.kind) words v.1 in
    let b = c.number-batch.ensures h.batch (to_be_bytes w64 h.count ++ tail) fits.batch k.1 in
    let n = c.number-count.ensures h.count tail (omega (arith, fits.count)) b.1 in
    let r = c.pass_radius.ensures h.radius (level_bytes h.count h.level ++ rest)
    (n.1 ∙ append_assoc (radius_bytes h.kind h.radius) (level_bytes h.count h.level) rest
    ∙ ap (λ (k : Kind). radius_bytes k h.radius ++ (level_bytes h.count h.level ++ rest)) kind) in
    let l = c.read_level-level.ensures h.level rest (λ z. fits.empty (sym n.0 ∙ z))
    (r ∙ ap (λ k. level_bytes k h.level ++ rest) (sym n.0)) in
    record { version = v.0; batch = b.0; count = n.0; level = l.0; behind = l.1 }
