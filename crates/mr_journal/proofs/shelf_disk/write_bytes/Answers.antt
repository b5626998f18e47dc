use Rattle.std.proofs.Common.{◌≡◌, ◌++◌, ◌∙◌, List, ℕ, sym, subst, rules}
use Rattle.std.proofs.lemmas.List.{take-append-drop}
use Rattle.mr_journal.specs.private.FileChanges.{WritesFront}
use Rattle.mr_journal.proofs.Shelving.{puts_none, puts_refused, puts_behind, ends_there, put_both}
use Rattle.mr_outside.specs.Files.{replaced}
use Rattle.mr_journal.proofs.Quiet.{quiet_then, told_turned}
use Rattle.mr_journal.proofs.shelf_disk.write_bytes.Goals as goal

pub returns-in_err-length-clause-puts : goal.returns-in_err-length-clause-puts
returns-in_err-length-clause-puts g c =
    puts_refused c.args.name.now c.args.at c.args.bytes.now _ _ c.from_residual.result (search rules)
    (puts_none c.args.name.now c.args.at c.args.bytes.now _ _ c.size_or_create.ensures.turns)

pub returns-in_err-overwrite-clause-puts : goal.returns-in_err-overwrite-clause-puts
returns-in_err-overwrite-clause-puts g c =
    let front = c.split_at.result.0.now in
    let rest = c.split_at.result.1.now in
    let whole : front ++ rest ≡ c.args.bytes.now = (λ i. c.split_at.ensures.front i ++ c.split_at.ensures.back i)
    ∙ take-append-drop c.overlap.result c.args.bytes.now in
    puts_refused c.args.name.now c.args.at c.args.bytes.now _ _ c.from_residual-in_err-overwrite.result (search rules)
    (subst (λ (l : List ℕ). WritesFront c.args.name.now c.args.at l (g.S.Shelf.state c.args.shelf.now).files
    (g.S.Shelf.state c.overwrite.new.shelf).files) whole
    (puts_behind c.args.name.now c.args.at front rest _ _ _ c.size_or_create.ensures.turns
    c.overwrite.ensures.puts.front))

pub returns-clause-puts : goal.returns-clause-puts
returns-clause-puts g c =
    let front = c.split_at.result.0.now in
    let rest = c.split_at.result.1.now in
    let whole : front ++ rest ≡ c.args.bytes.now = (λ i. c.split_at.ensures.front i ++ c.split_at.ensures.back i)
    ∙ take-append-drop c.overlap.result c.args.bytes.now in
    put_both c.args.name.now c.args.at c.args.bytes.now front rest _ _ _ (sym whole)
    (ends_there c.args.name.now c.args.at c.overlap.result c.in_ok-length.length front rest c.args.bytes.now _
    c.requires c.in_ok-length.ensures.length c.overlap.ensures.end c.overlap.ensures.within
    c.split_at.ensures.front_len (sym whole))
    c.size_or_create.ensures.turns c.in_ok-overwrite.ensures.puts.done c.append.result _ c.append.ensures.done
    c.append.ensures.grows

pub returns-clause-quiet : goal.returns-clause-quiet
returns-clause-quiet g c =
    let front = c.overwrite.ensures.puts.front in
    quiet_then _ _ _ _ _ c.append.result
    (told_turned c.args.name.now (λ held. held) _ _ c.size_or_create.ensures.turns) c.in_ok-length.ensures.quiet
    (quiet_then _ _ _ _ _ c.append.result
    (told_turned c.args.name.now (replaced c.args.at front.front) _ _ front.turns) c.in_ok-overwrite.ensures.quiet
    c.append.ensures.quiet)
