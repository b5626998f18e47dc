use Rattle.mr_command.proofs.opening.open_paged.Goals as goal

pub returns-in-Err : goal.returns-in-Err
returns-in-Err g c =
    record { error = c.in-Err.error; refuses = c.in-Err.ensures.opened; says = c.unopened.ensures }
