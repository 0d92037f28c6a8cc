use Rattle.enc_memory_module.proofs.copy.copied_body.Goals as goal
use Rattle.std.proofs.lemmas.Bool.{and_from}

pub returns-clause-held : goal.returns-clause-held
returns-clause-held c =
    let code = rw c.as_slice.ensures at c.in_ok-code.ensures.held in
    let clauses = rw c.as_slice-2.ensures at c.in_ok-clauses.ensures.fit in
    and_from _ _ (and_from _ _ (and_from _ _ c.held_law.ensures.max c.held_law.ensures.table) code) clauses
