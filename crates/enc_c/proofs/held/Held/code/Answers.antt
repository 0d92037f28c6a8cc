use Rattle.enc_agg.specs.Seen.{users_of_all}
use Rattle.enc_c.proofs.CodeLent.{no_body}
use Rattle.enc_c.proofs.held.Held.code.Goals as goal

pub returns-in-None : goal.returns-in-None
returns-in-None c =
    rw (← c.self.view_is)
    (no_body _ c.args.method _ c.code_of.result (rw c.rows.ensures at c.in-Ok.ensures.row) c.in-Ok.ensures.table (rw c.rows-in-Ok.ensures at (c.code_of.ensures.body (users_of_all c.rows-in-Ok.result.now) (λ o units is. is))) c.in-None.is)
