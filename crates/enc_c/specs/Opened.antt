-- The body of a method of an open handle.
use Rattle.std.specs.Prelude.{ℕ, List, Option, Some, None, Err}
use Rattle.enc_base.specs.declared.token.Token.{Token}
use Rattle.enc_meta.specs.Joined.{joined_user}
use Rattle.enc_agg.specs.Stored.{code_stored}
use Rattle.enc_c.specs.declared.code.CodeHead.{CodeHead}
use Rattle.enc_c.specs.declared.status.Status.TheVariants.{Closed}
use Rattle.enc_c.specs.Code.{asked_body, TellsBody}
use Rattle.enc_c.specs.State.{State, chain_after, module_after}

-- the code stands in the newest file that lists the method, and the user texts that it names are those of all
-- generations
abbrev pub TellsBodyOf : Option State → Token → ℕ → List ℕ → List ℕ → ℕ → ℕ → CodeHead → CodeHead → Type 0
TellsBodyOf None t number old new before count head head_new =
    TellsBody (λ offset. None) None number old new before count head head_new (Err Closed)
TellsBodyOf (Some s) t number old new before count head head_new =
    TellsBody (joined_user (chain_after s).heaps) (code_stored s.followed.base s.followed.deltas t)
    number old new before count head head_new (asked_body (module_after s) t)
