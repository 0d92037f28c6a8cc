-- The body of a method, as it is asked for.
use Rattle.std.specs.Prelude.{◌≡◌, ℕ, ◌==◌, List, Option, Some, Result, Ok, Err, if◌then◌else◌}
use Rattle.enc_base.specs.declared.token.Token.{Token}
use Rattle.enc_opcodes.specs.Body.{Code, Body, body_of, code_seen}
use Rattle.enc_opcodes.specs.declared.code.CodeRef.{CodeRef}
use Rattle.enc_base.specs.Tables as tables
use Rattle.enc_plain.specs.Cell.{Cell, body}
use Rattle.enc_plain.specs.Module.{Module, cell_of}
use Rattle.enc_c.specs.declared.status.Status.{Status}
use Rattle.enc_c.specs.declared.status.Status.TheVariants.{Absent, Unlike}
use Rattle.enc_c.specs.declared.code.CodeHead.{CodeHead}
use Rattle.enc_c.specs.Status.{number_of_status}
use Rattle.enc_c.specs.Cells.{of_row}
use Rattle.enc_c.specs.Copied.{IsCopiedOut}

-- the body in the cell of a method, where it has one
abbrev pub body_told : Option Cell → Result Body Status
body_told (Some (body (Some b))) = Ok b
body_told _ = Err Absent

unfoldable pub asked_body : Module → Token → Result Body Status
asked_body m t = of_row m t (if t.table == tables.method_def then body_told (cell_of m t 0) else Err Unlike)

-- the body of code that is lent, with these user texts
abbrev pub body_lent : (ℕ → Option (List ℕ)) → Result CodeRef Status → Result Body Status
body_lent users (Ok c) = Ok (body_of users (code_seen c))
body_lent users (Err s) = Err s

-- the code of a method: the body that it means, with these user texts, and the code as it stands in its file
abbrev pub LendsCode : (ℕ → Option (List ℕ)) → Option Code → Result CodeRef Status → Result Body Status → Type 0
LendsCode users stored (Ok c) said = (said ≡ Ok (body_of users (code_seen c))) × (stored ≡ Some (code_seen c))
LendsCode users stored (Err s) said = said ≡ Err s

-- what stands before the code: the most values on the stack, the row of the local signature, 0 where there is none,
-- and whether locals begin as zeros
abbrev pub head_of : Code → CodeHead
head_of c = record { stack = c.max; locals = c.locals.row; init = if c.init then 1 else 0 }

-- the code is copied, and its head is told; or the status says why there is none, and then nothing is written
abbrev pub CopiesCode : ℕ → List ℕ → List ℕ → ℕ → ℕ → CodeHead → CodeHead → Result CodeRef Status → Type 0
CopiesCode number old new before count head head_new (Ok c) =
    IsCopiedOut number old new count c.code.now × (head_new ≡ head_of (code_seen c))
CopiesCode number old new before count head head_new (Err s) =
    (number ≡ number_of_status s) × (new ≡ old) × (count ≡ before) × (head_new ≡ head)

-- so it is of the code that stands for the method, where it has one; it means the body
abbrev pub TellsBody : (ℕ → Option (List ℕ)) → Option Code → ℕ → List ℕ → List ℕ → ℕ → ℕ → CodeHead → CodeHead
    → Result Body Status → Type 0
TellsBody users stored number old new before count head head_new (Ok b) =
    (c : Code) × (stored ≡ Some c) × (b ≡ body_of users c) × IsCopiedOut number old new count c.code
    × (head_new ≡ head_of c)
TellsBody users stored number old new before count head head_new (Err s) =
    (number ≡ number_of_status s) × (new ≡ old) × (count ≡ before) × (head_new ≡ head)
