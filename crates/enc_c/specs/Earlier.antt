-- What is asked of an open handle as it was after its first deltas.
use Rattle.std.specs.Prelude.{ℕ, ◌-◌, ◌⊎◌, List, drop, length, Option, Some, None, Result, Ok, Err}
use Rattle.enc_base.specs.declared.token.Token.{Token}
use Rattle.enc_meta.specs.Joined.{joined_user}
use Rattle.enc_agg.specs.Stored.{code_stored}
use Rattle.enc_opcodes.specs.Body.{Body}
use Rattle.enc_remap.specs.Asked.{may_remap}
use Rattle.enc_c.specs.Asked.{asked_document, asked_points, asked_row, unless_unlike, unlike_method}
use Rattle.enc_c.specs.Code.{asked_body, TellsBody}
use Rattle.enc_c.specs.History.{of_generation}
use Rattle.enc_c.specs.State.{State, chain_after, module_after, pdb_after}
use Rattle.enc_c.specs.Status.{TellsValue}
use Rattle.enc_c.specs.declared.code.CodeHead.{CodeHead}
use Rattle.enc_c.specs.declared.points.PointNumbers.{PointNumbers}
use Rattle.enc_c.specs.declared.status.Status.{Status}
use Rattle.enc_c.specs.declared.status.Status.TheVariants.{Absent, Closed, Memory}

-- the first so many of some, which stand the newest first
abbrev pub first_of_all : {A : Type 0} → ℕ → List A → List A
first_of_all g xs = drop (length xs - g) xs

-- what an open handle meant after its first so many deltas
abbrev pub state_at : ℕ → State → State
state_at g s = record {
  followed = record {
    base = s.followed.base;
    deltas = first_of_all g s.followed.deltas;
    debug = s.followed.debug;
    debugs = first_of_all g s.followed.debugs;
  };
  short = s.short;
}

-- a row, the body, the points, a document of a method, as they were then
abbrev pub asked_row_at : State → ℕ → Token → Result (List ℕ) Status
asked_row_at s g t = of_generation s g (asked_row (state_at g s) t)

abbrev pub asked_body_at : State → ℕ → Token → Result Body Status
asked_body_at s g t = of_generation s g (asked_body (module_after (state_at g s)) t)

abbrev pub asked_points_at : State → ℕ → Token → Result (List PointNumbers) Status
asked_points_at s g t = of_generation s g (asked_points (state_at g s) t)

abbrev pub asked_document_at : State → ℕ → Token → ℕ → Result (List ℕ) Status
asked_document_at s g t number = of_generation s g (asked_document (state_at g s) t number)

-- the body is told of an open handle, by the user texts of the first so many generations
unfoldable pub TellsBodyAt : Option State → ℕ → Token → ℕ → List ℕ → List ℕ → ℕ → ℕ → CodeHead → CodeHead → Type 0
TellsBodyAt None g t number old new before count head head_new =
    TellsBody (λ (offset : ℕ). None) None number old new before count head head_new (Err Closed)
TellsBodyAt (Some s) g t number old new before count head head_new =
    TellsBody (joined_user (chain_after (state_at g s)).heaps)
    (code_stored (state_at g s).followed.base (state_at g s).followed.deltas t)
    number old new before count head head_new (asked_body_at s g t)

-- the number of the first rule that a move breaks, 0 where it breaks none; a method without a body has no frames
abbrev pub rule_told : Option (Option ℕ) → Result ℕ Status
rule_told None = Err Absent
rule_told (Some None) = Ok 0
rule_told (Some (Some rule)) = Ok rule

-- whether a frame may go on that has the body of a method of that time
unfoldable pub asked_move : State → ℕ → Token → ℕ → List (ℕ × ℕ) → Result ℕ Status
asked_move s g t offset pairs =
    of_generation s g (unless_unlike (unlike_method (state_at g s) t)
    (rule_told (may_remap (module_after (state_at g s)) (pdb_after (state_at g s)) (module_after s) (pdb_after s)
    (record { method = t; offset = offset }) pairs)))

-- a value is told, or there is no memory
abbrev pub TellsOrStays : {A : Type 0} → ℕ → A → A → Result A Status → Type 0
TellsOrStays status old new said = TellsValue status old new said ⊎ TellsValue status old new (Err Memory)
