-- Which clause of a body comes next: a catch clause for a thrown object, a finally or a fault clause on the way out
-- (ECMA-335 I.12.4.2, II.25.4.6).
use Rattle.std.specs.Prelude.{ℕ, Bool, true, false, not, ◌&&◌, List, length, Option, Some, None, option_and_then, slice_get, map, nat_lt, nat_le, ◌==◌, if◌then◌else◌}
use Rattle.std.specs.List.{list_any}
use Rattle.enc_base.specs.Order.{first_below}
use Rattle.enc_opcodes.specs.Body.{Handler, HandlerKind, catching, finishing, faulting, handler_meant}
use Rattle.enc_opcodes.specs.Clause.{clauses_of}
use Rattle.enc_plain.specs.Module.{Module}
use Rattle.enc_unwind.specs.Thrown.{is_caught_by}
use Rattle.enc_unwind.specs.declared.thrown.Thrown.{Thrown}
use Rattle.enc_unwind.specs.declared.way_out.WayOut.{WayOut}
use Rattle.enc_unwind.specs.declared.way_out.WayOut.TheVariants.{Leave, Before, All}

-- an offset lies in a range, from its first byte to one past its last
abbrev pub is_in_range : ℕ × ℕ → ℕ → Bool
is_in_range range offset = nat_le range.0 offset && nat_lt offset range.1

-- the clause protects the instruction at an offset
abbrev pub protects : Handler → ℕ → Bool
protects clause offset = is_in_range clause.tries offset

-- the handler of a clause has the instruction at an offset
abbrev pub is_in_handler : ℕ → Handler → Bool
is_in_handler offset clause = is_in_range clause.handler offset

abbrev pub is_handled : ℕ → List Handler → Bool
is_handled offset clauses = list_any (is_in_handler offset) clauses

-- the number of the first clause that passes a test of its number and itself
abbrev pub answer_at : (ℕ → Handler → Bool) → List Handler → ℕ → Option ℕ
answer_at test clauses k = option_and_then (λ (clause : Handler). if test k clause then Some k else None)
    (slice_get clauses k)

unfoldable pub first_clause : (ℕ → Handler → Bool) → List Handler → Option ℕ
first_clause test clauses = first_below (answer_at test clauses) (length clauses)

-- a catch clause takes the object
abbrev pub takes : Module → Thrown → HandlerKind → Bool
takes m thrown (catching class) = is_caught_by m thrown class
takes m thrown _ = false

-- the first catch clause that protects an offset and takes a thrown object; a body that holds no value on its stack
-- has none
unfoldable pub catch_among : Module → ℕ → List Handler → ℕ → Thrown → Option ℕ
catch_among m stack clauses offset thrown =
    if stack == 0 then None
    else first_clause (λ (k : ℕ) (clause : Handler). protects clause offset && takes m thrown clause.kind) clauses

-- a finally clause; a finally or a fault clause
abbrev pub is_finally : HandlerKind → Bool
is_finally finishing = true
is_finally _ = false

abbrev pub runs_always : HandlerKind → Bool
runs_always finishing = true
runs_always faulting = true
runs_always _ = false

-- a clause stands behind the last one that was tried
abbrev pub is_after : Option ℕ → ℕ → Bool
is_after None k = true
is_after (Some last) k = nat_lt last k

-- a clause runs on the way out: by leave, each finally that doesn't protect where it goes; by a thrown object, each
-- finally and fault,
-- up to the clause that takes it
abbrev pub runs_on : WayOut → ℕ → Handler → Bool
runs_on (Leave goal) k clause = is_finally clause.kind && not (protects clause goal)
runs_on (Before last) k clause = runs_always clause.kind && nat_lt k last
runs_on All k clause = runs_always clause.kind

-- the next clause that runs on the way out from an offset
unfoldable pub next_among : List Handler → Option ℕ → ℕ → WayOut → Option ℕ
next_among clauses past offset stop =
    first_clause (λ (k : ℕ) (clause : Handler). is_after past k && protects clause offset
    && runs_on stop k clause) clauses

-- the clauses of a body's data sections
abbrev pub handlers_of : List ℕ → List Handler
handlers_of sections = map handler_meant (clauses_of sections)
