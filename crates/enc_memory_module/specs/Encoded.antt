-- For the contracts of private functions: bodies as their bytes are read, beside the rows that have them.
use Rattle.std.specs.Prelude.{◌≡◌, ℕ, ◌<◌, ◌^◌, Bool, true, List, [], map, flat_map, slice_get}
use Rattle.std.specs.Prelude.{Option, Some, None, option_map, option_and_then, is_some}
use Rattle.std.specs.List.{list_all}
use Rattle.enc_meta.specs.Built.{Built, is_kept, heaps_built}
use Rattle.enc_meta.specs.Heaps.{user_at}
use Rattle.enc_opcodes.specs.Body.{Body, Code, body_at, body_of, texts_are_there}
use Rattle.enc_opcodes.specs.Sound.{body_is_sound}
use Rattle.enc_plain.specs.Module.{Module, Row, rows_in}
use Rattle.enc_plain.specs.Sound.{IsSound}
use Rattle.enc_base.specs.Tables.{method_def}
use Rattle.enc_edit_list.specs.declared.body.BodyValue.{BodyValue}
use Rattle.enc_rewriter.specs.Values.{texts_named, users_of_body}
use Rattle.enc_memory_module.specs.Plain.{body_in_cell}

-- the body that its bytes say, which begins with them
abbrev pub code_read : Option (List ℕ) → Option Code
code_read bytes = option_and_then (λ b. body_at b 0 0) bytes

-- one is read where there are bytes
abbrev pub IsCodeRead : Option (List ℕ) → Type 0
IsCodeRead None = Unit {0}
IsCodeRead (Some b) = is_some (body_at b 0 0) ≡ true

-- the body of a method's row, which its first cell has
abbrev pub body_of_row : Row → Option Body
body_of_row r = body_in_cell (slice_get r.cells 0)

-- what bodies mean with the user texts of a `#US`
abbrev pub bodies_meant : List ℕ → List (Option Code) → List (Option Body)
bodies_meant users codes = map (option_map (body_of (user_at users))) codes

-- each user text that the code names is there, where there is any code
abbrev pub has_texts : (ℕ → Option (List ℕ)) → Option Code → Bool
has_texts texts None = true
has_texts texts (Some c) = texts_are_there texts c.code

-- the module is sound, and there is the body of each of its methods, in order, with its user texts
pub record HoldsCodes (m : Module) (users : List ℕ) (codes : List (Option Code)) : Type 0 where
  pub sound : IsSound m
  pub bodies : bodies_meant users codes ≡ map body_of_row (rows_in m method_def)
  pub texts : list_all (has_texts (user_at users)) codes ≡ true

-- the code that a body is written with
abbrev pub code_for : BodyValue → List ℕ → Code
code_for b code = record { max = b.max; init = b.init; locals = b.locals; code = code; sections = [] }

-- the user texts of rows of methods, in the order of their instructions
abbrev pub users_of_row : Row → List (List ℕ)
users_of_row r = users_of_body (body_of_row r)

abbrev pub users_of_rows : List Row → List (List ℕ)
users_of_rows rows = flat_map users_of_row rows

-- a body is sound where no table has too many rows
pub record IsSoundBody (b : Body) : Type 0 where
  pub count : ℕ → ℕ
  pub few : (t : ℕ) → count t < 2 ^ 24
  pub sound : body_is_sound count b ≡ true

abbrev pub IsSoundIf : Option Body → Type 0
IsSoundIf None = Unit {0}
IsSoundIf (Some b) = IsSoundBody b

-- and can be encoded with heaps that have its user texts
pub record CanBeEncoded (h : Built) (b : Body) : Type 0 where
  pub body : IsSoundBody b
  pub kept : list_all (is_kept h.users) (texts_named b.code) ≡ true

abbrev pub CanBeEncodedIf : Built → Option Body → Type 0
CanBeEncodedIf h None = Unit {0}
CanBeEncodedIf h (Some b) = CanBeEncoded h b

-- the texts of a `#US`
abbrev pub texts_of : Built → ℕ → Option (List ℕ)
texts_of h = user_at (heaps_built h).users

-- a module with these tables, no resources and no entry point
abbrev pub with_tables : List (List Row) → Module
with_tables tables = record { tables = tables; resources = []; entry = 0 }
